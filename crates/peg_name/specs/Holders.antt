-- A set of servers, as the list of their numbers in rising order, and as a number with bit s for
-- server s.
--     servers_of bits      the servers whose bits are set
--     bits_of servers      the number with these bits
--     with_holder server servers      the servers and one more, in rising order
use Rattle.std.specs.Prelude.{ℕ, zero, suc, ◌+◌, ◌/◌, ◌%◌, ◌^◌, ◌==◌, nat_lt, List, [], ◌∷◌}
use Rattle.std.specs.Prelude.{if◌then◌else◌}

-- of the first n bits, whose servers begin at `first`
unfoldable pub servers_from : ℕ → ℕ → ℕ → List ℕ
servers_from zero first bits = []
servers_from (suc n) first bits =
    if bits % 2 == 1 then first ∷ servers_from n (first + 1) (bits / 2)
    else servers_from n (first + 1) (bits / 2)

unfoldable pub servers_of : ℕ → List ℕ
servers_of bits = servers_from 64 0 bits

abbrev pub bits_of : List ℕ → ℕ
bits_of [] = 0
bits_of (server ∷ servers) = 2 ^ server + bits_of servers

abbrev pub with_holder : ℕ → List ℕ → List ℕ
with_holder server [] = server ∷ []
with_holder server (holder ∷ holders) =
    if nat_lt server holder then server ∷ holder ∷ holders
    else (if server == holder then holder ∷ holders else holder ∷ with_holder server holders)
