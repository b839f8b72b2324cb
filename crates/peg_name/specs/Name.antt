-- Names within their limits: keys, values and the numbers of the nodes.
--     Rack      the format of a rack and its numbers
--     InLimits rack      each number within its limit
--     servers_most, clients_most, value_most, packet_most, parts_most, line_most      what a
--         format allows
--     padded n bytes      the bytes, and zeros up to n of them: how a key or a value lies in
--         memory
--     key_cmp      the order of keys: the first byte that differs decides, and a proper prefix is
--         the lesser
--     home_of servers key      the server that a key lives at while no directory lists it
use Rattle.std.specs.Prelude.{ℕ, ◌+◌, ◌-◌, ◌*◌, ◌%◌, ◌^◌, ◌<◌, ◌≤◌, List, [], ◌∷◌, ◌++◌, length}
use Rattle.std.specs.Prelude.{replicate}
use Rattle.std.specs.declared.cmp.Ordering.{Ordering}
use Rattle.std.specs.Ordering.{nat_cmp}
use Rattle.std.specs.Cmp.Lexicographic.{slice_cmp}
use Rattle.peg_name.specs.declared.Format.{Format}
use Rattle.peg_name.specs.declared.Format.TheVariants.{One, Two}

abbrev pub padded : ℕ → List ℕ → List ℕ
padded n bytes = bytes ++ replicate (n - length bytes) 0

abbrev pub IsKey : List ℕ → Type 0
IsKey bytes = (1 ≤ length bytes) × (length bytes ≤ 32)

abbrev pub IsValue : List ℕ → Type 0
IsValue bytes = length bytes ≤ 1024

abbrev pub key_cmp : List ℕ → List ℕ → Ordering
key_cmp = slice_cmp nat_cmp

-- h is 31 times what it was, plus the next byte, modulo 2^32
abbrev pub hash_from : ℕ → List ℕ → ℕ
hash_from h [] = h
hash_from h (b ∷ bytes) = hash_from ((h * 31 + b) % 2 ^ 32) bytes

abbrev pub home_of : ℕ → List ℕ → ℕ
home_of servers key = hash_from 0 key % servers

-- ---- what a format allows

abbrev pub servers_most : Format → ℕ
servers_most One = 16
servers_most Two = 64

abbrev pub clients_most : Format → ℕ
clients_most One = 256
clients_most Two = 1024

-- the bytes of a value
abbrev pub value_most : Format → ℕ
value_most One = 512
value_most Two = 1024

-- the bytes of a packet
abbrev pub packet_most : Format → ℕ
packet_most One = 640
packet_most Two = 1152

-- the parts of a state
abbrev pub parts_most : Format → ℕ
parts_most One = 32
parts_most Two = 64

-- the bytes of a line, without its line feed
abbrev pub line_most : Format → ℕ
line_most One = 2048
line_most Two = 4096

-- ---- the numbers of a rack

pub record Rack : Type 0 where
  pub format : Format
  pub servers : ℕ
  pub clients : ℕ
  pub switches : ℕ
  pub listed : ℕ
  pub hot : ℕ
  pub first : ℕ

pub record InLimits (rack : Rack) : Type 0 where
  pub servers : (1 ≤ rack.servers) × (rack.servers ≤ servers_most rack.format)
  pub clients : (1 ≤ rack.clients) × (rack.clients ≤ clients_most rack.format)
  pub switches : (1 ≤ rack.switches) × (rack.switches ≤ 4)
  pub listed : (1 ≤ rack.listed) × (rack.listed ≤ 64)
  pub hot : (1 ≤ rack.hot) × (rack.hot ≤ 12)
  pub first : (1 ≤ rack.first) × (rack.first < 2 ^ 64)
