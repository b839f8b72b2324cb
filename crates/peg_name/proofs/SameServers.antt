-- Numbers of 64 bits are the same exactly where the servers whose bits are set are.
use Rattle.std.proofs.Common.{◌≡◌, ℕ, ◌^◌, ◌<◌, ap, sym, ◌∙◌, ◌==◌}
use Rattle.std.specs.Str.{bytes_eq}
use Rattle.std.proofs.lemmas.Bool.Decides.{Decides-eqb}
use Rattle.std.proofs.lemmas.Slice.Eq.{bytes_eq-Decides}
use Rattle.peg_name.specs.Holders.{servers_of, bits_of}
use Rattle.peg_name.specs.Bits.{bits_of-servers_of}
use Rattle.peg_name.proofs.Padded.{both}

pub sets_same :
    (n m : ℕ) → n < 2 ^ 64 → m < 2 ^ 64 → (n == m) ≡ bytes_eq (servers_of n) (servers_of m)
sets_same n m low high =
    both (n == m) (bytes_eq (servers_of n) (servers_of m))
    (λ e. (bytes_eq-Decides (servers_of n) (servers_of m)).1 (ap servers_of ((Decides-eqb n m).0 e)))
    (λ e. (Decides-eqb n m).1
    (sym (bits_of-servers_of n low) ∙ ap bits_of ((bytes_eq-Decides (servers_of n) (servers_of m)).0 e)
    ∙ bits_of-servers_of m high))
