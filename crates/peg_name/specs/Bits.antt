-- The bits of a set of servers give the set back.
use Rattle.std.proofs.Common.{◌≡◌, ℕ, zero, suc, ◌+◌, ◌*◌, ◌/◌, ◌%◌, ◌^◌, ◌<◌, ◌==◌, Bool, true}
use Rattle.std.proofs.Common.{false, List, ◌∷◌, if◌then◌else◌, refl, arith, ap, ◌∙◌, add-one}
use Rattle.std.proofs.Math.Nat.{pow-suc}
use Rattle.peg_name.specs.Holders.{servers_from, servers_of, bits_of}

with_bit :
    (t : Bool) (first : ℕ) (rest : List ℕ)
    → bits_of (if t then first ∷ rest else rest) ≡ (if t then 2 ^ first else 0) + bits_of rest
with_bit true first rest = refl
with_bit false first rest = omega arith

-- a bit and twice the other bits
halves : (p h r : ℕ) → r < 2 → (if r == 1 then p else 0) + 2 * p * h ≡ p * (2 * h + r)
halves p h zero below = omega arith
halves p h (suc zero) below = omega arith
halves p h (suc (suc r)) below = absurd (omega arith)

doubled : (first : ℕ) → 2 ^ (first + 1) ≡ 2 * 2 ^ first
doubled first = rw (add-one, pow-suc) (omega arith)

pub bits_from :
    (n first bits : ℕ) → bits < 2 ^ n → bits_of (servers_from n first bits) ≡ 2 ^ first * bits
unfolding servers_from
bits_from zero first bits h = let e : bits ≡ 0 = omega arith in rw e (omega arith)
bits_from (suc n) first bits h =
    let below : bits < 2 ^ n * 2 = rw pow-suc at h in
    let whole : 2 * (bits / 2) + bits % 2 ≡ bits = omega arith in
    with_bit (bits % 2 == 1) first (servers_from n (first + 1) (bits / 2))
    ∙ ap (λ x. (if bits % 2 == 1 then 2 ^ first else 0) + x)
    (bits_from n (first + 1) (bits / 2) (omega arith) ∙ ap (λ x. x * (bits / 2)) (doubled first))
    ∙ halves (2 ^ first) (bits / 2) (bits % 2) (omega arith)
    ∙ ap (λ x. 2 ^ first * x) whole

one_times : (n : ℕ) → 2 ^ 0 * n ≡ n
one_times n = omega arith

pub bits_of-servers_of : (bits : ℕ) → bits < 2 ^ 64 → bits_of (servers_of bits) ≡ bits
unfolding servers_of
bits_of-servers_of bits h = bits_from 64 0 bits h ∙ one_times bits
