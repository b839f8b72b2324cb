-- Padded bytes are the same exactly where what they hold is.
use Rattle.std.proofs.Common.{◌≡◌, ℕ, ◌≤◌, List, length, take, Bool, true, false, length-take-le}
use Rattle.std.proofs.Common.{ap, sym, ◌∙◌, refl, ◌&&◌, ◌==◌, arith}
use Rattle.std.specs.Str.{bytes_eq}
use Rattle.std.proofs.lemmas.Bool.{and_parts}
use Rattle.std.proofs.lemmas.Bool.Decides.{Decides-eqb}
use Rattle.std.proofs.lemmas.Slice.Eq.{bytes_eq-Decides}
use Rattle.peg_name.specs.Name.{padded}

pub both : (a b : Bool) → (a ≡ true → b ≡ true) → (b ≡ true → a ≡ true) → a ≡ b
both true b f g = sym (f refl)
both false true f g = g refl
both false false f g = refl

and_both : (a b : Bool) → a ≡ true → b ≡ true → (a && b) ≡ true
and_both true b e f = f
and_both false b e f = e

pub keys_same :
    (xs ys : List ℕ) (n m : ℕ) → n ≤ 32 → m ≤ 32 → length xs ≡ 32 → length ys ≡ 32
    → padded 32 (take n xs) ≡ xs → padded 32 (take m ys) ≡ ys
    → (n == m && bytes_eq xs ys) ≡ bytes_eq (take n xs) (take m ys)
keys_same xs ys n m low high lx ly px py =
    both (n == m && bytes_eq xs ys) (bytes_eq (take n xs) (take m ys))
    (λ e.
    let parts = and_parts (n == m) (bytes_eq xs ys) e in
    let nm = (Decides-eqb n m).0 parts.0 in
    let xy = (bytes_eq-Decides xs ys).0 parts.1 in
    (bytes_eq-Decides (take n xs) (take m ys)).1 (ap (λ k. take k xs) nm ∙ ap (take m) xy))
    (λ e.
    let held = (bytes_eq-Decides (take n xs) (take m ys)).0 e in
    and_both (n == m) (bytes_eq xs ys)
    ((Decides-eqb n m).1 (sym (length-take-le n xs (omega (arith, low, lx)))
    ∙ ap length held ∙ length-take-le m ys (omega (arith, high, ly))))
    ((bytes_eq-Decides xs ys).1 (sym px ∙ ap (padded 32) held ∙ py)))
