-- The nodes that were made, one by one.
use Rattle.std.proofs.Common.{◌≡◌, ℕ, suc, ◌+◌, List, [], ◌∷◌, ◌++◌, map, ◌∙◌, ap, sym, arith}
use Rattle.std.proofs.lemmas.List.{map-append}
use Rattle.peg_model.specs.Words.{below}

pub plus_one : (n : ℕ) → n + 1 ≡ suc n
plus_one n = omega arith

below_more : (n : ℕ) → below (n + 1) ≡ below n ++ n ∷ []
below_more n = ap below (plus_one n)

pub made_more :
    {A : Type 0} (f : ℕ → A) (xs : List A) (n : ℕ)
    → xs ≡ map f (below n) → xs ++ f n ∷ [] ≡ map f (below (n + 1))
made_more f xs n e =
    ap (λ ys. ys ++ f n ∷ []) e ∙ sym (map-append f (below n) (n ∷ [])) ∙ ap (map f)
    (sym (below_more n))
