-- How many packets a switch sends.
use Rattle.std.proofs.Common.{◌≡◌, ℕ, zero, suc, ◌+◌, List, [], ◌∷◌, length, arith, ap, ◌∙◌, refl}
use Rattle.std.proofs.Common.{length-append}
use Rattle.std.proofs.lemmas.List.{length-map}
use Rattle.peg_model.specs.Words.{below}
use Rattle.peg_model.specs.Handover.{parts}
use Rattle.peg_switch.specs.Kept.{each_part}

plus_one : (n : ℕ) → n + 1 ≡ suc n
plus_one n = omega arith

length_below : (n : ℕ) → length (below n) ≡ n
length_below zero = refl
length_below (suc n) =
    length-append (below n) (n ∷ []) ∙ plus_one (length (below n)) ∙ ap suc (length_below n)

-- as many as there are parts
pub part_each :
    (bytes : List ℕ) (target epoch : ℕ)
    → length (each_part bytes target epoch) ≡ length (parts bytes)
part_each bytes target epoch =
    length-map (below (length (parts bytes))) _ ∙ length_below (length (parts bytes))
