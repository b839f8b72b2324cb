-- A line and its words.
use Rattle.std.proofs.Common.{◌≡◌, ℕ, zero, suc, List, [], ◌∷◌, ◌++◌, arith, ap, sym, ◌∙◌}
use Rattle.std.proofs.Common.{append_assoc}
use Rattle.std.specs.Prelude.{Contains}
use Rattle.std.specs.List.{join_with_byte}
use Rattle.peg_text.specs.Reading.{words_of}
use Rattle.peg_text.proofs.Spaces.{AreSpaceless, words_of-join, join-words_of}

pub two_words : (v a : List ℕ) → (v ++ 32 ∷ []) ++ a ≡ join_with_byte 32 (v ∷ a ∷ [])
two_words v a = append_assoc v (32 ∷ []) a

pub three_words :
    (v a b : List ℕ) → (v ++ 32 ∷ []) ++ a ++ 32 ∷ [] ++ b ≡ join_with_byte 32 (v ∷ a ∷ b ∷ [])
three_words v a b = simp append_assoc

pub four_words :
    (v a b c : List ℕ)
    → (v ++ 32 ∷ []) ++ a ++ 32 ∷ [] ++ b ++ 32 ∷ [] ++ c ≡ join_with_byte 32 (v ∷ a ∷ b ∷ c ∷ [])
four_words v a b c = simp append_assoc

pub five_words :
    (v a b c d : List ℕ)
    → (v ++ 32 ∷ []) ++ a ++ 32 ∷ [] ++ b ++ 32 ∷ [] ++ c ++ 32 ∷ [] ++ d
    ≡ join_with_byte 32 (v ∷ a ∷ b ∷ c ∷ d ∷ [])
five_words v a b c d = simp append_assoc

-- the words of a line that joins them
pub cut :
    (w : List ℕ) (ws : List (List ℕ)) (line : List ℕ) → AreSpaceless (w ∷ ws)
    → line ≡ join_with_byte 32 (w ∷ ws) → words_of line ≡ w ∷ ws
cut w ws line all e = ap words_of e ∙ words_of-join w ws all

pub joined :
    (ws : List (List ℕ)) (line : List ℕ) → words_of line ≡ ws → line ≡ join_with_byte 32 ws
joined ws line e = sym (join-words_of line) ∙ ap (join_with_byte 32) e

pub only_one : {X : Type 0} (x y : X) → Contains (x ∷ []) y → y ≡ x
only_one x y (zero, less, e) = sym e
only_one x y (suc k, less, e) = absurd (omega arith)

pub one_holds : {X : Type 0} (x y : X) → y ≡ x → Contains (x ∷ []) y
one_holds x y e = (0, omega arith, sym e)
