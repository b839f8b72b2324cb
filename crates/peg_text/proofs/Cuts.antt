-- How a text is cut at its spaces.
use Rattle.std.proofs.Common.{◌≡◌, ◌≤◌, ◌<◌, ◌+◌, ℕ, Bool, true, false, Option, Some, None, List}
use Rattle.std.proofs.Common.{[], ◌∷◌, length, take, drop, cond, refl, arith, ap, sym, ◌∙◌, not}
use Rattle.std.proofs.Common.{nat_lt, if◌then◌else◌}
use Rattle.std.specs.List.{slice_split, position, position_or_len, onto_first}
use Rattle.std.proofs.lemmas.Option.{cond_some, none-some}
use Rattle.std.proofs.lemmas.List.Splits.{slice_split_first, slice_split-cons_no}
use Rattle.std.proofs.lemmas.Bool.Decides.{nat_tests}
use Rattle.peg_text.specs.Reading.{is_space, words_of}

module _ {X : Type 0} (p : X → Bool) where
  uncut :
      (b : Bool) (x : X) (xs : List X) → p x ≡ b
      → (length xs ≤ position_or_len p xs → slice_split p xs ≡ xs ∷ [])
      → length xs < cond (not b) (1 + position_or_len p xs) 0
      → slice_split p (x ∷ xs) ≡ (x ∷ xs) ∷ []
  uncut true x xs e rest far = absurd (omega arith)
  uncut false x xs e rest far =
      slice_split-cons_no p x xs e ∙ ap (onto_first x) (rest (omega arith))

  -- a list with no such element is its one part
  pub one_part : (xs : List X) → length xs ≤ position_or_len p xs → slice_split p xs ≡ xs ∷ []
  one_part [] far = refl
  one_part (x ∷ xs) far = uncut (p x) x xs refl (one_part xs) (omega (arith, far))

-- the first word ends at the first space
pub words-cut :
    (text : List ℕ) (end : ℕ) → position is_space text ≡ Some end
    → words_of text ≡ take end text ∷ words_of (drop (end + 1) text)
words-cut text end at =
    let found =
    cond_some (nat_lt (position_or_len is_space text) (length text))
    (position_or_len is_space text) end at in
    rw (← found.1) (slice_split_first is_space text 0 (grind (arith, nat_tests, found.0)))

past_end : (b : Bool) (n : ℕ) → ◌≡◌ {A = Option ℕ} (cond b (Some n) None) None → b ≡ false
past_end true n e = absurd (none-some n (sym e))
past_end false n e = refl

pub words-one : (text : List ℕ) → position is_space text ≡ None → words_of text ≡ text ∷ []
words-one text none = one_part is_space text (grind (arith, nat_tests, past_end _ _ none))

-- the words that are left, where they are not done, and those after the first
pub left_cut :
    (left : List (List ℕ)) (done : Bool) (rest after : List ℕ) (end : ℕ)
    → (if done then [] else words_of rest) ≡ left → done ≡ false
    → position is_space rest ≡ Some end → after ≡ drop (end + 1) rest
    → left ≡ take end rest ∷ (if done then [] else words_of after)
left_cut left done rest after end is going at e =
    sym is ∙ ap (λ b. if b then [] else words_of rest) going ∙ words-cut rest end at
    ∙ ap (λ t. take end rest ∷ words_of t) (sym e) ∙ ap
    (λ b. take end rest ∷ (if b then [] else words_of after)) (sym going)

pub left_one :
    (left : List (List ℕ)) (done : Bool) (rest : List ℕ)
    → (if done then [] else words_of rest) ≡ left → done ≡ false → position is_space rest ≡ None
    → left ≡ rest ∷ []
left_one left done rest is going none =
    sym is ∙ ap (λ b. if b then [] else words_of rest) going ∙ words-one rest none
