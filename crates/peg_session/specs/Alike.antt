-- For the words that are carried out as sessions.
--     WhereTold ..      what holds of the input and the output, where both are told
use Rattle.std.specs.Prelude.{◌≡◌, ℕ, Bool, Option, Some, List, ◌++◌}
use Rattle.peg_meaning.specs.Session.{Meaning, Came, Goes, Past, Input}
use Rattle.peg_session.specs.Ends.{IsReadBy, IsRefused}
use Rattle.peg_meaning.specs.declared.Want.TheVariants as want

abbrev pub WhereTold :
    Option (List ℕ) → Option (List ℕ) → Option (List ℕ) → Option (List ℕ)
    → (List ℕ → List ℕ → Type 0) → Type 0
WhereTold (Some input) (Some rest) (Some before) (Some after) P =
    (output : List ℕ) × (after ≡ before ++ output) × P input output
WhereTold _ _ _ _ P = Unit {0}

-- ---- an input that a session takes to its end
--     IsGood m Good      a state with an input that goes on so: each line is accepted, no step is past
--         a limit, and it stays so

pub record IsGood {S E : Type 0} (m : Meaning S E) (Good : S → List ℕ → Type 0) : Type 0 where
  pub keeps : (s : S) (x : Input E) (mid tail : List ℕ) (came : Came S) → Good s mid
      → IsReadBy m s x mid tail → m.on s x ≡ Goes came → Good came.state tail
  pub lines : (s : S) (limit : ℕ) (optional : Bool) (tail : List ℕ) → Good s tail
      → m.want s ≡ want.Line limit optional → IsRefused m s limit optional tail → ⊥
  pub steps : (s : S) (x : Input E) (mid tail : List ℕ) → Good s mid
      → IsReadBy m s x mid tail → m.on s x ≡ Past → ⊥
