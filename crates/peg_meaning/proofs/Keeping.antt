-- What each answer of a session keeps is kept by all of its inputs.
use Rattle.std.proofs.Common.{◌≡◌, ◌<◌, ◌≤◌, ◌⊎◌, ℕ, suc, true, false, List, ◌++◌, Option, Some}
use Rattle.std.proofs.Common.{None, refl, sym, ap, subst, inl, inr, arith}
use Rattle.std.specs.Prelude.{nat_lt, option_map, unwrap_or}
use Rattle.std.proofs.lemmas.Bool.Decides.{leb_tells}
use Rattle.peg_meaning.specs.Session.{Input, Entry, Datagram, Quiet, Tick, Inputs, Begin, More}
use Rattle.peg_meaning.specs.Session.{Came, Answer, Goes, Past, Meaning, after, came_of, state_of}
use Rattle.peg_meaning.specs.Session.{text_of, IsWanted, IsTaken}

-- an answer that goes on to a state of which P holds
abbrev pub OnGoes : {S : Type 0} → (S → Type 0) → Answer S → Type 0
OnGoes P (Goes came) = P came.state
OnGoes P Past = Unit {0}

-- the entry of a line that may stand there
abbrev pub IsReadable : {S E : Type 0} → Meaning S E → S → Input E → Type 0
IsReadable m s (Entry e) = (line : List ℕ) × m.Reads s line e
IsReadable m s input = Unit {0}

-- the test of a limit
pub lt_tells : (a b : ℕ) → ((nat_lt a b ≡ true) × (a < b)) ⊎ ((nat_lt a b ≡ false) × (b ≤ a))
lt_tells a b = elim (leb_tells (suc a) b) [
  | inl h ↦ inl (h.0, h.1)
  | inr h ↦ inr (h.0, omega (arith, h.1))
]

-- what a mapped option was before
pub unmapped :
    {X Y : Type 0} (f : X → Y) (o : Option X) (y : Y) → option_map f o ≡ Some y
    → (x : X) × (o ≡ Some x) × (f x ≡ y)
unmapped f (Some x) y is = (x, refl, ap (λ o. unwrap_or o (f x)) is)
unmapped f None y is = let never : None ≡ Some y = is in absurd (cc)

went :
    {S : Type 0} (P : S → Type 0) (s : S) (answer : Answer S) (came : Came S)
    → answer ≡ Goes came → OnGoes P answer → P (after s answer).state
went P s (Goes other) came is on = on
went P s Past came is on = let never : Past ≡ Goes came = is in absurd (cc)

module _ {S E : Type 0} (m : Meaning S E) where
  readable : (s : S) (x : Input E) → IsWanted m s x → IsReadable m s x
  readable s (Entry e) wanted = (wanted.0, wanted.1.only.is)
  readable s (Datagram bytes) wanted = tt
  readable s Quiet wanted = tt
  readable s Tick wanted = tt

  -- of what was taken and the state together
  pub all_kept_with :
      (P : Inputs E → S → Type 0)
      → ((inputs : Inputs E) (s : S) (x : Input E) → P inputs s → IsReadable m s x
      → OnGoes (P (More inputs x)) (m.on s x))
      → (start : Came S) (inputs : Inputs E) → IsTaken m start inputs → P Begin start.state
      → P inputs (state_of m start inputs)
  all_kept_with P one start Begin taken holds = holds
  all_kept_with P one start (More inputs x) taken holds =
      let s = state_of m start inputs in
      went (P (More inputs x)) s (m.on s x) taken.2.0 taken.2.1
      (one inputs s x (all_kept_with P one start inputs taken.0 holds) (readable s x taken.1))

  pub all_kept :
      (P : S → Type 0)
      → ((s : S) (x : Input E) → P s → IsReadable m s x → OnGoes P (m.on s x))
      → (start : Came S) (inputs : Inputs E) → IsTaken m start inputs → P start.state
      → P (state_of m start inputs)
  all_kept P one start inputs taken holds =
      all_kept_with (λ inputs. P) (λ inputs. one) start inputs taken holds

  -- of what was taken, the state and the text together
  pub all_written :
      (P : Inputs E → S → List ℕ → Type 0)
      → ((inputs : Inputs E) (s : S) (text : List ℕ) (x : Input E) (came : Came S)
      → P inputs s text → IsWanted m s x → m.on s x ≡ Goes came
      → P (More inputs x) came.state (text ++ came.text))
      → (start : Came S) (inputs : Inputs E) → IsTaken m start inputs
      → P Begin start.state start.text
      → P inputs (state_of m start inputs) (text_of m start inputs)
  all_written P one start Begin taken holds = holds
  all_written P one start (More inputs x) taken holds =
      let s = state_of m start inputs in
      let text = text_of m start inputs in
      let came = taken.2.0 in
      let here : came ≡ came_of m start (More inputs x) =
      sym (ap (λ (a : Answer S). after s a) taken.2.1) in
      subst (λ (c : Came S). P (More inputs x) c.state (text ++ c.text)) here
      (one inputs s text x came (all_written P one start inputs taken.0 holds) taken.1 taken.2.1)
