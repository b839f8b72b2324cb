-- What the lines said and what the turns gave, each in its order, decide what a session took: how
-- they are woven, and where it took steps of its own. Two runs of a session that took the same
-- differ at most by further steps at the end.
use Rattle.std.proofs.Common.{◌≡◌, ◌⊎◌, ℕ, zero, suc, List, [], ◌∷◌, ◌++◌, length, flat_map, map}
use Rattle.std.proofs.Common.{replicate, Option, Some, None, refl, sym, ap, subst, ◌∙◌, inl, inr}
use Rattle.std.proofs.Common.{arith, append-nil}
use Rattle.std.proofs.lemmas.List.{map-append}
use Rattle.std.proofs.lemmas.Grind.{flat_map-append}
use Rattle.peg_meaning.specs.declared.Want.{Want}
use Rattle.peg_meaning.specs.declared.Want.TheVariants as want
use Rattle.peg_meaning.specs.Wire as wire
use Rattle.peg_meaning.specs.Wire.{Turn}
use Rattle.peg_meaning.specs.Session.{Input, Entry, Datagram, Quiet, Tick, Inputs, Begin, More}
use Rattle.peg_meaning.specs.Session.{Came, Meaning, state_of, listed_on, IsTurn, IsTurnOf, IsStep}
use Rattle.peg_meaning.specs.Session.{IsWanted, IsTaken, entry_in, receipt_in, gathered, entries_of}
use Rattle.peg_meaning.specs.Session.{receipts_of, turn_of, turns_of}
use Rattle.peg_meaning.proofs.PlayedOn.{items, listed_items}

-- ---- what is gathered of a list

flat_push :
    {X Y : Type 0} (f : X → List Y) (xs : List X) (x : X)
    → flat_map f (xs ++ x ∷ []) ≡ flat_map f xs ++ f x
flat_push f xs x =
    flat_map-append f xs (x ∷ []) ∙ ap (λ ys. flat_map f xs ++ ys) (append-nil (f x))

gathered_items :
    {E X : Type 0} (f : Input E → List X) (inputs : Inputs E)
    → flat_map f (items inputs) ≡ gathered f inputs
gathered_items f Begin = refl
gathered_items f (More inputs x) =
    flat_push f (items inputs) x ∙ ap (λ xs. xs ++ f x) (gathered_items f inputs)

all_steps :
    {E : Type 0} (xs : List (Input E)) → flat_map entry_in xs ≡ [] → flat_map receipt_in xs ≡ []
    → xs ≡ replicate (length xs) Tick
all_steps [] entries receipts = refl
all_steps (Tick ∷ xs) entries receipts = ap (λ ys. Tick ∷ ys) (all_steps xs entries receipts)
all_steps (Entry e ∷ xs) entries receipts =
    let never : e ∷ flat_map entry_in xs ≡ [] = entries in absurd (cc)
all_steps (Datagram bytes ∷ xs) entries receipts =
    let never : Some bytes ∷ flat_map receipt_in xs ≡ [] = receipts in absurd (cc)
all_steps (Quiet ∷ xs) entries receipts =
    let never : None ∷ flat_map receipt_in xs ≡ [] = receipts in absurd (cc)

-- ---- one want, one kind of input

abbrev kind_wanted : Want → ℕ
kind_wanted (want.Line limit optional) = 0
kind_wanted (want.Turn slot room) = 1
kind_wanted want.Step = 2
kind_wanted want.Over = 3

abbrev kind_of : {E : Type 0} → Input E → ℕ
kind_of (Entry e) = 0
kind_of (Datagram bytes) = 1
kind_of Quiet = 1
kind_of Tick = 2

datagram_kind : (w : Want) (n : ℕ) → IsTurnOf w n → kind_wanted w ≡ 1
datagram_kind (want.Turn slot room) n is = refl
datagram_kind _ n is = absurd is

pause_kind : (w : Want) → IsTurn w → kind_wanted w ≡ 1
pause_kind (want.Turn slot room) is = refl
pause_kind _ is = absurd is

step_kind : (w : Want) → IsStep w → kind_wanted w ≡ 2
step_kind want.Step is = refl
step_kind _ is = absurd is

-- what a turn of the wire gave
abbrev pub given : Turn → Option (List ℕ)
given (wire.Datagram slot bytes) = Some bytes
given (wire.Pause slot) = None

turn_given :
    {E : Type 0} (base : ℕ) (w : Want) (x : Input E) → kind_wanted w ≡ kind_of x
    → map given (turn_of base w x) ≡ receipt_in x
turn_given base (want.Line limit optional) (Entry e) kind = refl
turn_given base (want.Turn slot room) (Datagram bytes) kind = refl
turn_given base (want.Turn slot room) Quiet kind = refl
turn_given base want.Step Tick kind = refl
turn_given base want.Over (Entry e) kind = absurd (omega (arith, kind))
turn_given base want.Over (Datagram bytes) kind = absurd (omega (arith, kind))
turn_given base want.Over Quiet kind = absurd (omega (arith, kind))
turn_given base want.Over Tick kind = absurd (omega (arith, kind))
turn_given base _ _ kind = absurd (omega (arith, kind))

-- two inputs, and what is gathered of each and behind it
record IsHead {E : Type 0} (x y : Input E) (es fs : List E) (rs qs : List (Option (List ℕ))) :
    Type 0 where
  same : x ≡ y
  entries : es ≡ fs
  receipts : rs ≡ qs

head_of :
    {E : Type 0} (x y : Input E) (es fs : List E) (rs qs : List (Option (List ℕ)))
    → kind_of x ≡ kind_of y → entry_in x ++ es ≡ entry_in y ++ fs
    → receipt_in x ++ rs ≡ receipt_in y ++ qs → IsHead x y es fs rs qs
head_of (Entry e) (Entry f) es fs rs qs kind entries receipts =
    let is : e ∷ es ≡ f ∷ fs = entries in
    let first : e ≡ f = cc in
    let rest : es ≡ fs = cc in
    record { same = ap (λ g. Entry g) first; entries = rest; receipts = receipts }
head_of (Datagram a) (Datagram b) es fs rs qs kind entries receipts =
    let is : Some a ∷ rs ≡ Some b ∷ qs = receipts in
    let first : a ≡ b = cc in
    let rest : rs ≡ qs = cc in
    record { same = ap (λ g. Datagram g) first; entries = entries; receipts = rest }
head_of Quiet Quiet es fs rs qs kind entries receipts =
    let is : None ∷ rs ≡ None ∷ qs = receipts in
    let rest : rs ≡ qs = cc in
    record { same = refl; entries = entries; receipts = rest }
head_of Tick Tick es fs rs qs kind entries receipts =
    record { same = refl; entries = entries; receipts = receipts }
head_of (Datagram a) Quiet es fs rs qs kind entries receipts =
    let never : Some a ∷ rs ≡ None ∷ qs = receipts in absurd (cc)
head_of Quiet (Datagram b) es fs rs qs kind entries receipts =
    let never : None ∷ rs ≡ Some b ∷ qs = receipts in absurd (cc)
head_of _ _ es fs rs qs kind entries receipts = absurd (omega (arith, kind))

-- ---- the weaving

-- so many steps of its own behind other inputs
pub record IsStepsBehind {E : Type 0} (all inputs : Inputs E) : Type 0 where
  pub steps : ℕ
  pub is : all ≡ listed_on inputs (replicate steps Tick)

module _ {S E : Type 0} (m : Meaning S E) (start : Came S) where
  wanted_kind : (s : S) (x : Input E) → IsWanted m s x → kind_wanted (m.want s) ≡ kind_of x
  wanted_kind s (Entry e) is = ap kind_wanted is.1.wanted
  wanted_kind s (Datagram bytes) is = datagram_kind (m.want s) (length bytes) is
  wanted_kind s Quiet is = pause_kind (m.want s) is
  wanted_kind s Tick is = step_kind (m.want s) is

  -- the wire's turns say what each gave
  pub receipts_given :
      (base : ℕ) (inputs : Inputs E) → IsTaken m start inputs
      → map given (turns_of m start base inputs) ≡ receipts_of inputs
  receipts_given base Begin taken = refl
  receipts_given base (More inputs x) taken =
      let w = m.want (state_of m start inputs) in
      map-append given (turns_of m start base inputs) (turn_of base w x)
      ∙ ap (λ rs. rs ++ map given (turn_of base w x)) (receipts_given base inputs taken.0)
      ∙ ap (λ rs. receipts_of inputs ++ rs)
      (turn_given base w x (wanted_kind (state_of m start inputs) x taken.1))

  taken_before :
      (inputs : Inputs E) (xs : List (Input E)) → IsTaken m start (listed_on inputs xs)
      → IsTaken m start inputs
  taken_before inputs [] taken = taken
  taken_before inputs (x ∷ xs) taken = (taken_before (More inputs x) xs taken).0

  woven_on :
      (inputs : Inputs E) (xs ys : List (Input E)) → IsTaken m start (listed_on inputs xs)
      → IsTaken m start (listed_on inputs ys) → flat_map entry_in xs ≡ flat_map entry_in ys
      → flat_map receipt_in xs ≡ flat_map receipt_in ys
      → IsStepsBehind (listed_on inputs xs) (listed_on inputs ys)
      ⊎ IsStepsBehind (listed_on inputs ys) (listed_on inputs xs)
  woven_on inputs xs [] first second entries receipts =
      inl
      (record {
        steps = length xs;
        is = ap (λ zs. listed_on inputs zs) (all_steps xs entries receipts);
      })
  woven_on inputs [] (y ∷ ys) first second entries receipts =
      inr
      (record {
        steps = length (y ∷ ys);
        is =
            ap (λ zs. listed_on inputs zs)
            (all_steps (y ∷ ys) (sym entries) (sym receipts));
      })
  woven_on inputs (x ∷ xs) (y ∷ ys) first second entries receipts =
      let s = state_of m start inputs in
      let x_wanted = (taken_before (More inputs x) xs first).1 in
      let y_wanted = (taken_before (More inputs y) ys second).1 in
      let head =
      head_of x y (flat_map entry_in xs) (flat_map entry_in ys) (flat_map receipt_in xs)
      (flat_map receipt_in ys) (sym (wanted_kind s x x_wanted) ∙ wanted_kind s y y_wanted) entries
      receipts in
      subst
      (λ z. IsStepsBehind (listed_on (More inputs x) xs) (listed_on (More inputs z) ys)
      ⊎ IsStepsBehind (listed_on (More inputs z) ys) (listed_on (More inputs x) xs))
      head.same
      (woven_on (More inputs x) xs ys first
      (subst (λ z. IsTaken m start (listed_on (More inputs z) ys)) (sym head.same) second)
      head.entries head.receipts)

  -- what was taken in one run is what was taken in the other, or that with steps behind it
  pub woven :
      (a b : Inputs E) → IsTaken m start a → IsTaken m start b → entries_of a ≡ entries_of b
      → receipts_of a ≡ receipts_of b → IsStepsBehind a b ⊎ IsStepsBehind b a
  woven a b first second entries receipts =
      let left = listed_items a in
      let right = listed_items b in
      subst
      (λ c. IsStepsBehind c b ⊎ IsStepsBehind b c)
      left
      (subst
      (λ c. IsStepsBehind (listed_on Begin (items a)) c
      ⊎ IsStepsBehind c (listed_on Begin (items a)))
      right
      (woven_on Begin (items a) (items b) (subst (IsTaken m start) (sym left) first)
      (subst (IsTaken m start) (sym right) second)
      (gathered_items entry_in a ∙ entries ∙ sym (gathered_items entry_in b))
      (gathered_items receipt_in a ∙ receipts ∙ sym (gathered_items receipt_in b))))

  abbrev WantsStep : Inputs E → Type 0
  WantsStep inputs = IsStep (m.want (state_of m start inputs))

  no_steps :
      (k : ℕ) (all inputs : Inputs E) → all ≡ listed_on inputs (replicate k Tick)
      → IsTaken m start all → (WantsStep inputs → ⊥) → all ≡ inputs
  no_steps zero all inputs is taken wants = is
  no_steps (suc k) all inputs is taken wants =
      absurd
      (wants
      (taken_before (More inputs Tick) (replicate k Tick)
      (subst (IsTaken m start) is taken)).1)

  -- where neither wants a step of its own at its end, they are one
  pub woven_alike :
      (a b : Inputs E) → IsTaken m start a → IsTaken m start b → entries_of a ≡ entries_of b
      → receipts_of a ≡ receipts_of b → (WantsStep a → ⊥) → (WantsStep b → ⊥) → a ≡ b
  woven_alike a b first second entries receipts a_wants b_wants =
      elim (woven a b first second entries receipts) [
        | inl h ↦ no_steps h.steps a b h.is first b_wants
        | inr h ↦ sym (no_steps h.steps b a h.is second a_wants)
      ]
