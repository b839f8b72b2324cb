-- What was taken is what is computed from the front of its list.
use Rattle.std.proofs.Common.{◌≡◌, ◌+◌, ℕ, true, List, [], ◌∷◌, ◌++◌, length, Option, Some, None}
use Rattle.std.proofs.Common.{refl, sym, ap, subst, ◌∙◌, arith, inl, inr}
use Rattle.std.specs.Prelude.{option_map, option_and_then, unwrap_or, not}
use Rattle.peg_meaning.specs.declared.Want.{Want}
use Rattle.peg_meaning.specs.declared.Want.TheVariants as want
use Rattle.peg_meaning.specs.Session.{Input, Entry, Datagram, Quiet, Tick, Inputs, Begin, More}
use Rattle.peg_meaning.specs.Session.{Meaning, Came, Answer, Goes, after, state_of, listed_on}
use Rattle.peg_meaning.specs.Session.{listed, IsTurn, IsTurnOf, IsStep, IsWanted, IsTaken}
use Rattle.peg_meaning.specs.Played.{Played, fits, turns_in, played_first, came_if, comes, played}
use Rattle.peg_meaning.specs.Played.{plays}
use Rattle.peg_meaning.proofs.Keeping.{lt_tells, unmapped}
use Rattle.peg_meaning.proofs.PlayedIs.{IsFold, plays_is}

-- what was taken, as a list
abbrev pub items : {E : Type 0} → Inputs E → List (Input E)
items Begin = []
items (More inputs x) = items inputs ++ x ∷ []

listed_more :
    {E : Type 0} (inputs : Inputs E) (xs : List (Input E)) (x : Input E)
    → listed_on inputs (xs ++ x ∷ []) ≡ More (listed_on inputs xs) x
listed_more inputs [] x = refl
listed_more inputs (y ∷ xs) x = listed_more (More inputs y) xs x

pub listed_items : {E : Type 0} (inputs : Inputs E) → listed (items inputs) ≡ inputs
listed_items Begin = refl
listed_items (More inputs x) =
    listed_more Begin (items inputs) x ∙ ap (λ i. More i x) (listed_items inputs)

-- ---- what is wanted fits

-- inputs of this type
abbrev datagram_in : (E : Type 0) → List ℕ → Input E
datagram_in E bytes = Datagram bytes

abbrev quiet_in : (E : Type 0) → Input E
quiet_in E = Quiet

abbrev tick_in : (E : Type 0) → Input E
tick_in E = Tick

datagram_fits :
    (E : Type 0) (w : Want) (bytes : List ℕ) → IsTurnOf w (length bytes)
    → fits w (datagram_in E bytes) ≡ true
datagram_fits E (want.Turn slot room) bytes is = elim (lt_tells room (length bytes)) [
  | inl h ↦ let less = h.1 in absurd (omega (arith, is, less))
  | inr h ↦ ap not h.0
]
datagram_fits E (want.Line limit optional) bytes is = absurd is
datagram_fits E want.Step bytes is = absurd is
datagram_fits E want.Over bytes is = absurd is

pause_fits : (E : Type 0) (w : Want) → IsTurn w → fits w (quiet_in E) ≡ true
pause_fits E (want.Turn slot room) is = refl
pause_fits E (want.Line limit optional) is = absurd is
pause_fits E want.Step is = absurd is
pause_fits E want.Over is = absurd is

step_fits : (E : Type 0) (w : Want) → IsStep w → fits w (tick_in E) ≡ true
step_fits E want.Step is = refl
step_fits E (want.Turn slot room) is = absurd is
step_fits E (want.Line limit optional) is = absurd is
step_fits E want.Over is = absurd is

module _ {S E : Type 0} (m : Meaning S E) where
  wanted_fits : (s : S) (x : Input E) → IsWanted m s x → fits (m.want s) x ≡ true
  wanted_fits s (Entry e) is = ap (λ (w : Want). fits w (Entry e)) is.1.wanted
  wanted_fits s (Datagram bytes) is = datagram_fits E (m.want s) bytes is
  wanted_fits s Quiet is = pause_fits E (m.want s) is
  wanted_fits s Tick is = step_fits E (m.want s) is

  -- ---- one input more

  pub record IsPlayedMore (turns : ℕ) (s : S) (xs : List (Input E)) (x : Input E) (came : Came S) :
      Type 0 where
    pub p : Played S
    pub is : played m turns s (xs ++ x ∷ []) ≡ Some p
    pub state : p.state ≡ came.state

  pub played_more :
      (xs : List (Input E)) (turns : ℕ) (s : S) (p : Played S) (x : Input E) (came : Came S)
      → played m turns s xs ≡ Some p → comes m p.state x ≡ Some came
      → IsPlayedMore turns s xs x came
  unfolding played
  played_more [] turns s p x came is more =
      let now : Played S = record { state = s; text = []; bound = []; attempted = [] } in
      let same : now ≡ p = ap (λ o. unwrap_or o now) is in
      let here : comes m s x ≡ Some came =
      subst (λ (q : Played S). comes m q.state x ≡ Some came) (sym same) more in
      record {
        p = played_first (turns + turns_in x) came
            (record { state = came.state; text = []; bound = []; attempted = [] });
        is =
            ap
            (λ o. option_and_then
            (λ c. option_map (played_first (turns + turns_in x) c)
            (played m (turns + turns_in x) c.state []))
            o)
            here;
        state = refl;
      }
  played_more (y ∷ xs) turns s p x came is more =
      behind (comes m s y) refl (λ t q. played_more xs (turns + turns_in y) t q x came)
    where
      rest : List (Input E) → Option (Came S) → Option (Played S)
      rest xs o =
          option_and_then
          (λ c. option_map (played_first (turns + turns_in y) c)
          (played m (turns + turns_in y) c.state xs))
          o

      behind :
          (o : Option (Came S)) → comes m s y ≡ o
          → ((t : S) (q : Played S) → played m (turns + turns_in y) t xs ≡ Some q
          → comes m q.state x ≡ Some came → IsPlayedMore (turns + turns_in y) t xs x came)
          → IsPlayedMore turns s (y ∷ xs) x came
      behind None none later =
          let never : None ≡ Some p = sym (ap (rest xs) none) ∙ is in absurd (cc)
      behind (Some c) some later =
          let f = played_first (turns + turns_in y) c in
          let found =
          unmapped f (played m (turns + turns_in y) c.state xs) p (sym (ap (rest xs) some) ∙ is) in
          let on : comes m found.0.state x ≡ Some came =
          subst (λ (q : Played S). comes m q.state x ≡ Some came) (sym found.2) more in
          let last = later c.state found.0 found.1 on in
          record {
            p = f last.p;
            is = ap (rest (xs ++ x ∷ [])) some ∙ ap (option_map f) last.is;
            state = last.state;
          }

  -- ---- what was taken

  went_on :
      (s : S) (x : Input E) (came : Came S) → fits (m.want s) x ≡ true → m.on s x ≡ Goes came
      → comes m s x ≡ Some came
  went_on s x came fit goes =
      ap (λ b. came_if b (m.on s x)) fit ∙ ap (λ (a : Answer S). came_if true a) goes

  pub record IsPlayed (start : Came S) (inputs : Inputs E) : Type 0 where
    pub p : Played S
    pub is : played m 0 start.state (items inputs) ≡ Some p
    pub state : p.state ≡ state_of m start inputs

  pub taken_played :
      (start : Came S) (inputs : Inputs E) → IsTaken m start inputs → IsPlayed start inputs
  unfolding played
  taken_played start Begin taken =
      record {
        p = record { state = start.state; text = []; bound = []; attempted = [] };
        is = refl;
        state = refl;
      }
  taken_played start (More inputs x) taken =
      let s = state_of m start inputs in
      let h = taken_played start inputs taken.0 in
      let here = went_on s x taken.2.0 (wanted_fits s x taken.1) taken.2.1 in
      let more =
      played_more (items inputs) 0 start.state h.p x taken.2.0 h.is
      (subst (λ (t : S). comes m t x ≡ Some taken.2.0) (sym h.state) here) in
      record {
        p = more.p;
        is = more.is;
        state = more.state ∙ sym (ap (λ (a : Answer S). (after s a).state) taken.2.1);
      }

  -- the list of what was taken plays, and comes to the fold
  pub record IsPlayedWhole (start : Came S) (inputs : Inputs E) : Type 0 where
    pub p : Played S
    pub is : plays m start (items inputs) ≡ Some p
    pub fold : IsFold m start (items inputs) p

  pub taken_plays :
      (start : Came S) (inputs : Inputs E) → IsTaken m start inputs → IsPlayedWhole start inputs
  taken_plays start inputs taken =
      let h = taken_played start inputs taken in
      let is : plays m start (items inputs) ≡ Some (played_first 0 start h.p) =
      ap (option_map (played_first 0 start)) h.is in
      record {
        p = played_first 0 start h.p;
        is = is;
        fold = plays_is m start (items inputs) (played_first 0 start h.p) is;
      }
