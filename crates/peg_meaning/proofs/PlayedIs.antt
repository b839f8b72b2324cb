-- What is computed from the front of a list is the fold over what was taken.
use Rattle.std.proofs.Common.{◌≡◌, ◌+◌, ℕ, Bool, true, false, List, [], ◌∷◌, ◌++◌, length, map}
use Rattle.std.proofs.Common.{Option, Some, None, refl, sym, ap, subst, ◌∙◌, arith, append-nil}
use Rattle.std.proofs.Common.{append_assoc, length-append}
use Rattle.std.specs.Prelude.{option_map, option_and_then, unwrap_or}
use Rattle.peg_meaning.specs.declared.Want.{Want}
use Rattle.peg_meaning.specs.declared.Want.TheVariants as want
use Rattle.peg_meaning.specs.Session.{Input, Entry, Datagram, Quiet, Tick, Inputs, Begin, More}
use Rattle.peg_meaning.specs.Session.{Meaning, Came, Answer, Goes, Past, after, came_of, state_of}
use Rattle.peg_meaning.specs.Session.{text_of, binds_of, turn_of, turns_of, sends_of, sent_from}
use Rattle.peg_meaning.specs.Session.{listed_on, listed}
use Rattle.peg_meaning.specs.Played.{Played, fits, turns_in, played_first, came_if, comes, played}
use Rattle.peg_meaning.specs.Played.{plays}
use Rattle.peg_meaning.proofs.Keeping.{unmapped}

-- a turn is taken where one is wanted, and only there
turns_fit :
    {E : Type 0} (w : Want) (x : Input E) → fits w x ≡ true → length (turn_of 0 w x) ≡ turns_in x
turns_fit (want.Line limit optional) (Entry e) is = refl
turns_fit (want.Turn slot room) (Datagram bytes) is = refl
turns_fit (want.Turn slot room) Quiet is = refl
turns_fit want.Step Tick is = refl
turns_fit (want.Line limit optional) (Datagram bytes) is =
    let never : false ≡ true = is in absurd (cc)
turns_fit (want.Line limit optional) Quiet is = let never : false ≡ true = is in absurd (cc)
turns_fit (want.Line limit optional) Tick is = let never : false ≡ true = is in absurd (cc)
turns_fit (want.Turn slot room) (Entry e) is = let never : false ≡ true = is in absurd (cc)
turns_fit (want.Turn slot room) Tick is = let never : false ≡ true = is in absurd (cc)
turns_fit want.Step (Entry e) is = let never : false ≡ true = is in absurd (cc)
turns_fit want.Step (Datagram bytes) is = let never : false ≡ true = is in absurd (cc)
turns_fit want.Step Quiet is = let never : false ≡ true = is in absurd (cc)
turns_fit want.Over (Entry e) is = let never : false ≡ true = is in absurd (cc)
turns_fit want.Over (Datagram bytes) is = let never : false ≡ true = is in absurd (cc)
turns_fit want.Over Quiet is = let never : false ≡ true = is in absurd (cc)
turns_fit want.Over Tick is = let never : false ≡ true = is in absurd (cc)

-- an input that goes on is wanted, and its answer is this
goes_on :
    {S : Type 0} (b : Bool) (answer : Answer S) (came : Came S) → came_if b answer ≡ Some came
    → (b ≡ true) × (answer ≡ Goes came)
goes_on true (Goes other) came is = (refl, ap (λ o. Goes (unwrap_or o other)) is)
goes_on true Past came is = let never : None ≡ Some came = is in absurd (cc)
goes_on false answer came is = let never : None ≡ Some came = is in absurd (cc)

module _ {S E : Type 0} (m : Meaning S E) (start : Came S) where
  -- what was taken so far and what was played come to this
  pub record Shows (inputs all : Inputs E) (p : Played S) : Type 0 where
    pub state : state_of m start all ≡ p.state
    pub text : text_of m start all ≡ text_of m start inputs ++ p.text
    pub bound : binds_of m start all ≡ binds_of m start inputs ++ p.bound
    pub attempted : sends_of m start 0 0 all ≡ sends_of m start 0 0 inputs ++ p.attempted

  -- one step, and the rest behind it
  step_shows :
      (inputs all : Inputs E) (x : Input E) (turn : ℕ) (came : Came S) (later : Played S)
      → came_of m start (More inputs x) ≡ came
      → length (turns_of m start 0 (More inputs x)) ≡ turn
      → Shows (More inputs x) all later → Shows inputs all (played_first turn came later)
  step_shows inputs all x turn came later is turns shows =
      record {
        state = shows.state;
        text =
            shows.text
            ∙ ap (λ (c : Came S). (text_of m start inputs ++ c.text) ++ later.text) is
            ∙ append_assoc (text_of m start inputs) came.text later.text;
        bound =
            shows.bound
            ∙ ap (λ (c : Came S). (binds_of m start inputs ++ c.binds) ++ later.bound) is
            ∙ append_assoc (binds_of m start inputs) came.binds later.bound;
        attempted =
            shows.attempted
            ∙ ap (λ (c : Came S). (sends_of m start 0 0 inputs
            ++ map (sent_from 0 (0 + length (turns_of m start 0 (More inputs x)))) c.letters)
            ++ later.attempted) is
            ∙ ap (λ n. (sends_of m start 0 0 inputs ++ map (sent_from 0 n) came.letters)
            ++ later.attempted)
            (
            let e : 0 + length (turns_of m start 0 (More inputs x)) ≡ turn = omega (arith, turns) in
            e)
            ∙ append_assoc (sends_of m start 0 0 inputs) (map (sent_from 0 turn) came.letters)
            later.attempted;
      }

  pub played_is :
      (xs : List (Input E)) (inputs : Inputs E) (turns : ℕ) (p : Played S)
      → length (turns_of m start 0 inputs) ≡ turns
      → played m turns (state_of m start inputs) xs ≡ Some p
      → Shows inputs (listed_on inputs xs) p
  unfolding played
  played_is [] inputs turns p count is =
      let now : Played S =
      record { state = state_of m start inputs; text = []; bound = []; attempted = [] } in
      subst (Shows inputs inputs) (ap (λ o. unwrap_or o now) is)
      (record {
        state = refl;
        text = sym (append-nil (text_of m start inputs));
        bound = sym (append-nil (binds_of m start inputs));
        attempted = sym (append-nil (sends_of m start 0 0 inputs));
      })
  played_is (x ∷ xs) inputs turns p count is =
      behind (comes m (state_of m start inputs) x) refl
      (λ q. played_is xs (More inputs x) (turns + turns_in x) q)
    where
      s : S
      s = state_of m start inputs

      rest : Option (Came S) → Option (Played S)
      rest o =
          option_and_then
          (λ came. option_map (played_first (turns + turns_in x) came)
          (played m (turns + turns_in x) came.state xs))
          o

      behind :
          (o : Option (Came S)) → comes m s x ≡ o
          → ((q : Played S) → length (turns_of m start 0 (More inputs x)) ≡ turns + turns_in x
          → played m (turns + turns_in x) (state_of m start (More inputs x)) xs ≡ Some q
          → Shows (More inputs x) (listed_on (More inputs x) xs) q)
          → Shows inputs (listed_on (More inputs x) xs) p
      behind None none later =
          let never : None ≡ Some p = sym (ap rest none) ∙ is in absurd (cc)
      behind (Some came) some later =
          let f = played_first (turns + turns_in x) came in
          let goes = goes_on (fits (m.want s) x) (m.on s x) came some in
          let here : came_of m start (More inputs x) ≡ came =
          ap (λ (a : Answer S). after s a) goes.1 in
          let found =
          unmapped f (played m (turns + turns_in x) came.state xs) p
          (sym (ap rest some) ∙ is) in
          let turned : length (turns_of m start 0 (More inputs x)) ≡ turns + turns_in x =
          length-append (turns_of m start 0 inputs) (turn_of 0 (m.want s) x)
          ∙ ap (λ n. n + length (turn_of 0 (m.want s) x)) count
          ∙ ap (λ n. turns + n) (turns_fit (m.want s) x goes.0) in
          let there : played m (turns + turns_in x) (state_of m start (More inputs x)) xs
          ≡ Some found.0 =
          ap (λ (c : Came S). played m (turns + turns_in x) c.state xs) here ∙ found.1 in
          subst (Shows inputs (listed_on (More inputs x) xs)) found.2
          (step_shows inputs (listed_on (More inputs x) xs) x (turns + turns_in x) came found.0 here
          turned (later found.0 turned there))

  -- what a session shows from its start is its fold over the list
  pub record IsFold (xs : List (Input E)) (p : Played S) : Type 0 where
    pub state : state_of m start (listed xs) ≡ p.state
    pub text : text_of m start (listed xs) ≡ p.text
    pub bound : binds_of m start (listed xs) ≡ p.bound
    pub attempted : sends_of m start 0 0 (listed xs) ≡ p.attempted

  pub plays_is :
      (xs : List (Input E)) (p : Played S)
      → plays m start xs ≡ Some p → IsFold xs p
  plays_is xs p is =
      let found = unmapped (played_first 0 start) (played m 0 start.state xs) p is in
      let shows = played_is xs Begin 0 found.0 refl found.1 in
      subst (IsFold xs) found.2
      (record {
        state = shows.state;
        text = shows.text;
        bound = shows.bound;
        attempted = shows.attempted;
      })
