-- A session that takes lines alone: what it took is what its lines said.
use Rattle.std.proofs.Common.{◌≡◌, [], ◌∷◌, ◌++◌, map, Some, refl, sym, ap, subst, ◌∙◌}
use Rattle.std.specs.Prelude.{option_map}
use Rattle.std.proofs.lemmas.List.{map_push}
use Rattle.peg_meaning.specs.Session.{Input, Entry, Inputs, Begin, More, Came, Meaning, state_of}
use Rattle.peg_meaning.specs.Session.{text_of, IsWanted, IsTaken, entries_of}
use Rattle.peg_meaning.specs.Played.{Played, played, played_first}
use Rattle.peg_meaning.proofs.PlayedIs.{plays_is}
use Rattle.peg_meaning.proofs.PlayedOn.{items, listed_items, taken_played}

abbrev pub IsEntry : {E : Type 0} → Input E → Type 0
IsEntry (Entry e) = Unit {0}
IsEntry _ = ⊥

module _ {S E : Type 0} (m : Meaning S E) (start : Came S) where
  abbrev pub TakesLines : Type 0
  TakesLines = (s : S) (x : Input E) → IsWanted m s x → IsEntry x

  lines_alone :
      TakesLines → (inputs : Inputs E) → IsTaken m start inputs
      → items inputs ≡ map Entry (entries_of inputs)
  lines_alone lines Begin taken = refl
  lines_alone lines (More inputs (Entry e)) taken =
      ap (λ xs. xs ++ Entry e ∷ []) (lines_alone lines inputs taken.0)
      ∙ sym (map_push Entry (entries_of inputs) e)
  lines_alone lines (More inputs x) taken =
      absurd (lines (state_of m start inputs) x taken.1)

  -- the list of what the lines said plays, and comes to this state and text
  pub record IsRead (inputs : Inputs E) : Type 0 where
    pub p : Played S
    pub is : played m 0 start.state (map Entry (entries_of inputs)) ≡ Some p
    pub state : state_of m start inputs ≡ p.state
    pub text : text_of m start inputs ≡ start.text ++ p.text

  pub all_read : TakesLines → (inputs : Inputs E) → IsTaken m start inputs → IsRead inputs
  all_read lines inputs taken =
      let h = taken_played m start inputs taken in
      let fold =
      plays_is m start (items inputs) (played_first 0 start h.p)
      (ap (option_map (played_first 0 start)) h.is) in
      record {
        p = h.p;
        is =
            subst (λ xs. played m 0 start.state xs ≡ Some h.p)
            (lines_alone lines inputs taken) h.is;
        state = ap (state_of m start) (sym (listed_items inputs)) ∙ fold.state;
        text = ap (text_of m start) (sym (listed_items inputs)) ∙ fold.text;
      }
