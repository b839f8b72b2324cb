-- The lines at the front of an input that no other schedule spells.
--     reached rack keys events      the world after these events, and how many they are
--     IsOnlyRack, IsOnlyEvent      a line says this and nothing else
--     IsForced rack keys events input tail      the input begins with these lines, and no other line
--         is spelled there
use Rattle.std.specs.Prelude.{◌≡◌, ◌≢◌, ◌≤◌, ℕ, List, length, codes}
use Rattle.peg_name.specs.Name.{Rack, line_most}
use Rattle.peg_event.specs.declared.Event.{Event}
use Rattle.peg_model.specs.Schedule.{IsRackLine, IsEventLine}
use Rattle.peg_meaning.specs.ReplayWord.{Ran}
use Rattle.peg_io.specs.Lines.{line_of, past_line}
use Rattle.peg_run.specs.Front.{ran, AreLinesOf}

abbrev pub reached : Rack → List (List ℕ) → List Event → Ran
reached rack keys events =
    record { world = (ran rack keys events).0; events = length events }

pub record IsOnlyRack (line : List ℕ) (rack : Rack) (keys : List (List ℕ)) : Type 0 where
  pub is : IsRackLine line rack keys
  pub only : (r : Rack) (k : List (List ℕ)) → IsRackLine line r k → (r ≡ rack) × (k ≡ keys)

pub record IsOnlyEvent (rack : Rack) (line : List ℕ) (e : Event) : Type 0 where
  pub is : IsEventLine rack line e
  pub only : (other : Event) → IsEventLine rack line other → other ≡ e
  pub no_end : line ≢ codes "end"

abbrev pub IsForced :
    Rack → List (List ℕ) → List Event → List ℕ → List ℕ → Type 0
IsForced rack keys events input tail =
    IsOnlyRack (line_of input) rack keys × (length (line_of input) ≤ 2048)
    × AreLinesOf (IsOnlyEvent rack) (line_most rack.format) events (past_line input) tail
