-- Several racks, each of which runs as if it were alone.
--     Placed      events of all racks with their places
--     own_events rack racks placed      the events that one rack takes, with their places
--     run_racks worlds placed, own_lines rack lines      the run of all racks, and a rack's lines
--     IsIsolated      a rack's lines and world are those of its own run
use Rattle.std.specs.Prelude.{◌≡◌, ◌==◌, ℕ, Option, Some, None, List, [], ◌∷◌, length, slice_get}
use Rattle.std.specs.Prelude.{if◌then◌else◌}
use Rattle.peg_event.specs.declared.Event.{Event}
use Rattle.peg_event.specs.declared.Line.{Line}
use Rattle.peg_model.specs.World.{World}
use Rattle.peg_law.specs.Places.{run_at}
use Rattle.peg_meaning.specs.Racks.{RacksEvent, rack_of, event_in, racks_step}

-- events with their places
abbrev pub Placed : Type 0
Placed = List (ℕ × RacksEvent)

abbrev pub own_events : ℕ → ℕ → Placed → List (ℕ × Event)
own_events rack racks [] = []
own_events rack racks ((place, e) ∷ placed) =
    if rack_of racks e == rack then (place, event_in e) ∷ own_events rack racks placed
    else own_events rack racks placed

abbrev pub with_line : Option Line → ℕ → ℕ → List (ℕ × ℕ × Line) → List (ℕ × ℕ × Line)
with_line None rack place lines = lines
with_line (Some line) rack place lines = (rack, place, line) ∷ lines

-- the run of all racks, and its lines, each with its rack and its place
unfoldable pub run_racks : List World → Placed → List World × List (ℕ × ℕ × Line)
run_racks worlds [] = (worlds, [])
run_racks worlds ((place, e) ∷ placed) =
    let now = racks_step worlds place e in
    let rest = run_racks now.0 placed in
    (rest.0, with_line now.1 (rack_of (length worlds) e) place rest.1)

abbrev pub own_lines : ℕ → List (ℕ × ℕ × Line) → List (ℕ × Line)
own_lines rack [] = []
own_lines rack ((r, place, line) ∷ lines) =
    if r == rack then (place, line) ∷ own_lines rack lines else own_lines rack lines

-- the lines and the world of a rack are those of its own run on its own events
pub record IsIsolated (worlds : List World) (placed : Placed) (rack : ℕ) (w : World) : Type 0 where
  pub world :
      slice_get (run_racks worlds placed).0 rack
      ≡ Some (run_at w (own_events rack (length worlds) placed)).0
  pub lines :
      own_lines rack (run_racks worlds placed).1
      ≡ (run_at w (own_events rack (length worlds) placed)).1
