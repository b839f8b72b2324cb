-- The lines at the front of an input, and what is written of them.
--     Front      no line, or a rack line and events behind it
--     text_of front, whole_of front      the text of these lines, and the whole text of their run
--     count_of front      how many lines they are
--     limit_of front      how many bytes the next line may have
--     IsWithin front      the events and their packets are within the limits
--     AreSpelled front      the rack, its keys and the events are such as lines spell
--     AreLinesOf P limit events input tail      the input begins with a line for each event, as P
--         says, and the tail is past them
--     IsRead front input tail      the input begins with these lines, and the tail is past them
--     IsRefused front tail      the line behind these is missing, too long or not accepted
--     HasSchedule input      the input begins with a schedule, and its run is within the limits
use Rattle.std.specs.Prelude.{◌≡◌, ◌≢◌, ◌⊎◌, ◌≤◌, ◌<◌, ◌+◌, ℕ, List, [], ◌∷◌, ◌++◌, length}
use Rattle.std.specs.Prelude.{codes}
use Rattle.std.specs.List.{AllByRecursion}
use Rattle.peg_name.specs.Name.{Rack, line_most}
use Rattle.peg_event.specs.declared.Event.{Event}
use Rattle.peg_event.specs.declared.Line.{Line}
use Rattle.peg_model.specs.World.{World, start, run}
use Rattle.peg_model.specs.Schedule.{IsStart, IsRackLine, IsEventLine, Schedule, fed}
use Rattle.peg_model.specs.Trace.{lines_text, replay_text}
use Rattle.peg_law.specs.Lines.{IsLine}
use Rattle.peg_io.specs.Lines.{line_of, past_line}

pub data Front : Type 0 where
  NoLine : Front
  Lines : (rack : Rack) (keys : List (List ℕ)) (events : List Event) → Front

abbrev pub ran : Rack → List (List ℕ) → List Event → World × List Line
ran rack keys events = run (start rack keys) 2 events

abbrev pub text_of : Front → List ℕ
text_of NoLine = []
text_of (Lines rack keys events) = fed (codes "1 rack") ++ lines_text 2 (ran rack keys events).1

abbrev pub whole_of : Front → List ℕ
whole_of NoLine = []
whole_of (Lines rack keys events) = replay_text rack keys events

abbrev pub count_of : Front → ℕ
count_of NoLine = 0
count_of (Lines rack keys events) = length events + 1

abbrev pub limit_of : Front → ℕ
limit_of NoLine = 2048
limit_of (Lines rack keys events) = line_most rack.format

abbrev pub IsWithin : Front → Type 0
IsWithin NoLine = Unit {0}
IsWithin (Lines rack keys events) =
    (length events ≤ 1000000) × (length (ran rack keys events).0.packets ≤ 200000)

abbrev pub AreSpelled : Front → Type 0
AreSpelled NoLine = Unit {0}
AreSpelled (Lines rack keys events) = IsStart rack keys × AllByRecursion (IsLine rack) events

-- ---- lines that are accepted

abbrev pub AreLinesOf :
    (List ℕ → Event → Type 0) → ℕ → List Event → List ℕ → List ℕ → Type 0
AreLinesOf P limit [] input tail = input ≡ tail
AreLinesOf P limit (e ∷ events) input tail =
    P (line_of input) e × (length (line_of input) ≤ limit)
    × AreLinesOf P limit events (past_line input) tail

-- the last line may end with the input
abbrev pub IsRead : Front → List ℕ → List ℕ → Type 0
IsRead NoLine input tail = input ≡ tail
IsRead (Lines rack keys events) input tail =
    IsRackLine (line_of input) rack keys × (length (line_of input) ≤ 2048)
    × AreLinesOf (IsEventLine rack) (line_most rack.format) events (past_line input) tail

-- ---- a line that isn't

abbrev pub IsNotAccepted : Front → List ℕ → Type 0
IsNotAccepted NoLine line = (rack : Rack) (keys : List (List ℕ)) → IsRackLine line rack keys → ⊥
IsNotAccepted (Lines rack keys events) line =
    (line ≢ codes "end") × ((e : Event) → IsEventLine rack line e → ⊥)

abbrev pub IsRefused : Front → List ℕ → Type 0
IsRefused front tail =
    (tail ≡ []) ⊎ ((limit_of front < length (line_of tail)) ⊎ IsNotAccepted front (line_of tail))

-- ---- a whole schedule

abbrev pub HasSchedule : List ℕ → Type 0
HasSchedule input =
    (rack : Rack) × (keys : List (List ℕ)) × (events : List Event)
    × Schedule input rack keys events × IsWithin (Lines rack keys events)
