-- The word `replay`: a schedule is played on a rack, a line at a time.
--     ReplayEntry      what a line says: the rack, an event, or the end
--     Ran      the world after the events so far, and how many these are
--     started rack keys, stepped r e, is_past r e      at the rack line, after one event more with its
--         line, and whether that is past a limit
--     ReplayWord, IsReplayLine, replays      the states of the word, and its session
--     end_text place ops orders      the text from the line end on
use Rattle.std.specs.Prelude.{◌≡◌, ◌+◌, ℕ, Bool, false, List, [], ◌++◌, codes, decimal}
use Rattle.std.specs.Prelude.{if◌then◌else◌}
use Rattle.peg_name.specs.Name.{Rack, line_most}
use Rattle.peg_event.specs.declared.Event.{Event}
use Rattle.peg_event.specs.declared.Line.{Line}
use Rattle.peg_event.specs.declared.history.Op.{Op}
use Rattle.peg_model.specs.World.{World, start, history, step}
use Rattle.peg_model.specs.Order.{orders}
use Rattle.peg_model.specs.Schedule.{IsRackLine, IsEventLine, fed}
use Rattle.peg_model.specs.Trace.{line_text, tail_text}
use Rattle.peg_meaning.specs.declared.Want.{Want}
use Rattle.peg_meaning.specs.declared.Want.TheVariants as want
use Rattle.peg_meaning.specs.Session.{Meaning, Input, Entry, Came, Answer, Goes, Past, begun, saying}
use Rattle.peg_meaning.specs.RackWord.{is_past_limits}

pub data ReplayEntry : Type 0 where
  Named : (rack : Rack) (keys : List (List ℕ)) → ReplayEntry
  Happens : (e : Event) → ReplayEntry
  Ends : ReplayEntry

pub record Ran : Type 0 where
  pub world : World
  pub events : ℕ

abbrev pub started : Rack → List (List ℕ) → Ran
started rack keys = record { world = start rack keys; events = 0 }

-- the rack line has place 1, and the events those from 2 on
abbrev pub stepped : Ran → Event → Ran × Line
stepped r e =
    let now = step r.world (r.events + 2) e in
    (record { world = now.0; events = r.events + 1 }, now.1)

abbrev pub is_past : Ran → Event → Bool
is_past r e = is_past_limits (r.events + 1) (stepped r e).0.world

pub data ReplayWord : Type 0 where
  Starting : ReplayWord
  Running : (rack : Rack) (keys : List (List ℕ)) (r : Ran) → ReplayWord
  Finished : (rack : Rack) (keys : List (List ℕ)) (r : Ran) → ReplayWord

abbrev pub IsReplayLine : ReplayWord → List ℕ → ReplayEntry → Type 0
IsReplayLine Starting line (Named rack keys) = IsRackLine line rack keys
IsReplayLine (Running rack keys r) line (Happens e) = IsEventLine rack line e
IsReplayLine (Running rack keys r) line Ends = line ≡ codes "end"
IsReplayLine _ line e = ⊥

abbrev pub replay_want : ReplayWord → Want
replay_want Starting = want.Line 2048 false
replay_want (Running rack keys r) = want.Line (line_most rack.format) false
replay_want (Finished rack keys r) = want.Over

abbrev pub end_text : ℕ → List Op → List (List ℕ × List ℕ) → List ℕ
end_text place ops key_orders =
    fed (decimal place ++ codes " end") ++ tail_text ops key_orders

abbrev pub says : ReplayWord → List ℕ → Answer ReplayWord
says s text = Goes (saying s text)

abbrev pub replay_on : ReplayWord → Input ReplayEntry → Answer ReplayWord
replay_on Starting (Entry (Named rack keys)) =
    says (Running rack keys (started rack keys)) (fed (codes "1 rack"))
replay_on (Running rack keys r) (Entry (Happens e)) =
    if is_past r e then Past
    else
    says (Running rack keys (stepped r e).0) (fed (line_text (r.events + 2) (stepped r e).1))
replay_on (Running rack keys r) (Entry Ends) =
    says (Finished rack keys r) (end_text (r.events + 2) (history r.world) (orders r.world))
replay_on _ input = Past

abbrev pub replays : Meaning ReplayWord ReplayEntry
replays = record { want = replay_want; Reads = IsReplayLine; on = replay_on }

abbrev pub replay_start : Came ReplayWord
replay_start = begun Starting [] []
