-- What a line of a process that records says, as a function of its words.
--     entry_in e      what was read, as the book has it, where each event is its own call
--     IsRecordedLine rack line e      a line of some node of the rack
--     entry_of rack line      the event, the take or the end that it spells
use Rattle.std.specs.Prelude.{ℕ, Option, Some, None, List, [], ◌∷◌, if◌then◌else◌, codes}
use Rattle.std.specs.Str.{bytes_eq}
use Rattle.peg_name.specs.Name.{Rack}
use Rattle.peg_event.specs.declared.Event.{Event}
use Rattle.peg_meaning.specs.Records.{RecordEntry, Calls, Takes, End, IsRecordLine}
use Rattle.peg_text.specs.declared.recording.RecordEntry as said
use Rattle.peg_text.specs.declared.recording.RecordEntry.TheVariants as entry
use Rattle.peg_text.specs.Reading.{words_of, whole_of}
use Rattle.peg_text.specs.Events.{Read, read_as, read_pick, event_by}

abbrev pub entry_in : said.RecordEntry → RecordEntry Event
entry_in (entry.Event e) = Calls e
entry_in (entry.Take pick) = Takes pick
entry_in entry.End = End

abbrev pub IsRecordedLine : Rack → List ℕ → RecordEntry Event → Type 0
IsRecordedLine rack line e = IsRecordLine (λ k. k) rack line e

abbrev pub entry_by : Rack → List ℕ → List (List ℕ) → Read (RecordEntry Event)
entry_by rack verb ws =
    if bytes_eq verb (codes "take") then read_as (λ pick. Takes pick) (read_pick ws)
    else (if bytes_eq verb (codes "end") then Some (End, ws)
    else read_as (λ e. Calls e) (event_by rack verb ws))

abbrev pub entry_from : Rack → List (List ℕ) → Option (RecordEntry Event)
entry_from rack [] = None
entry_from rack (verb ∷ ws) = whole_of (entry_by rack verb ws)

abbrev pub entry_of : Rack → List ℕ → Option (RecordEntry Event)
entry_of rack line = entry_from rack (words_of line)
