-- What a line of a rack over a wire says, as a function of its words.
--     entry_in e      what was read, as the book has it
--     is_of_nodes e      an event that is no delivery and hands no bytes
--     node_event r      such an event alone
--     entry_of rack line      the event, the take, the round or the end that it spells
use Rattle.std.specs.Prelude.{ℕ, Bool, true, false, Option, Some, None, List, [], ◌∷◌}
use Rattle.std.specs.Prelude.{if◌then◌else◌, codes}
use Rattle.std.specs.Str.{bytes_eq}
use Rattle.peg_name.specs.Name.{Rack}
use Rattle.peg_event.specs.declared.Event.{Event}
use Rattle.peg_event.specs.declared.Event.TheVariants as event
use Rattle.peg_meaning.specs.RackWord.{RackEntry, Happens, Takes, Round, End}
use Rattle.peg_text.specs.declared.taking.RackEntry as said
use Rattle.peg_text.specs.declared.taking.RackEntry.TheVariants as entry
use Rattle.peg_text.specs.Reading.{words_of, both_by, whole_of}
use Rattle.peg_text.specs.Events.{Read, read_as, read_node, read_pick, event_by}

abbrev pub entry_in : said.RackEntry → RackEntry
entry_in (entry.Event e) = Happens e
entry_in (entry.Take node pick) = Takes node pick
entry_in entry.Round = Round
entry_in entry.End = End

abbrev pub is_of_nodes : Event → Bool
is_of_nodes (event.Deliver number pick) = false
is_of_nodes (event.Junk to bytes) = false
is_of_nodes _ = true

abbrev pub node_event : Read Event → Read Event
node_event None = None
node_event (Some r) = if is_of_nodes r.0 then Some r else None

abbrev pub entry_by : Rack → List ℕ → List (List ℕ) → Read RackEntry
entry_by rack verb ws =
    if bytes_eq verb (codes "take") then read_as (λ p. Takes p.0 p.1)
    (both_by (read_node rack) read_pick ws)
    else (if bytes_eq verb (codes "round") then Some (Round, ws)
    else (if bytes_eq verb (codes "end") then Some (End, ws)
    else read_as Happens (node_event (event_by rack verb ws))))

abbrev pub entry_from : Rack → List (List ℕ) → Option RackEntry
entry_from rack [] = None
entry_from rack (verb ∷ ws) = whole_of (entry_by rack verb ws)

abbrev pub entry_of : Rack → List ℕ → Option RackEntry
entry_of rack line = entry_from rack (words_of line)
