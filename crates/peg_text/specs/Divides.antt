-- What a line of several racks says, as a function of its words.
--     event_said e, entry_in l      what was read, as the book has it
--     is_routed e      an operation, which goes to the rack of its key
--     rack_named racks ws      the rack of the key that stands third
--     event_for rack count ws      what words say to a rack, in a line of so many bytes
--     line_in racks line      the event of a rack or the end that a line spells
--     count_in line      how many racks the line `racks` says
use Rattle.std.specs.Prelude.{ℕ, Bool, true, false, Option, Some, None, option_and_then, option_map}
use Rattle.std.specs.Prelude.{List, ◌∷◌, length, slice_get, nat_lt, if◌then◌else◌, codes}
use Rattle.std.specs.Str.{bytes_eq}
use Rattle.peg_name.specs.Name.{Rack, line_most}
use Rattle.peg_event.specs.declared.Event.{Event}
use Rattle.peg_event.specs.declared.Event.TheVariants as event
use Rattle.peg_meaning.specs.Racks.{RacksEvent, RacksEntry, Routed, Within, Happens, End, rack_for}
use Rattle.peg_text.specs.declared.dividing.RacksEvent as said
use Rattle.peg_text.specs.declared.dividing.RacksEvent.TheVariants as racks_event
use Rattle.peg_text.specs.declared.dividing.RacksLine as said_line
use Rattle.peg_text.specs.declared.dividing.RacksLine.TheVariants as racks_line
use Rattle.peg_text.specs.Reading.{words_of, key_of, number_below, next_by, whole_of}
use Rattle.peg_text.specs.Events.{Read, event_in}
use Rattle.peg_text.specs.Racks.{literal, taken}

abbrev pub event_said : said.RacksEvent → RacksEvent
event_said (racks_event.Routed e) = Routed e
event_said (racks_event.Within rack e) = Within rack e

abbrev pub entry_in : said_line.RacksLine → RacksEntry
entry_in (racks_line.Event e) = Happens (event_said e)
entry_in racks_line.End = End

abbrev pub is_routed : Event → Bool
is_routed (event.Read client key) = true
is_routed (event.Write client key value) = true
is_routed (event.Delete client key) = true
is_routed _ = false

abbrev pub third_key : List (List ℕ) → Option (List ℕ)
third_key (verb ∷ client ∷ word ∷ ws) = key_of word
third_key _ = None

abbrev pub rack_named : ℕ → List (List ℕ) → Option ℕ
rack_named racks ws = option_map (λ key. rack_for key racks) (third_key ws)

abbrev pub event_for : Option Rack → ℕ → List (List ℕ) → Option Event
event_for None count ws = None
event_for (Some rack) count ws =
    if nat_lt (line_most rack.format) count then None else event_in rack ws

abbrev pub as_routed : Option Event → Option RacksEntry
as_routed None = None
as_routed (Some e) = if is_routed e then Some (Happens (Routed e)) else None

abbrev pub as_within : ℕ → Option Event → Option RacksEntry
as_within rack None = None
as_within rack (Some e) = if is_routed e then None else Some (Happens (Within rack e))

abbrev pub routed : List Rack → List ℕ → Option RacksEntry
routed racks line =
    let ws = words_of line in
    option_and_then (λ rack. as_routed (event_for (slice_get racks rack) (length line) ws))
    (rack_named (length racks) ws)

-- the number of a rack, and what the words behind it say
abbrev pub behind_number : List Rack → ℕ → Read ℕ → Option RacksEntry
behind_number racks count None = None
behind_number racks count (Some r) =
    as_within r.0 (event_for (slice_get racks r.0) count r.1)

abbrev pub within : List Rack → ℕ → List (List ℕ) → Option RacksEntry
within racks count ws =
    behind_number racks count (next_by (number_below (length racks)) ws)

abbrev pub line_from : List Rack → List ℕ → Bool × List (List ℕ) → Option RacksEntry
line_from racks line (named, ws) =
    if named then within racks (length line) ws else routed racks line

abbrev pub line_in : List Rack → List ℕ → Option RacksEntry
line_in racks line =
    if bytes_eq line (codes "end") then Some End
    else line_from racks line (taken (codes "rack") (words_of line))

-- ---- the line `racks`

abbrev pub at_least_one : Option ℕ → Option ℕ
at_least_one None = None
at_least_one (Some n) = if nat_lt n 1 then None else Some n

abbrev pub count_from : Read (Unit {0}) → Option ℕ
count_from None = None
count_from (Some r) = at_least_one (whole_of (next_by (number_below 9) r.1))

abbrev pub count_in : List ℕ → Option ℕ
count_in line = count_from (next_by (literal (codes "racks")) (words_of line))
