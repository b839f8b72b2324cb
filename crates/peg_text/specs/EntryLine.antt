-- A line of a schedule behind the rack line: an event's, or the end.
use Rattle.std.specs.Prelude.{◌≡◌, ℕ, List, codes}
use Rattle.peg_name.specs.Name.{Rack}
use Rattle.peg_model.specs.Schedule.{IsEventLine}
use Rattle.peg_text.specs.declared.event.Entry.{Entry}
use Rattle.peg_text.specs.declared.event.Entry.TheVariants as entry

abbrev pub IsEntryLine : Rack → List ℕ → Entry → Type 0
IsEntryLine rack line (entry.Event e) = IsEventLine rack line e
IsEntryLine rack line entry.End = line ≡ codes "end"
