-- The lines of a client, as a schedule has them.
--     with_client line      the number of client 0 stands behind the first word
--     asked_event client asked      the event of a client that asks so
--     asked_by e, entry_asks entry      what an event or an entry of a schedule asks for
use Rattle.std.specs.Prelude.{◌+◌, ℕ, Option, Some, None, List, ◌++◌, take, drop, option_map, codes}
use Rattle.std.specs.List.{position}
use Rattle.peg_name.specs.declared.value.Content.TheVariants.{Absent, Present}
use Rattle.peg_event.specs.declared.answers.Ask.TheVariants as ask
use Rattle.peg_event.specs.declared.Event.{Event}
use Rattle.peg_event.specs.declared.Event.TheVariants as event
use Rattle.peg_meaning.specs.Roles.{Asked}
use Rattle.peg_text.specs.declared.event.Entry.{Entry}
use Rattle.peg_text.specs.declared.event.Entry.TheVariants as entry
use Rattle.peg_text.specs.Reading.{is_space}

abbrev pub with_client_at : List ℕ → ℕ → List ℕ
with_client_at line end = take (end + 1) line ++ codes "0 " ++ drop (end + 1) line

abbrev pub with_client : List ℕ → Option (List ℕ)
with_client line = option_map (with_client_at line) (position is_space line)

abbrev pub asked_event : ℕ → Asked → Event
asked_event client (key, ask.Read) = event.Read client key
asked_event client (key, ask.Write (Present value)) = event.Write client key value
asked_event client (key, ask.Write Absent) = event.Delete client key

abbrev pub asked_by : Event → Option Asked
asked_by (event.Read client key) = Some (key, ask.Read)
asked_by (event.Write client key value) = Some (key, ask.Write (Present value))
asked_by (event.Delete client key) = Some (key, ask.Write Absent)
asked_by _ = None

abbrev pub entry_asks : Option Entry → Option Asked
entry_asks None = None
entry_asks (Some (entry.Event e)) = asked_by e
entry_asks (Some entry.End) = None
