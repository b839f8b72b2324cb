-- What a line has the controller do, as the program keeps it.
--     call_as c      the same in the book's words
--     call_by e, entry_calls entry      what an event or a line has the controller do
use Rattle.std.specs.Prelude.{Option, Some, None}
use Rattle.peg_event.specs.declared.Command.TheVariants as command
use Rattle.peg_event.specs.declared.Event.{Event}
use Rattle.peg_event.specs.declared.Event.TheVariants as event
use Rattle.peg_meaning.specs.Roles as roles
use Rattle.peg_meaning.specs.Roles.{Orders, Retries, Surveys, Plans}
use Rattle.peg_text.specs.declared.event.Entry.{Entry}
use Rattle.peg_text.specs.declared.event.Entry.TheVariants as entry
use Rattle.peg_node.specs.declared.calls.Call.{Call}
use Rattle.peg_node.specs.declared.calls.Call.TheVariants as calls

abbrev pub call_as : Call → roles.Call
call_as (calls.Orders c) = Orders c
call_as calls.Retries = Retries
call_as calls.Surveys = Surveys
call_as (calls.Plans promote_at demote_below) = Plans promote_at demote_below

abbrev pub call_by : Event → Option roles.Call
call_by (event.Promote key) = Some (Orders (command.Promote key))
call_by (event.Demote key) = Some (Orders (command.Demote key))
call_by (event.Copy key target) = Some (Orders (command.Copy key target))
call_by (event.Fence key) = Some (Orders (command.Fence key))
call_by (event.Handover target) = Some (Orders (command.Handover target))
call_by event.Clear = Some (Orders command.Clear)
call_by event.Retry = Some Retries
call_by event.Survey = Some Surveys
call_by (event.Plan promote_at demote_below) = Some (Plans promote_at demote_below)
call_by _ = None

abbrev pub entry_calls : Option Entry → Option roles.Call
entry_calls None = None
entry_calls (Some (entry.Event e)) = call_by e
entry_calls (Some entry.End) = None
