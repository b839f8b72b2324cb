-- The trace text: a line for each line of the schedule, the history, the orders, and done.
--     said_text, body_text, line_text      the text of a line, without and with what was sent, and
--         with its number
--     op_text, order_text      a line of the history and of an order
--     history_text ops key_orders      a history and the orders of its keys
--     replay_text rack keys events      the whole text of a run
--     RunText input output      the same, of the schedule that an input begins with
use Rattle.std.specs.Prelude.{◌≡◌, ◌+◌, ℕ, Option, Some, None, List, [], ◌∷◌, ◌++◌, length}
use Rattle.std.specs.Prelude.{flat_map, ◌==◌, if◌then◌else◌, codes, decimal}
use Rattle.peg_name.specs.Name.{Rack}
use Rattle.peg_name.specs.declared.value.Content.{Content}
use Rattle.peg_name.specs.declared.Note.{Note}
use Rattle.peg_name.specs.declared.Note.TheVariants as note
use Rattle.peg_event.specs.declared.history.Act.TheVariants as act
use Rattle.peg_event.specs.declared.history.Act.{Act}
use Rattle.peg_event.specs.declared.history.Op.{Op}
use Rattle.peg_event.specs.declared.Event.{Event}
use Rattle.peg_event.specs.declared.Outcome.{Outcome}
use Rattle.peg_event.specs.declared.Outcome.TheVariants as outcome
use Rattle.peg_event.specs.declared.SwitchDid.{SwitchDid}
use Rattle.peg_event.specs.declared.SwitchDid.TheVariants as switch_did
use Rattle.peg_event.specs.declared.ServerDid.{ServerDid}
use Rattle.peg_event.specs.declared.ServerDid.TheVariants as server_did
use Rattle.peg_event.specs.declared.ClientDid.{ClientDid}
use Rattle.peg_event.specs.declared.ClientDid.TheVariants as client_did
use Rattle.peg_event.specs.declared.ControlDid.{ControlDid}
use Rattle.peg_event.specs.declared.ControlDid.TheVariants as control_did
use Rattle.peg_event.specs.declared.Command.{Command}
use Rattle.peg_event.specs.declared.Command.TheVariants as command
use Rattle.peg_event.specs.declared.Said.{Said}
use Rattle.peg_event.specs.declared.Said.TheVariants as said
use Rattle.peg_event.specs.declared.Line.{Line}
use Rattle.peg_model.specs.Text.{key_word, content_word}
use Rattle.peg_model.specs.World.{start, run, history}
use Rattle.peg_model.specs.Order.{orders}
use Rattle.peg_model.specs.Schedule.{Schedule, fed}

abbrev pub note_text : Note → List ℕ
note_text note.Unlisted = codes "unlisted"
note_text note.Kept = codes "kept"
note_text note.Raised = codes "raised"
note_text note.Added = codes "added"
note_text (note.Removed listing) = codes "removed " ++ decimal listing

abbrev pub outcome_text : Outcome → List ℕ
outcome_text (outcome.Listed listing) = codes "listed " ++ decimal listing
outcome_text (outcome.Already listing) = codes "already " ++ decimal listing
outcome_text (outcome.Full count) = codes "full " ++ decimal count
outcome_text (outcome.Marked mark) = codes "marked " ++ decimal mark
outcome_text outcome.NotListed = codes "not listed"
outcome_text (outcome.AlreadyMarked mark) = codes "already marked " ++ decimal mark
outcome_text (outcome.Ordered server) = codes "ordered " ++ decimal server
outcome_text outcome.Holds = codes "holds"
outcome_text (outcome.Activated epoch) = codes "activated " ++ decimal epoch
outcome_text outcome.Cleared = codes "cleared"
outcome_text (outcome.Fenced base) = codes "fenced " ++ decimal base
outcome_text outcome.NoBase = codes "no base"
outcome_text (outcome.NoVersion next) = codes "no version"

abbrev pub switch_text : SwitchDid → List ℕ
switch_text (switch_did.Read server key) =
    codes "forwards read " ++ key_word key ++ codes " to server " ++ decimal server
switch_text (switch_did.Wrote server key version) =
    codes "forwards write " ++ key_word key ++ codes " version " ++ decimal version
    ++ codes " to server " ++ decimal server
switch_text (switch_did.Answered client seq version note) =
    codes "answers client " ++ decimal client ++ codes " seq " ++ decimal seq ++ codes " version "
    ++ decimal version ++ codes " " ++ note_text note
switch_text (switch_did.Noted server version note) =
    codes "notes server " ++ decimal server ++ codes " version " ++ decimal version ++ codes " "
    ++ note_text note
switch_text (switch_did.Voided client seq version) =
    codes "voids client " ++ decimal client ++ codes " seq " ++ decimal seq ++ codes " version "
    ++ decimal version
switch_text (switch_did.VoidSkipped client seq) =
    codes "skips void of client " ++ decimal client ++ codes " seq " ++ decimal seq
switch_text (switch_did.Applied number outcome) =
    codes "applies " ++ decimal number ++ codes " " ++ outcome_text outcome
switch_text (switch_did.Repeated number) = codes "repeats " ++ decimal number
switch_text (switch_did.Skipped number last) =
    codes "skips " ++ decimal number ++ codes " at " ++ decimal last
switch_text (switch_did.Sealed epoch target) =
    codes "seals epoch " ++ decimal epoch ++ codes " to switch " ++ decimal target
switch_text (switch_did.Collected held count) =
    codes "collects " ++ decimal held ++ codes " of " ++ decimal count
switch_text (switch_did.HasPart index) = codes "has part " ++ decimal index
switch_text (switch_did.OldPart epoch) = codes "old part of epoch " ++ decimal epoch
switch_text (switch_did.Activated epoch) = codes "active epoch " ++ decimal epoch
switch_text (switch_did.Reported rows) = codes "reports " ++ decimal rows ++ codes " rows"
switch_text (switch_did.NotActive epoch) = codes "not active epoch " ++ decimal epoch
switch_text (switch_did.Stale last) = codes "stale " ++ decimal last
switch_text (switch_did.Exhausted next) = codes "exhausted " ++ decimal next
switch_text switch_did.Malformed = codes "malformed"
switch_text switch_did.OutOfPlace = codes "out of place"

abbrev pub server_text : ServerDid → List ℕ
server_text (server_did.Read key version) =
    codes "reads " ++ key_word key ++ codes " version " ++ decimal version
server_text (server_did.Applied key version) =
    codes "applies " ++ key_word key ++ codes " version " ++ decimal version
server_text (server_did.Kept key held) =
    codes "keeps " ++ key_word key ++ codes " version " ++ decimal held
server_text (server_did.Copied key version target) =
    codes "copies " ++ key_word key ++ codes " version " ++ decimal version ++ codes " to server "
    ++ decimal target
server_text (server_did.HasNone key) = codes "has no " ++ key_word key
server_text (server_did.Fenced key version held) =
    codes "fences " ++ key_word key ++ codes " version " ++ decimal version ++ codes " from "
    ++ decimal held
server_text (server_did.Void key version floor) =
    codes "voids " ++ key_word key ++ codes " version " ++ decimal version ++ codes " under "
    ++ decimal floor
server_text (server_did.Barred key version old) =
    codes "bars " ++ key_word key ++ codes " version " ++ decimal version ++ codes " under "
    ++ decimal old
server_text server_did.Malformed = codes "malformed"
server_text server_did.OutOfPlace = codes "out of place"

abbrev pub client_text : ClientDid → List ℕ
client_text (client_did.Wrote seq version) =
    codes "answered " ++ decimal seq ++ codes " version " ++ decimal version
client_text (client_did.Read seq version content) =
    codes "answered " ++ decimal seq ++ codes " version " ++ decimal version ++ codes " "
    ++ content_word content
client_text (client_did.Moved switch epoch) =
    codes "moves to switch " ++ decimal switch ++ codes " epoch " ++ decimal epoch
client_text client_did.Ignored = codes "ignores"

abbrev pub control_text : ControlDid → List ℕ
control_text (control_did.Took number outcome) =
    codes "takes " ++ decimal number ++ codes " " ++ outcome_text outcome
control_text (control_did.HasReport rows) = codes "has report of " ++ decimal rows ++ codes " rows"
control_text control_did.Ignored = codes "ignores"
control_text control_did.Malformed = codes "malformed"
control_text control_did.OutOfPlace = codes "out of place"

abbrev pub command_text : Command → List ℕ
command_text (command.Promote key) = codes "promote " ++ key_word key
command_text (command.Demote key) = codes "demote " ++ key_word key
command_text (command.Copy key target) =
    codes "copy " ++ key_word key ++ codes " to server " ++ decimal target
command_text (command.Fence key) = codes "fence " ++ key_word key
command_text (command.Handover target) = codes "handover to switch " ++ decimal target
command_text command.Clear = codes "clear"

unfoldable pub said_text : Said → List ℕ
said_text said.Rack = codes "rack"
said_text said.End = codes "end"
said_text said.Forged = codes "forged"
said_text (said.Read client seq) = codes "read " ++ decimal client ++ codes " seq " ++ decimal seq
said_text (said.Write client seq) =
    codes "write " ++ decimal client ++ codes " seq " ++ decimal seq
said_text (said.Delete client seq) =
    codes "delete " ++ decimal client ++ codes " seq " ++ decimal seq
said_text (said.Busy client seq) = codes "busy " ++ decimal client ++ codes " seq " ++ decimal seq
said_text (said.Spent client) = codes "spent " ++ decimal client
said_text (said.Resend client seq) =
    codes "resend " ++ decimal client ++ codes " seq " ++ decimal seq
said_text (said.GiveUp client seq) =
    codes "giveup " ++ decimal client ++ codes " seq " ++ decimal seq
said_text (said.NothingOpen client) = codes "nothing open " ++ decimal client
said_text (said.NoSuchPacket number count) =
    codes "no such packet " ++ decimal number ++ codes " of " ++ decimal count
said_text (said.Switch switch did) =
    codes "switch " ++ decimal switch ++ codes " " ++ switch_text did
said_text (said.Server server did) =
    codes "server " ++ decimal server ++ codes " " ++ server_text did
said_text (said.Client client did) =
    codes "client " ++ decimal client ++ codes " " ++ client_text did
said_text (said.Controller did) = codes "controller " ++ control_text did
said_text (said.Orders number command) =
    codes "controller orders " ++ decimal number ++ codes " " ++ command_text command
said_text (said.ControlBusy pending) = codes "controller busy " ++ decimal pending
said_text (said.ControlSpent last) = codes "controller spent " ++ decimal last
said_text (said.NoSuch target) = codes "controller no such " ++ decimal target
said_text (said.SameSwitch switch) = codes "controller same switch " ++ decimal switch
said_text (said.Retries number) = codes "controller retries " ++ decimal number
said_text (said.Announces epoch) = codes "controller announces epoch " ++ decimal epoch
said_text said.Surveys = codes "controller surveys"
said_text (said.Plans demotes promotes) =
    codes "controller plans " ++ decimal demotes ++ codes " demote " ++ decimal promotes
    ++ codes " promote"
said_text said.NoReport = codes "controller has no report"

abbrev pub sent_text : Option (ℕ × ℕ) → List ℕ
sent_text None = []
sent_text (Some range) =
    codes " sends " ++ decimal range.0
    ++ (if range.0 == range.1 then [] else codes ".." ++ decimal range.1)

abbrev pub body_text : Line → List ℕ
body_text line = said_text line.said ++ sent_text line.sent

abbrev pub line_text : ℕ → Line → List ℕ
line_text place line = decimal place ++ codes " " ++ body_text line

-- the lines from this place on
abbrev pub lines_text : ℕ → List Line → List ℕ
lines_text place [] = []
lines_text place (line ∷ lines) = fed (line_text place line) ++ lines_text (place + 1) lines

-- what an answered read was given
abbrev pub given_text : Act → Content → List ℕ
given_text act.Read content = codes " " ++ content_word content
given_text act.Write content = []

abbrev pub answered_text : Option ℕ → Op → List ℕ
answered_text None op = codes " open"
answered_text (Some at) op = codes " answered " ++ decimal at ++ given_text op.act op.content

abbrev pub act_text : Act → Op → List ℕ
act_text act.Read op = codes "read " ++ key_word op.key
act_text act.Write op = codes "write " ++ key_word op.key ++ codes " " ++ content_word op.content

abbrev pub op_text : ℕ → Op → List ℕ
op_text number op =
    codes "op " ++ decimal number ++ codes " client " ++ decimal op.client ++ codes " "
    ++ act_text op.act op ++ codes " issued " ++ decimal op.issued ++ answered_text op.answered op

abbrev pub ops_text : ℕ → List Op → List ℕ
ops_text number [] = []
ops_text number (op ∷ ops) = fed (op_text number op) ++ ops_text (number + 1) ops

abbrev pub order_text : List ℕ → ℕ → List ℕ
order_text key count = codes "order " ++ key_word key ++ codes " " ++ decimal count

abbrev pub key_order_text : List ℕ × List ℕ → List ℕ
key_order_text o =
    fed (order_text o.0 (length o.1)) ++ flat_map (λ place. fed (codes "at " ++ decimal place)) o.1

-- a history and the orders of its keys
abbrev pub history_text : List Op → List (List ℕ × List ℕ) → List ℕ
history_text ops key_orders =
    fed (codes "history " ++ decimal (length ops)) ++ ops_text 0 ops
    ++ flat_map key_order_text key_orders

-- and done
abbrev pub tail_text : List Op → List (List ℕ × List ℕ) → List ℕ
tail_text ops key_orders = history_text ops key_orders ++ fed (codes "done")

-- the rack line has place 1, and the events those from 2 on
abbrev pub trace_text : List Line → List ℕ
trace_text lines =
    fed (codes "1 rack") ++ lines_text 2 lines ++ fed (decimal (length lines + 2) ++ codes " end")

abbrev pub replay_text : Rack → List (List ℕ) → List Event → List ℕ
replay_text rack keys events =
    let done = run (start rack keys) 2 events in
    trace_text done.1 ++ tail_text (history done.0) (orders done.0)

-- the output is the text of the run of the schedule that the input begins with
abbrev pub RunText : List ℕ → List ℕ → Type 0
RunText input output =
    (rack : Rack) × (keys : List (List ℕ)) × (events : List Event)
    × Schedule input rack keys events × (output ≡ replay_text rack keys events)
