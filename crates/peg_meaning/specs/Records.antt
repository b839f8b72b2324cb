-- Recorded processes: what a node's process writes of what it did, and what is judged of all
-- records together.
--     ClientCall, client_call, client_event      what a line has a client do
--     RecordEntry, record_entry_lines, IsRecordLine      a line of a process
--     Recorder, records      a process of one node as a session
--     records_switch, records_server, records_client, records_controller      of each kind of node
--     AuditEntry, audit_lines      a line of the records of all nodes
--     run_entries w place events, record_text rack events      the record of a run: each event, and
--         what it sent
--     IsAuditLine, Auditor, audits      the audit as a session
--     AuditVerdict, audit_text      what it says: yes, or the line of the first datagram that
--         nobody sent, or of the first event that sent something else
use Rattle.std.specs.Prelude.{◌≡◌, ◌≤◌, ◌<◌, ◌^◌, ◌+◌, ℕ, Bool, true, false, not, ◌&&◌, ◌==◌}
use Rattle.std.specs.Prelude.{Option, Some, None, List, [], ◌∷◌, ◌++◌, length, map, flat_map}
use Rattle.std.specs.Prelude.{if◌then◌else◌, codes, decimal, Contains, slice_get}
use Rattle.std.specs.Str.{bytes_eq}
use Rattle.peg_name.specs.Name.{Rack, line_most}
use Rattle.peg_name.specs.declared.Format.{Format}
use Rattle.peg_name.specs.declared.value.Content.TheVariants.{Absent, Present}
use Rattle.peg_name.specs.declared.Node.{Node}
use Rattle.peg_name.specs.declared.Node.TheVariants as node
use Rattle.peg_event.specs.declared.answers.Ask.{Ask}
use Rattle.peg_event.specs.declared.answers.Ask.TheVariants as ask
use Rattle.peg_event.specs.declared.Event.{Event}
use Rattle.peg_event.specs.declared.Event.TheVariants as event
use Rattle.peg_model.specs.Packet.{Packet, spelling}
use Rattle.peg_model.specs.Client.{Client, new_client, begin_operation, resend, give_up}
use Rattle.peg_model.specs.Server.{Server, new_server}
use Rattle.peg_model.specs.Switch.{Switch, new_switch}
use Rattle.peg_model.specs.Controller.{Controller, new_controller}
use Rattle.peg_model.specs.Datagrams.{spelled, client_on_bytes, controller_on_bytes}
use Rattle.peg_model.specs.World.{World, start, history, step}
use Rattle.peg_model.specs.Order.{orders, keys_in}
use Rattle.peg_model.specs.Text.{hex_word}
use Rattle.peg_model.specs.Schedule.{event_lines, node_words, NodeInRack, AreBytes, IsRackLine}
use Rattle.peg_model.specs.Schedule.{IsEventLine, rack_line, fed}
use Rattle.peg_model.specs.Trace.{tail_text}
use Rattle.peg_meaning.specs.Session.{Meaning, Input, Entry, Datagram, Quiet, Came, Answer, Goes}
use Rattle.peg_meaning.specs.Session.{Past, begun, quietly, saying, at_port, room, posted}
use Rattle.peg_meaning.specs.declared.Want.{Want}
use Rattle.peg_meaning.specs.declared.Want.TheVariants as want
use Rattle.peg_meaning.specs.Roles.{lines_most, Call, call, call_event, switch_turn, server_turn}
use Rattle.peg_meaning.specs.RackWord.{IsOfNodes, is_node, number_of, is_past_limits, sent_since}

-- ---- what a line has a node do

pub data ClientCall : Type 0 where
  Begins : (key : List ℕ) (ask : Ask) → ClientCall
  Resends : ClientCall
  GivesUp : ClientCall

abbrev pub client_event : ℕ → ClientCall → Event
client_event id (Begins key ask.Read) = event.Read id key
client_event id (Begins key (ask.Write (Present value))) = event.Write id key value
client_event id (Begins key (ask.Write Absent)) = event.Delete id key
client_event id Resends = event.Resend id
client_event id GivesUp = event.GiveUp id

-- a node after a call or a datagram, and what it sent
abbrev pub Done : Type 0 → Type 0
Done N = N × List (Node × Packet)

abbrev pub client_call : Client → ClientCall → Done Client
client_call c (Begins key ask) =
    let step = begin_operation c key ask in (step.state, step.sent)
client_call c Resends = let step = resend c in (step.state, step.sent)
client_call c GivesUp = let step = give_up c in (step.state, step.sent)

abbrev pub controller_call : Controller → Call → Done Controller
controller_call c what = let step = call c what in (step.state, step.sent)

abbrev pub client_turn : Client → List ℕ → ℕ → Done Client
client_turn c bytes pick = let step = client_on_bytes c bytes in (step.state, step.sent)

abbrev pub controller_turn : Controller → List ℕ → ℕ → Done Controller
controller_turn c bytes pick = let step = controller_on_bytes c bytes in (step.state, step.sent)

-- switches and servers have no lines of their own
abbrev pub no_call : {N : Type 0} → N → ⊥ → Done N
no_call n c = absurd c

abbrev pub no_event : ⊥ → Event
no_event c = absurd c

-- ---- a recorded process

pub data RecordEntry (C : Type 0) : Type 0 where
  Calls : (c : C) → RecordEntry C
  Takes : (pick : ℕ) → RecordEntry C
  End : RecordEntry C

abbrev pub take_lines : ℕ → List (List ℕ)
take_lines pick =
    let long = codes "take " ++ decimal pick in
    if pick == 0 then codes "take" ∷ long ∷ [] else long ∷ []

abbrev pub record_entry_lines : {C : Type 0} → (C → Event) → RecordEntry C → List (List ℕ)
record_entry_lines event_of (Calls c) = event_lines (event_of c)
record_entry_lines event_of (Takes pick) = take_lines pick
record_entry_lines event_of End = codes "end" ∷ []

abbrev pub IsRecordLine : {C : Type 0} → (C → Event) → Rack → List ℕ → RecordEntry C → Type 0
IsRecordLine event_of rack line (Calls c) = IsEventLine rack line (event_of c)
IsRecordLine event_of rack line (Takes pick) = (pick < 2 ^ 64) × Contains (take_lines pick) line
IsRecordLine event_of rack line End = line ≡ codes "end"

abbrev pub sent_line : Node → List ℕ → List ℕ
sent_line node bytes = codes "sent " ++ node_words node ++ codes " " ++ hex_word bytes

abbrev pub took_line : Node → ℕ → List ℕ → List ℕ
took_line node pick bytes =
    codes "took " ++ node_words node ++ codes " " ++ decimal pick ++ codes " " ++ hex_word bytes

abbrev pub sent_lines : Format → List (Node × Packet) → List (List ℕ)
sent_lines format sent = map (λ item. sent_line item.0 (spelling format item.1)) sent

-- a process reads lines, and carries out one at a time
pub data Stage : Type 0 where
  Reading : Stage
  Taking : (pick : ℕ) → Stage
  Finished : Stage

pub record Recorder (N : Type 0) : Type 0 where
  pub node : N
  pub base : ℕ
  pub rack : Rack
  pub name : Node
  pub lines : ℕ
  pub stage : Stage

abbrev pub recorder : {N : Type 0} → ℕ → Rack → Node → N → Came (Recorder N)
recorder base rack name node =
    at_port base name
    (record {
      node = node;
      base = base;
      rack = rack;
      name = name;
      lines = 0;
      stage = Reading;
    })

module _ {N C : Type 0} (event_of : Node → C → Event) (calls : N → C → Done N)
    (turns : N → List ℕ → ℕ → Done N) where
  -- the lines of an event, and then a line for each packet that it sent
  abbrev pub recorded : Recorder N → List (List ℕ) → Done N → Came (Recorder N)
  recorded s lines done =
      record {
        state = record s { node = done.0; stage = Reading };
        text = flat_map fed (lines ++ sent_lines s.rack.format done.1);
        binds = [];
        letters = posted 0 s.base s.rack.format done.1;
      }

  abbrev pub record_datagram : List ℕ → Recorder N → ℕ → Came (Recorder N)
  record_datagram bytes s pick =
      recorded s (took_line s.name pick bytes ∷ []) (turns s.node bytes pick)

  abbrev pub record_entry : RecordEntry C → Recorder N → Came (Recorder N)
  record_entry (Calls c) s = recorded s (event_lines (event_of s.name c)) (calls s.node c)
  record_entry (Takes pick) s = quietly (record s { stage = Taking pick })
  record_entry End s = quietly (record s { stage = Finished })

  abbrev pub reads_entry : RecordEntry C → Recorder N → Answer (Recorder N)
  reads_entry End s = Goes (record_entry End s)
  reads_entry e s =
      if s.lines == lines_most then Past
      else Goes (record_entry e (record s { lines = s.lines + 1 }))

  abbrev pub record_on : Stage → Recorder N → Input (RecordEntry C) → Answer (Recorder N)
  record_on Reading s (Entry e) = reads_entry e s
  record_on (Taking pick) s (Datagram bytes) = Goes (record_datagram bytes s pick)
  record_on (Taking pick) s Quiet = Goes (quietly (record s { stage = Reading }))
  record_on _ s _ = Past

  abbrev pub record_want : Format → Stage → Want
  record_want format Reading = want.Line (line_most format) false
  record_want format (Taking pick) = want.Turn 0 (room format)
  record_want format Finished = want.Over

  abbrev pub records : Meaning (Recorder N) (RecordEntry C)
  records =
      record {
        want = λ s. record_want s.rack.format s.stage;
        Reads = λ s line e. IsRecordLine (event_of s.name) s.rack line e;
        on = λ s input. record_on s.stage s input;
      }

-- what a line has the client of this name do
abbrev pub client_event_by : Node → ClientCall → Event
client_event_by (node.Client id) c = client_event id c
client_event_by _ c = client_event 0 c

-- the nodes are made without keys, and a client begins with the number 1
abbrev pub records_client : Meaning (Recorder Client) (RecordEntry ClientCall)
records_client = records client_event_by client_call client_turn

abbrev pub records_controller : Meaning (Recorder Controller) (RecordEntry Call)
records_controller = records (λ name. call_event) controller_call controller_turn

abbrev pub records_switch : Meaning (Recorder Switch) (RecordEntry ⊥)
records_switch = records (λ name. no_event) no_call switch_turn

abbrev pub records_server : Meaning (Recorder Server) (RecordEntry ⊥)
records_server = records (λ name. no_event) no_call server_turn

abbrev pub client_recorder : ℕ → Rack → ℕ → Came (Recorder Client)
client_recorder base rack id =
    recorder base rack (node.Client id) (new_client rack.format id 1)

abbrev pub controller_recorder : ℕ → Rack → Came (Recorder Controller)
controller_recorder base rack = recorder base rack node.Controller (new_controller rack [])

abbrev pub switch_recorder : ℕ → Rack → ℕ → Came (Recorder Switch)
switch_recorder base rack id = recorder base rack (node.Switch id) (new_switch rack [] id)

abbrev pub server_recorder : ℕ → Rack → ℕ → Came (Recorder Server)
server_recorder base rack id = recorder base rack (node.Server id) (new_server rack id)

-- ---- the lines that are audited

pub data AuditEntry : Type 0 where
  Named : (rack : Rack) → AuditEntry
  Happens : (e : Event) → AuditEntry
  Took : (node : Node) (pick : ℕ) (bytes : List ℕ) → AuditEntry
  Sent : (node : Node) (bytes : List ℕ) → AuditEntry
  Ends : AuditEntry

abbrev pub audit_lines : AuditEntry → List (List ℕ)
audit_lines (Named rack) = rack_line rack [] ∷ []
audit_lines (Happens e) = event_lines e
audit_lines (Took node pick bytes) = took_line node pick bytes ∷ []
audit_lines (Sent node bytes) = sent_line node bytes ∷ []
audit_lines Ends = codes "end" ∷ []

-- ---- the record of a run

-- a delivery is written as the datagram that was taken
abbrev pub delivered_entry : Format → Option (Node × Packet) → ℕ → List AuditEntry
delivered_entry format None pick = []
delivered_entry format (Some item) pick = Took item.0 pick (spelling format item.1) ∷ []

abbrev pub event_entry : World → Event → List AuditEntry
event_entry w (event.Deliver number pick) =
    delivered_entry w.rack.format (slice_get w.packets number) pick
event_entry w e = Happens e ∷ []

abbrev pub sent_entries : Format → List (Node × Packet) → List AuditEntry
sent_entries format sent = map (λ item. Sent item.0 (spelling format item.1)) sent

-- a run without junk, whose deliveries are of packets that were sent: each event, and what it sent;
-- the place of an event is that of its line
unfoldable pub run_entries : World → ℕ → List Event → List AuditEntry
run_entries w place [] = []
run_entries w place (e ∷ events) =
    let now = (step w place e).0 in
    let sent = sent_since w now in
    event_entry w e ++ sent_entries w.rack.format sent
    ++ run_entries now (place + 1 + length sent) events

-- the state of the same run at its end
unfoldable pub run_end : World → ℕ → List Event → World
run_end w place [] = w
run_end w place (e ∷ events) =
    let now = (step w place e).0 in
    run_end now (place + 1 + length (sent_since w now)) events

abbrev pub recorded_entries : Rack → List Event → List AuditEntry
recorded_entries rack events =
    Named rack ∷ run_entries (start rack []) 2 events ++ Ends ∷ []

-- the text that a run leaves for the audit
abbrev pub record_text : Rack → List Event → List ℕ
record_text rack events =
    flat_map (λ e. flat_map fed (audit_lines e)) (recorded_entries rack events)

-- ---- the audit

-- a node and what was sent to it
abbrev pub Posted : Type 0
Posted = Node × List ℕ

pub data AuditVerdict : Type 0 where
  Yes : AuditVerdict
  Foreign : (line : ℕ) → AuditVerdict
  Other : (line : ℕ) → AuditVerdict

-- the line of the last event, and what has still to be written of what it sent
pub record Audited : Type 0 where
  pub world : World
  pub place : ℕ
  pub event_place : ℕ
  pub events : ℕ
  pub unwritten : List Posted
  pub verdict : AuditVerdict

pub data Auditor : Type 0 where
  Opening : Auditor
  Judging : (a : Audited) → Auditor
  Closed : (a : Audited) → Auditor

-- at most as many bytes as the longest receive buffer of a rack has
abbrev pub IsDatagram : List ℕ → Type 0
IsDatagram bytes = (length bytes ≤ 1153) × AreBytes bytes

-- a line of this state; something was done before anything was sent
abbrev pub IsEntryLine : Audited → List ℕ → AuditEntry → Type 0
IsEntryLine a line (Named rack) = ⊥
IsEntryLine a line (Happens e) = IsEventLine a.world.rack line e × IsOfNodes e
IsEntryLine a line (Took node pick bytes) =
    NodeInRack a.world.rack node × (pick < 2 ^ 64) × IsDatagram bytes
    × (line ≡ took_line node pick bytes)
IsEntryLine a line (Sent node bytes) =
    (2 ≤ a.event_place) × NodeInRack a.world.rack node × IsDatagram bytes
    × (line ≡ sent_line node bytes)
IsEntryLine a line Ends = line ≡ codes "end"

abbrev pub IsAuditLine : Auditor → List ℕ → AuditEntry → Type 0
IsAuditLine Opening line (Named rack) = IsRackLine line rack []
IsAuditLine (Judging a) line e = IsEntryLine a line e
IsAuditLine _ line e = ⊥

abbrev pub audited : Rack → Audited
audited rack =
    record {
      world = start rack [];
      place = 1;
      event_place = 0;
      events = 0;
      unwritten = [];
      verdict = Yes;
    }

abbrev pub is_yes : AuditVerdict → Bool
is_yes Yes = true
is_yes _ = false

-- the first verdict that isn't yes stays
abbrev pub unless_judged : Audited → AuditVerdict → Audited
unless_judged a verdict = if is_yes a.verdict then record a { verdict = verdict } else a

-- an event or the end: the event before has to have sent all that it sent
abbrev pub is_written : List Posted → Bool
is_written [] = true
is_written _ = false

abbrev pub all_written : Audited → Audited
all_written a =
    if is_written a.unwritten then a else unless_judged a (Other a.event_place)

-- a line that says what the event sent has to be the next that is unwritten
abbrev pub writes_next : List Posted → Audited → Posted → Audited
writes_next [] a posted = unless_judged a (Other a.event_place)
writes_next (next ∷ unwritten) a posted =
    if is_node next.0 posted.0 && bytes_eq next.1 posted.1
    then record a { unwritten = unwritten }
    else unless_judged a (Other a.event_place)

abbrev pub stepped : Audited → World → Audited
stepped a now =
    record a {
      world = now;
      events = a.events + 1;
      unwritten = spelled a.world.rack.format (sent_since a.world now);
    }

abbrev pub judges : Audited → Came Auditor
judges a = quietly (Judging a)

-- the event of this line is stepped
abbrev pub steps : Audited → Event → Answer Auditor
steps a e =
    let now = (step a.world a.place e).0 in
    if is_past_limits (a.events + 1) now then Past else Goes (judges (stepped a now))

abbrev pub steps_taken : Option ℕ → Audited → ℕ → Answer Auditor
steps_taken None a pick = Goes (judges (unless_judged a (Foreign a.place)))
steps_taken (Some number) a pick = steps a (event.Deliver number pick)

-- after a no, the lines are judged by their form alone
abbrev pub audits_event : AuditEntry → Audited → Answer Auditor
audits_event (Happens e) a = if is_yes a.verdict then steps a e else Goes (judges a)
audits_event (Took node pick bytes) a =
    if is_yes a.verdict
    then steps_taken (number_of a.world.rack.format a.world.packets node bytes) a pick
    else Goes (judges a)
audits_event _ a = Goes (judges a)

abbrev pub verdict_line : AuditVerdict → World → List ℕ
verdict_line Yes w =
    codes "yes " ++ decimal (length w.operations) ++ codes " operations "
    ++ decimal (length (keys_in (history w))) ++ codes " keys"
verdict_line (Foreign line) w = codes "no foreign " ++ decimal line
verdict_line (Other line) w = codes "no other " ++ decimal line

-- a yes is followed by the operations and their orders
abbrev pub audit_text : AuditVerdict → World → List ℕ
audit_text Yes w = fed (verdict_line Yes w) ++ tail_text (history w) (orders w)
audit_text verdict w = fed (verdict_line verdict w)

-- the line behind this place
abbrev pub next_line : Audited → Audited
next_line a = record a { place = a.place + 1 }

abbrev pub at_event : Audited → Audited
at_event a = record (all_written a) { event_place = a.place }

abbrev pub audits_line : AuditEntry → Audited → Answer Auditor
audits_line (Sent node bytes) a =
    Goes (judges (if is_yes a.verdict then writes_next a.unwritten a (node, bytes) else a))
audits_line Ends a =
    let last = all_written a in Goes (saying (Closed last) (audit_text last.verdict last.world))
audits_line e a = audits_event e (at_event a)

abbrev pub is_end : AuditEntry → Bool
is_end Ends = true
is_end _ = false

-- the rack line and the end are not counted among the lines
abbrev pub audits_entry : AuditEntry → Audited → Answer Auditor
audits_entry e a =
    if not (is_end e) && a.place == lines_most + 1 then Past else audits_line e (next_line a)

abbrev pub audit_on : Auditor → Input AuditEntry → Answer Auditor
audit_on Opening (Entry (Named rack)) = Goes (quietly (Judging (audited rack)))
audit_on (Judging a) (Entry e) = audits_entry e a
audit_on _ input = Past

abbrev pub audit_want : Auditor → Want
audit_want Opening = want.Line 2048 false
audit_want (Judging a) = want.Line 4096 false
audit_want (Closed a) = want.Over

abbrev pub audits : Meaning Auditor AuditEntry
audits = record { want = audit_want; Reads = IsAuditLine; on = audit_on }

abbrev pub audit_start : Came Auditor
audit_start = begun Opening [] []
