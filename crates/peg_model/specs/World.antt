-- The whole rack as one machine: one state for each node, the packets in flight, and the
-- operations so far.
--     Operation      an operation of the history, with its client's number for it and its tag
--     AppliedFence, Promotion      a fence that a server applied, and a version that a promotion
--         was given
--     origin_of fences key version      the version of the write that a version goes back to
--     World, start      the state, and that at the start of a rack line
--     step w place event      the state after an event, and its line
--     run w place events      the state after all of them, and the lines
use Rattle.std.specs.Prelude.{◌+◌, ℕ, Bool, true, false, ◌&&◌, ◌==◌, Option, Some, None, is_none}
use Rattle.std.specs.Prelude.{List, [], ◌∷◌, ◌++◌, length, map, slice_get, slice_index_or}
use Rattle.std.specs.Prelude.{slice_set, if◌then◌else◌}
use Rattle.std.specs.Str.{bytes_eq}
use Rattle.peg_name.specs.Name.{Rack}
use Rattle.peg_name.specs.declared.Format.{Format}
use Rattle.peg_name.specs.declared.value.Content.{Content}
use Rattle.peg_name.specs.declared.value.Content.TheVariants.{Absent, Present}
use Rattle.peg_name.specs.declared.Node.{Node}
use Rattle.peg_name.specs.declared.Node.TheVariants as node
use Rattle.peg_event.specs.declared.history.Act.{Act}
use Rattle.peg_event.specs.declared.history.Act.TheVariants as act
use Rattle.peg_event.specs.declared.history.Op.{Op}
use Rattle.peg_event.specs.declared.Event.{Event}
use Rattle.peg_event.specs.declared.Event.TheVariants as event
use Rattle.peg_event.specs.declared.Command.{Command}
use Rattle.peg_event.specs.declared.Command.TheVariants as command
use Rattle.peg_event.specs.declared.Outcome.TheVariants as outcome
use Rattle.peg_event.specs.declared.Line.{Line}
use Rattle.peg_event.specs.declared.Said.{Said}
use Rattle.peg_event.specs.declared.Said.TheVariants as said
use Rattle.peg_event.specs.declared.SwitchDid.{SwitchDid}
use Rattle.peg_event.specs.declared.SwitchDid.TheVariants as switch_did
use Rattle.peg_event.specs.declared.ServerDid.{ServerDid}
use Rattle.peg_event.specs.declared.ServerDid.TheVariants as server_did
use Rattle.peg_event.specs.declared.ClientDid.{ClientDid}
use Rattle.peg_event.specs.declared.ClientDid.TheVariants as client_did
use Rattle.peg_event.specs.declared.ControlDid.TheVariants as control_did
use Rattle.peg_event.specs.declared.answers.Ask.{Ask}
use Rattle.peg_event.specs.declared.answers.Ask.TheVariants as ask
use Rattle.peg_event.specs.declared.answers.Issue.{Issue}
use Rattle.peg_event.specs.declared.answers.Issue.TheVariants as issue
use Rattle.peg_event.specs.declared.answers.Order.{Order}
use Rattle.peg_event.specs.declared.answers.Order.TheVariants as order
use Rattle.peg_event.specs.declared.answers.Retry.{Retry}
use Rattle.peg_event.specs.declared.answers.Retry.TheVariants as retry
use Rattle.peg_event.specs.declared.answers.Plan.{Plan}
use Rattle.peg_event.specs.declared.answers.Plan.TheVariants as plan
use Rattle.peg_model.specs.Words.{Step, below}
use Rattle.peg_model.specs.Packet as packet
use Rattle.peg_model.specs.Packet.{Packet}
use Rattle.peg_model.specs.Reading.{packet_of}
use Rattle.peg_model.specs.Rules.{base_of}
use Rattle.peg_model.specs.Server.{Server, ServerStep, new_server, server_step}
use Rattle.peg_model.specs.Client.{Client, new_client, begin_operation, resend, give_up}
use Rattle.peg_model.specs.Client.{client_step}
use Rattle.peg_model.specs.Controller.{Controller, new_controller, order_command, retry_command}
use Rattle.peg_model.specs.Controller.{survey, make_plan, controller_step}
use Rattle.peg_model.specs.Switch.{Switch, SwitchStep, new_switch, switch_step}

-- the tag is the origin of the version that answered it; for a write that is unanswered, the last
-- version stamped for it, or 0
pub record Operation : Type 0 where
  pub op : Op
  pub seq : ℕ
  pub tag : ℕ

-- a fence of the version, applied where the server held the version `held`
pub record AppliedFence : Type 0 where
  pub key : List ℕ
  pub version : ℕ
  pub held : ℕ
  pub origin : ℕ

pub record Promotion : Type 0 where
  pub key : List ℕ
  pub version : ℕ

-- the place is that of the last line, and the rack line has place 1
pub record World : Type 0 where
  pub rack : Rack
  pub place : ℕ
  pub clients : List Client
  pub servers : List Server
  pub switches : List Switch
  pub controller : Controller
  pub packets : List (Node × Packet)
  pub operations : List Operation
  pub fences : List AppliedFence
  pub promotions : List Promotion

abbrev pub start : Rack → List (List ℕ) → World
start rack keys = record {
  rack = rack;
  place = 1;
  clients = map (λ id. new_client rack.format id 1) (below rack.clients);
  servers = map (new_server rack) (below rack.servers);
  switches = map (new_switch rack keys) (below rack.switches);
  controller = new_controller rack keys;
  packets = [];
  operations = [];
  fences = [];
  promotions = [];
}

abbrev pub history : World → List Op
history w = map (λ o. o.op) w.operations

-- ---- what a line reports

-- the first and the last number of the packets sent, of which `before` were sent earlier
abbrev pub numbers : ℕ → List (Node × Packet) → Option (ℕ × ℕ)
numbers before [] = None
numbers before (p ∷ sent) = Some (before, before + length sent)

-- a step of one node: what it sent goes last, and the line says what it did
abbrev pub reports : World → List (Node × Packet) → Said → World × Line
reports w sent said = (
  record w { packets = w.packets ++ sent },
  record
      { said = said; sent = numbers (length w.packets) sent },
)

abbrev pub with_client : World → Client → World
with_client w c = record w { clients = slice_set w.clients c.id c }

abbrev pub with_server : World → Server → World
with_server w s = record w { servers = slice_set w.servers s.id s }

abbrev pub with_switch : World → Switch → World
with_switch w s = record w { switches = slice_set w.switches s.id s }

abbrev pub with_controller : World → Controller → World
with_controller w c = record w { controller = c }

-- ---- the history

-- whether it is the operation to which its client gave this number
abbrev pub is_named : ℕ → ℕ → Operation → Bool
is_named client seq o = o.op.client == client && o.seq == seq

abbrev pub begun : World → Op → ℕ → World
begun w op seq =
    record w { operations = w.operations ++ record { op = op; seq = seq; tag = 0 } ∷ [] }

abbrev pub is_write : Act → Bool
is_write act.Read = false
is_write act.Write = true

-- the content of a write stays as it was issued
abbrev pub content_answered : Act → Content → Content → Content
content_answered act.Read issued given = given
content_answered act.Write issued given = issued

abbrev pub with_answer : ℕ → Content → Op → Op
with_answer at content op =
    record op { content = content_answered op.act op.content content; answered = Some at }

-- the origin of a version: the version itself, but for that of an applied fence
abbrev pub origin_of : List AppliedFence → List ℕ → ℕ → ℕ
origin_of [] key version = version
origin_of (f ∷ fences) key version =
    if bytes_eq f.key key && f.version == version then f.origin else origin_of fences key version

abbrev pub answered_as : List AppliedFence → ℕ → ℕ → Content → Operation → Operation
answered_as fences at version content o =
    record {
      op = with_answer at content o.op;
      seq = o.seq;
      tag = origin_of fences o.op.key version;
    }

-- the operations, with a change of the one to which the client gave the number
abbrev pub changed_at :
    ℕ → ℕ → (Operation → Operation) → List Operation → List Operation
changed_at client seq change operations =
    map (λ o. if is_named client seq o then change o else o) operations

abbrev pub answered : World → ℕ → ℕ → ℕ → Content → World
answered w client seq version content =
    let change = answered_as w.fences w.place version content in
    record w { operations = changed_at client seq change w.operations }

-- an operation that was answered keeps the tag of its answer
abbrev pub stamped_as : ℕ → Operation → Operation
stamped_as version o = if is_none o.op.answered then record o { tag = version } else o

abbrev pub stamped : World → ℕ → ℕ → ℕ → World
stamped w client seq version =
    record w { operations = changed_at client seq (stamped_as version) w.operations }

-- an operation is answered where its client takes the reply
abbrev pub after_client : World → ℕ → ClientDid → World
after_client w client (client_did.Wrote seq version) = answered w client seq version Absent
after_client w client (client_did.Read seq version content) = answered w client seq version content
after_client w client _ = w

-- an applied fence is kept with its origin
abbrev pub after_server : World → ServerDid → World
after_server w (server_did.Fenced key version held) =
    record w {
      fences =
          w.fences ++ record {
            key = key;
            version = version;
            held = held;
            origin = origin_of w.fences key held;
          } ∷ [];
    }
after_server w _ = w

abbrev pub promoted : World → List ℕ → Option ℕ → World
promoted w key None = w
promoted w key (Some base) =
    record w { promotions = w.promotions ++ record { key = key; version = base } ∷ [] }

-- a write has the version that its request was forwarded with, and a promotion that lists a key
-- was given the base of the key's entry
abbrev pub after_switch : World → Switch → Packet → SwitchDid → World
after_switch w s (packet.Write client seq key content) (switch_did.Wrote server written version) =
    stamped w client seq version
after_switch w s (packet.Command number (packet.Promote key))
    (switch_did.Applied applied (outcome.Listed listing)) =
    promoted w key (base_of s.entries key)
after_switch w s _ _ = w

-- ---- the nodes of a world

module _ (w : World) where
  abbrev pub client_of : ℕ → Client
  client_of id = slice_index_or w.clients id (new_client w.rack.format id 1)

  abbrev pub server_of : ℕ → Server
  server_of id = slice_index_or w.servers id (new_server w.rack id)

  abbrev pub switch_of : ℕ → Switch
  switch_of id = slice_index_or w.switches id (new_switch w.rack [] id)

-- ---- events

-- a write of the content absent is said to be a delete
abbrev pub issue_said : ℕ → Ask → Issue → Said
issue_said client ask (issue.Busy seq) = said.Busy client seq
issue_said client ask issue.Spent = said.Spent client
issue_said client ask.Read (issue.Sent seq) = said.Read client seq
issue_said client (ask.Write (Present value)) (issue.Sent seq) = said.Write client seq
issue_said client (ask.Write Absent) (issue.Sent seq) = said.Delete client seq

-- an operation as it begins
abbrev pub new_op : ℕ → List ℕ → Ask → ℕ → Op
new_op client key ask.Read place =
    record {
      client = client;
      key = key;
      act = act.Read;
      content = Absent;
      issued = place;
      answered = None;
    }
new_op client key (ask.Write content) place =
    record {
      client = client;
      key = key;
      act = act.Write;
      content = content;
      issued = place;
      answered = None;
    }

abbrev pub after_issue : World → Op → Issue → World
after_issue w op (issue.Sent seq) = begun w op seq
after_issue w op _ = w

abbrev pub issues : World → ℕ → List ℕ → Ask → World × Line
issues w client key ask =
    let step = begin_operation (client_of w client) key ask in
    reports (after_issue (with_client w step.state) (new_op client key ask w.place) step.did)
    step.sent (issue_said client ask step.did)

abbrev pub resend_said : ℕ → Option ℕ → Said
resend_said client None = said.NothingOpen client
resend_said client (Some seq) = said.Resend client seq

abbrev pub resends : World → ℕ → World × Line
resends w client =
    let step = resend (client_of w client) in
    reports (with_client w step.state) step.sent (resend_said client step.did)

abbrev pub give_up_said : ℕ → Option ℕ → Said
give_up_said client None = said.NothingOpen client
give_up_said client (Some seq) = said.GiveUp client seq

abbrev pub gives_up : World → ℕ → World × Line
gives_up w client =
    let step = give_up (client_of w client) in
    reports (with_client w step.state) step.sent (give_up_said client step.did)

-- what a node's step makes of the world
abbrev pub client_stepped : World → ℕ → Step Client (Node × Packet) ClientDid → World × Line
client_stepped w id step =
    reports (after_client (with_client w step.state) id step.did) step.sent
    (said.Client id step.did)

abbrev pub server_stepped : World → ℕ → ServerStep → World × Line
server_stepped w id step =
    reports (after_server (with_server w step.state) step.did) step.sent (said.Server id step.did)

abbrev pub switch_stepped : World → ℕ → Packet → SwitchStep → World × Line
switch_stepped w id p step =
    reports (after_switch (with_switch w step.state) step.state p step.did) step.sent
    (said.Switch id step.did)

-- a packet is handed to its node
abbrev pub delivers : World → Node → Packet → ℕ → World × Line
delivers w (node.Client id) p pick = client_stepped w id (client_step (client_of w id) p)
delivers w (node.Server id) p pick = server_stepped w id (server_step (server_of w id) p)
delivers w (node.Switch id) p pick = switch_stepped w id p (switch_step (switch_of w id) p pick)
delivers w node.Controller p pick =
    let step = controller_step w.controller p in
    reports (with_controller w step.state) step.sent (said.Controller step.did)

abbrev pub delivers_item : World → ℕ → Option (Node × Packet) → ℕ → World × Line
delivers_item w number None pick = reports w [] (said.NoSuchPacket number (length w.packets))
delivers_item w number (Some item) pick = delivers w item.0 item.1 pick

-- bytes that no packet of either format spells are refused by every node; others aren't handed
-- over
abbrev pub junk_said : Node → Option (Format × Packet) → Said
junk_said to (Some p) = said.Forged
junk_said (node.Client id) None = said.Client id client_did.Ignored
junk_said (node.Server id) None = said.Server id server_did.Malformed
junk_said (node.Switch id) None = said.Switch id switch_did.Malformed
junk_said node.Controller None = said.Controller control_did.Malformed

abbrev pub order_said : Command → Order → Said
order_said c (order.Busy pending) = said.ControlBusy pending
order_said c (order.Spent last) = said.ControlSpent last
order_said c (order.NoSuch target) = said.NoSuch target
order_said c (order.SameSwitch switch) = said.SameSwitch switch
order_said c (order.Sent number) = said.Orders number c

abbrev pub orders : World → Command → World × Line
orders w c =
    let step = order_command w.controller c in
    reports (with_controller w step.state) step.sent (order_said c step.did)

abbrev pub retry_said : Retry → Said
retry_said (retry.Command number) = said.Retries number
retry_said (retry.Announced epoch) = said.Announces epoch

abbrev pub retries : World → World × Line
retries w =
    let step = retry_command w.controller in
    reports (with_controller w step.state) step.sent (retry_said step.did)

abbrev pub surveys : World → World × Line
surveys w =
    let step = survey w.controller in
    reports (with_controller w step.state) step.sent said.Surveys

abbrev pub plan_said : Plan → Said
plan_said (plan.Busy pending) = said.ControlBusy pending
plan_said (plan.Spent last) = said.ControlSpent last
plan_said plan.NoReport = said.NoReport
plan_said (plan.Planned demotes promotes) = said.Plans demotes promotes

abbrev pub plans : World → ℕ → ℕ → World × Line
plans w promote_at demote_below =
    let step = make_plan w.controller promote_at demote_below in
    reports (with_controller w step.state) step.sent (plan_said step.did)

-- an event at the world's place
unfoldable pub happens : World → Event → World × Line
happens w (event.Read client key) = issues w client key ask.Read
happens w (event.Write client key value) = issues w client key (ask.Write (Present value))
happens w (event.Delete client key) = issues w client key (ask.Write Absent)
happens w (event.Resend client) = resends w client
happens w (event.GiveUp client) = gives_up w client
happens w (event.Deliver number pick) = delivers_item w number (slice_get w.packets number) pick
happens w (event.Junk to bytes) = reports w [] (junk_said to (packet_of bytes))
happens w (event.Promote key) = orders w (command.Promote key)
happens w (event.Demote key) = orders w (command.Demote key)
happens w (event.Copy key target) = orders w (command.Copy key target)
happens w (event.Fence key) = orders w (command.Fence key)
happens w (event.Handover target) = orders w (command.Handover target)
happens w event.Clear = orders w command.Clear
happens w event.Retry = retries w
happens w event.Survey = surveys w
happens w (event.Plan promote_at demote_below) = plans w promote_at demote_below

-- the line's place first, and then what happens
abbrev pub step : World → ℕ → Event → World × Line
step w place e = happens (record w { place = place }) e

-- the events of a schedule from this place on
unfoldable pub run : World → ℕ → List Event → World × List Line
run w place [] = (w, [])
run w place (e ∷ events) =
    let now = step w place e in
    let rest = run now.0 (place + 1) events in
    (rest.0, now.1 ∷ rest.1)
