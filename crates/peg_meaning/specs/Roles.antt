-- The words that run one node over a wire: a switch, a server, a client that asks and the
-- controller.
--     Serving, serves      a node that takes so many turns: each datagram is one step
--     switch_word, server_word      a switch, whose pick is the number of datagrams before, and a
--         server
--     datagrams_text n      what such a word writes at its end
--     switch_start, server_start, ask_start, control_start      each as it begins
--     Asker, asks      a client that begins an operation for each line, and sends it until it is
--         answered
--     Call, call, Console, controls      the controller, which makes a call for each line, and
--         sends it until it is settled
--     IsAskLine, IsCallLine      the lines of these two
use Rattle.std.specs.Prelude.{◌≡◌, ◌≤◌, ◌+◌, ◌-◌, ℕ, Bool, true, false, not, ◌&&◌, ◌==◌}
use Rattle.std.specs.Prelude.{Option, Some, None, is_none, List, [], ◌++◌, length, if◌then◌else◌}
use Rattle.std.specs.Prelude.{codes, decimal, Contains}
use Rattle.peg_name.specs.Name.{Rack, value_most, line_most}
use Rattle.peg_name.specs.declared.Format.{Format}
use Rattle.peg_name.specs.declared.Format.TheVariants.{Two}
use Rattle.peg_name.specs.declared.value.Content.TheVariants.{Absent, Present}
use Rattle.peg_name.specs.declared.Node.{Node}
use Rattle.peg_name.specs.declared.Node.TheVariants as node
use Rattle.peg_event.specs.declared.answers.Ask.{Ask}
use Rattle.peg_event.specs.declared.answers.Ask.TheVariants as ask
use Rattle.peg_event.specs.declared.answers.Issue.{Issue}
use Rattle.peg_event.specs.declared.answers.Issue.TheVariants as issue
use Rattle.peg_event.specs.declared.Event.{Event}
use Rattle.peg_event.specs.declared.Event.TheVariants as event
use Rattle.peg_event.specs.declared.Command.{Command}
use Rattle.peg_event.specs.declared.Command.TheVariants as command
use Rattle.peg_event.specs.declared.ClientDid.{ClientDid}
use Rattle.peg_event.specs.declared.ClientDid.TheVariants as client_did
use Rattle.peg_event.specs.declared.ControlDid.{ControlDid}
use Rattle.peg_event.specs.declared.ControlDid.TheVariants as control_did
use Rattle.peg_event.specs.declared.Said.{Said}
use Rattle.peg_event.specs.declared.Said.TheVariants as said
use Rattle.peg_model.specs.Words.{Step}
use Rattle.peg_model.specs.Packet.{Packet}
use Rattle.peg_model.specs.Client.{Client, new_client, begin_operation, resend, give_up}
use Rattle.peg_model.specs.Server.{Server, new_server}
use Rattle.peg_model.specs.Switch.{Switch, new_switch}
use Rattle.peg_model.specs.Controller.{Controller, new_controller, order_command, retry_command}
use Rattle.peg_model.specs.Controller.{survey, make_plan}
use Rattle.peg_model.specs.Datagrams.{client_on_bytes, server_on_bytes, switch_on_bytes}
use Rattle.peg_model.specs.Datagrams.{controller_on_bytes}
use Rattle.peg_model.specs.World.{order_said, retry_said, plan_said}
use Rattle.peg_model.specs.Text.{key_word, value_word}
use Rattle.peg_model.specs.Schedule.{event_lines, EventInRange, IsKeyOfBytes, AreBytes, fed}
use Rattle.peg_model.specs.Trace.{client_text, said_text}
use Rattle.peg_meaning.specs.Session.{Meaning, Input, Entry, Datagram, Quiet, Tick, Letter, Came}
use Rattle.peg_meaning.specs.Session.{Answer, Goes, Past, begun, quietly, saying, at_port, room}
use Rattle.peg_meaning.specs.Session.{posted}
use Rattle.peg_meaning.specs.declared.Want.{Want}
use Rattle.peg_meaning.specs.declared.Want.TheVariants as want

-- a word reads so many lines
abbrev pub lines_most : ℕ
lines_most = 1000000

-- ---- a node that takes turns

-- so many turns are left, and so many of those before were datagrams
pub record Serving (N : Type 0) : Type 0 where
  pub node : N
  pub base : ℕ
  pub format : Format
  pub left : ℕ
  pub datagrams : ℕ
  pub is_over : Bool

abbrev pub serving : {N : Type 0} → N → ℕ → Format → ℕ → Serving N
serving node base format turns =
    record {
      node = node;
      base = base;
      format = format;
      left = turns;
      datagrams = 0;
      is_over = false;
    }

-- the line that is written once the turns are used
abbrev pub datagrams_text : ℕ → List ℕ
datagrams_text n = fed (codes "datagrams " ++ decimal n)

-- a node's step takes a datagram and the number of datagrams before it
module _ {N : Type 0} (step : N → List ℕ → ℕ → N × List (Node × Packet)) where
  abbrev pub serving_want : Serving N → Want
  serving_want s =
      if s.is_over then want.Over
      else (if s.left == 0 then want.Step else want.Turn 0 (room s.format))

  abbrev pub serving_datagram : Serving N → List ℕ → Came (Serving N)
  serving_datagram s bytes =
      let now = step s.node bytes s.datagrams in
      record {
        state =
            record s { node = now.0; left = s.left - 1; datagrams = s.datagrams + 1 };
        text = [];
        binds = [];
        letters = posted 0 s.base s.format now.1;
      }

  abbrev pub serving_on : Serving N → Input ⊥ → Answer (Serving N)
  serving_on s (Datagram bytes) = Goes (serving_datagram s bytes)
  serving_on s Quiet = Goes (quietly (record s { left = s.left - 1 }))
  serving_on s Tick = Goes (saying (record s { is_over = true }) (datagrams_text s.datagrams))
  serving_on s (Entry e) = Past

  abbrev pub serves : Meaning (Serving N) ⊥
  serves = record { want = serving_want; Reads = λ s line e. ⊥; on = serving_on }

abbrev pub switch_turn : Switch → List ℕ → ℕ → Switch × List (Node × Packet)
switch_turn s bytes pick = let step = switch_on_bytes s bytes pick in (step.state, step.sent)

abbrev pub server_turn : Server → List ℕ → ℕ → Server × List (Node × Packet)
server_turn s bytes pick = let step = server_on_bytes s bytes in (step.state, step.sent)

abbrev pub switch_word : Meaning (Serving Switch) ⊥
switch_word = serves switch_turn

abbrev pub server_word : Meaning (Serving Server) ⊥
server_word = serves server_turn

-- the nodes are made without keys
abbrev pub switch_start : ℕ → Rack → ℕ → ℕ → Came (Serving Switch)
switch_start base rack id turns =
    at_port base (node.Switch id) (serving (new_switch rack [] id) base rack.format turns)

abbrev pub server_start : ℕ → Rack → ℕ → ℕ → Came (Serving Server)
server_start base rack id turns =
    at_port base (node.Server id) (serving (new_server rack id) base rack.format turns)

-- ---- the phases of a word that sends until something comes of it

-- while a line is carried out: so many further sends and, since the last one, turns are left
pub data Phase : Type 0 where
  Reading : Phase
  Awaiting : (sends turns : ℕ) → Phase

-- once the turns after a send are used, it goes on by a step of its own
abbrev pub phase_want : ℕ → ℕ → Phase → Want
phase_want limit room Reading = want.Line limit true
phase_want limit room (Awaiting sends turns) =
    if turns == 0 then want.Step else want.Turn 0 room

-- ---- ask

-- a key, and what is asked of it
abbrev pub Asked : Type 0
Asked = List ℕ × Ask

abbrev pub ask_line : Asked → List ℕ
ask_line (key, ask.Read) = codes "read " ++ key_word key
ask_line (key, ask.Write (Present value)) =
    codes "write " ++ key_word key ++ codes " " ++ value_word value
ask_line (key, ask.Write Absent) = codes "delete " ++ key_word key

abbrev pub AskInFormat : Format → Ask → Type 0
AskInFormat format ask.Read = Unit {0}
AskInFormat format (ask.Write (Present value)) =
    (length value ≤ value_most format) × AreBytes value
AskInFormat format (ask.Write Absent) = format ≡ Two

pub record IsAskLine (format : Format) (line : List ℕ) (asked : Asked) : Type 0 where
  pub key : IsKeyOfBytes asked.0
  pub content : AskInFormat format asked.1
  pub spelled : line ≡ ask_line asked

-- at most `tries` sends of an operation, and `waits` turns after each
pub record Asker : Type 0 where
  pub client : Client
  pub base : ℕ
  pub tries : ℕ
  pub waits : ℕ
  pub lines : ℕ
  pub phase : Phase

abbrev pub asker : ℕ → Format → ℕ → ℕ → ℕ → ℕ → Asker
asker base format id first tries waits =
    record {
      client = new_client format id first;
      base = base;
      tries = tries;
      waits = waits;
      lines = 0;
      phase = Reading;
    }

abbrev pub ask_start : ℕ → Format → ℕ → ℕ → ℕ → ℕ → Came Asker
ask_start base format id first tries waits =
    at_port base (node.Client id) (asker base format id first tries waits)

abbrev pub sends_of : Asker → List (Node × Packet) → List Letter
sends_of s sent = posted 0 s.base s.client.format sent

abbrev pub unanswered_line : Option ℕ → List ℕ
unanswered_line None = []
unanswered_line (Some seq) = fed (codes "unanswered " ++ decimal seq)

abbrev pub gives_up : Asker → Came Asker
gives_up s =
    let step = give_up s.client in
    saying (record s { client = step.state; phase = Reading }) (unanswered_line step.did)

-- once the turns after a send are used: so many further sends are left
abbrev pub asks_again : Asker → ℕ → Came Asker
asks_again s left =
    let step = resend s.client in
    if left == 0 then gives_up s
    else begun (record s { client = step.state; phase = Awaiting (left - 1) s.waits }) []
    (sends_of s step.sent)

abbrev pub issued : Issue → Asker → List Letter → Came Asker
issued (issue.Sent seq) s sends =
    begun (record s { phase = Awaiting (s.tries - 1) s.waits }) [] sends
issued issue.Spent s sends = saying s (fed (codes "spent"))
-- nothing is pending when a line is read
issued (issue.Busy seq) s sends = quietly s

abbrev pub issues : Asker → Asked → Came Asker
issues s asked =
    let step = begin_operation s.client asked.0 asked.1 in
    let now : Asker = record s { client = step.state; lines = s.lines + 1; phase = Reading } in
    issued step.did now (sends_of s step.sent)

abbrev pub turn_used : Asker → ℕ → ℕ → Came Asker
turn_used s left turns = quietly (record s { phase = Awaiting left (turns - 1) })

abbrev pub is_answer : ClientDid → Bool
is_answer (client_did.Wrote seq version) = true
is_answer (client_did.Read seq version content) = true
is_answer _ = false

abbrev pub hears : ClientDid → Asker → ℕ → ℕ → Came Asker
hears did s left turns =
    if is_answer did then saying (record s { phase = Reading }) (fed (client_text did))
    else turn_used s left turns

abbrev pub ask_datagram : List ℕ → Asker → ℕ → ℕ → Came Asker
ask_datagram bytes s left turns =
    let step = client_on_bytes s.client bytes in
    hears step.did (record s { client = step.state }) left turns

abbrev pub ask_on : Phase → Asker → Input Asked → Answer Asker
ask_on Reading s (Entry asked) = if s.lines == lines_most then Past else Goes (issues s asked)
ask_on (Awaiting left turns) s (Datagram bytes) = Goes (ask_datagram bytes s left turns)
ask_on (Awaiting left turns) s Quiet = Goes (turn_used s left turns)
ask_on (Awaiting left turns) s Tick = Goes (asks_again s left)
ask_on _ s _ = Past

abbrev pub ask_want : Asker → Want
ask_want s = phase_want (line_most s.client.format) (room s.client.format) s.phase

abbrev pub asks : Meaning Asker Asked
asks =
    record {
      want = ask_want;
      Reads = λ s line asked. IsAskLine s.client.format line asked;
      on = λ s input. ask_on s.phase s input;
    }

-- ---- control

-- what a line has the controller do
pub data Call : Type 0 where
  Orders : (command : Command) → Call
  Retries : Call
  Surveys : Call
  Plans : (promote_at demote_below : ℕ) → Call

abbrev pub command_event : Command → Event
command_event (command.Promote key) = event.Promote key
command_event (command.Demote key) = event.Demote key
command_event (command.Copy key target) = event.Copy key target
command_event (command.Fence key) = event.Fence key
command_event (command.Handover target) = event.Handover target
command_event command.Clear = event.Clear

abbrev pub call_event : Call → Event
call_event (Orders c) = command_event c
call_event Retries = event.Retry
call_event Surveys = event.Survey
call_event (Plans promote_at demote_below) = event.Plan promote_at demote_below

-- the lines are those of a schedule
pub record IsCallLine (line : List ℕ) (c : Call) : Type 0 where
  pub in_range : EventInRange (call_event c)
  pub spelled : Contains (event_lines (call_event c)) line

abbrev pub saying_as :
    {D : Type 0} → (D → Said) → Step Controller (Node × Packet) D
    → Step Controller (Node × Packet) Said
saying_as said_of step =
    record { state = step.state; sent = step.sent; did = said_of step.did }

abbrev pub surveys_said : Unit {0} → Said
surveys_said did = said.Surveys

abbrev pub call : Controller → Call → Step Controller (Node × Packet) Said
call c (Orders command) = saying_as (order_said command) (order_command c command)
call c Retries = saying_as retry_said (retry_command c)
call c Surveys = saying_as surveys_said (survey c)
call c (Plans promote_at demote_below) =
    saying_as plan_said (make_plan c promote_at demote_below)

abbrev pub is_refused : Said → Bool
is_refused (said.ControlBusy pending) = true
is_refused (said.ControlSpent last) = true
is_refused (said.NoSuch target) = true
is_refused (said.SameSwitch switch) = true
is_refused said.NoReport = true
is_refused _ = false

abbrev pub is_survey : Call → Bool
is_survey Surveys = true
is_survey _ = false

abbrev pub is_report : ControlDid → Bool
is_report (control_did.HasReport rows) = true
is_report _ = false

-- while a line is carried out: whether it still waits for a report
pub record Console : Type 0 where
  pub controller : Controller
  pub base : ℕ
  pub tries : ℕ
  pub waits : ℕ
  pub lines : ℕ
  pub is_surveying : Bool
  pub phase : Phase

abbrev pub console : ℕ → Rack → ℕ → ℕ → Console
console base rack tries waits =
    record {
      controller = new_controller rack [];
      base = base;
      tries = tries;
      waits = waits;
      lines = 0;
      is_surveying = false;
      phase = Reading;
    }

abbrev pub control_start : ℕ → Rack → ℕ → ℕ → Came Console
control_start base rack tries waits =
    at_port base node.Controller (console base rack tries waits)

-- no command is pending, and a survey has its report
abbrev pub is_settled : Console → Bool
is_settled s = is_none s.controller.pending && not s.is_surveying

-- what an unsettled line makes the controller do again
abbrev pub call_again : Bool → Option Command → Call
call_again true None = Surveys
call_again surveying pending = Retries

abbrev pub unanswered_text : Option Command → ℕ → List ℕ
unanswered_text None last = codes "controller unanswered survey"
unanswered_text (Some command) last = codes "controller unanswered " ++ decimal last

abbrev pub console_sends : Console → List (Node × Packet) → List Letter
console_sends s sent = posted 0 s.base s.controller.rack.format sent

-- the line is carried out
abbrev pub done : Console → Console
done s = record s { is_surveying = false; phase = Reading }

-- so many further sends and turns are left, unless the line is settled
abbrev pub waits_on : Console → ℕ → ℕ → Console
waits_on s left turns = if is_settled s then done s else record s { phase = Awaiting left turns }

-- a step of the controller: its text, and what it sent
abbrev pub reported : Console → Said → List Letter → Came Console
reported s did sends =
    record { state = s; text = fed (said_text did); binds = []; letters = sends }

-- once the turns after a send are used: so many further sends are left
abbrev pub calls_again : Console → ℕ → Came Console
calls_again s left =
    let step = call s.controller (call_again s.is_surveying s.controller.pending) in
    if left == 0
    then saying (done s) (fed (unanswered_text s.controller.pending s.controller.last))
    else reported (record s { controller = step.state; phase = Awaiting (left - 1) s.waits })
    step.did (console_sends s step.sent)

abbrev pub calls : Console → Call → Came Console
calls s c =
    let step = call s.controller c in
    let now : Console =
    record s {
      controller = step.state;
      lines = s.lines + 1;
      is_surveying = is_survey c;
      phase = Reading;
    } in
    reported (if is_refused step.did then done now else waits_on now (s.tries - 1) s.waits)
    step.did (console_sends s step.sent)

abbrev pub control_datagram : List ℕ → Console → ℕ → ℕ → Came Console
control_datagram bytes s left turns =
    let step = controller_on_bytes s.controller bytes in
    let now : Console =
    record s {
      controller = step.state;
      is_surveying = s.is_surveying && not (is_report step.did);
    } in
    reported (waits_on now left (turns - 1)) (said.Controller step.did)
    (console_sends s step.sent)

abbrev pub control_on : Phase → Console → Input Call → Answer Console
control_on Reading s (Entry c) = if s.lines == lines_most then Past else Goes (calls s c)
control_on (Awaiting left turns) s (Datagram bytes) =
    Goes (control_datagram bytes s left turns)
control_on (Awaiting left turns) s Quiet = Goes (quietly (waits_on s left (turns - 1)))
control_on (Awaiting left turns) s Tick = Goes (calls_again s left)
control_on _ s _ = Past

abbrev pub control_want : Console → Want
control_want s = phase_want 2048 (room s.controller.rack.format) s.phase

abbrev pub controls : Meaning Console Call
controls =
    record {
      want = control_want;
      Reads = λ s line c. IsCallLine line c;
      on = λ s input. control_on s.phase s input;
    }
