-- What each event makes of the clients and of the operations, and whether its line says that an
-- operation is answered.
use Rattle.std.proofs.Common.{◌≡◌, ◌⊎◌, inl, inr, ◌+◌, ◌==◌, ◌&&◌, not, ℕ, Bool, true, false}
use Rattle.std.proofs.Common.{Option, Some, None, List, [], ◌∷◌, ◌++◌, refl, ap, ◌∙◌}
use Rattle.std.proofs.Common.{slice_get, arith}
use Rattle.std.specs.Prelude.{slice_set, if◌then◌else◌, nat_lt}
use Rattle.std.specs.Str.{bytes_eq}
use Rattle.std.proofs.lemmas.Grind.{common_steps}
use Rattle.peg_name.specs.declared.value.Content.{Content}
use Rattle.peg_name.specs.declared.value.Content.TheVariants.{Absent, Present}
use Rattle.peg_name.specs.declared.Format.{Format}
use Rattle.peg_name.specs.declared.Node.{Node}
use Rattle.peg_name.specs.declared.Node.TheVariants as node
use Rattle.peg_event.specs.declared.history.Act.{Act}
use Rattle.peg_event.specs.declared.history.Act.TheVariants as act
use Rattle.peg_event.specs.declared.answers.Ask.{Ask}
use Rattle.peg_event.specs.declared.answers.Ask.TheVariants as ask
use Rattle.peg_event.specs.declared.ClientDid.{ClientDid}
use Rattle.peg_event.specs.declared.ClientDid.TheVariants as client_did
use Rattle.peg_event.specs.declared.Command.{Command}
use Rattle.peg_event.specs.declared.Command.TheVariants as command
use Rattle.peg_event.specs.declared.Event.{Event}
use Rattle.peg_event.specs.declared.Event.TheVariants as event
use Rattle.peg_event.specs.declared.answers.Issue.{Issue}
use Rattle.peg_event.specs.declared.answers.Issue.TheVariants as issue
use Rattle.peg_event.specs.declared.Line.{Line}
use Rattle.peg_event.specs.declared.history.Op.{Op}
use Rattle.peg_event.specs.declared.answers.Order.{Order}
use Rattle.peg_event.specs.declared.answers.Order.TheVariants as order
use Rattle.peg_event.specs.declared.Outcome.TheVariants as outcome
use Rattle.peg_event.specs.declared.answers.Pending.{Pending}
use Rattle.peg_event.specs.declared.answers.Plan.{Plan}
use Rattle.peg_event.specs.declared.answers.Plan.TheVariants as plan
use Rattle.peg_event.specs.declared.answers.Retry.{Retry}
use Rattle.peg_event.specs.declared.answers.Retry.TheVariants as retry
use Rattle.peg_event.specs.declared.Said.{Said}
use Rattle.peg_event.specs.declared.Said.TheVariants as said
use Rattle.peg_event.specs.declared.ServerDid.{ServerDid}
use Rattle.peg_event.specs.declared.ServerDid.TheVariants as server_did
use Rattle.peg_event.specs.declared.SwitchDid.{SwitchDid}
use Rattle.peg_event.specs.declared.SwitchDid.TheVariants as switch_did
use Rattle.peg_model.specs.Words.{Step, refuse, last_number}
use Rattle.peg_model.specs.Packet as packet
use Rattle.peg_model.specs.Packet.{Packet}
use Rattle.peg_model.specs.Reading.{packet_of}
use Rattle.peg_model.specs.Rules.{base_of}
use Rattle.peg_model.specs.Client.{Client, request, begin_unless, resend_of, give_up_of}
use Rattle.peg_model.specs.Client.{is_read, matches, is_read_of, is_write_of, awaits_read}
use Rattle.peg_model.specs.Client.{awaits_write, answered, client_step}
use Rattle.peg_model.specs.Controller.{order_command, retry_command, make_plan}
use Rattle.peg_model.specs.Server.{server_step}
use Rattle.peg_model.specs.Switch.{Switch, switch_step}
use Rattle.peg_model.specs.World as world
use Rattle.peg_model.specs.World.{World, Operation, AppliedFence, client_of, server_of, switch_of}
use Rattle.peg_model.specs.World.{with_client, with_server, with_switch, reports, after_issue}
use Rattle.peg_model.specs.World.{after_client, after_server, after_switch, promoted, new_op}
use Rattle.peg_model.specs.World.{changed_at, stamped_as, answered_as, issue_said, issues}
use Rattle.peg_model.specs.World.{resend_said, give_up_said, client_stepped, delivers}
use Rattle.peg_model.specs.World.{delivers_item, junk_said, order_said, retry_said, plan_said}
use Rattle.peg_model.specs.World.{happens}
use Rattle.peg_trace.specs.Answers.{is_answer}

-- ---- words

abbrev pub says_answer : Said → Bool
says_answer (said.Client client did) = is_answer did
says_answer _ = false

abbrev pub act_of : Ask → Act
act_of ask.Read = act.Read
act_of (ask.Write content) = act.Write

-- what the client did answers what it asked, with the content that was given
abbrev pub Answers : ClientDid → Ask → Content → Type 0
Answers (client_did.Wrote seq version) a given = act_of a ≡ act.Write
Answers (client_did.Read seq version content) a given = (act_of a ≡ act.Read) × (given ≡ content)
Answers _ a given = ⊥

-- ---- what becomes of the clients and the operations

pub record HasMoved (c d : Client) : Type 0 where
  pub id : d.id ≡ c.id
  pub next : d.next ≡ c.next
  pub pending : (d.pending ≡ c.pending) ⊎ (d.pending ≡ None)

pub record HasBegun (id : ℕ) (c d : Client) (op : Op) (p : Pending) : Type 0 where
  pub id_is : d.id ≡ c.id
  pub next : d.next ≡ c.next + 1
  pub pending : d.pending ≡ Some p
  pub seq : p.seq ≡ c.next
  pub client : op.client ≡ id
  pub is_open : op.answered ≡ None
  pub kind : op.act ≡ act_of p.ask

pub record HasAnswer (c d : Client) (p : Pending) (did : ClientDid) (given : Content) : Type 0 where
  pub id : d.id ≡ c.id
  pub next : d.next ≡ c.next
  pub pending : d.pending ≡ None
  pub was : c.pending ≡ Some p
  pub answers : Answers did p.ask given

pub data Turn (place : ℕ) (w : World) (clients : List Client) (os : List Operation) (s : Said) :
    Type 0 where
  Rests : clients ≡ w.clients → os ≡ w.operations → says_answer s ≡ false → Turn place w clients os s
  Stamps :
      (client seq version : ℕ) → clients ≡ w.clients
      → os ≡ changed_at client seq (stamped_as version) w.operations → says_answer s ≡ false
      → Turn place w clients os s
  Moves :
      (id : ℕ) (d : Client) → clients ≡ slice_set w.clients d.id d → os ≡ w.operations
      → HasMoved (client_of w id) d → says_answer s ≡ false → Turn place w clients os s
  Begins :
      (id : ℕ) (d : Client) (op : Op) (p : Pending) → clients ≡ slice_set w.clients d.id d
      → os ≡ w.operations ++ record { op = op; seq = (client_of w id).next; tag = 0 } ∷ []
      → HasBegun id (client_of w id) d op p → says_answer s ≡ false → Turn place w clients os s
  Takes :
      (id version : ℕ) (d : Client) (p : Pending) (did : ClientDid) (fences : List AppliedFence)
      (given : Content)
      → clients ≡ slice_set w.clients d.id d
      → os ≡ changed_at id p.seq (answered_as fences place version given) w.operations
      → HasAnswer (client_of w id) d p did given → s ≡ said.Client id did
      → Turn place w clients os s

abbrev pub Turns : World → World × Line → Type 0
Turns w r = Turn w.place w r.0.clients r.0.operations r.1.said

module _ (w : World) where
  rests : (r : World × Line) → r.0.clients ≡ w.clients → r.0.operations ≡ w.operations
      → says_answer r.1.said ≡ false → Turns w r
  rests r clients os quiet = Rests clients os quiet

  -- ---- a client issues

  abbrev issue_of :
      ℕ → List ℕ → Ask → Step Client (Node × Packet) Issue → World × Line
  issue_of client key a step =
      reports (after_issue (with_client w step.state) (new_op client key a w.place) step.did)
      step.sent (issue_said client a step.did)

  stays : (client : ℕ) (s : Said) → says_answer s ≡ false
      → Turn w.place w (slice_set w.clients (client_of w client).id (client_of w client))
      w.operations s
  stays client s quiet =
      Moves client (client_of w client) refl refl
      (record { id = refl; next = refl; pending = inl refl }) quiet

  busy_quiet : (client seq : ℕ) (a : Ask) → says_answer (issue_said client a (issue.Busy seq)) ≡ false
  busy_quiet client seq ask.Read = refl
  busy_quiet client seq (ask.Write (Present value)) = refl
  busy_quiet client seq (ask.Write Absent) = refl

  spent_quiet : (client : ℕ) (a : Ask) → says_answer (issue_said client a issue.Spent) ≡ false
  spent_quiet client ask.Read = refl
  spent_quiet client (ask.Write (Present value)) = refl
  spent_quiet client (ask.Write Absent) = refl

  sent_quiet : (client seq : ℕ) (a : Ask) → says_answer (issue_said client a (issue.Sent seq)) ≡ false
  sent_quiet client seq ask.Read = refl
  sent_quiet client seq (ask.Write (Present value)) = refl
  sent_quiet client seq (ask.Write Absent) = refl

  op_client : (client : ℕ) (key : List ℕ) (a : Ask) → (new_op client key a w.place).client ≡ client
  op_client client key ask.Read = refl
  op_client client key (ask.Write content) = refl

  op_open : (client : ℕ) (key : List ℕ) (a : Ask) → (new_op client key a w.place).answered ≡ None
  op_open client key ask.Read = refl
  op_open client key (ask.Write content) = refl

  op_act : (client : ℕ) (key : List ℕ) (a : Ask) → (new_op client key a w.place).act ≡ act_of a
  op_act client key ask.Read = refl
  op_act client key (ask.Write content) = refl

  issues_by :
      (client : ℕ) (key : List ℕ) (a : Ask) (b : Bool) (x y : Step Client (Node × Packet) Issue)
      → Turns w (issue_of client key a x) → Turns w (issue_of client key a y)
      → Turns w (issue_of client key a (if b then x else y))
  issues_by client key a true x y f g = f
  issues_by client key a false x y f g = g

  issues_unless :
      (client : ℕ) (key : List ℕ) (a : Ask) (pending : Option Pending)
      → Turns w (issue_of client key a (begin_unless pending (client_of w client) key a))
  issues_unless client key a (Some p) = stays client (issue_said client a (issue.Busy p.seq)) (busy_quiet client p.seq a)
  issues_unless client key a None =
      let c = client_of w client in
      let p : Pending = record { seq = c.next; key = key; ask = a } in
      let d : Client = record c { next = c.next + 1; pending = Some p } in
      issues_by client key a (c.next == last_number) (refuse c issue.Spent)
      (record { state = d; sent = request c p; did = issue.Sent c.next })
      (stays client (issue_said client a issue.Spent) (spent_quiet client a))
      (Begins client d (new_op client key a w.place) p refl refl
      (record {
        id_is = refl;
        next = refl;
        pending = refl;
        seq = refl;
        client = op_client client key a;
        is_open = op_open client key a;
        kind = op_act client key a;
      }) (sent_quiet client c.next a))

  issue_turn : (client : ℕ) (key : List ℕ) (a : Ask) → Turns w (issues w client key a)
  issue_turn client key a = issues_unless client key a (client_of w client).pending

  -- ---- a client sends again, or gives up

  resend_turn :
      (client : ℕ) (pending : Option Pending)
      → let step = resend_of pending (client_of w client) in
      Turns w (reports (with_client w step.state) step.sent (resend_said client step.did))
  resend_turn client None = stays client (said.NothingOpen client) refl
  resend_turn client (Some p) = stays client (said.Resend client p.seq) refl

  give_up_turn :
      (client : ℕ) (pending : Option Pending)
      → let step = give_up_of pending (client_of w client) in
      Turns w (reports (with_client w step.state) step.sent (give_up_said client step.did))
  give_up_turn client None = stays client (said.NothingOpen client) refl
  give_up_turn client (Some p) =
      Moves client (record (client_of w client) { pending = None }) refl refl
      (record { id = refl; next = refl; pending = inr refl }) refl

-- ---- a client is handed a packet

and_true : (a b : Bool) → (a && b) ≡ true → (a ≡ true) × (b ≡ true)
and_true true b e = (refl, e)
and_true false b e = absurd (cc)

same_number : (a b : ℕ) → (a == b) ≡ true → a ≡ b
same_number a b e = grind (arith, common_steps, e)

pub record Awaits (o : Option Pending) (seq : ℕ) (kind : Act) : Type 0 where
  pub pending : Pending
  pub was : o ≡ Some pending
  pub seq_is : seq ≡ pending.seq
  pub kind_is : act_of pending.ask ≡ kind

asks_read : (a : Ask) → is_read a ≡ true → act_of a ≡ act.Read
asks_read ask.Read e = refl
asks_read (ask.Write content) e = absurd (cc)

asks_write : (a : Ask) → not (is_read a) ≡ true → act_of a ≡ act.Write
asks_write ask.Read e = absurd (cc)
asks_write (ask.Write content) e = refl

seq_matches :
    (c : Client) (p : Pending) (client seq : ℕ) (key : List ℕ) → matches c p client seq key ≡ true
    → seq ≡ p.seq
seq_matches c p client seq key e =
    let both = and_true (client == c.id && seq == p.seq) (bytes_eq key p.key) e in
    let these = and_true (client == c.id) (seq == p.seq) both.0 in same_number seq p.seq these.1

reads_await :
    (o : Option Pending) (c : Client) (client seq : ℕ) (key : List ℕ)
    → is_read_of o c client seq key ≡ true → Awaits o seq act.Read
reads_await None c client seq key e = absurd (cc)
reads_await (Some p) c client seq key e =
    let both = and_true (is_read p.ask) (matches c p client seq key) e in
    record {
      pending = p;
      was = refl;
      seq_is = seq_matches c p client seq key both.1;
      kind_is = asks_read p.ask both.0;
    }

writes_await :
    (o : Option Pending) (c : Client) (client seq : ℕ) (key : List ℕ)
    → is_write_of o c client seq key ≡ true → Awaits o seq act.Write
writes_await None c client seq key e = absurd (cc)
writes_await (Some p) c client seq key e =
    let both = and_true (not (is_read p.ask)) (matches c p client seq key) e in
    record {
      pending = p;
      was = refl;
      seq_is = seq_matches c p client seq key both.1;
      kind_is = asks_write p.ask both.0;
    }

module _ (w : World) (id : ℕ) where
  abbrev c : Client
  c = client_of w id

  took :
      (seq version : ℕ) (given : Content) (did : ClientDid) (kind : Act) → Awaits c.pending seq kind
      → (after_client (with_client w (answered c did).state) id did).operations
      ≡ changed_at id seq (answered_as w.fences w.place version given) w.operations
      → (after_client (with_client w (answered c did).state) id did).clients
      ≡ slice_set w.clients c.id (answered c did).state
      → ((p : Pending) → act_of p.ask ≡ kind → Answers did p.ask given)
      → Turns w (client_stepped w id (answered c did))
  took seq version given did kind a os clients answers =
      Takes id version (answered c did).state a.pending did w.fences given clients
      (os ∙ ap (λ n. changed_at id n (answered_as w.fences w.place version given) w.operations)
      a.seq_is)
      (record {
        id = refl;
        next = refl;
        pending = refl;
        was = a.was;
        answers = answers a.pending a.kind_is;
      }) refl

  ignores : Turns w (client_stepped w id (refuse c client_did.Ignored))
  ignores = stays w id (said.Client id client_did.Ignored) refl

  read_taken :
      (b : Bool) (seq version : ℕ) (content : Content) → (b ≡ true → Awaits c.pending seq act.Read)
      → Turns w (client_stepped w id
      (if b then answered c (client_did.Read seq version content) else refuse c client_did.Ignored))
  read_taken true seq version content awaits =
      took seq version content (client_did.Read seq version content) act.Read (awaits refl) refl refl
      (λ p e. (e, refl))
  read_taken false seq version content awaits = ignores

  write_taken :
      (b : Bool) (seq version : ℕ) → (b ≡ true → Awaits c.pending seq act.Write)
      → Turns w (client_stepped w id
      (if b then answered c (client_did.Wrote seq version) else refuse c client_did.Ignored))
  write_taken true seq version awaits =
      took seq version Absent (client_did.Wrote seq version) act.Write (awaits refl) refl refl
      (λ p e. e)
  write_taken false seq version awaits = ignores

  abbrev moves_to : ℕ → ℕ → Step Client (Node × Packet) ClientDid
  moves_to switch epoch =
      record {
        state = record c { switch = switch; epoch = epoch };
        sent = [];
        did = client_did.Moved switch epoch;
      }

  moved :
      (b : Bool) (epoch switch : ℕ)
      → Turns w (client_stepped w id
      (if b then moves_to switch epoch else refuse c client_did.Ignored))
  moved true epoch switch =
      Moves id (record c { switch = switch; epoch = epoch }) refl refl
      (record { id = refl; next = refl; pending = inl refl }) refl
  moved false epoch switch = ignores

  client_turn : (p : Packet) → Turns w (client_stepped w id (client_step c p))
  unfolding client_step
  client_turn (packet.ReadReply client seq version server switch key content) =
      read_taken (awaits_read c client seq key) seq version content
      (λ e. reads_await c.pending c client seq key e)
  client_turn (packet.WriteReply client seq version server switch key) =
      write_taken (awaits_write c client seq key) seq version
      (λ e. writes_await c.pending c client seq key e)
  client_turn (packet.Announce epoch switch) = moved (nat_lt c.epoch epoch) epoch switch
  client_turn _ = ignores

-- ---- other nodes

module _ (w : World) where
  server_turn : (v : World) (id : ℕ) (d : ServerDid) (sent : List (Node × Packet))
      → v.clients ≡ w.clients → v.operations ≡ w.operations
      → Turns w (reports (after_server v d) sent (said.Server id d))
  server_turn v id (server_did.Fenced key version held) sent clients os = Rests clients os refl
  server_turn v id _ sent clients os = Rests clients os refl

  promote_turn :
      (v : World) (id : ℕ) (d : SwitchDid) (key : List ℕ) (base : Option ℕ)
      (sent : List (Node × Packet))
      → v.clients ≡ w.clients → v.operations ≡ w.operations
      → Turns w (reports (promoted v key base) sent (said.Switch id d))
  promote_turn v id d key None sent clients os = Rests clients os refl
  promote_turn v id d key (Some base) sent clients os = Rests clients os refl

  switch_turn :
      (v : World) (id : ℕ) (s : Switch) (p : Packet) (d : SwitchDid) (sent : List (Node × Packet))
      → v.clients ≡ w.clients → v.operations ≡ w.operations
      → Turns w (reports (after_switch v s p d) sent (said.Switch id d))
  switch_turn v id s (packet.Write client seq key content)
      (switch_did.Wrote server written version) sent clients os =
      Stamps client seq version clients (ap (changed_at client seq (stamped_as version)) os) refl
  switch_turn v id s (packet.Command number (packet.Promote key))
      (switch_did.Applied applied (outcome.Listed listing)) sent clients os =
      promote_turn v id (switch_did.Applied applied (outcome.Listed listing)) key
      (base_of s.entries key) sent clients os
  switch_turn v id s _ _ sent clients os = Rests clients os refl

  deliver_turn : (to : Node) (p : Packet) (pick : ℕ) → Turns w (delivers w to p pick)
  deliver_turn (node.Client id) p pick = client_turn w id p
  deliver_turn (node.Server id) p pick =
      let step = server_step (server_of w id) p in
      server_turn (with_server w step.state) id step.did step.sent refl refl
  deliver_turn (node.Switch id) p pick =
      let step = switch_step (switch_of w id) p pick in
      switch_turn (with_switch w step.state) id step.state p step.did step.sent refl refl
  deliver_turn node.Controller p pick = Rests refl refl refl

  item_turn :
      (number : ℕ) (item : Option (Node × Packet)) (pick : ℕ)
      → Turns w (delivers_item w number item pick)
  item_turn number None pick = Rests refl refl refl
  item_turn number (Some item) pick = deliver_turn item.0 item.1 pick

  junk_quiet :
      (to : Node) (read : Option (Format × Packet)) → says_answer (junk_said to read) ≡ false
  junk_quiet to (Some p) = refl
  junk_quiet (node.Client id) None = refl
  junk_quiet (node.Server id) None = refl
  junk_quiet (node.Switch id) None = refl
  junk_quiet node.Controller None = refl

  order_quiet : (command : Command) (d : Order) → says_answer (order_said command d) ≡ false
  order_quiet command (order.Busy pending) = refl
  order_quiet command (order.Spent last) = refl
  order_quiet command (order.NoSuch target) = refl
  order_quiet command (order.SameSwitch switch) = refl
  order_quiet command (order.Sent number) = refl

  retry_quiet : (d : Retry) → says_answer (retry_said d) ≡ false
  retry_quiet (retry.Command number) = refl
  retry_quiet (retry.Announced epoch) = refl

  plan_quiet : (d : Plan) → says_answer (plan_said d) ≡ false
  plan_quiet (plan.Busy pending) = refl
  plan_quiet (plan.Spent last) = refl
  plan_quiet plan.NoReport = refl
  plan_quiet (plan.Planned demotes promotes) = refl

  order_turn : (command : Command) → Turns w (world.orders w command)
  order_turn command =
      Rests refl refl (order_quiet command (order_command w.controller command).did)

  pub turn : (e : Event) → Turns w (happens w e)
  unfolding happens
  turn (event.Read client key) = issue_turn w client key ask.Read
  turn (event.Write client key value) = issue_turn w client key (ask.Write (Present value))
  turn (event.Delete client key) = issue_turn w client key (ask.Write Absent)
  turn (event.Resend client) = resend_turn w client (client_of w client).pending
  turn (event.GiveUp client) = give_up_turn w client (client_of w client).pending
  turn (event.Deliver number pick) = item_turn number (slice_get w.packets number) pick
  turn (event.Junk to bytes) = Rests refl refl (junk_quiet to (packet_of bytes))
  turn (event.Promote key) = order_turn (command.Promote key)
  turn (event.Demote key) = order_turn (command.Demote key)
  turn (event.Copy key target) = order_turn (command.Copy key target)
  turn (event.Fence key) = order_turn (command.Fence key)
  turn (event.Handover target) = order_turn (command.Handover target)
  turn event.Clear = order_turn command.Clear
  turn event.Retry = Rests refl refl (retry_quiet (retry_command w.controller).did)
  turn event.Survey = Rests refl refl refl
  turn (event.Plan promote_at demote_below) =
      Rests refl refl (plan_quiet (make_plan w.controller promote_at demote_below).did)
