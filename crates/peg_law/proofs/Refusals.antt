-- Refusals change nothing and send nothing.
use Rattle.std.proofs.Common.{◌≡◌, ◌+◌, ◌-◌, ◌==◌, not, ℕ, Bool, true, false, List, [], ◌∷◌, Option}
use Rattle.std.proofs.Common.{Some, None, refl, sym, ◌∙◌, ◌++◌, take, filter}
use Rattle.std.specs.Prelude.{if◌then◌else◌, is_none, is_some, nat_lt, length}
use Rattle.peg_name.specs.declared.value.Content.{Content}
use Rattle.peg_name.specs.declared.Format.{Format}
use Rattle.peg_name.specs.declared.Node.{Node}
use Rattle.peg_name.specs.declared.Node.TheVariants as node
use Rattle.peg_name.specs.declared.Row.{Row}
use Rattle.peg_event.specs.declared.answers.Apply.{Apply}
use Rattle.peg_event.specs.declared.answers.Apply.TheVariants as apply
use Rattle.peg_event.specs.declared.answers.Ask.{Ask}
use Rattle.peg_event.specs.declared.ClientDid.{ClientDid}
use Rattle.peg_event.specs.declared.ClientDid.TheVariants as client_did
use Rattle.peg_event.specs.declared.Command.{Command}
use Rattle.peg_event.specs.declared.ControlDid.{ControlDid}
use Rattle.peg_event.specs.declared.ControlDid.TheVariants as control_did
use Rattle.peg_event.specs.declared.answers.CopyFrom.{CopyFrom}
use Rattle.peg_event.specs.declared.answers.CopyFrom.TheVariants as copy_from
use Rattle.peg_event.specs.declared.answers.FenceOf.{FenceOf}
use Rattle.peg_event.specs.declared.answers.FenceOf.TheVariants as fence_at
use Rattle.peg_event.specs.declared.answers.Forward.{Forward}
use Rattle.peg_event.specs.declared.answers.Forward.TheVariants as forward
use Rattle.peg_event.specs.declared.answers.Stored.{Stored}
use Rattle.peg_event.specs.declared.answers.FenceDid.{FenceDid}
use Rattle.peg_event.specs.declared.answers.FenceDid.TheVariants as fence_did
use Rattle.peg_event.specs.declared.answers.Issue.TheVariants as issue
use Rattle.peg_event.specs.declared.answers.Order.TheVariants as order
use Rattle.peg_event.specs.declared.Outcome.{Outcome}
use Rattle.peg_event.specs.declared.answers.Plan.TheVariants as plan
use Rattle.peg_event.specs.declared.answers.Pending.{Pending}
use Rattle.peg_event.specs.declared.ServerDid.TheVariants as server_did
use Rattle.peg_event.specs.declared.SwitchDid.TheVariants as switch_did
use Rattle.peg_event.specs.declared.answers.WriteDid.{WriteDid}
use Rattle.peg_event.specs.declared.answers.WriteDid.TheVariants as write_did
use Rattle.peg_model.specs.Words.{Step, refuse, last_number}
use Rattle.peg_model.specs.Packet as packet
use Rattle.peg_model.specs.Packet.{Packet, What}
use Rattle.peg_model.specs.Reading.{packet_of, is_format}
use Rattle.peg_model.specs.Client as client
use Rattle.peg_model.specs.Client.{Client}
use Rattle.peg_model.specs.Controller as controller
use Rattle.peg_model.specs.Controller.{Controller}
use Rattle.peg_model.specs.Datagrams.{on_bytes, server_on_bytes, client_on_bytes, switch_on_bytes}
use Rattle.peg_model.specs.Datagrams.{controller_on_bytes}
use Rattle.peg_model.specs.Handover.{State, Collected, begun, has_part, with_part, is_whole}
use Rattle.peg_model.specs.Handover.{bytes_of, held_count, state_of}
use Rattle.peg_model.specs.Rules.{Core, read_request, write_request, on_void, copy_source}
use Rattle.peg_model.specs.Rules.{fence_of}
use Rattle.peg_model.specs.Server as server
use Rattle.peg_model.specs.Server.{Server}
use Rattle.peg_model.specs.Switch as switch
use Rattle.peg_model.specs.Switch.{Switch}
use Rattle.peg_law.specs.Refusals.{LeavesAll, server_refuses, switch_refuses, client_refuses}
use Rattle.peg_law.specs.Refusals.{controller_refuses, issue_refuses, order_refuses, plan_refuses}

module _ {S P D : Type 0} (refuses : D → Bool) (s : S) where
  abbrev pub Fine : Step S P D → Type 0
  Fine step = refuses step.did ≡ true → LeavesAll s step

  refused : (d : D) → Fine (refuse s d)
  refused d = λ e. (refl, refl)

  takes : (step : Step S P D) → refuses step.did ≡ false → Fine step
  takes step other = λ e. absurd (let x : true ≡ false = sym e ∙ other in cc)

  by_test : (b : Bool) (x y : Step S P D) → Fine x → Fine y → Fine (if b then x else y)
  by_test true x y f g = f
  by_test false x y f g = g

bytes_fine :
    {S D : Type 0} (refuses : D → Bool) (s : S) (read : Option (Format × Packet)) (format : Format)
    (step : Packet → Step S (Node × Packet) D) (malformed misplaced : D)
    → ((p : Packet) → Fine refuses s (step p))
    → Fine refuses s (on_bytes read format step s malformed misplaced)
bytes_fine refuses s None format step malformed misplaced fine = refused refuses s malformed
bytes_fine refuses s (Some (other, p)) format step malformed misplaced fine =
    by_test refuses s (is_format other format) (step p) (refuse s misplaced) (fine p)
    (refused refuses s misplaced)

-- ---- a server

module _ (s : Server) where
  abbrev Served : server.ServerStep → Type 0
  Served = Fine server_refuses s

  written :
      (d : WriteDid) (client seq version to_switch : ℕ) (key : List ℕ) (content : Content)
      → Served (server.serve_write d s client seq version to_switch key content)
  written write_did.Applied client seq version to_switch key content =
      takes server_refuses s
      (server.serve_write write_did.Applied s client seq version to_switch key content) refl
  written (write_did.Kept held) client seq version to_switch key content =
      takes server_refuses s
      (server.serve_write (write_did.Kept held) s client seq version to_switch key content) refl
  written (write_did.Void floor) client seq version to_switch key content =
      takes server_refuses s
      (server.serve_write (write_did.Void floor) s client seq version to_switch key content) refl
  written (write_did.Barred old) client seq version to_switch key content =
      refused server_refuses s (server_did.Barred key version old)

  copied :
      (d : Apply) (version to_switch : ℕ) (key : List ℕ) (content : Content)
      → Served (server.serve_copy d s version to_switch key content)
  copied apply.Applied version to_switch key content =
      takes server_refuses s (server.serve_copy apply.Applied s version to_switch key content) refl
  copied (apply.Kept held) version to_switch key content =
      takes server_refuses s (server.serve_copy (apply.Kept held) s version to_switch key content)
      refl

  fenced :
      (d : FenceDid) (version to_switch : ℕ) (key : List ℕ)
      → Served (server.serve_fence d s version to_switch key)
  fenced (fence_did.Fenced held) version to_switch key =
      takes server_refuses s (server.serve_fence (fence_did.Fenced held) s version to_switch key)
      refl
  fenced (fence_did.Kept held) version to_switch key =
      takes server_refuses s (server.serve_fence (fence_did.Kept held) s version to_switch key)
      refl

  ordered :
      (was : Stored) (to_switch target : ℕ) (key : List ℕ)
      → Served (server.serve_order was s to_switch target key)
  ordered was to_switch target key =
      by_test server_refuses s (was.version == 0) (refuse s (server_did.HasNone key))
      (record {
        state = s;
        sent =
            (node.Server target, packet.CopyData to_switch target was.version key was.content)
            ∷ [];
        did = server_did.Copied key was.version target;
      }) (refused server_refuses s (server_did.HasNone key)) (λ e. absurd (cc))

  served : (p : Packet) → Served (server.serve s p)
  served (packet.ToServerRead client seq named to_switch key) = λ e. absurd (cc)
  served (packet.ToServerWrite client seq version named to_switch key content) =
      written (server.write_answer s.store key version) client seq version to_switch key content
  served (packet.CopyData to_switch named version key content) =
      copied (server.apply_answer s.store key version) version to_switch key content
  served (packet.CopyOrder to_switch named target key) =
      ordered (server.held s.store key) to_switch target key
  served (packet.Fence to_switch named version key) =
      fenced (server.fence_answer s.store key version) version to_switch key
  served _ = refused server_refuses s server_did.OutOfPlace

  server_step_fine : (p : Packet) → Served (server.server_step s p)
  unfolding server.server_step
  server_step_fine p =
      by_test server_refuses s (server.server_takes s.rack s.id p) (server.serve s p)
      (refuse s server_did.OutOfPlace) (served p)
      (refused server_refuses s server_did.OutOfPlace)

  pub server_fine : (bytes : List ℕ) → Served (server_on_bytes s bytes)
  server_fine bytes =
      bytes_fine server_refuses s (packet_of bytes) s.rack.format (server.server_step s)
      server_did.Malformed server_did.OutOfPlace server_step_fine

-- ---- a client

module _ (c : Client) where
  abbrev Turned : Step Client (Node × Packet) ClientDid → Type 0
  Turned = Fine client_refuses c

  client_step_fine : (p : Packet) → Turned (client.client_step c p)
  unfolding client.client_step
  client_step_fine (packet.ReadReply of seq version named to_switch key content) =
      by_test client_refuses c (client.awaits_read c of seq key)
      (client.answered c (client_did.Read seq version content)) (refuse c client_did.Ignored)
      (λ e. absurd (cc)) (refused client_refuses c client_did.Ignored)
  client_step_fine (packet.WriteReply of seq version named to_switch key) =
      by_test client_refuses c (client.awaits_write c of seq key)
      (client.answered c (client_did.Wrote seq version)) (refuse c client_did.Ignored)
      (λ e. absurd (cc)) (refused client_refuses c client_did.Ignored)
  client_step_fine (packet.Announce epoch to_switch) =
      by_test client_refuses c (nat_lt c.epoch epoch)
      (record {
        state = record c { switch = to_switch; epoch = epoch };
        sent = [];
        did = client_did.Moved to_switch epoch;
      }) (refuse c client_did.Ignored) (λ e. absurd (cc))
      (refused client_refuses c client_did.Ignored)
  client_step_fine _ = refused client_refuses c client_did.Ignored

  pub client_fine : (bytes : List ℕ) → Turned (client_on_bytes c bytes)
  client_fine bytes =
      bytes_fine client_refuses c (packet_of bytes) c.format (client.client_step c)
      client_did.Ignored client_did.Ignored client_step_fine

  begins : (p : Option Pending) (key : List ℕ) (a : Ask)
      → Fine issue_refuses c (client.begin_unless p c key a)
  begins (Some p) key a = refused issue_refuses c (issue.Busy p.seq)
  begins None key a =
      let p : Pending = record { seq = c.next; key = key; ask = a } in
      by_test issue_refuses c (c.next == last_number) (refuse c issue.Spent)
      (record {
        state = record c { next = c.next + 1; pending = Some p };
        sent = client.request c p;
        did = issue.Sent c.next;
      }) (refused issue_refuses c issue.Spent) (λ e. absurd (cc))

  pub issue_fine :
      (key : List ℕ) (a : Ask) → Fine issue_refuses c (client.begin_operation c key a)
  issue_fine key a = begins c.pending key a

  resends : (p : Option Pending) → Fine (is_none {T = ℕ}) c (client.resend_of p c)
  resends None = refused (is_none {T = ℕ}) c None
  resends (Some p) = λ e. absurd (cc)

  gives_up : (p : Option Pending) → Fine (is_none {T = ℕ}) c (client.give_up_of p c)
  gives_up None = refused (is_none {T = ℕ}) c None
  gives_up (Some p) = λ e. absurd (cc)

  pub resend_fine : Fine (is_none {T = ℕ}) c (client.resend c)
  resend_fine = resends c.pending

  pub give_up_fine : Fine (is_none {T = ℕ}) c (client.give_up c)
  give_up_fine = gives_up c.pending

-- ---- the controller

module _ (c : Controller) where
  abbrev Controlled : Step Controller (Node × Packet) ControlDid → Type 0
  Controlled = Fine controller_refuses c

  acknowledged :
      (pending : Option Command) (number : ℕ) (outcome : Outcome)
      → Controlled (controller.acknowledged pending c.rack c number outcome)
  acknowledged None number outcome = refused controller_refuses c control_did.Ignored
  acknowledged (Some command) number outcome =
      let odd = refuse c control_did.OutOfPlace in
      let took = controller.takes c.rack c command outcome in
      let strange = controller.is_strange c.rack c command outcome in
      by_test controller_refuses c (not (number == c.last)) (refuse c control_did.Ignored)
      (if strange then odd else took) (refused controller_refuses c control_did.Ignored)
      (by_test controller_refuses c strange odd took
      (refused controller_refuses c control_did.OutOfPlace)
      (takes controller_refuses c took refl))

  controller_step_fine : (p : Packet) → Controlled (controller.controller_step c p)
  unfolding controller.controller_step
  controller_step_fine (packet.CommandAck number outcome) =
      acknowledged c.pending number outcome
  controller_step_fine (packet.Report epoch total rows) = λ e. absurd (cc)
  controller_step_fine _ = refused controller_refuses c control_did.OutOfPlace

  pub controller_fine : (bytes : List ℕ) → Controlled (controller_on_bytes c bytes)
  controller_fine bytes =
      bytes_fine controller_refuses c (packet_of bytes) c.rack.format
      (controller.controller_step c) control_did.Malformed control_did.OutOfPlace
      controller_step_fine

  orders : (target : Option ℕ) (command : Command)
      → Fine order_refuses c (controller.ordered target c command)
  orders (Some target) command = refused order_refuses c (order.NoSuch target)
  orders None command =
      let sends = controller.sends_command c command (order.Sent (c.last + 1)) in
      by_test order_refuses c (controller.is_handover_to c.switch command)
      (refuse c (order.SameSwitch c.switch)) sends
      (refused order_refuses c (order.SameSwitch c.switch)) (takes order_refuses c sends refl)

  pub order_fine : (command : Command) → Fine order_refuses c (controller.order_command c command)
  order_fine command =
      let spent = refuse c (order.Spent c.last) in
      let free = controller.ordered (controller.no_such c.rack command) c command in
      by_test order_refuses c (is_some c.pending) (refuse c (order.Busy c.last))
      (if c.last == last_number - 1 then spent else free)
      (refused order_refuses c (order.Busy c.last))
      (by_test order_refuses c (c.last == last_number - 1) spent free
      (refused order_refuses c (order.Spent c.last))
      (orders (controller.no_such c.rack command) command))

  sends_all :
      (commands : List Command) (demotes promotes : ℕ)
      → Fine plan_refuses c (controller.sends_all c commands (plan.Planned demotes promotes))
  sends_all [] demotes promotes = λ e. absurd (cc)
  sends_all (command ∷ commands) demotes promotes = λ e. absurd (cc)

  planned :
      (rows : Option (List Row)) (promote_at demote_below : ℕ)
      → Fine plan_refuses c (controller.planned rows c promote_at demote_below)
  planned None promote_at demote_below = refused plan_refuses c plan.NoReport
  planned (Some rows) promote_at demote_below =
      let commands =
      take 64
      (controller.demotions c.known rows demote_below
      ++ controller.promotions c.known rows promote_at) in
      let demotes = length (filter controller.is_demotion commands) in
      sends_all commands demotes (length commands - demotes)

  pub plan_fine :
      (promote_at demote_below : ℕ)
      → Fine plan_refuses c (controller.make_plan c promote_at demote_below)
  plan_fine promote_at demote_below =
      let spent = refuse c (plan.Spent c.last) in
      let free = controller.planned c.report c promote_at demote_below in
      by_test plan_refuses c (is_some c.pending) (refuse c (plan.Busy c.last))
      (if nat_lt (last_number - 65) c.last then spent else free)
      (refused plan_refuses c (plan.Busy c.last))
      (by_test plan_refuses c (nat_lt (last_number - 65) c.last) spent free
      (refused plan_refuses c (plan.Spent c.last))
      (planned c.report promote_at demote_below))

-- ---- a switch

module _ (s : Switch) where
  abbrev Switched : switch.SwitchStep → Type 0
  Switched = Fine switch_refuses s

  read_on : (f : Forward) (client seq : ℕ) (key : List ℕ)
      → Switched (switch.forwards_read f s client seq key)
  read_on (forward.To named version) client seq key = λ e. absurd (cc)
  read_on (forward.Stale last) client seq key = refused switch_refuses s (switch_did.Stale last)
  read_on (forward.Exhausted next) client seq key =
      refused switch_refuses s (switch_did.Exhausted next)

  write_on :
      (f : Forward) (core : Core) (client seq : ℕ) (key : List ℕ) (content : Content)
      → Switched (switch.forwards_write (f, core) s client seq key content)
  write_on (forward.To named version) core client seq key content = λ e. absurd (cc)
  write_on (forward.Stale last) core client seq key content =
      refused switch_refuses s (switch_did.Stale last)
  write_on (forward.Exhausted next) core client seq key content =
      refused switch_refuses s (switch_did.Exhausted next)

  voided :
      (b : Bool) (core : Core) (client seq version : ℕ)
      → Switched (switch.takes_void (b, core) s client seq version)
  voided true core client seq version = λ e. absurd (cc)
  voided false core client seq version =
      refused switch_refuses s (switch_did.VoidSkipped client seq)

  copies :
      (from : CopyFrom) (number target : ℕ) (key : List ℕ)
      → Switched (switch.copies from s number target key)
  copies copy_from.NotListed number target key = λ e. absurd (cc)
  copies copy_from.Holds number target key = λ e. absurd (cc)
  copies (copy_from.From source) number target key = λ e. absurd (cc)

  fences : (at : FenceOf) (number : ℕ) (key : List ℕ) → Switched (switch.fences at s number key)
  fences fence_at.NotListed number key = λ e. absurd (cc)
  fences fence_at.NoBase number key = λ e. absurd (cc)
  fences (fence_at.At home base) number key = λ e. absurd (cc)

  carried_out : (number : ℕ) (what : What) → Switched (switch.carry_out s number what)
  carried_out number (packet.Promote key) = λ e. absurd (cc)
  carried_out number (packet.Demote key) = λ e. absurd (cc)
  carried_out number (packet.Copy target key) =
      copies (copy_source (switch.core_of s) key target) number target key
  carried_out number (packet.FenceKey key) = fences (fence_of (switch.core_of s) key) number key
  carried_out number (packet.Seal target epoch) = λ e. absurd (cc)
  carried_out number packet.Clear = λ e. absurd (cc)

  commanded : (number : ℕ) (what : What) → Switched (switch.on_command s number what)
  commanded number what =
      let skips = refuse s (switch_did.Skipped number s.last) in
      by_test switch_refuses s (number == s.last + 1) (switch.carry_out s number what)
      (if number == s.last then switch.repeats s else skips) (carried_out number what)
      (by_test switch_refuses s (number == s.last) (switch.repeats s) skips (λ e. absurd (cc))
      (refused switch_refuses s (switch_did.Skipped number s.last)))

  activated : (state : Option State) (epoch : ℕ) → Switched (switch.activates state s epoch)
  activated None epoch = refused switch_refuses s switch_did.OutOfPlace
  activated (Some state) epoch = λ e. absurd (cc)

  collected :
      (now : Collected) (epoch count : ℕ) → Switched (switch.collects now s epoch count)
  collected now epoch count =
      by_test switch_refuses s (is_whole now)
      (switch.activates (state_of s.rack (bytes_of now)) s epoch)
      (record {
        state = record s { collected = now };
        sent = [];
        did = switch_did.Collected (held_count now) count;
      }) (activated (state_of s.rack (bytes_of now)) epoch) (λ e. absurd (cc))

  part_taken :
      (epoch index count : ℕ) (bytes : List ℕ) → Switched (switch.on_part s epoch index count bytes)
  part_taken epoch index count bytes =
      let begun = begun s.collected epoch count in
      let has = refuse s (switch_did.HasPart index) in
      let now = with_part begun index bytes in
      by_test switch_refuses s (switch.is_old s epoch) (refuse s (switch_did.OldPart epoch))
      (if has_part begun index then has else switch.collects now s epoch count)
      (refused switch_refuses s (switch_did.OldPart epoch))
      (by_test switch_refuses s (has_part begun index) has (switch.collects now s epoch count)
      (refused switch_refuses s (switch_did.HasPart index)) (collected now epoch count))

  active : (p : Packet) (pick : ℕ) → Switched (switch.active_step s p pick)
  active (packet.Read client seq key) pick =
      read_on (read_request (switch.core_of s) key pick) client seq key
  active (packet.Write client seq key content) pick =
      let to = write_request (switch.core_of s) key client seq pick in
      write_on to.0 to.1 client seq key content
  active (packet.ReadReply client seq version named to_switch key content) pick =
      λ e. absurd (cc)
  active (packet.WriteReply client seq version named to_switch key) pick = λ e. absurd (cc)
  active (packet.Void client seq version named to_switch key) pick =
      let took = on_void (switch.core_of s) client seq version in
      voided took.0 took.1 client seq version
  active (packet.Held named version key) pick = λ e. absurd (cc)
  active (packet.Command number what) pick = commanded number what
  active (packet.Part epoch index count bytes) pick =
      by_test switch_refuses s (epoch == s.epoch) (switch.repeats s)
      (refuse s (switch_did.OldPart epoch)) (λ e. absurd (cc))
      (refused switch_refuses s (switch_did.OldPart epoch))
  active packet.Survey pick = λ e. absurd (cc)
  active _ pick = refused switch_refuses s switch_did.OutOfPlace

  idle : (p : Packet) → Switched (switch.idle_step s p)
  idle (packet.Part epoch index count bytes) = part_taken epoch index count bytes
  idle _ = refused switch_refuses s (switch_did.NotActive s.epoch)

  sealed : (target : ℕ) (p : Packet) → Switched (switch.sealed_step s target p)
  sealed target (packet.Part epoch index count bytes) = part_taken epoch index count bytes
  sealed target (packet.Command number what) =
      by_test switch_refuses s (number == s.last) (switch.sends_again s target)
      (refuse s (switch_did.Skipped number s.last)) (λ e. absurd (cc))
      (refused switch_refuses s (switch_did.Skipped number s.last))
  sealed target _ = refused switch_refuses s (switch_did.NotActive s.epoch)

  in_mode : (mode : switch.Mode) (p : Packet) (pick : ℕ) → Switched (switch.in_mode mode s p pick)
  in_mode switch.Active p pick = active p pick
  in_mode switch.Idle p pick = idle p
  in_mode (switch.Sealed target) p pick = sealed target p

  switch_step_fine : (p : Packet) (pick : ℕ) → Switched (switch.switch_step s p pick)
  unfolding switch.switch_step
  switch_step_fine p pick =
      by_test switch_refuses s (switch.out_of_place s p) (refuse s switch_did.OutOfPlace)
      (switch.in_mode s.mode s p pick) (refused switch_refuses s switch_did.OutOfPlace)
      (in_mode s.mode p pick)

  pub switch_fine : (bytes : List ℕ) (pick : ℕ) → Switched (switch_on_bytes s bytes pick)
  switch_fine bytes pick =
      bytes_fine switch_refuses s (packet_of bytes) s.rack.format
      (λ p. switch.switch_step s p pick) switch_did.Malformed switch_did.OutOfPlace
      (λ p. switch_step_fine p pick)
