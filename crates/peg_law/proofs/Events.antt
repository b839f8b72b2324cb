-- Each event adds packets at the end, and changes at most one client, by a step of it.
use Rattle.std.proofs.Common.{◌≡◌, ◌++◌, ℕ, List, [], length}
use Rattle.std.proofs.Common.{Option, Some, None, slice_get, refl, ap, ◌∙◌}
use Rattle.std.specs.Prelude.{slice_set}
use Rattle.std.specs.List.{AllByRecursion}
use Rattle.peg_name.specs.declared.value.Content.TheVariants.{Absent, Present}
use Rattle.peg_name.specs.declared.Node.{Node}
use Rattle.peg_name.specs.declared.Node.TheVariants as node
use Rattle.peg_event.specs.declared.answers.Ask.{Ask}
use Rattle.peg_event.specs.declared.answers.Ask.TheVariants as ask
use Rattle.peg_event.specs.declared.Command.{Command}
use Rattle.peg_event.specs.declared.Command.TheVariants as command
use Rattle.peg_event.specs.declared.Event.{Event}
use Rattle.peg_event.specs.declared.Event.TheVariants as event
use Rattle.peg_event.specs.declared.answers.Issue.{Issue}
use Rattle.peg_event.specs.declared.answers.Issue.TheVariants as issue
use Rattle.peg_event.specs.declared.Line.{Line}
use Rattle.peg_event.specs.declared.history.Op.{Op}
use Rattle.peg_event.specs.declared.Outcome.TheVariants as outcome
use Rattle.peg_event.specs.declared.Said.{Said}
use Rattle.peg_event.specs.declared.SwitchDid.{SwitchDid}
use Rattle.peg_event.specs.declared.SwitchDid.TheVariants as switch_did
use Rattle.peg_event.specs.declared.ServerDid.{ServerDid}
use Rattle.peg_event.specs.declared.ServerDid.TheVariants as server_did
use Rattle.peg_event.specs.declared.ClientDid.{ClientDid}
use Rattle.peg_event.specs.declared.ClientDid.TheVariants as client_did
use Rattle.peg_model.specs.Packet as packet
use Rattle.peg_model.specs.Packet.{Packet}
use Rattle.peg_model.specs.Rules.{base_of}
use Rattle.peg_model.specs.Client.{Client, begin_operation, resend, give_up, client_step}
use Rattle.peg_model.specs.Controller.{order_command, retry_command, survey, make_plan}
use Rattle.peg_model.specs.Controller.{controller_step}
use Rattle.peg_model.specs.Server.{server_step}
use Rattle.peg_model.specs.Switch.{Switch, switch_step}
use Rattle.peg_model.specs.World.{World, numbers, reports, with_client, with_server, with_switch}
use Rattle.peg_model.specs.World.{with_controller, client_of, server_of, switch_of, after_issue}
use Rattle.peg_model.specs.World.{after_client, after_server, after_switch, promoted, new_op}
use Rattle.peg_model.specs.World.{issue_said, issues, delivers, delivers_item, orders, happens}
use Rattle.peg_law.proofs.Known.{IsTurn, IsNoRequest, turn_begins, turn_resends, turn_gives_up}
use Rattle.peg_law.proofs.Known.{turn_steps}
use Rattle.peg_law.proofs.Servers.{server_sends_none}
use Rattle.peg_law.proofs.Switches.{switch_sends_none}
use Rattle.peg_law.proofs.Controllers.{controller_sends_none, order_sends_none, retry_sends_none}
use Rattle.peg_law.proofs.Controllers.{plan_sends_none}

-- the packets and the clients of a world
pub record Seen : Type 0 where
  pub packets : List (Node × Packet)
  pub clients : List Client

abbrev pub seen : World → Seen
seen w = record { packets = w.packets; clients = w.clients }

-- what becomes of the clients
pub data Clients (w : World) (clients : List Client) (sent : List (Node × Packet)) : Type 0 where
  OneMoves :
      (id : ℕ) (d : Client) → clients ≡ slice_set w.clients d.id d → IsTurn (client_of w id) d sent
      → Clients w clients sent
  NoneMoves : clients ≡ w.clients → AllByRecursion IsNoRequest sent → Clients w clients sent

pub record Effect (w : World) (r : World × Line) : Type 0 where
  pub sent : List (Node × Packet)
  pub packets : r.0.packets ≡ w.packets ++ sent
  pub line : r.1.sent ≡ numbers (length w.packets) sent
  pub clients : Clients w r.0.clients sent

-- ---- what else a step notes leaves both alone

begun_same : (w : World) (op : Op) (d : Issue) → seen (after_issue w op d) ≡ seen w
begun_same w op (issue.Sent seq) = refl
begun_same w op issue.Spent = refl
begun_same w op (issue.Busy seq) = refl

answered_same : (w : World) (client : ℕ) (d : ClientDid) → seen (after_client w client d) ≡ seen w
answered_same w client (client_did.Wrote seq version) = refl
answered_same w client (client_did.Read seq version content) = refl
answered_same w client _ = refl

pub fenced_same : (w : World) (d : ServerDid) → seen (after_server w d) ≡ seen w
fenced_same w (server_did.Fenced key version held) = refl
fenced_same w _ = refl

promoted_same : (w : World) (key : List ℕ) (base : Option ℕ) → seen (promoted w key base) ≡ seen w
promoted_same w key None = refl
promoted_same w key (Some base) = refl

pub stamped_same :
    (w : World) (s : Switch) (p : Packet) (d : SwitchDid) → seen (after_switch w s p d) ≡ seen w
stamped_same w s (packet.Write client seq key content) (switch_did.Wrote server written version) =
    refl
stamped_same w s (packet.Command number (packet.Promote key))
    (switch_did.Applied applied (outcome.Listed listing)) =
    promoted_same w key (base_of s.entries key)
stamped_same w s _ _ = refl

-- ---- a step of a node

moves :
    (w v u : World) (id : ℕ) (d : Client) (sent : List (Node × Packet)) (s : Said)
    → v ≡ with_client w d → seen u ≡ seen v → IsTurn (client_of w id) d sent
    → Effect w (reports u sent s)
moves w v u id d sent s is e t =
    let all : seen u ≡ seen (with_client w d) = e ∙ ap seen is in
    record {
      sent = sent;
      packets = ap (λ (x : Seen). x.packets ++ sent) all;
      line = ap (λ (x : Seen). numbers (length x.packets) sent) all;
      clients = OneMoves id d (ap (λ (x : Seen). x.clients) all) t;
    }

stays :
    (w u : World) (sent : List (Node × Packet)) (s : Said) → seen u ≡ seen w
    → AllByRecursion IsNoRequest sent → Effect w (reports u sent s)
stays w u sent s e none =
    record {
      sent = sent;
      packets = ap (λ (x : Seen). x.packets ++ sent) e;
      line = ap (λ (x : Seen). numbers (length x.packets) sent) e;
      clients = NoneMoves (ap (λ (x : Seen). x.clients) e) none;
    }

-- ---- each event

issued : (w : World) (client : ℕ) (key : List ℕ) (a : Ask) → Effect w (issues w client key a)
issued w client key a =
    let step = begin_operation (client_of w client) key a in
    let v = with_client w step.state in
    let op = new_op client key a w.place in
    moves w v (after_issue v op step.did) client step.state step.sent
    (issue_said client a step.did) refl (begun_same v op step.did)
    (turn_begins (client_of w client) key a)

ordered : (w : World) (k : Command) → Effect w (orders w k)
ordered w k =
    let step = order_command w.controller k in
    stays w (with_controller w step.state) step.sent _ refl (order_sends_none w.controller k)

pub delivered : (w : World) (to : Node) (p : Packet) (pick : ℕ) → Effect w (delivers w to p pick)
delivered w (node.Client id) p pick =
    let step = client_step (client_of w id) p in
    let v = with_client w step.state in
    moves w v (after_client v id step.did) id step.state step.sent _ refl
    (answered_same v id step.did) (turn_steps (client_of w id) p)
delivered w (node.Server id) p pick =
    let step = server_step (server_of w id) p in
    let v = with_server w step.state in
    stays w (after_server v step.did) step.sent _ (fenced_same v step.did)
    (server_sends_none (server_of w id) p)
delivered w (node.Switch id) p pick =
    let step = switch_step (switch_of w id) p pick in
    let v = with_switch w step.state in
    stays w (after_switch v step.state p step.did) step.sent _
    (stamped_same v step.state p step.did) (switch_sends_none (switch_of w id) p pick)
delivered w node.Controller p pick =
    let step = controller_step w.controller p in
    stays w (with_controller w step.state) step.sent _ refl (controller_sends_none w.controller p)

delivered_item : (w : World) (number : ℕ) (item : Option (Node × Packet)) (pick : ℕ)
    → Effect w (delivers_item w number item pick)
delivered_item w number None pick = stays w w [] _ refl tt
delivered_item w number (Some item) pick = delivered w item.0 item.1 pick

pub happened : (w : World) (e : Event) → Effect w (happens w e)
unfolding happens
happened w (event.Read client key) = issued w client key ask.Read
happened w (event.Write client key value) = issued w client key (ask.Write (Present value))
happened w (event.Delete client key) = issued w client key (ask.Write Absent)
happened w (event.Resend client) =
    let step = resend (client_of w client) in
    let v = with_client w step.state in
    moves w v v client step.state step.sent _ refl refl (turn_resends (client_of w client))
happened w (event.GiveUp client) =
    let step = give_up (client_of w client) in
    let v = with_client w step.state in
    moves w v v client step.state step.sent _ refl refl (turn_gives_up (client_of w client))
happened w (event.Deliver number pick) =
    delivered_item w number (slice_get w.packets number) pick
happened w (event.Junk to bytes) = stays w w [] _ refl tt
happened w (event.Promote key) = ordered w (command.Promote key)
happened w (event.Demote key) = ordered w (command.Demote key)
happened w (event.Copy key target) = ordered w (command.Copy key target)
happened w (event.Fence key) = ordered w (command.Fence key)
happened w (event.Handover target) = ordered w (command.Handover target)
happened w event.Clear = ordered w command.Clear
happened w event.Retry =
    let step = retry_command w.controller in
    stays w (with_controller w step.state) step.sent _ refl (retry_sends_none w.controller)
happened w event.Survey =
    let step = survey w.controller in
    stays w (with_controller w step.state) step.sent _ refl (tt, tt)
happened w (event.Plan promote_at demote_below) =
    let step = make_plan w.controller promote_at demote_below in
    stays w (with_controller w step.state) step.sent _ refl
    (plan_sends_none w.controller promote_at demote_below)
