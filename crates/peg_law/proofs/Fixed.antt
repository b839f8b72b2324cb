-- An event leaves the rack and the place of a world.
use Rattle.std.proofs.Common.{◌≡◌, ℕ, List, Option, Some, None, slice_get, refl}
use Rattle.peg_name.specs.Name.{Rack}
use Rattle.peg_name.specs.declared.Node.{Node}
use Rattle.peg_name.specs.declared.Node.TheVariants as node
use Rattle.peg_name.specs.declared.value.Content.TheVariants.{Absent, Present}
use Rattle.peg_event.specs.declared.answers.Ask.{Ask}
use Rattle.peg_event.specs.declared.answers.Ask.TheVariants as ask
use Rattle.peg_event.specs.declared.Event.{Event}
use Rattle.peg_event.specs.declared.Event.TheVariants as event
use Rattle.peg_event.specs.declared.answers.Issue.{Issue}
use Rattle.peg_event.specs.declared.answers.Issue.TheVariants as issue
use Rattle.peg_event.specs.declared.history.Op.{Op}
use Rattle.peg_event.specs.declared.Outcome.TheVariants as outcome
use Rattle.peg_event.specs.declared.SwitchDid.{SwitchDid}
use Rattle.peg_event.specs.declared.SwitchDid.TheVariants as switch_did
use Rattle.peg_event.specs.declared.ServerDid.{ServerDid}
use Rattle.peg_event.specs.declared.ServerDid.TheVariants as server_did
use Rattle.peg_event.specs.declared.ClientDid.{ClientDid}
use Rattle.peg_event.specs.declared.ClientDid.TheVariants as client_did
use Rattle.peg_model.specs.Packet as packet
use Rattle.peg_model.specs.Packet.{Packet}
use Rattle.peg_model.specs.Rules.{base_of}
use Rattle.peg_model.specs.Client.{begin_operation, client_step}
use Rattle.peg_model.specs.Server.{server_step}
use Rattle.peg_model.specs.Switch.{Switch, switch_step}
use Rattle.peg_model.specs.World.{World, with_client, with_server, with_switch, client_of}
use Rattle.peg_model.specs.World.{server_of}
use Rattle.peg_model.specs.World.{switch_of, after_issue, after_client, after_server, after_switch}
use Rattle.peg_model.specs.World.{promoted, new_op, delivers, delivers_item, happens}

pub record Frame : Type 0 where
  pub rack : Rack
  pub place : ℕ

abbrev pub frame : World → Frame
frame w = record { rack = w.rack; place = w.place }

begun_same : (w : World) (op : Op) (d : Issue) → frame (after_issue w op d) ≡ frame w
begun_same w op (issue.Sent seq) = refl
begun_same w op issue.Spent = refl
begun_same w op (issue.Busy seq) = refl

answered_same : (w : World) (client : ℕ) (d : ClientDid) → frame (after_client w client d) ≡ frame w
answered_same w client (client_did.Wrote seq version) = refl
answered_same w client (client_did.Read seq version content) = refl
answered_same w client _ = refl

fenced_same : (w : World) (d : ServerDid) → frame (after_server w d) ≡ frame w
fenced_same w (server_did.Fenced key version held) = refl
fenced_same w _ = refl

promoted_same : (w : World) (key : List ℕ) (base : Option ℕ) → frame (promoted w key base) ≡ frame w
promoted_same w key None = refl
promoted_same w key (Some base) = refl

stamped_same :
    (w : World) (s : Switch) (p : Packet) (d : SwitchDid) → frame (after_switch w s p d) ≡ frame w
stamped_same w s (packet.Write client seq key content) (switch_did.Wrote server written version) =
    refl
stamped_same w s (packet.Command number (packet.Promote key))
    (switch_did.Applied applied (outcome.Listed listing)) =
    promoted_same w key (base_of s.entries key)
stamped_same w s _ _ = refl

delivered_same : (w : World) (to : Node) (p : Packet) (pick : ℕ) →
    frame (delivers w to p pick).0 ≡ frame w
delivered_same w (node.Client id) p pick =
    let step = client_step (client_of w id) p in
    answered_same (with_client w step.state) id step.did
delivered_same w (node.Server id) p pick =
    let step = server_step (server_of w id) p in fenced_same (with_server w step.state) step.did
delivered_same w (node.Switch id) p pick =
    let step = switch_step (switch_of w id) p pick in
    stamped_same (with_switch w step.state) step.state p step.did
delivered_same w node.Controller p pick = refl

item_same :
    (w : World) (number : ℕ) (item : Option (Node × Packet)) (pick : ℕ)
    → frame (delivers_item w number item pick).0 ≡ frame w
item_same w number None pick = refl
item_same w number (Some item) pick = delivered_same w item.0 item.1 pick

issued_same :
    (w : World) (client : ℕ) (key : List ℕ) (k : Ask)
    → let step = begin_operation (client_of w client) key k in
    frame (after_issue (with_client w step.state) (new_op client key k w.place) step.did) ≡ frame w
issued_same w client key k =
    let step = begin_operation (client_of w client) key k in
    begun_same (with_client w step.state) (new_op client key k w.place) step.did

pub frame_same : (w : World) (e : Event) → frame (happens w e).0 ≡ frame w
unfolding happens
frame_same w (event.Read client key) = issued_same w client key ask.Read
frame_same w (event.Write client key value) = issued_same w client key (ask.Write (Present value))
frame_same w (event.Delete client key) = issued_same w client key (ask.Write Absent)
frame_same w (event.Resend client) = refl
frame_same w (event.GiveUp client) = refl
frame_same w (event.Deliver number pick) = item_same w number (slice_get w.packets number) pick
frame_same w (event.Junk to bytes) = refl
frame_same w (event.Promote key) = refl
frame_same w (event.Demote key) = refl
frame_same w (event.Copy key target) = refl
frame_same w (event.Fence key) = refl
frame_same w (event.Handover target) = refl
frame_same w event.Clear = refl
frame_same w event.Retry = refl
frame_same w event.Survey = refl
frame_same w (event.Plan promote_at demote_below) = refl
