-- The packets of a run are never fewer than before.
use Rattle.std.proofs.Common.{◌≡◌, ◌≤◌, ◌+◌, ℕ, suc, Option, Some, None, List, [], ◌∷◌, ◌++◌}
use Rattle.std.proofs.Common.{length}
use Rattle.std.proofs.Common.{refl, ap, ◌∙◌, arith, length-append, slice_get}
use Rattle.peg_name.specs.declared.value.Content.TheVariants.{Absent, Present}
use Rattle.peg_name.specs.declared.Node.{Node}
use Rattle.peg_name.specs.declared.Node.TheVariants as node
use Rattle.peg_event.specs.declared.Event.{Event}
use Rattle.peg_event.specs.declared.Event.TheVariants as event
use Rattle.peg_event.specs.declared.history.Op.{Op}
use Rattle.peg_event.specs.declared.answers.Ask.{Ask}
use Rattle.peg_event.specs.declared.answers.Ask.TheVariants as ask
use Rattle.peg_event.specs.declared.answers.Issue.{Issue}
use Rattle.peg_event.specs.declared.answers.Issue.TheVariants as issue
use Rattle.peg_event.specs.declared.Said.{Said}
use Rattle.peg_event.specs.declared.Said.TheVariants as said
use Rattle.peg_event.specs.declared.Command.{Command}
use Rattle.peg_event.specs.declared.Command.TheVariants as command
use Rattle.peg_event.specs.declared.Outcome.TheVariants as outcome
use Rattle.peg_event.specs.declared.SwitchDid.{SwitchDid}
use Rattle.peg_event.specs.declared.SwitchDid.TheVariants as switch_did
use Rattle.peg_event.specs.declared.ServerDid.{ServerDid}
use Rattle.peg_event.specs.declared.ServerDid.TheVariants as server_did
use Rattle.peg_event.specs.declared.ClientDid.{ClientDid}
use Rattle.peg_event.specs.declared.ClientDid.TheVariants as client_did
use Rattle.peg_model.specs.Packet as packet
use Rattle.peg_model.specs.Packet.{Packet}
use Rattle.peg_model.specs.Switch.{Switch}
use Rattle.peg_model.specs.World.{World, reports, after_issue, after_client, after_server}
use Rattle.peg_model.specs.World.{after_switch, promoted, issues, delivers, delivers_item, happens}
use Rattle.peg_model.specs.World.{step, run, with_client, with_server, with_switch, orders}
use Rattle.peg_model.specs.World.{with_controller, client_of, server_of, switch_of, new_op}
use Rattle.peg_model.specs.World.{issue_said, resend_said, give_up_said, junk_said, order_said}
use Rattle.peg_model.specs.World.{retry_said, plan_said}
use Rattle.peg_model.specs.Reading.{packet_of}
use Rattle.peg_model.specs.Server.{server_step}
use Rattle.peg_model.specs.Client.{begin_operation, resend, give_up, client_step}
use Rattle.peg_model.specs.Controller.{order_command, retry_command, survey, make_plan}
use Rattle.peg_model.specs.Controller.{controller_step}
use Rattle.peg_model.specs.Switch.{switch_step}

-- what is sent goes last
reports_more :
    (w w' : World) (sent : List (Node × Packet)) (text : Said) → w'.packets ≡ w.packets
    → length w.packets ≤ length (reports w' sent text).0.packets
reports_more w w' sent text same =
    omega (arith, ap length same, length-append w'.packets sent)

issue_same :
    (w : World) (op : Op) (i : Issue) → (after_issue w op i).packets ≡ w.packets
issue_same w op (issue.Sent seq) = refl
issue_same w op (issue.Busy seq) = refl
issue_same w op issue.Spent = refl

client_same :
    (w : World) (id : ℕ) (did : ClientDid) → (after_client w id did).packets ≡ w.packets
client_same w id (client_did.Wrote seq version) = refl
client_same w id (client_did.Read seq version content) = refl
client_same w id _ = refl

server_same : (w : World) (did : ServerDid) → (after_server w did).packets ≡ w.packets
server_same w (server_did.Fenced key version held) = refl
server_same w _ = refl

promoted_same :
    (w : World) (key : List ℕ) (base : Option ℕ) → (promoted w key base).packets ≡ w.packets
promoted_same w key None = refl
promoted_same w key (Some base) = refl

switch_same :
    (w : World) (s : Switch) (p : Packet) (did : SwitchDid)
    → (after_switch w s p did).packets ≡ w.packets
switch_same w s (packet.Write client seq key content) (switch_did.Wrote server written version) =
    refl
switch_same w s (packet.Command number (packet.Promote key))
    (switch_did.Applied applied (outcome.Listed listing)) =
    promoted_same w key _
switch_same w s _ _ = refl

issues_more :
    (w : World) (client : ℕ) (key : List ℕ) (a : Ask)
    → length w.packets ≤ length (issues w client key a).0.packets
issues_more w client key a =
    let step = begin_operation (client_of w client) key a in
    reports_more w (after_issue (with_client w step.state) (new_op client key a w.place) step.did)
    step.sent (issue_said client a step.did)
    (issue_same (with_client w step.state) (new_op client key a w.place) step.did)

delivers_more :
    (w : World) (to : Node) (p : Packet) (pick : ℕ)
    → length w.packets ≤ length (delivers w to p pick).0.packets
delivers_more w (node.Client id) p pick =
    let step = client_step (client_of w id) p in
    reports_more w (after_client (with_client w step.state) id step.did) step.sent
    (said.Client id step.did) (client_same (with_client w step.state) id step.did)
delivers_more w (node.Server id) p pick =
    let step = server_step (server_of w id) p in
    reports_more w (after_server (with_server w step.state) step.did) step.sent
    (said.Server id step.did) (server_same (with_server w step.state) step.did)
delivers_more w (node.Switch id) p pick =
    let step = switch_step (switch_of w id) p pick in
    reports_more w (after_switch (with_switch w step.state) step.state p step.did) step.sent
    (said.Switch id step.did) (switch_same (with_switch w step.state) step.state p step.did)
delivers_more w node.Controller p pick =
    let step = controller_step w.controller p in
    reports_more w (with_controller w step.state) step.sent (said.Controller step.did) refl

item_more :
    (w : World) (number : ℕ) (item : Option (Node × Packet)) (pick : ℕ)
    → length w.packets ≤ length (delivers_item w number item pick).0.packets
item_more w number None pick =
    reports_more w w [] (said.NoSuchPacket number (length w.packets)) refl
item_more w number (Some item) pick = delivers_more w item.0 item.1 pick

orders_more :
    (w : World) (c : Command) → length w.packets ≤ length (orders w c).0.packets
orders_more w c =
    let step = order_command w.controller c in
    reports_more w (with_controller w step.state) step.sent (order_said c step.did) refl

happens_more :
    (w : World) (e : Event) → length w.packets ≤ length (happens w e).0.packets
unfolding happens
happens_more w (event.Read client key) = issues_more w client key ask.Read
happens_more w (event.Write client key value) = issues_more w client key (ask.Write (Present value))
happens_more w (event.Delete client key) = issues_more w client key (ask.Write Absent)
happens_more w (event.Resend client) =
    let step = resend (client_of w client) in
    reports_more w (with_client w step.state) step.sent (resend_said client step.did) refl
happens_more w (event.GiveUp client) =
    let step = give_up (client_of w client) in
    reports_more w (with_client w step.state) step.sent (give_up_said client step.did) refl
happens_more w (event.Deliver number pick) =
    item_more w number (slice_get w.packets number) pick
happens_more w (event.Junk to bytes) = reports_more w w [] (junk_said to (packet_of bytes)) refl
happens_more w (event.Promote key) = orders_more w (command.Promote key)
happens_more w (event.Demote key) = orders_more w (command.Demote key)
happens_more w (event.Copy key target) = orders_more w (command.Copy key target)
happens_more w (event.Fence key) = orders_more w (command.Fence key)
happens_more w (event.Handover target) = orders_more w (command.Handover target)
happens_more w event.Clear = orders_more w command.Clear
happens_more w event.Retry =
    let step = retry_command w.controller in
    reports_more w (with_controller w step.state) step.sent (retry_said step.did) refl
happens_more w event.Survey =
    let step = survey w.controller in
    reports_more w (with_controller w step.state) step.sent said.Surveys refl
happens_more w (event.Plan promote_at demote_below) =
    let step = make_plan w.controller promote_at demote_below in
    reports_more w (with_controller w step.state) step.sent (plan_said step.did) refl

pub run_packets_more :
    (w : World) (place : ℕ) (events : List Event)
    → length w.packets ≤ length (run w place events).0.packets
unfolding run
run_packets_more w place [] = omega arith
run_packets_more w place (e ∷ events) =
    omega (
      arith,
      happens_more (record w { place = place }) e,
      run_packets_more (step w place e).0
          (place + 1) events,
    )

-- events and more of them
pub run_append :
    (w : World) (place : ℕ) (events more : List Event)
    → (run w place (events ++ more)).0
    ≡ (run (run w place events).0 (place + length events) more).0
unfolding run
run_append w place [] more =
    let k : place ≡ place + 0 = omega arith in ap (λ n. (run w n more).0) k
run_append w place (e ∷ events) more =
    let k : place + 1 + length events ≡ place + suc (length events) = omega arith in
    run_append (step w place e).0 (place + 1) events more
    ∙ ap (λ n. (run (run (step w place e).0 (place + 1) events).0 n more).0) k
