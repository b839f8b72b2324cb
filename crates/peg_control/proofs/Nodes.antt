-- What a controller sends goes to nodes of its rack, and names the switch that it knows; and how
-- many packets it sends at most.
use Rattle.std.proofs.Common.{◌≡◌, ℕ, zero, suc, ◌+◌, ◌-◌, ◌≤◌, ◌==◌, true, ◌&&◌, not, List, []}
use Rattle.std.proofs.Common.{◌∷◌, length, Option, Some, None, is_some, refl, ap, sym, ◌∙◌, arith}
use Rattle.std.proofs.Common.{nat_lt, length-append}
use Rattle.std.proofs.lemmas.Bool.{lt-ltb, cond_both}
use Rattle.std.proofs.lemmas.List.{map-append}
use Rattle.std.specs.Cmp.Derive.{both_true}
use Rattle.peg_name.specs.Name.{Rack}
use Rattle.peg_name.specs.declared.Format.{Format}
use Rattle.peg_name.specs.declared.Node.{Node}
use Rattle.peg_name.specs.declared.Node.TheVariants as node
use Rattle.peg_name.specs.declared.Row.{Row}
use Rattle.peg_event.specs.declared.Command.{Command}
use Rattle.peg_event.specs.declared.ControlDid.{ControlDid}
use Rattle.peg_event.specs.declared.ControlDid.TheVariants as did
use Rattle.peg_event.specs.declared.answers.Order.{Order}
use Rattle.peg_event.specs.declared.answers.Order.TheVariants as order
use Rattle.peg_event.specs.declared.Outcome.{Outcome}
use Rattle.peg_event.specs.declared.Outcome.TheVariants.{Activated}
use Rattle.peg_event.specs.declared.answers.Plan.{Plan}
use Rattle.peg_event.specs.declared.answers.Plan.TheVariants as plan
use Rattle.peg_model.specs.Words.{below, last_number, Step, refuse}
use Rattle.peg_model.specs.Packet.{Packet, Announce, CommandAck, Report}
use Rattle.peg_model.specs.Reading.{packet_of, is_format}
use Rattle.peg_model.specs.Datagrams.{controller_on_bytes, on_bytes}
use Rattle.peg_model.specs.Controller.{Controller, command_packet, announces, announced, takes}
use Rattle.peg_model.specs.Controller.{sends_command, sends_all, no_such, is_handover_to, ordered}
use Rattle.peg_model.specs.Controller.{order_command, retry_of, retry_command, planned, make_plan}
use Rattle.peg_model.specs.Controller.{learned, next_queued, is_strange, acknowledged}
use Rattle.peg_model.specs.Controller.{controller_step}
use Rattle.peg_packet.specs.Nodes.{are_in_rack, is_in_rack, announces_in}
use Rattle.peg_control.specs.Fits.{IsController}
use Rattle.peg_control.specs.Orders.{pending_packets}
use Rattle.peg_control.proofs.Sending.{told, all_append}
use Rattle.peg_control.proofs.Stepping.{takes_rack, all_sent, length_announced}

-- ---- one packet to the active switch

pub to_switch_in_rack :
    (c : Controller) → IsController c → nat_lt c.switch c.rack.switches ≡ true
to_switch_in_rack c is = lt-ltb c.switch c.rack.switches is.switch

pub commanded_in_rack :
    (c : Controller) (command : Command) → IsController c
    → are_in_rack c.rack (command_packet c command ∷ []) ≡ true
commanded_in_rack c command is = both_true (to_switch_in_rack c is) refl

-- ---- announcements

told_in_rack :
    (rack : Rack) (epoch switch n : ℕ) → nat_lt switch rack.switches ≡ true → n ≤ rack.clients
    → are_in_rack rack (told epoch switch (below n)) ≡ true
told_in_rack rack epoch switch zero named le = refl
told_in_rack rack epoch switch (suc n) named le =
    let to : ℕ → Node × Packet = λ client. (node.Client client, Announce epoch switch) in
    ap (are_in_rack rack) (map-append to (below n) (n ∷ []))
    ∙ all_append (λ (item : Node × Packet). announces_in rack item.1 && is_in_rack rack item.0)
    (told epoch switch (below n)) (to n ∷ [])
    (told_in_rack rack epoch switch n named (omega (arith, le)))
    (both_true (both_true named (lt-ltb n rack.clients (omega (arith, le)))) refl)

pub announces_in_rack :
    (c : Controller) → IsController c
    → are_in_rack c.rack (announces c.rack c.epoch c.switch) ≡ true
announces_in_rack c is =
    told_in_rack c.rack c.epoch c.switch c.rack.clients (to_switch_in_rack c is) (omega arith)

-- ---- a command that is finished

pub finished_in_rack :
    (c now : Controller) (command : Command) (o : Outcome)
    → now ≡ (takes c.rack c command o).state
    → are_in_rack now.rack (announced now.rack now o) ≡ true
    → are_in_rack now.rack (pending_packets now) ≡ true
    → are_in_rack c.rack (takes c.rack c command o).sent ≡ true
finished_in_rack c now command o is first second =
    let rack : now.rack ≡ c.rack = ap (λ (s : Controller). s.rack) is ∙ takes_rack c command o in
    ap (λ (r : Rack). are_in_rack r (takes c.rack c command o).sent) (sym rack)
    ∙ ap (are_in_rack now.rack) (sym (all_sent c now command o is))
    ∙ all_append
    (λ (item : Node × Packet). announces_in now.rack item.1 && is_in_rack now.rack item.0)
    (announced now.rack now o) (pending_packets now) first second

-- ---- how many packets an order, a plan and a retry send

few_of_order :
    (target : Option ℕ) (c : Controller) (command : Command)
    → length (ordered target c command).sent ≤ 1
few_of_order (Some target) c command = omega arith
few_of_order None c command =
    cond_both (is_handover_to c.switch command) (refuse c (order.SameSwitch c.switch))
    (sends_command c command (order.Sent (c.last + 1)))
    (λ (s : Step Controller (Node × Packet) Order). length s.sent ≤ 1)
    (λ _. omega arith) (λ _. omega arith)

pub few_ordered :
    (c : Controller) (command : Command) → length (order_command c command).sent ≤ 1
few_ordered c command =
    let few : Step Controller (Node × Packet) Order → Type 0 = λ s. length s.sent ≤ 1 in
    cond_both (is_some c.pending) (refuse c (order.Busy c.last)) _ few (λ _. omega arith)
    (λ _. cond_both (c.last == last_number - 1) (refuse c (order.Spent c.last))
    (ordered (no_such c.rack command) c command) few (λ _. omega arith)
    (λ _. few_of_order (no_such c.rack command) c command))

few_of_all :
    {D : Type 0} (c : Controller) (commands : List Command) (did : D)
    → length (sends_all c commands did).sent ≤ 1
few_of_all c [] did = omega arith
few_of_all c (command ∷ queue) did = omega arith

few_of_plan :
    (report : Option (List Row)) (c : Controller) (promote_at demote_below : ℕ)
    → length (planned report c promote_at demote_below).sent ≤ 1
few_of_plan None c promote_at demote_below = omega arith
few_of_plan (Some rows) c promote_at demote_below = few_of_all c _ _

pub few_planned :
    (c : Controller) (promote_at demote_below : ℕ)
    → length (make_plan c promote_at demote_below).sent ≤ 1
few_planned c promote_at demote_below =
    let few : Step Controller (Node × Packet) Plan → Type 0 = λ s. length s.sent ≤ 1 in
    cond_both (is_some c.pending) (refuse c (plan.Busy c.last)) _ few (λ _. omega arith)
    (λ _. cond_both (nat_lt (last_number - 65) c.last) (refuse c (plan.Spent c.last))
    (planned c.report c promote_at demote_below) few (λ _. omega arith)
    (λ _. few_of_plan c.report c promote_at demote_below))

few_of_retry :
    (pending : Option Command) (c : Controller) → 1 ≤ c.rack.clients
    → length (retry_of pending c.rack c).sent ≤ c.rack.clients
few_of_retry (Some command) c some = omega (arith, some)
few_of_retry None c some = length_announced c.rack c (Activated c.epoch)

pub few_retried :
    (c : Controller) → 1 ≤ c.rack.clients → length (retry_command c).sent ≤ c.rack.clients
few_retried c some = few_of_retry c.pending c some

-- ---- how many packets a step sends

few_taken :
    (rack : Rack) (c : Controller) (command : Command) (o : Outcome)
    → length (takes rack c command o).sent ≤ rack.clients + 1
few_taken rack c command o =
    let now : Controller = record (learned c command o) { pending = None } in
    let told = length_announced rack now o in
    let rest = few_of_all now c.queue (tt {0}) in
    let both = length-append (announced rack now o) (next_queued now c.queue).sent in
    omega (arith, told, rest, both)

few_acknowledged :
    (pending : Option Command) (rack : Rack) (c : Controller) (number : ℕ) (o : Outcome)
    → length (acknowledged pending rack c number o).sent ≤ rack.clients + 1
few_acknowledged None rack c number o = omega arith
few_acknowledged (Some command) rack c number o =
    let few : Step Controller (Node × Packet) ControlDid → Type 0 =
    λ s. length s.sent ≤ rack.clients + 1 in
    cond_both (not (number == c.last)) (refuse c did.Ignored) _ few (λ _. omega arith)
    (λ _. cond_both (is_strange rack c command o) (refuse c did.OutOfPlace)
    (takes rack c command o) few (λ _. omega arith) (λ _. few_taken rack c command o))

few_stepped :
    (c : Controller) (packet : Packet)
    → length (controller_step c packet).sent ≤ c.rack.clients + 1
unfolding controller_step
few_stepped c (CommandAck number outcome) = few_acknowledged c.pending c.rack c number outcome
few_stepped c (Report epoch total rows) = omega arith
few_stepped c _ = omega arith

few_found :
    (found : Option (Format × Packet)) (c : Controller)
    → length
    (on_bytes found c.rack.format (controller_step c) c did.Malformed did.OutOfPlace).sent
    ≤ c.rack.clients + 1
few_found None c = omega arith
few_found (Some (other, packet)) c =
    cond_both (is_format other c.rack.format) (controller_step c packet) (refuse c did.OutOfPlace)
    (λ (s : Step Controller (Node × Packet) ControlDid). length s.sent ≤ c.rack.clients + 1)
    (λ _. few_stepped c packet) (λ _. omega arith)

pub few_on_bytes :
    (c : Controller) (bytes : List ℕ)
    → length (controller_on_bytes c bytes).sent ≤ c.rack.clients + 1
few_on_bytes c bytes = few_found (packet_of bytes) c
