-- What a step of the book sends, by what the controller is afterwards.
use Rattle.std.proofs.Common.{◌≡◌, ℕ, ◌+◌, ◌<◌, ◌≤◌, true, subst, List, [], ◌∷◌, ◌++◌, length, None}
use Rattle.std.proofs.Common.{refl, ap, sym, ◌∙◌, arith}
use Rattle.std.proofs.lemmas.List.{length-map}
use Rattle.peg_name.specs.Name.{Rack}
use Rattle.peg_name.specs.declared.Node.{Node}
use Rattle.peg_name.specs.declared.Node.TheVariants as node
use Rattle.peg_event.specs.declared.Command.{Command}
use Rattle.peg_event.specs.declared.Command.TheVariants.{Promote, Demote, Handover}
use Rattle.peg_event.specs.declared.Outcome.{Outcome}
use Rattle.peg_event.specs.declared.Outcome.TheVariants.{Listed, Marked, Activated}
use Rattle.peg_model.specs.Words.{below}
use Rattle.peg_model.specs.Packet.{Packet, Announce, in_range}
use Rattle.peg_model.specs.Datagrams.{are_packets}
use Rattle.peg_model.specs.Controller.{Controller, controller_step, acknowledged, announced}
use Rattle.peg_model.specs.Controller.{announces, learned, next_queued, takes}
use Rattle.peg_packet.specs.Seen.{seen, outcome_seen}
use Rattle.peg_packet.specs.declared.Packet.{Packet as Lent}
use Rattle.peg_packet.specs.declared.Packet.TheVariants as lent
use Rattle.peg_control.specs.Orders.{pending_packets, packets_of}
use Rattle.peg_packet.specs.Outbox.{Outbox, posted}
use Rattle.peg_control.proofs.Sending.{length_below, length_posted, posted_twice, all_append}

-- ---- a packet as it is lent

pub step_acknowledged :
    (c : Controller) (p : Lent) (number code value : ℕ) (o : Outcome)
    → p ≡ lent.CommandAck number code value → o ≡ outcome_seen code value
    → acknowledged c.pending c.rack c number o ≡ controller_step c (seen p)
unfolding controller_step
step_acknowledged c p number code value o is out =
    ap (acknowledged c.pending c.rack c number) out
    ∙ sym (ap (λ q. controller_step c (seen q)) is)

-- ---- what is announced

pub length_announced :
    (rack : Rack) (c : Controller) (o : Outcome) → length (announced rack c o) ≤ rack.clients
length_announced rack c (Activated epoch) =
    let e = length-map {B = Node × Packet} (below rack.clients)
    (λ client. (node.Client client, Announce c.epoch c.switch)) in
    let n = length_below rack.clients in
    omega (arith, e, n)
length_announced rack c _ = omega arith

same_announced :
    (rack : Rack) (c d : Controller) (o : Outcome) → c.epoch ≡ d.epoch → c.switch ≡ d.switch
    → announced rack c o ≡ announced rack d o
same_announced rack c d (Activated epoch) e s =
    ap (λ n. announces rack n c.switch) e ∙ ap (announces rack d.epoch) s
same_announced rack c d _ e s = refl

-- ---- what is sent

sends_both :
    (rack : Rack) (now : Controller) (o : Outcome) (queue : List Command) → now.pending ≡ None
    → announced rack (next_queued now queue).state o
    ++ pending_packets (next_queued now queue).state
    ≡ announced rack now o ++ (next_queued now queue).sent
sends_both rack now o [] none =
    ap (λ p. announced rack now o ++ packets_of now p) none
sends_both rack now o (command ∷ queue) none =
    ap
    (λ l. l ++ pending_packets (next_queued now (command ∷ queue)).state)
    (same_announced rack (next_queued now (command ∷ queue)).state now o refl refl)

pub takes_sent :
    (c : Controller) (command : Command) (o : Outcome)
    → announced c.rack (takes c.rack c command o).state o
    ++ pending_packets (takes c.rack c command o).state
    ≡ (takes c.rack c command o).sent
takes_sent c command o =
    sends_both c.rack (record (learned c command o) { pending = None }) o c.queue refl

learned_rack :
    (c : Controller) (command : Command) (o : Outcome) → (learned c command o).rack ≡ c.rack
learned_rack c (Promote key) (Listed listing) = refl
learned_rack c (Demote key) (Marked mark) = refl
learned_rack c (Handover target) (Activated epoch) = refl
learned_rack c _ _ = refl

sends_rack :
    (now : Controller) (queue : List Command) → (next_queued now queue).state.rack ≡ now.rack
sends_rack now [] = refl
sends_rack now (command ∷ queue) = refl

pub takes_rack :
    (c : Controller) (command : Command) (o : Outcome)
    → (takes c.rack c command o).state.rack ≡ c.rack
takes_rack c command o =
    sends_rack (record (learned c command o) { pending = None }) c.queue
    ∙ learned_rack c command o

-- ---- a command that is finished

pub room_left :
    (post now : Outbox) (rack : Rack) (c : Controller) (o : Outcome)
    → now ≡ posted post (announced c.rack c o) → c.rack ≡ rack
    → length post.items + rack.clients < post.slots → length now.items < now.slots
room_left post now rack c o is same room =
    let slots : now.slots ≡ post.slots = ap (λ (p : Outbox). p.slots) is in
    let items : length now.items ≡ length post.items + length (announced c.rack c o) =
    ap (λ (p : Outbox). length p.items) is ∙ length_posted post (announced c.rack c o) in
    let few : length (announced c.rack c o) ≤ rack.clients =
    subst (λ (r : Rack). length (announced c.rack c o) ≤ r.clients) same
    (length_announced c.rack c o) in
    omega (arith, slots, items, few)

pub all_sent :
    (c now : Controller) (command : Command) (o : Outcome) → now ≡ (takes c.rack c command o).state
    → announced now.rack now o ++ pending_packets now ≡ (takes c.rack c command o).sent
all_sent c now command o is =
    ap (λ (s : Controller). announced s.rack s o ++ pending_packets s) is
    ∙ ap
    (λ (r : Rack). announced r (takes c.rack c command o).state o
    ++ pending_packets (takes c.rack c command o).state)
    (takes_rack c command o)
    ∙ takes_sent c command o

pub finished_sent :
    (post told all : Outbox) (c now : Controller) (command : Command) (o : Outcome)
    → now ≡ (takes c.rack c command o).state
    → told ≡ posted post (announced now.rack now o) → all ≡ posted told (pending_packets now)
    → all ≡ posted post (takes c.rack c command o).sent
finished_sent post told all c now command o is first second =
    second
    ∙ ap (λ p. posted p (pending_packets now)) first
    ∙ posted_twice post (announced now.rack now o) (pending_packets now)
    ∙ ap (posted post) (all_sent c now command o is)

pub finished_packets :
    (c now : Controller) (command : Command) (o : Outcome)
    → now ≡ (takes c.rack c command o).state
    → are_packets now.rack.format (announced now.rack now o) ≡ true
    → are_packets now.rack.format (pending_packets now) ≡ true
    → are_packets c.rack.format (takes c.rack c command o).sent ≡ true
finished_packets c now command o is first second =
    let rack : now.rack ≡ c.rack = ap (λ (s : Controller). s.rack) is ∙ takes_rack c command o in
    ap (λ (r : Rack). are_packets r.format (takes c.rack c command o).sent) (sym rack)
    ∙ ap (are_packets now.rack.format) (sym (all_sent c now command o is))
    ∙ all_append (λ (item : Node × Packet). in_range now.rack.format item.1)
    (announced now.rack now o) (pending_packets now) first second
