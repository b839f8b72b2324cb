use Rattle.std.proofs.Common.{◌≡◌, ◌∙◌, ap, sym, rules}
use Rattle.peg_meaning.specs.Balance.{Balanced, balanced_turn}
use Rattle.peg_packet.specs.Nodes.{are_in_rack}
use Rattle.peg_packet.specs.Outbox.{posted}
use Rattle.peg_packet.specs.Seen.{seen}
use Rattle.peg_node.proofs.Spreads.{turned_after, turned_sent}
use Rattle.peg_node.proofs.balanced.Balanced.turn.Goals as goal

pub returns-clause-after : goal.returns-clause-after
returns-clause-after c =
    let o : Balanced = record { switch = c.self.inside.switch; loads = c.self.inside.loads } in
    let same : c.in-Some.format ≡ o.switch.rack.format = search rules in
    turned_after o c.args.self.now c.args.bytes.now c.in-Some.format (seen c.in-Some.packet)
    c.pick-pick.result c.take-did.new.self c.take-did.result c.charge.new.loads c.self.view_is
    (sym c.in-Some.ensures.packet) same c.pick-pick.ensures c.take-did.ensures.after
    c.take-did.ensures.answer c.charge.ensures.charged

pub returns-clause-sent : goal.returns-clause-sent
returns-clause-sent c =
    let o : Balanced = record { switch = c.self.inside.switch; loads = c.self.inside.loads } in
    let same : c.in-Some.format ≡ o.switch.rack.format = search rules in
    c.take-did.ensures.sent
    ∙ ap (posted c.args.post.now)
    (turned_sent o c.args.self.now c.args.bytes.now c.in-Some.format (seen c.in-Some.packet)
    c.pick-pick.result c.self.view_is (sym c.in-Some.ensures.packet) same c.pick-pick.ensures)

pub returns-clause-nodes : goal.returns-clause-nodes
returns-clause-nodes c =
    let o : Balanced = record { switch = c.self.inside.switch; loads = c.self.inside.loads } in
    let same : c.in-Some.format ≡ o.switch.rack.format = search rules in
    let now = c.args.self.now in
    ap (λ (b : Balanced). are_in_rack b.switch.rack (balanced_turn now c.args.bytes.now 0).1)
    (sym c.self.view_is)
    ∙ ap (are_in_rack o.switch.rack)
    (sym
    (turned_sent o now c.args.bytes.now c.in-Some.format (seen c.in-Some.packet)
    c.pick-pick.result c.self.view_is (sym c.in-Some.ensures.packet) same
    c.pick-pick.ensures))
    ∙ c.take-did.ensures.nodes
