use Rattle.std.proofs.Common.{◌≡◌, true, ap, sym, subst, refl, ◌∙◌, [], ◌∷◌}
use Rattle.std.specs.Cmp.Derive.{both_true}
use Rattle.peg_model.specs.Packet as packet
use Rattle.peg_model.specs.Packet.{in_range}
use Rattle.peg_model.specs.Controller.{Controller, command_packet}
use Rattle.peg_packet.specs.Nodes.{are_in_rack}
use Rattle.peg_packet.specs.Seen.{what_seen}
use Rattle.peg_control.proofs.Kept.{sent_in_range}
use Rattle.peg_control.proofs.Nodes.{commanded_in_rack}
use Rattle.peg_control.proofs.Controller.send.Goals as goal

pub put-requires-clause-in_range : goal.put-requires-clause-in_range
put-requires-clause-in_range c =
    let view_is = c.self.view_is in
    let format = c.requires.format ∙ ap (λ (s : Controller). s.rack.format) (sym view_is) in
    let sent = sent_in_range _ c.args.command.now c.self.invariant c.servers.ensures.limits
    (ap (λ (s : Controller). s.pending) view_is ∙ c.requires.pending) c.what_of.ensures.keyed
    c.last.ensures.numbers in
    ap (λ f. in_range f (packet.Command c.last.result (what_seen c.what_of.result))) format
    ∙ ap (λ n. in_range c.self.inside.config.format
    (packet.Command n (what_seen c.what_of.result))) c.last.ensures.last
    ∙ ap (λ w. in_range c.self.inside.config.format (packet.Command c.self.inside.orders.last w))
    c.what_of.ensures.is
    ∙ sent

pub returns-clause-packets : goal.returns-clause-packets
returns-clause-packets c =
    let view_is = c.self.view_is in
    let sent = sent_in_range _ c.args.command.now c.self.invariant c.servers.ensures.limits
    (ap (λ (s : Controller). s.pending) view_is ∙ c.requires.pending) c.what_of.ensures.keyed
    c.last.ensures.numbers in
    both_true
    (subst
    (λ (s : Controller). in_range s.rack.format (command_packet s c.args.command.now).1 ≡ true)
    view_is sent)
    refl

pub returns-clause-nodes : goal.returns-clause-nodes
returns-clause-nodes c =
    subst
    (λ (s : Controller). are_in_rack s.rack (command_packet s c.args.command.now ∷ []) ≡ true)
    c.self.view_is (commanded_in_rack _ c.args.command.now c.self.invariant)
