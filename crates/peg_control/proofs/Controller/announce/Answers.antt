use Rattle.std.proofs.Common.{◌≡◌, true, ap, sym, subst, ◌∙◌, arith}
use Rattle.peg_model.specs.Packet.{in_range, Announce}
use Rattle.peg_model.specs.Controller.{Controller, announces}
use Rattle.peg_packet.specs.Nodes.{are_in_rack}
use Rattle.peg_control.proofs.Kept.{told_in_range}
use Rattle.peg_control.proofs.Nodes.{announces_in_rack}
use Rattle.peg_control.proofs.Controller.announce.Goals as goal

pub tell_all-requires-clause-range : goal.tell_all-requires-clause-range
tell_all-requires-clause-range c =
    ap (λ f. in_range f (Announce c.self.inside.epoch c.self.inside.switch))
    (c.requires.format ∙ ap (λ (s : Controller). s.rack.format) (sym c.self.view_is))
    ∙ told_in_range _ c.self.invariant c.switches.ensures.limits
    (omega (arith, c.last.ensures.numbers))

pub returns-clause-nodes : goal.returns-clause-nodes
returns-clause-nodes c =
    subst
    (λ (s : Controller). are_in_rack s.rack (announces s.rack s.epoch s.switch) ≡ true)
    c.self.view_is (announces_in_rack _ c.self.invariant)
