use Rattle.std.proofs.Common.{◌∙◌, ap, None}
use Rattle.peg_rack.specs.Racking.{racked_of, takes_of}
use Rattle.peg_rack.proofs.Stepping.{wants_turn, round_next}
use Rattle.peg_rack.proofs.rig.Rig.want.Goals as goal

pub returns-else-next-count_of-clause-want : goal.returns-else-next-count_of-clause-want
returns-else-next-count_of-clause-want c =
    let s = c.args.self.now in
    c.want_turn-in-Round.ensures
    ∙ wants_turn s.is_over (racked_of s) s.config c.node_at-node.result None _ c.slot_of-in-Round.result
    c.if-self.false c.requires.tied.is_rack
    (ap (takes_of s.config) c.in-Round.is
    ∙ round_next s.config c.in-Round.next c.node_at-node.result c.node_at-node.ensures.node)
    c.slot_of-in-Round.ensures.slot
