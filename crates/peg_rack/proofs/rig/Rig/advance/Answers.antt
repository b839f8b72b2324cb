use Rattle.std.proofs.Common.{◌≡◌, ◌+◌, ◌∙◌, arith, ap, sym, subst, Some, None, refl, length}
use Rattle.peg_meaning.specs.RackWord.{nodes_of}
use Rattle.peg_rack.specs.Racking.{AreIn, takes_of}
use Rattle.peg_rack.specs.declared.takes.Takes.{Takes}
use Rattle.peg_rack.proofs.Stepping.{round_next}
use Rattle.peg_rack.proofs.rig.Rig.advance.Goals as goal

pub overflow_add-self : goal.overflow_add-self
overflow_add-self c =
    let in_rack = subst (λ (t : Takes). AreIn c.args.self.now.config t) c.in-Round.is
    c.requires.tied.in_rack in
    omega (arith, in_rack, c.count_of.ensures.count, c.count_of.ensures.few)

pub returns-in-Round-clause-next : goal.returns-in-Round-clause-next
returns-in-Round-clause-next c =
    record {
      pick = None;
      is =
          ap (takes_of c.args.self.now.config) c.in-Round.is
          ∙ round_next c.args.self.now.config c.in-Round.next c.node_at.result
          c.node_at.ensures.node;
      said = sym (c.from.ensures ∙ c.packets.ensures);
    }
