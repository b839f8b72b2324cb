use Rattle.std.proofs.Common.{refl, arith}
use Rattle.peg_model.specs.Datagrams.{controller_on_bytes}
use Rattle.peg_world.specs.Sound.{acting_of}
use Rattle.peg_world.proofs.Calls.{controller_handed, controller_count}
use Rattle.peg_world.proofs.nodes.Nodes.controller.Goals as goal

pub invariant_of-self : goal.invariant_of-self
invariant_of-self c =
    (controller_handed (acting_of c.self.inside) c.args.self.now c.self.inside.post
    c.step.new.post c.args.bytes.now c.step.new.self c.step.result
    c.reads_back_what_is_spelled.ensures.packet c.self.invariant c.self.view_is refl
    c.requires.empty c.requires.reads c.step.ensures.after c.step.ensures.answer
    c.step.ensures.sent c.step.ensures.packets c.step.ensures.nodes c.step.ensures.rack).kept

pub returns-clause-answer : goal.returns-clause-answer
returns-clause-answer c =
    (controller_handed (acting_of c.self.inside) c.args.self.now c.self.inside.post
    c.step.new.post c.args.bytes.now c.step.new.self c.step.result
    c.reads_back_what_is_spelled.ensures.packet c.self.invariant c.self.view_is refl
    c.requires.empty c.requires.reads c.step.ensures.after c.step.ensures.answer
    c.step.ensures.sent c.step.ensures.packets c.step.ensures.nodes c.step.ensures.rack).answer

pub returns-clause-after : goal.returns-clause-after
returns-clause-after c =
    (controller_handed (acting_of c.self.inside) c.args.self.now c.self.inside.post
    c.step.new.post c.args.bytes.now c.step.new.self c.step.result
    c.reads_back_what_is_spelled.ensures.packet c.self.invariant c.self.view_is refl
    c.requires.empty c.requires.reads c.step.ensures.after c.step.ensures.answer
    c.step.ensures.sent c.step.ensures.packets c.step.ensures.nodes c.step.ensures.rack).acts

pub returns-clause-few : goal.returns-clause-few
returns-clause-few c =
    omega (
      arith,
      controller_count (acting_of c.self.inside) c.args.self.now c.self.inside.post
          c.step.new.post (controller_on_bytes c.self.inside.controller c.args.bytes.now).sent 1 c.self.invariant c.self.view_is refl c.requires.empty
          c.step.ensures.sent c.step.ensures.few,
    )
