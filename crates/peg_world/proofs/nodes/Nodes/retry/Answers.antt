use Rattle.std.proofs.Common.{refl, arith}
use Rattle.peg_model.specs.Controller.{retry_command}
use Rattle.peg_world.specs.Sound.{acting_of}
use Rattle.peg_world.proofs.Calls.{controller_called, controller_count}
use Rattle.peg_world.proofs.nodes.Nodes.retry.Goals as goal

pub invariant_of-self : goal.invariant_of-self
invariant_of-self c =
    (controller_called (acting_of c.self.inside) c.args.self.now c.self.inside.post
    c.retry.new.post c.retry.new.self c.retry.result retry_command
    c.reads_back_what_is_spelled.ensures.packet c.self.invariant c.self.view_is refl
    c.requires.empty c.retry.ensures.after c.retry.ensures.answer c.retry.ensures.sent c.retry.ensures.packets
    c.retry.ensures.nodes c.retry.ensures.rack).kept

pub returns-clause-answer : goal.returns-clause-answer
returns-clause-answer c =
    (controller_called (acting_of c.self.inside) c.args.self.now c.self.inside.post
    c.retry.new.post c.retry.new.self c.retry.result retry_command
    c.reads_back_what_is_spelled.ensures.packet c.self.invariant c.self.view_is refl
    c.requires.empty c.retry.ensures.after c.retry.ensures.answer c.retry.ensures.sent c.retry.ensures.packets
    c.retry.ensures.nodes c.retry.ensures.rack).answer

pub returns-clause-after : goal.returns-clause-after
returns-clause-after c =
    (controller_called (acting_of c.self.inside) c.args.self.now c.self.inside.post
    c.retry.new.post c.retry.new.self c.retry.result retry_command
    c.reads_back_what_is_spelled.ensures.packet c.self.invariant c.self.view_is refl
    c.requires.empty c.retry.ensures.after c.retry.ensures.answer c.retry.ensures.sent c.retry.ensures.packets
    c.retry.ensures.nodes c.retry.ensures.rack).acts

pub returns-clause-few : goal.returns-clause-few
returns-clause-few c =
    omega (
      arith,
      controller_count (acting_of c.self.inside) c.args.self.now c.self.inside.post
          c.retry.new.post (retry_command c.self.inside.controller).sent 0 c.self.invariant c.self.view_is refl c.requires.empty
          c.retry.ensures.sent (omega (arith, c.retry.ensures.few)),
    )
