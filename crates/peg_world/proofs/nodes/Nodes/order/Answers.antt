use Rattle.std.proofs.Common.{refl}
use Rattle.peg_model.specs.Controller.{order_command}
use Rattle.peg_world.specs.Sound.{acting_of}
use Rattle.peg_world.proofs.Calls.{controller_called}
use Rattle.peg_world.proofs.nodes.Nodes.order.Goals as goal

pub invariant_of-self : goal.invariant_of-self
invariant_of-self c =
    (controller_called (acting_of c.self.inside) c.args.self.now c.self.inside.post
    c.order.new.post c.order.new.self c.order.result (λ x. order_command x c.args.command.now)
    c.reads_back_what_is_spelled.ensures.packet c.self.invariant c.self.view_is refl
    c.requires.empty c.order.ensures.after c.order.ensures.answer c.order.ensures.sent c.order.ensures.packets
    c.order.ensures.nodes c.order.ensures.rack).kept

pub returns-clause-answer : goal.returns-clause-answer
returns-clause-answer c =
    (controller_called (acting_of c.self.inside) c.args.self.now c.self.inside.post
    c.order.new.post c.order.new.self c.order.result (λ x. order_command x c.args.command.now)
    c.reads_back_what_is_spelled.ensures.packet c.self.invariant c.self.view_is refl
    c.requires.empty c.order.ensures.after c.order.ensures.answer c.order.ensures.sent c.order.ensures.packets
    c.order.ensures.nodes c.order.ensures.rack).answer

pub returns-clause-after : goal.returns-clause-after
returns-clause-after c =
    (controller_called (acting_of c.self.inside) c.args.self.now c.self.inside.post
    c.order.new.post c.order.new.self c.order.result (λ x. order_command x c.args.command.now)
    c.reads_back_what_is_spelled.ensures.packet c.self.invariant c.self.view_is refl
    c.requires.empty c.order.ensures.after c.order.ensures.answer c.order.ensures.sent c.order.ensures.packets
    c.order.ensures.nodes c.order.ensures.rack).acts
