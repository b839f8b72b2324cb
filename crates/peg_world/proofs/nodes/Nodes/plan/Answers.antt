use Rattle.std.proofs.Common.{refl}
use Rattle.peg_model.specs.Controller.{make_plan}
use Rattle.peg_world.specs.Sound.{acting_of}
use Rattle.peg_world.proofs.Calls.{controller_called}
use Rattle.peg_world.proofs.nodes.Nodes.plan.Goals as goal

pub invariant_of-self : goal.invariant_of-self
invariant_of-self c =
    (controller_called (acting_of c.self.inside) c.args.self.now c.self.inside.post
    c.plan.new.post c.plan.new.self c.plan.result (λ x. make_plan x c.args.promote_at c.args.demote_below)
    c.reads_back_what_is_spelled.ensures.packet c.self.invariant c.self.view_is refl
    c.requires.empty c.plan.ensures.after c.plan.ensures.answer c.plan.ensures.sent c.plan.ensures.packets
    c.plan.ensures.nodes c.plan.ensures.rack).kept

pub returns-clause-answer : goal.returns-clause-answer
returns-clause-answer c =
    (controller_called (acting_of c.self.inside) c.args.self.now c.self.inside.post
    c.plan.new.post c.plan.new.self c.plan.result (λ x. make_plan x c.args.promote_at c.args.demote_below)
    c.reads_back_what_is_spelled.ensures.packet c.self.invariant c.self.view_is refl
    c.requires.empty c.plan.ensures.after c.plan.ensures.answer c.plan.ensures.sent c.plan.ensures.packets
    c.plan.ensures.nodes c.plan.ensures.rack).answer

pub returns-clause-after : goal.returns-clause-after
returns-clause-after c =
    (controller_called (acting_of c.self.inside) c.args.self.now c.self.inside.post
    c.plan.new.post c.plan.new.self c.plan.result (λ x. make_plan x c.args.promote_at c.args.demote_below)
    c.reads_back_what_is_spelled.ensures.packet c.self.invariant c.self.view_is refl
    c.requires.empty c.plan.ensures.after c.plan.ensures.answer c.plan.ensures.sent c.plan.ensures.packets
    c.plan.ensures.nodes c.plan.ensures.rack).acts
