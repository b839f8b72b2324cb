use Rattle.std.proofs.Common.{refl}
use Rattle.peg_model.specs.Controller.{survey}
use Rattle.peg_world.specs.Sound.{acting_of}
use Rattle.peg_world.proofs.Calls.{controller_called}
use Rattle.peg_world.proofs.nodes.Nodes.survey.Goals as goal

pub invariant_of-self : goal.invariant_of-self
invariant_of-self c =
    (controller_called (acting_of c.self.inside) c.args.self.now c.self.inside.post
    c.survey.new.post c.survey.new.self tt survey
    c.reads_back_what_is_spelled.ensures.packet c.self.invariant c.self.view_is refl
    c.requires.empty c.survey.ensures.after refl c.survey.ensures.sent c.survey.ensures.packets
    c.survey.ensures.nodes c.survey.ensures.rack).kept

pub returns-clause-after : goal.returns-clause-after
returns-clause-after c =
    (controller_called (acting_of c.self.inside) c.args.self.now c.self.inside.post
    c.survey.new.post c.survey.new.self tt survey
    c.reads_back_what_is_spelled.ensures.packet c.self.invariant c.self.view_is refl
    c.requires.empty c.survey.ensures.after refl c.survey.ensures.sent c.survey.ensures.packets
    c.survey.ensures.nodes c.survey.ensures.rack).acts
