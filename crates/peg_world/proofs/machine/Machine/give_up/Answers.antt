use Rattle.peg_world.proofs.Kept.{kept_given_up}
use Rattle.peg_world.proofs.machine.Machine.give_up.Goals as goal

pub invariant_of-self : goal.invariant_of-self
invariant_of-self c =
    kept_given_up c.self.inside.nodes c.give_up-given_up.new.self c.self.inside.place
    c.self.inside.soup c.self.inside.operations.operations c.args.id c.self.invariant
    c.give_up-given_up.ensures.held c.give_up-given_up.ensures.named
    c.give_up-given_up.ensures.after
