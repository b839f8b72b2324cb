use Rattle.peg_world.proofs.Kept.{kept_stamped}
use Rattle.peg_world.proofs.machine.Machine.note.Goals as goal

pub invariant_of-self : goal.invariant_of-self
invariant_of-self c =
    kept_stamped c.self.inside.nodes c.self.inside.place c.self.inside.soup
    c.self.inside.operations.operations c.take_stamp.new.self.operations c.in-Stamped.client
    c.in-Stamped.seq c.in-Stamped.version c.self.invariant c.take_stamp.ensures
