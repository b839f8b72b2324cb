use Rattle.std.proofs.Common.{◌≡◌, map}
use Rattle.peg_model.specs.Words.{below}
use Rattle.peg_model.specs.Switch.{new_switch}
use Rattle.peg_world.proofs.making.switches.Given as goal

abbrev pub invariant-loop-id : goal.invariant-loop-id
invariant-loop-id l = l.switches.items ≡ map (new_switch l.config l.keys) (below l.id)
