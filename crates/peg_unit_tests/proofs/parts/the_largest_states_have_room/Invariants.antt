use Rattle.std.proofs.Common.{◌≡◌}
use Rattle.peg_unit_tests.proofs.parts.the_largest_states_have_room.Given as goal

abbrev pub invariant-loop-number : goal.invariant-loop-number
invariant-loop-number g l = l.directory.rack ≡ l.config
