use Rattle.std.proofs.Common.{◌<◌}
use Rattle.peg_io.proofs.tests.wire_hears_its_script.Given as goal

abbrev pub invariant-loop-want : goal.invariant-loop-want
invariant-loop-want g l = 1 < l.wire.slots
