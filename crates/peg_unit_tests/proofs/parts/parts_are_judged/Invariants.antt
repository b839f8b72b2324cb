use Rattle.std.proofs.Common.{◌≡◌, length}
use Rattle.peg_unit_tests.proofs.parts.parts_are_judged.Given as goal

abbrev pub invariant-loop-epoch : goal.invariant-loop-epoch
invariant-loop-epoch g l = record {
  clients : length l.stamper.rows ≡ length l.initial.stamper.rows;
  collector : l.collector.rack ≡ l.initial.collector.rack;
  directory : l.directory.rack ≡ l.initial.directory.rack;
}
