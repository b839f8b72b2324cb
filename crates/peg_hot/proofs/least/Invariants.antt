use Rattle.std.proofs.Common.{◌≡◌, ◌<◌, ◌^◌, min, drop}
use Rattle.peg_model.specs.Counts.{least}
use Rattle.peg_hot.proofs.least.Given as goal

abbrev pub invariant-loop-row : goal.invariant-loop-row
invariant-loop-row l = record {
  small : l.count < 2 ^ 64;
  least : min l.count (least (drop l.row-index l.rows)) ≡ least l.rows;
}
