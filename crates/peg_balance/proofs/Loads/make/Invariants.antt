use Rattle.std.proofs.Common.{◌≡◌, take, replicate}
use Rattle.peg_balance.proofs.Loads.make.Given as goal

abbrev pub invariant-loop-weight : goal.invariant-loop-weight
invariant-loop-weight l = record {
  weights : l.own.items ≡ take l.weight-index l.weights;
  loads : l.loads.items ≡ replicate l.weight-index 0;
}
