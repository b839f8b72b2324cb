use Rattle.std.proofs.Common.{◌≡◌, ◌++◌, take, drop}
use Rattle.peg_model.specs.Counts.{taken_over}
use Rattle.peg_hot.proofs.take_over.Given as goal

abbrev pub invariant-loop-i : goal.invariant-loop-i
invariant-loop-i l = record {
  same : l.rows ≡ l.fn.rows;
  rest : taken_over l.key l.count l.rows ≡ take l.i l.rows ++ taken_over l.key l.count (drop l.i l.rows);
}
