use Rattle.std.proofs.Common.{◌≡◌, ◌++◌, take, drop}
use Rattle.peg_model.specs.Counts.{raised, has_row}
use Rattle.peg_hot.proofs.raise.Given as goal

abbrev pub invariant-loop-i : goal.invariant-loop-i
invariant-loop-i l = record {
  same : l.rows ≡ l.fn.rows;
  rest : raised l.key l.rows ≡ take l.i l.rows ++ raised l.key (drop l.i l.rows);
  found : has_row l.key l.rows ≡ has_row l.key (drop l.i l.rows);
}
