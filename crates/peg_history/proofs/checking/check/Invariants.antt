use Rattle.peg_history.proofs.Judged.{IsJudgedTo}
use Rattle.peg_history.proofs.checking.check.Given as goal

abbrev pub invariant-loop-i : goal.invariant-loop-i
invariant-loop-i l = IsJudgedTo l.history.ops l.orders l.i l.marks.items
