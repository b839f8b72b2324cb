use Rattle.peg_history.proofs.Walked.{IsWalkedTo}
use Rattle.peg_history.proofs.checking.fault_in.Given as goal

abbrev pub invariant-loop-i : goal.invariant-loop-i
invariant-loop-i l = IsWalkedTo l.history.ops l.order.key l.places l.i l.marks l.mark l.last l.latest
