use Rattle.peg_history.proofs.Listed.{IsListedTo}
use Rattle.peg_history.proofs.checking.answered_of.Given as goal

abbrev pub invariant-loop-place : goal.invariant-loop-place
invariant-loop-place l = IsListedTo l.history.ops l.place l.known
