use Rattle.peg_history.proofs.Orders.{IsGathered}
use Rattle.peg_history.proofs.order.order_of.Given as goal

abbrev pub invariant-loop-place : goal.invariant-loop-place
invariant-loop-place l = IsGathered l.key l.history.ops l.tags l.place l.entries.items
