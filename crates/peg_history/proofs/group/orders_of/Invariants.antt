use Rattle.std.proofs.Common.{◌≡◌, ◌++◌, map}
use Rattle.std.specs.Vec.Iter.{into_iter_items}
use Rattle.peg_history.proofs.Passes.{order_of_group}
use Rattle.peg_history.proofs.group.orders_of.Given as goal

abbrev pub invariant-loop-group : goal.invariant-loop-group
invariant-loop-group l = l.orders.items ++ map order_of_group (into_iter_items l.group-iterator) ≡ map order_of_group (into_iter_items l.initial.group-iterator)
