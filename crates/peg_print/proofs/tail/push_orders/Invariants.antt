use Rattle.std.proofs.Common.{◌≤◌, drop, flat_map, map}
use Rattle.peg_model.specs.Trace.{key_order_text}
use Rattle.peg_print.specs.Tail.{key_order}
use Rattle.peg_session.proofs.Passing.{IsOnTheWay}
use Rattle.peg_print.proofs.tail.push_orders.Given as goal

abbrev pub invariant-loop-order : goal.invariant-loop-order
invariant-loop-order g l = record {
  way : IsOnTheWay (flat_map key_order_text (map key_order l.orders))
      (flat_map key_order_text (map key_order (drop l.order-index l.orders))) l.fn.page l.page
      (g.K.Sink.held l.fn.sink) (g.K.Sink.held l.sink);
  later : g.K.Sink.faults l.fn.sink ≤ g.K.Sink.faults l.sink;
}
