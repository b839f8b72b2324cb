use Rattle.std.proofs.Common.{◌+◌, flat_map, map, drop, subst, arith}
use Rattle.peg_model.specs.Trace.{key_order_text}
use Rattle.peg_print.specs.Tail.{key_order}
use Rattle.peg_session.proofs.Passing.{IsOnTheWay, way_more, way_cut}
use Rattle.peg_print.proofs.Tails.{orders_from}
use Rattle.peg_print.proofs.tail.push_orders.Goals as goal

pub loop-order-preserved : goal.loop-order-preserved
loop-order-preserved g c =
    let i = c.loop-order.order-index in
    let orders = c.args.orders.now in
    let o = c.order-item.result in
    let e = orders_from i orders o c.loop-order-test.true c.order-item.is in
    record {
      way =
          way_more (key_order_text (key_order o))
          (flat_map key_order_text (map key_order (drop (i + 1) orders)))
          c.push_key_order.new.page
          (g.K.Sink.held c.push_key_order.new.sink)
          (subst (λ xs. IsOnTheWay (flat_map key_order_text (map key_order orders)) xs
          c.args.page.now c.loop-order.page (g.K.Sink.held c.args.sink.now)
          (g.K.Sink.held c.loop-order.sink))
          e c.loop-order.invariant.way) c.if-not-push_key_order.ensures.content;
      later = omega (arith, c.loop-order.invariant.later, c.if-not-push_key_order.ensures.later);
    }

pub returns-then-not-push_key_order-clause-content :
    goal.returns-then-not-push_key_order-clause-content
returns-then-not-push_key_order-clause-content g c =
    let i = c.loop-order.order-index in
    let orders = c.args.orders.now in
    let o = c.order-item.result in
    let e = orders_from i orders o c.loop-order-test.true c.order-item.is in
    way_cut (key_order_text (key_order o))
    (flat_map key_order_text (map key_order (drop (i + 1) orders))) c.push_key_order.new.page
    (g.K.Sink.held c.push_key_order.new.sink)
    (subst (λ xs. IsOnTheWay (flat_map key_order_text (map key_order orders)) xs c.args.page.now
    c.loop-order.page (g.K.Sink.held c.args.sink.now) (g.K.Sink.held c.loop-order.sink))
    e c.loop-order.invariant.way) c.if-not-push_key_order.ensures.content
