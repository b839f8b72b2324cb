use Rattle.std.proofs.Common.{◌++◌, flat_map, length, codes, decimal, true, subst}
use Rattle.peg_model.specs.Schedule.{fed}
use Rattle.peg_model.specs.Trace.{order_text}
use Rattle.peg_session.specs.Pages.{Passes}
use Rattle.peg_session.proofs.Passing.{passes_then, passes_off}
use Rattle.peg_print.proofs.tail.push_key_order.Goals as goal

pub returns-then-push_order-clause-content : goal.returns-then-push_order-clause-content
returns-then-push_order-clause-content g c =
    let o = c.args.order.now in
    passes_then c.push_places.result (fed (order_text o.key (length o.ops)))
    (flat_map (λ place. fed (codes "at " ++ decimal place)) o.ops)
    c.args.page.now c.push_order.new.page c.push_places.new.page (g.K.Sink.held c.args.sink.now)
    (g.K.Sink.held c.push_order.new.sink) (g.K.Sink.held c.push_places.new.sink)
    (subst (λ n. Passes true (fed (order_text o.key n)) c.args.page.now c.push_order.new.page
    (g.K.Sink.held c.args.sink.now) (g.K.Sink.held c.push_order.new.sink))
    c.len.ensures.len c.if-push_order.ensures.content) c.push_places.ensures.content

pub returns-else-push_order-clause-content : goal.returns-else-push_order-clause-content
returns-else-push_order-clause-content g c =
    let o = c.args.order.now in
    passes_off c.push_order.result (fed (order_text o.key (length o.ops)))
    (flat_map (λ place. fed (codes "at " ++ decimal place)) o.ops)
    c.args.page.now c.push_order.new.page c.push_order.new.page (g.K.Sink.held c.args.sink.now)
    (g.K.Sink.held c.push_order.new.sink) c.if-push_order.false
    (subst (λ n. Passes c.push_order.result (fed (order_text o.key n)) c.args.page.now
    c.push_order.new.page (g.K.Sink.held c.args.sink.now) (g.K.Sink.held c.push_order.new.sink))
    c.len.ensures.len c.push_order.ensures.content)
