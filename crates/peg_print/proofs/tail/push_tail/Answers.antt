use Rattle.std.proofs.Common.{ℕ, List, codes, flat_map, map}
use Rattle.peg_history.specs.declared.KeyOrder.{KeyOrder}
use Rattle.peg_model.specs.Schedule.{fed}
use Rattle.peg_model.specs.Trace.{key_order_text}
use Rattle.peg_print.specs.Tail.{key_order, history_lines}
use Rattle.peg_print.proofs.Parts.{first_cut, second_cut, third}
use Rattle.peg_print.proofs.tail.push_tail.Goals as goal

abbrev orders_part : List KeyOrder → List ℕ
orders_part orders = flat_map key_order_text (map key_order orders)

pub returns-then-not-push_history-clause-content :
    goal.returns-then-not-push_history-clause-content
returns-then-not-push_history-clause-content g c =
    first_cut (history_lines c.args.history.now.ops) (orders_part c.args.orders.now)
    (fed (codes "done")) c.args.page.now (g.K.Sink.held c.args.sink.now) c.push_history.new.page
    (g.K.Sink.held c.push_history.new.sink) c.if-not-push_history.ensures.content

pub returns-then-not-push_orders-clause-content : goal.returns-then-not-push_orders-clause-content
returns-then-not-push_orders-clause-content g c =
    second_cut (history_lines c.args.history.now.ops) (orders_part c.args.orders.now)
    (fed (codes "done")) c.args.page.now (g.K.Sink.held c.args.sink.now) c.push_history.new.page
    c.push_orders.new.page (g.K.Sink.held c.push_history.new.sink)
    (g.K.Sink.held c.push_orders.new.sink) c.if-not-push_history.ensures.content
    c.if-not-push_orders.ensures.content

pub returns-clause-content : goal.returns-clause-content
returns-clause-content g c =
    third (history_lines c.args.history.now.ops) (orders_part c.args.orders.now)
    (fed (codes "done")) c.args.page.now (g.K.Sink.held c.args.sink.now) c.push_done.result
    c.push_history.new.page c.push_orders.new.page c.push_done.new.page
    (g.K.Sink.held c.push_history.new.sink) (g.K.Sink.held c.push_orders.new.sink)
    (g.K.Sink.held c.push_done.new.sink) c.if-not-push_history.ensures.content
    c.if-not-push_orders.ensures.content c.push_done.ensures.content
