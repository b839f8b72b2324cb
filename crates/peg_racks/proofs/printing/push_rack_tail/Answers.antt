use Rattle.std.proofs.Common.{◌++◌, codes, decimal, map, subst, sym}
use Rattle.peg_model.specs.Schedule.{fed}
use Rattle.peg_model.specs.Trace.{tail_text}
use Rattle.peg_session.specs.Pages.{Passes}
use Rattle.peg_session.proofs.Passing.{passes_then, passes_off}
use Rattle.peg_print.specs.Tail.{key_order}
use Rattle.peg_racks.proofs.TailLines.{tail_is, tail_begun}
use Rattle.peg_racks.proofs.printing.push_rack_tail.Goals as goal

pub returns-then-push_rack_number-clause-content :
    goal.returns-then-push_rack_number-clause-content
returns-then-push_rack_number-clause-content g c =
    let rack = c.args.rack in
    let ops = c.history.result.now.ops in
    let orders = c.args.orders.now in
    let h = g.K.Sink.held c.args.sink.now in
    let h2 = g.K.Sink.held c.push_tail.new.sink in
    subst (λ xs. Passes c.push_tail.result xs c.args.page.now c.push_tail.new.page h h2)
    (sym (tail_is c.prints_orders_of_the_book.ensures c.args.racks.now rack ops orders
    c.history.ensures c.requires.orders))
    (passes_then c.push_tail.result (fed (codes "rack " ++ decimal rack))
    (tail_text ops (map key_order orders)) c.args.page.now c.push_rack_number.new.page
    c.push_tail.new.page h (g.K.Sink.held c.push_rack_number.new.sink) h2
    c.if-push_rack_number.ensures.content c.push_tail.ensures.content)

pub returns-else-push_rack_number-clause-content :
    goal.returns-else-push_rack_number-clause-content
returns-else-push_rack_number-clause-content g c =
    let rack = c.args.rack in
    let page = c.push_rack_number.new.page in
    let h = g.K.Sink.held c.args.sink.now in
    let h1 = g.K.Sink.held c.push_rack_number.new.sink in
    let text = tail_begun c.args.racks.now rack c.requires.below in
    subst (λ xs. Passes c.push_rack_number.result xs c.args.page.now page h h1) (sym text.1)
    (passes_off c.push_rack_number.result (fed (codes "rack " ++ decimal rack)) text.0
    c.args.page.now page page h h1 c.if-push_rack_number.false c.push_rack_number.ensures.content)
