use Rattle.std.proofs.Common.{◌++◌, length, codes, decimal, true, subst}
use Rattle.peg_model.specs.Schedule.{fed}
use Rattle.peg_model.specs.Trace.{ops_text}
use Rattle.peg_session.specs.Pages.{Passes}
use Rattle.peg_session.proofs.Passing.{passes_then, passes_off}
use Rattle.peg_print.proofs.tail.push_history.Goals as goal

pub returns-then-push_history_line-clause-content : goal.returns-then-push_history_line-clause-content
returns-then-push_history_line-clause-content g c =
    let ops = c.args.history.now.ops in
    passes_then c.push_ops.result (fed (codes "history " ++ decimal (length ops))) (ops_text 0 ops)
    c.args.page.now c.push_history_line.new.page c.push_ops.new.page (g.K.Sink.held c.args.sink.now)
    (g.K.Sink.held c.push_history_line.new.sink) (g.K.Sink.held c.push_ops.new.sink)
    (subst (λ n. Passes true (fed (codes "history " ++ decimal n)) c.args.page.now
    c.push_history_line.new.page (g.K.Sink.held c.args.sink.now)
    (g.K.Sink.held c.push_history_line.new.sink))
    c.len.ensures.len c.if-push_history_line.ensures.content) c.push_ops.ensures.content

pub returns-else-push_history_line-clause-content : goal.returns-else-push_history_line-clause-content
returns-else-push_history_line-clause-content g c =
    let ops = c.args.history.now.ops in
    passes_off c.push_history_line.result (fed (codes "history " ++ decimal (length ops)))
    (ops_text 0 ops) c.args.page.now c.push_history_line.new.page c.push_history_line.new.page
    (g.K.Sink.held c.args.sink.now) (g.K.Sink.held c.push_history_line.new.sink) c.if-push_history_line.false
    (subst (λ n. Passes c.push_history_line.result (fed (codes "history " ++ decimal n)) c.args.page.now
    c.push_history_line.new.page (g.K.Sink.held c.args.sink.now)
    (g.K.Sink.held c.push_history_line.new.sink))
    c.len.ensures.len c.push_history_line.ensures.content)
