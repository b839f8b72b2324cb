use Rattle.std.proofs.Common.{◌+◌, drop, subst, arith}
use Rattle.peg_model.specs.Schedule.{fed}
use Rattle.peg_model.specs.Trace.{ops_text, op_text}
use Rattle.peg_session.proofs.Passing.{IsOnTheWay, way_more, way_cut}
use Rattle.peg_print.proofs.Tails.{ops_at}
use Rattle.peg_print.proofs.tail.push_ops.Goals as goal

pub loop-number-preserved : goal.loop-number-preserved
loop-number-preserved g c =
    let ops = c.args.history.now.ops in
    let n = c.loop-number.number in
    let op = c.op.result in
    let e = ops_at n ops op c.op.ensures in
    record {
      way =
          way_more (fed (op_text n op)) (ops_text (n + 1) (drop (n + 1) ops)) c.push_op.new.page
          (g.K.Sink.held c.push_op.new.sink)
          (subst (λ xs. IsOnTheWay (ops_text 0 ops) xs c.args.page.now c.loop-number.page
          (g.K.Sink.held c.args.sink.now) (g.K.Sink.held c.loop-number.sink))
          e c.loop-number.invariant.way) c.if-not-push_op.ensures.content;
      later = omega (arith, c.loop-number.invariant.later, c.if-not-push_op.ensures.later);
    }

pub returns-then-not-push_op-clause-content : goal.returns-then-not-push_op-clause-content
returns-then-not-push_op-clause-content g c =
    let ops = c.args.history.now.ops in
    let n = c.loop-number.number in
    let op = c.op.result in
    let e = ops_at n ops op c.op.ensures in
    way_cut (fed (op_text n op)) (ops_text (n + 1) (drop (n + 1) ops)) c.push_op.new.page
    (g.K.Sink.held c.push_op.new.sink)
    (subst (λ xs. IsOnTheWay (ops_text 0 ops) xs c.args.page.now c.loop-number.page
    (g.K.Sink.held c.args.sink.now) (g.K.Sink.held c.loop-number.sink))
    e c.loop-number.invariant.way) c.if-not-push_op.ensures.content
