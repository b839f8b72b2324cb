use Rattle.std.proofs.Common.{◌≤◌, drop}
use Rattle.peg_model.specs.Trace.{ops_text}
use Rattle.peg_session.proofs.Passing.{IsOnTheWay}
use Rattle.peg_print.proofs.tail.push_ops.Given as goal

abbrev pub invariant-loop-number : goal.invariant-loop-number
invariant-loop-number g l = record {
  way : IsOnTheWay (ops_text 0 l.history.ops) (ops_text l.number (drop l.number l.history.ops)) l.fn.page l.page
      (g.K.Sink.held l.fn.sink) (g.K.Sink.held l.sink);
  later : g.K.Sink.faults l.fn.sink ≤ g.K.Sink.faults l.sink;
}
