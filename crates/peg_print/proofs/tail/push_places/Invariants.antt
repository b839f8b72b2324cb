use Rattle.std.proofs.Common.{◌≤◌, ◌++◌, drop, flat_map, codes, decimal}
use Rattle.peg_model.specs.Schedule.{fed}
use Rattle.peg_session.proofs.Passing.{IsOnTheWay}
use Rattle.peg_print.proofs.tail.push_places.Given as goal

abbrev pub invariant-loop-i : goal.invariant-loop-i
invariant-loop-i g l = record {
  way : IsOnTheWay (flat_map (λ place. fed (codes "at " ++ decimal place)) l.ops)
      (flat_map (λ place. fed (codes "at " ++ decimal place)) (drop l.i l.ops)) l.fn.page l.page
      (g.K.Sink.held l.fn.sink) (g.K.Sink.held l.sink);
  later : g.K.Sink.faults l.fn.sink ≤ g.K.Sink.faults l.sink;
}
