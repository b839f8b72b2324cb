use Rattle.std.proofs.Common.{◌≤◌, length}
use Rattle.peg_io.proofs.Telling.{IsWritten}
use Rattle.peg_io.proofs.write_all.Given as goal

abbrev pub invariant-loop-rest : goal.invariant-loop-rest
invariant-loop-rest g l = record {
  written : IsWritten l.bytes l.rest (g.K.Sink.held l.initial.sink) (g.K.Sink.held l.sink);
  later : g.K.Sink.faults l.initial.sink ≤ g.K.Sink.faults l.sink;
}

abbrev pub decreases-loop-rest : goal.decreases-loop-rest
decreases-loop-rest g l = length l.rest
