use Rattle.std.proofs.Common.{◌≤◌, drop}
use Rattle.peg_meaning.specs.Racks.{tails_text}
use Rattle.peg_session.proofs.Passing.{IsOnTheWay}
use Rattle.peg_racks.specs.Worlds.{worlds_of}
use Rattle.peg_racks.proofs.printing.push_tails.Given as goal

abbrev pub invariant-loop-rack : goal.invariant-loop-rack
invariant-loop-rack g l = record {
  way : IsOnTheWay (tails_text 0 (worlds_of l.racks))
      (tails_text l.rack (drop l.rack (worlds_of l.racks))) l.fn.page l.page
      (g.K.Sink.held l.fn.sink) (g.K.Sink.held l.sink);
  later : g.K.Sink.faults l.fn.sink ≤ g.K.Sink.faults l.sink;
}
