use Rattle.std.proofs.Common.{◌≤◌, ◌<◌, ◌≢◌, []}
use Rattle.peg_meaning.specs.Session.{Inputs, begun}
use Rattle.peg_session.specs.Ends.{told}
use Rattle.peg_session.specs.Standing.{Stands, IsFit}
use Rattle.peg_session.proofs.driving.drive.Given as goal

abbrev pub invariant-loop-end : goal.invariant-loop-end
invariant-loop-end g l = record {
  stands : (inputs : Inputs g.T.Session.Entry)
      × Stands g.T.Session.meaning
      (begun (g.T.Session.state l.fn.session) (g.T.Session.binds l.fn.session)
      (g.T.Session.letters l.fn.session))
      (told (g.S.Source.left l.fn.source) (g.K.Sink.held l.fn.sink)
      (g.W.Wire.carried l.fn.wire) (g.W.Wire.slots l.fn.wire))
      (told (g.S.Source.left l.source) (g.K.Sink.held l.sink)
      (g.W.Wire.carried l.wire) (g.W.Wire.slots l.wire)) inputs (g.T.Session.state l.session)
      l.desk;
  holds : g.T.Session.holds l.session;
  fit : IsFit 0 (g.T.Session.ports l.session) (g.T.Session.rank l.session)
      (g.W.Wire.slots l.wire) l.desk;
  reads : g.S.Source.faults l.fn.source ≤ g.S.Source.faults l.source;
  writes : g.K.Sink.faults l.fn.sink ≤ g.K.Sink.faults l.sink;
  some : g.T.Session.binds l.fn.session ≢ [] → g.W.Wire.slots l.fn.wire < g.W.Wire.slots l.wire;
  wires : g.W.Wire.faults l.fn.wire ≤ g.W.Wire.faults l.wire;
}

abbrev pub decreases-loop-end : goal.decreases-loop-end
decreases-loop-end g l = g.T.Session.rank l.session
