use Rattle.std.proofs.Common.{refl}
use Rattle.peg_session.proofs.Standings.{unwritten_ends, ready_stands, ready_as, causes_later}
use Rattle.peg_session.proofs.driving.line_step.Goals as goal

pub returns-then-not-make_ready-clause-steps : goal.returns-then-not-make_ready-clause-steps
returns-then-not-make_ready-clause-steps g c =
    λ start before inputs stands.
    unwritten_ends g.T.Session.meaning start before (g.S.Source.left c.args.source.now)
    (g.K.Sink.held c.args.sink.now) (g.W.Wire.carried c.args.wire.now)
    (g.W.Wire.slots c.args.wire.now) inputs (g.T.Session.state c.args.session.now)
    c.args.desk.now stands (g.K.Sink.held c.make_ready.new.sink)
    (λ none. cc (c.make_ready.ensures.nothing none)) c.if-not-make_ready.ensures.content

pub read_line-requires-clause-ready : goal.read_line-requires-clause-ready
read_line-requires-clause-ready g c =
    ready_as c.args.desk.now c.make_ready.new.desk c.make_ready.new.desk.page
    c.if-not-make_ready.ensures.same (c.if-not-make_ready.ensures.ready refl)

pub returns-clause-steps : goal.returns-clause-steps
returns-clause-steps g c =
    λ start before inputs stands.
    c.read_line.ensures.steps start before inputs
    (ready_stands g.T.Session.meaning start before (g.S.Source.left c.args.source.now)
    (g.K.Sink.held c.args.sink.now) (g.W.Wire.carried c.args.wire.now)
    (g.W.Wire.slots c.args.wire.now) inputs (g.T.Session.state c.args.session.now)
    c.args.desk.now stands c.make_ready.new.desk c.make_ready.new.desk.page
    (g.K.Sink.held c.make_ready.new.sink) c.if-not-make_ready.ensures.same
    c.if-not-make_ready.ensures.content (c.if-not-make_ready.ensures.ready refl))

pub returns-clause-cause : goal.returns-clause-cause
returns-clause-cause g c =
    causes_later c.read_line.result (g.S.Source.faults c.args.source.now)
    (g.S.Source.faults c.read_line.new.source) (g.K.Sink.faults c.args.sink.now)
    (g.K.Sink.faults c.make_ready.new.sink) (g.K.Sink.faults c.read_line.new.sink)
    (g.W.Wire.faults c.args.wire.now) (g.W.Wire.faults c.read_line.new.wire)
    c.if-not-make_ready.ensures.later c.read_line.ensures.cause
