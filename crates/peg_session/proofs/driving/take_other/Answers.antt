use Rattle.std.proofs.Common.{◌∙◌}
use Rattle.peg_session.proofs.Standings.{takes_settle, took_of, no_line}
use Rattle.peg_session.proofs.driving.take_other.Goals as goal

pub returns-clause-steps : goal.returns-clause-steps
returns-clause-steps g c =
    λ start before left inputs x hands has.
    let took = c.take-stepped in
    let m = g.T.Session.meaning in
    let s = g.T.Session.state c.args.session.now in
    let h = g.K.Sink.held c.args.sink.now in
    c.settle.ensures.steps start before left
    (takes_settle m start before left h (g.W.Wire.carried c.args.wire.now)
    (g.W.Wire.slots c.args.wire.now) inputs s c.args.desk.now x has took.result
    (g.T.Session.state took.new.self) (g.T.Session.binds took.new.self)
    (g.T.Session.letters took.new.self) took.new.page (g.K.Sink.held took.new.sink)
    c.args.desk.now.place
    (has.at.place ∙ no_line m start before inputs x c.args.taken hands)
    (took_of m start before s x c.args.taken took.result (g.T.Session.state took.new.self)
    (g.T.Session.binds took.new.self) (g.T.Session.letters took.new.self) c.args.desk.now.page
    took.new.page h (g.K.Sink.held took.new.sink) hands took.ensures.took))
