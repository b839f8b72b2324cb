use Rattle.std.proofs.Common.{◌+◌, refl, subst, List, ℕ}
use Rattle.peg_session.specs.Took.{TookLine}
use Rattle.peg_session.proofs.Standings.{line_settles}
use Rattle.peg_session.proofs.driving.take_line.Goals as goal

pub returns-clause-steps : goal.returns-clause-steps
returns-clause-steps g c =
    λ start before left inputs has.
    let took = c.take-stepped in
    c.settle.ensures.steps start before left
    (line_settles g.T.Session.meaning start before left (g.K.Sink.held c.args.sink.now)
    (g.W.Wire.carried c.args.wire.now) (g.W.Wire.slots c.args.wire.now) inputs
    (g.T.Session.state c.args.session.now) c.args.desk.now has took.result
    (g.T.Session.state took.new.self) (g.T.Session.binds took.new.self)
    (g.T.Session.letters took.new.self) took.new.page (g.K.Sink.held took.new.sink)
    (c.args.desk.now.place + 1) refl
    (subst
    (λ (xs : List ℕ). TookLine g.T.Session.meaning (g.T.Session.state c.args.session.now) xs
    took.result (g.T.Session.state took.new.self) (g.T.Session.binds took.new.self)
    (g.T.Session.letters took.new.self) c.args.desk.now.page took.new.page
    (g.K.Sink.held c.args.sink.now) (g.K.Sink.held took.new.sink))
    c.line.ensures took.ensures.took))
