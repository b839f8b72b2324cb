use Rattle.std.proofs.Common.{◌<◌, subst, Option, ℕ}
use Rattle.peg_io.specs.Outside.{Tells, Binds}
use Rattle.peg_session.proofs.Carrying.{no_more_bound}
use Rattle.peg_session.proofs.desk.bind_all.Goals as goal

pub returns-in_default-clause-content : goal.returns-in_default-clause-content
returns-in_default-clause-content g c =
    let binds = g.T.Session.binds c.args.session.now in
    no_more_bound (g.W.Wire.carried c.args.wire.now) (g.W.Wire.carried c.loop-i.wire)
    (g.W.Wire.carried c.bind.new.self) binds c.loop-i.i c.bind_at.result
    (subst (λ n. c.loop-i.i < n) c.bind_count-i-end.ensures c.loop-i-test.true)
    c.loop-i.invariant.carried
    (subst
    (λ (o : Option ℕ). Tells (g.W.Wire.carried c.loop-i.wire) (g.W.Wire.carried c.bind.new.self)
    (Binds c.bind_at.result o)) c.in_default.is c.bind.ensures.content)
