use Rattle.std.proofs.Common.{subst}
use Rattle.peg_session.specs.Standing.{Settles}
use Rattle.peg_session.specs.Ends.{told}
use Rattle.peg_session.specs.declared.Stepped.{Stepped}
use Rattle.peg_session.specs.declared.End.TheVariants as end
use Rattle.peg_session.proofs.Standings.{stopped}
use Rattle.peg_session.proofs.desk.settle.Goals as goal

pub returns-in-Refused-clause-steps : goal.returns-in-Refused-clause-steps
returns-in-Refused-clause-steps g c =
    λ start before left settles.
    let h = g.K.Sink.held c.args.sink.now in
    let w = g.W.Wire.carried c.args.wire.now in
    let n = g.W.Wire.slots c.args.wire.now in
    stopped g.T.Session.meaning start before left h (g.K.Sink.held c.stop.new.sink) w n
    c.args.desk.now.page (end.BadInput c.args.desk.now.place) c.stop.result
    (subst
    (λ (k : Stepped). Settles g.T.Session.meaning start before (told left h w n)
    (g.T.Session.state c.args.session.now) c.args.desk.now
    (g.T.Session.binds c.args.session.now) (g.T.Session.letters c.args.session.now) k)
    c.in-Refused.is settles) c.stop.ensures.content

pub returns-in-Past-clause-steps : goal.returns-in-Past-clause-steps
returns-in-Past-clause-steps g c =
    λ start before left settles.
    let h = g.K.Sink.held c.args.sink.now in
    let w = g.W.Wire.carried c.args.wire.now in
    let n = g.W.Wire.slots c.args.wire.now in
    stopped g.T.Session.meaning start before left h (g.K.Sink.held c.stop-in-Past.new.sink) w n
    c.args.desk.now.page (end.TooMuch c.args.desk.now.place) c.stop-in-Past.result
    (subst
    (λ (k : Stepped). Settles g.T.Session.meaning start before (told left h w n)
    (g.T.Session.state c.args.session.now) c.args.desk.now
    (g.T.Session.binds c.args.session.now) (g.T.Session.letters c.args.session.now) k)
    c.in-Past.is settles) c.stop-in-Past.ensures.content

pub returns-in-OutOfMemory-clause-steps : goal.returns-in-OutOfMemory-clause-steps
returns-in-OutOfMemory-clause-steps g c =
    λ start before left settles.
    let h = g.K.Sink.held c.args.sink.now in
    let w = g.W.Wire.carried c.args.wire.now in
    let n = g.W.Wire.slots c.args.wire.now in
    stopped g.T.Session.meaning start before left h
    (g.K.Sink.held c.stop-in-OutOfMemory.new.sink) w n
    c.args.desk.now.page end.OutOfMemory c.stop-in-OutOfMemory.result
    (subst
    (λ (k : Stepped). Settles g.T.Session.meaning start before (told left h w n)
    (g.T.Session.state c.args.session.now) c.args.desk.now
    (g.T.Session.binds c.args.session.now) (g.T.Session.letters c.args.session.now) k)
    c.in-OutOfMemory.is settles) c.stop-in-OutOfMemory.ensures.content
