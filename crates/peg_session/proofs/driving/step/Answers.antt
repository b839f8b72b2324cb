use Rattle.peg_session.specs.declared.End.TheVariants as end
use Rattle.std.proofs.Common.{sym, refl}
use Rattle.peg_session.proofs.Standings.{stopped, over_closes}
use Rattle.peg_meaning.specs.Session.{Tick}
use Rattle.peg_session.proofs.Standings.{tick_taken}
use Rattle.peg_session.proofs.driving.step.Goals as goal

pub returns-in-Over-clause-steps : goal.returns-in-Over-clause-steps
returns-in-Over-clause-steps g c =
    λ start before inputs stands.
    let m = g.T.Session.meaning in
    let l = g.S.Source.left c.args.source.now in
    let h = g.K.Sink.held c.args.sink.now in
    let w = g.W.Wire.carried c.args.wire.now in
    let n = g.W.Wire.slots c.args.wire.now in
    stopped m start before l h (g.K.Sink.held c.stop.new.sink) w n c.args.desk.now.page end.Done
    c.stop.result
    (over_closes m start before l h w n inputs (g.T.Session.state c.args.session.now)
    c.args.desk.now stands (sym c.in-Over.ensures.want)) c.stop.ensures.content

pub returns-in-Step-clause-steps : goal.returns-in-Step-clause-steps
returns-in-Step-clause-steps g c =
    λ start before inputs stands.
    let m = g.T.Session.meaning in
    let l = g.S.Source.left c.args.source.now in
    let h = g.K.Sink.held c.args.sink.now in
    let w = g.W.Wire.carried c.args.wire.now in
    let n = g.W.Wire.slots c.args.wire.now in
    c.take_other.ensures.steps start before l inputs Tick refl
    (tick_taken m start before l h w n inputs (g.T.Session.state c.args.session.now)
    c.args.desk.now stands (sym c.in-Step.ensures.want))
