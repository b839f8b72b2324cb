use Rattle.std.proofs.Common.{rules, ◌+◌, refl, arith, inr, take}
use Rattle.peg_session.proofs.Standings.{unwritten_ends, ready_after, datagram_taken, pause_taken}
use Rattle.peg_session.proofs.Standings.{causes_wider, taken_fits}
use Rattle.peg_meaning.specs.Session.{Datagram, Quiet}
use Rattle.peg_session.proofs.driving.turn_step.Goals as goal

pub returns-then-not-flush-clause-steps : goal.returns-then-not-flush-clause-steps
returns-then-not-flush-clause-steps g c =
    λ start before left inputs stands.
    unwritten_ends g.T.Session.meaning start before left
    (g.K.Sink.held c.args.sink.now) (g.W.Wire.carried c.args.wire.now)
    (g.W.Wire.slots c.args.wire.now) inputs (g.T.Session.state c.args.session.now)
    c.args.desk.now stands (g.K.Sink.held c.flush.new.sink)
    (λ none. cc (c.flush.ensures.nothing none)) c.if-not-flush.ensures.content

pub returns-in-Bytes-clause-steps : goal.returns-in-Bytes-clause-steps
returns-in-Bytes-clause-steps g c =
    λ start before left inputs stands.
    let m = g.T.Session.meaning in
    let h = g.K.Sink.held c.flush.new.sink in
    let w = g.W.Wire.carried c.args.wire.now in
    let n = g.W.Wire.slots c.args.wire.now in
    let s = g.T.Session.state c.args.session.now in
    let d = record c.args.desk.now { page = c.flush.new.self } in
    let now = ready_after m start before left (g.K.Sink.held c.args.sink.now) h w n inputs s
    c.args.desk.now d stands refl c.if-not-flush.ensures.content
    (inr c.if-not-flush.ensures.empty) in
    c.take_other.ensures.steps start before left inputs
    (Datagram (take c.in-Bytes.count c.receive.new.buf)) refl
    (datagram_taken m start before left h w n inputs s d now.stands c.if-not-flush.ensures.empty
    c.args.slot c.args.room c.requires.wanted (take c.in-Bytes.count c.receive.new.buf)
    (g.W.Wire.carried c.receive.new.self) (g.W.Wire.slots c.receive.new.self)
    (c.args.desk.now.base + c.args.slot) c.in-Bytes.ensures.bound
    (omega (
      arith,
      stands.at.slots,
      c.requires.within,
      c.requires.fit.all_ports,
      (c.requires.fit.moored (omega (arith, c.requires.within, c.requires.fit.all_ports))).0,
    )) (taken_fits c.in-Bytes.count c.args.room c.receive.new.buf (search rules)) c.in-Bytes.ensures.content)

pub returns-in-Nothing-clause-steps : goal.returns-in-Nothing-clause-steps
returns-in-Nothing-clause-steps g c =
    λ start before left inputs stands.
    let m = g.T.Session.meaning in
    let h = g.K.Sink.held c.flush.new.sink in
    let w = g.W.Wire.carried c.args.wire.now in
    let n = g.W.Wire.slots c.args.wire.now in
    let s = g.T.Session.state c.args.session.now in
    let d = record c.args.desk.now { page = c.flush.new.self } in
    let now = ready_after m start before left (g.K.Sink.held c.args.sink.now) h w n inputs s
    c.args.desk.now d stands refl c.if-not-flush.ensures.content
    (inr c.if-not-flush.ensures.empty) in
    c.take_other-in-Nothing.ensures.steps start before left inputs Quiet refl
    (pause_taken m start before left h w n inputs s d now.stands c.if-not-flush.ensures.empty
    c.args.slot c.args.room c.requires.wanted
    (g.W.Wire.carried c.receive.new.self) (g.W.Wire.slots c.receive.new.self)
    (c.args.desk.now.base + c.args.slot) c.in-Nothing.ensures.bound
    (omega (
      arith,
      stands.at.slots,
      c.requires.within,
      c.requires.fit.all_ports,
      (c.requires.fit.moored (omega (arith, c.requires.within, c.requires.fit.all_ports))).0,
    )) c.in-Nothing.ensures.content)

pub returns-in-Bytes-clause-cause : goal.returns-in-Bytes-clause-cause
returns-in-Bytes-clause-cause g c =
    causes_wider c.take_other.result (g.K.Sink.faults c.args.sink.now)
    (g.K.Sink.faults c.flush.new.sink) (g.K.Sink.faults c.take_other.new.sink)
    (g.W.Wire.faults c.args.wire.now) (g.W.Wire.faults c.receive.new.self)
    (g.W.Wire.faults c.take_other.new.wire) c.if-not-flush.ensures.later
    c.in-Bytes.ensures.later c.take_other.ensures.cause

pub returns-in-Nothing-clause-cause : goal.returns-in-Nothing-clause-cause
returns-in-Nothing-clause-cause g c =
    causes_wider c.take_other-in-Nothing.result (g.K.Sink.faults c.args.sink.now)
    (g.K.Sink.faults c.flush.new.sink) (g.K.Sink.faults c.take_other-in-Nothing.new.sink)
    (g.W.Wire.faults c.args.wire.now) (g.W.Wire.faults c.receive.new.self)
    (g.W.Wire.faults c.take_other-in-Nothing.new.wire) c.if-not-flush.ensures.later
    c.in-Nothing.ensures.later c.take_other-in-Nothing.ensures.cause
