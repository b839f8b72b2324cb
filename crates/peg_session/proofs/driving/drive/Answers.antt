use Rattle.std.proofs.Common.{arith, refl}
use Rattle.peg_meaning.specs.Session.{Begin, begun}
use Rattle.peg_session.specs.Ends.{told}
use Rattle.peg_session.proofs.Standings.{begin_waits, nonempty, cause_wider}
use Rattle.peg_session.proofs.Alike.{complete_of}
use Rattle.peg_session.proofs.driving.drive.Goals as goal

pub returns-in-Some-clause-ended : goal.returns-in-Some-clause-ended
returns-in-Some-clause-ended g c =
    c.in-Some.ensures.steps (begun (g.T.Session.state c.args.session.now) (g.T.Session.binds c.args.session.now)
    (g.T.Session.letters c.args.session.now)) (told (g.S.Source.left c.args.source.now) (g.K.Sink.held c.args.sink.now)
    (g.W.Wire.carried c.args.wire.now) (g.W.Wire.slots c.args.wire.now))
    Begin (g.S.Source.left c.args.source.now)
    (begin_waits g.T.Session.meaning (g.S.Source.left c.args.source.now) (g.K.Sink.held c.args.sink.now)
    (g.W.Wire.carried c.args.wire.now) (g.W.Wire.slots c.args.wire.now)
    (g.T.Session.state c.args.session.now) (g.T.Session.binds c.args.session.now)
    (g.T.Session.letters c.args.session.now) c.make-desk.result c.make-desk.ensures)

pub loop-end-init : goal.loop-end-init
loop-end-init g c =
    record {
      stands = c.in_default.ensures.steps (begun (g.T.Session.state c.args.session.now) (g.T.Session.binds c.args.session.now)
          (g.T.Session.letters c.args.session.now)) (told (g.S.Source.left c.args.source.now) (g.K.Sink.held c.args.sink.now)
          (g.W.Wire.carried c.args.wire.now) (g.W.Wire.slots c.args.wire.now))
          Begin (g.S.Source.left c.args.source.now)
          (begin_waits g.T.Session.meaning (g.S.Source.left c.args.source.now) (g.K.Sink.held c.args.sink.now)
          (g.W.Wire.carried c.args.wire.now) (g.W.Wire.slots c.args.wire.now)
          (g.T.Session.state c.args.session.now) (g.T.Session.binds c.args.session.now)
          (g.T.Session.letters c.args.session.now) c.make-desk.result c.make-desk.ensures);
      holds = c.requires.holds;
      fit = c.in_default.ensures.fit refl;
      reads = omega arith;
      writes = c.in_default.ensures.later;
      some = λ ne. omega (
        arith,
        c.in_default.ensures.bound refl,
        nonempty (g.T.Session.binds c.args.session.now) ne,
      );
      wires = c.in_default.ensures.later_wire;
    }

pub returns-in-Some-step-clause-ended : goal.returns-in-Some-step-clause-ended
returns-in-Some-step-clause-ended g c =
    let stands = c.loop-end.invariant.stands in
    c.in-Some-step.ensures.steps (begun (g.T.Session.state c.args.session.now) (g.T.Session.binds c.args.session.now)
    (g.T.Session.letters c.args.session.now)) (told (g.S.Source.left c.args.source.now) (g.K.Sink.held c.args.sink.now)
    (g.W.Wire.carried c.args.wire.now) (g.W.Wire.slots c.args.wire.now))
    stands.0 stands.1

pub loop-end-preserved : goal.loop-end-preserved
loop-end-preserved g c =
    let stands = c.loop-end.invariant.stands in
    record {
      stands = c.in_default-step.ensures.steps (begun (g.T.Session.state c.args.session.now) (g.T.Session.binds c.args.session.now)
          (g.T.Session.letters c.args.session.now)) (told (g.S.Source.left c.args.source.now) (g.K.Sink.held c.args.sink.now)
          (g.W.Wire.carried c.args.wire.now) (g.W.Wire.slots c.args.wire.now))
          stands.0 stands.1;
      holds = c.in_default-step.ensures.holds refl;
      fit = c.in_default-step.ensures.fit refl;
      reads = omega (arith, c.loop-end.invariant.reads, c.in_default-step.ensures.later_source);
      writes = omega (arith, c.loop-end.invariant.writes, c.in_default-step.ensures.later);
      some = λ ne. omega (
        arith,
        c.loop-end.invariant.some ne,
        c.in_default-step.ensures.later_slots,
      );
      wires = omega (arith, c.loop-end.invariant.wires, c.in_default-step.ensures.later_wire);
    }

pub returns-in-Some-step-clause-unbound : goal.returns-in-Some-step-clause-unbound
returns-in-Some-step-clause-unbound g c =
    λ ne same. absurd (omega (
      arith,
      c.loop-end.invariant.some ne,
      c.in-Some-step.ensures.later_slots,
      same,
    ))

pub returns-in-Some-clause-complete : goal.returns-in-Some-clause-complete
returns-in-Some-clause-complete g c =
    let reads = g.S.Source.faults c.args.source.now in
    complete_of g.T.Session.meaning
    (begun (g.T.Session.state c.args.session.now) (g.T.Session.binds c.args.session.now)
    (g.T.Session.letters c.args.session.now))
    (told (g.S.Source.left c.args.source.now) (g.K.Sink.held c.args.sink.now)
    (g.W.Wire.carried c.args.wire.now) (g.W.Wire.slots c.args.wire.now))
    (told (g.S.Source.left c.args.source.now) (g.K.Sink.held c.carry_out.new.sink)
    (g.W.Wire.carried c.carry_out.new.wire) (g.W.Wire.slots c.carry_out.new.wire))
    c.in-Some.end reads reads (g.K.Sink.faults c.args.sink.now)
    (g.K.Sink.faults c.carry_out.new.sink) (g.W.Wire.faults c.args.wire.now)
    (g.W.Wire.faults c.carry_out.new.wire) (returns-in-Some-clause-ended g c)
    (c.in-Some.ensures.cause reads reads)

pub returns-in-Some-step-clause-complete : goal.returns-in-Some-step-clause-complete
returns-in-Some-step-clause-complete g c =
    let since = c.loop-end.invariant in
    complete_of g.T.Session.meaning
    (begun (g.T.Session.state c.args.session.now) (g.T.Session.binds c.args.session.now)
    (g.T.Session.letters c.args.session.now))
    (told (g.S.Source.left c.args.source.now) (g.K.Sink.held c.args.sink.now)
    (g.W.Wire.carried c.args.wire.now) (g.W.Wire.slots c.args.wire.now))
    (told (g.S.Source.left c.step.new.source) (g.K.Sink.held c.step.new.sink)
    (g.W.Wire.carried c.step.new.wire) (g.W.Wire.slots c.step.new.wire))
    c.in-Some-step.end (g.S.Source.faults c.args.source.now)
    (g.S.Source.faults c.step.new.source) (g.K.Sink.faults c.args.sink.now)
    (g.K.Sink.faults c.step.new.sink) (g.W.Wire.faults c.args.wire.now)
    (g.W.Wire.faults c.step.new.wire) (returns-in-Some-step-clause-ended g c)
    (cause_wider c.in-Some-step.end (g.S.Source.faults c.args.source.now)
    (g.S.Source.faults c.loop-end.source) (g.S.Source.faults c.step.new.source)
    (g.K.Sink.faults c.args.sink.now) (g.K.Sink.faults c.loop-end.sink)
    (g.K.Sink.faults c.step.new.sink) (g.W.Wire.faults c.args.wire.now)
    (g.W.Wire.faults c.loop-end.wire) (g.W.Wire.faults c.step.new.wire) since.reads
    since.writes since.wires c.in-Some-step.ensures.cause)
