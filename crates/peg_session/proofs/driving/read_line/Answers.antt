use Rattle.std.proofs.Common.{◌+◌, ap, refl}
use Rattle.peg_session.specs.declared.End.TheVariants as end
use Rattle.peg_session.proofs.Standings.{stopped, line_read, end_closes}
use Rattle.peg_session.proofs.Standings.{missing_closes, long_closes, part_closes}
use Rattle.peg_session.proofs.driving.read_line.Goals as goal

pub returns-in-Line-clause-steps : goal.returns-in-Line-clause-steps
returns-in-Line-clause-steps g c =
    λ start before inputs stands.
    let m = g.T.Session.meaning in
    let l2 = g.S.Source.left c.next.new.source in
    let h = g.K.Sink.held c.args.sink.now in
    let w = g.W.Wire.carried c.args.wire.now in
    let n = g.W.Wire.slots c.args.wire.now in
    let d = c.args.desk.now in
    c.take_line.ensures.steps start before l2 inputs
    (line_read m start before (g.S.Source.left c.args.source.now) l2 h w n inputs
    (g.T.Session.state c.args.session.now) d stands c.requires.ready
    (λ feed. ap (g.S.Source.left) (c.in-Line.ensures.ahead feed)) c.next.new.self c.args.limit
    c.args.optional c.requires.wanted
    c.in-Line.ensures.content (λ is. (c.in-Line.ensures.over is).0) c.in-Line.ensures.keeps)

pub returns-in-End-clause-steps : goal.returns-in-End-clause-steps
returns-in-End-clause-steps g c =
    λ start before inputs stands.
    let m = g.T.Session.meaning in
    let l2 = g.S.Source.left c.next.new.source in
    let h = g.K.Sink.held c.args.sink.now in
    let w = g.W.Wire.carried c.args.wire.now in
    let n = g.W.Wire.slots c.args.wire.now in
    let d = c.args.desk.now in
    stopped m start before l2 h (g.K.Sink.held c.stop.new.sink) w n d.page end.Done
    c.stop.result
    (end_closes m start before (g.S.Source.left c.args.source.now) l2 h w n inputs
    (g.T.Session.state c.args.session.now) d stands c.requires.ready
    (λ feed. ap (g.S.Source.left) (c.in-End.ensures.ahead feed)) c.next.new.self c.args.limit
    c.args.optional c.requires.wanted
    c.if-optional.true c.in-End.ensures.content
    (λ is. ap (g.S.Source.left) (c.in-End.ensures.over is).1)) c.stop.ensures.content

pub returns-in-End-2-clause-steps : goal.returns-in-End-2-clause-steps
returns-in-End-2-clause-steps g c =
    λ start before inputs stands.
    let m = g.T.Session.meaning in
    let l2 = g.S.Source.left c.next.new.source in
    let h = g.K.Sink.held c.args.sink.now in
    let w = g.W.Wire.carried c.args.wire.now in
    let n = g.W.Wire.slots c.args.wire.now in
    let d = c.args.desk.now in
    stopped m start before l2 h (g.K.Sink.held c.stop-in-End-2.new.sink) w n d.page (end.BadInput (d.place + 1))
    c.stop-in-End-2.result
    (missing_closes m start before (g.S.Source.left c.args.source.now) l2 h w n inputs
    (g.T.Session.state c.args.session.now) d stands c.requires.ready
    (λ feed. ap (g.S.Source.left) (c.in-End-2.ensures.ahead feed)) c.next.new.self c.args.limit
    c.args.optional c.requires.wanted
    (d.place + 1) refl c.if-optional.false c.in-End-2.ensures.content
    (λ is. ap (g.S.Source.left) (c.in-End-2.ensures.over is).1)) c.stop-in-End-2.ensures.content

pub returns-in-Failed-clause-steps : goal.returns-in-Failed-clause-steps
returns-in-Failed-clause-steps g c =
    λ start before inputs stands.
    let m = g.T.Session.meaning in
    let l2 = g.S.Source.left c.next.new.source in
    let h = g.K.Sink.held c.args.sink.now in
    let w = g.W.Wire.carried c.args.wire.now in
    let n = g.W.Wire.slots c.args.wire.now in
    let d = c.args.desk.now in
    stopped m start before l2 h (g.K.Sink.held c.stop-in-Failed.new.sink) w n d.page end.ReadFault
    c.stop-in-Failed.result
    (part_closes m start before (g.S.Source.left c.args.source.now) l2 h w n inputs
    (g.T.Session.state c.args.session.now) d stands c.requires.ready
    (λ feed. ap (g.S.Source.left) (c.in-Failed.ensures.ahead feed)) c.next.new.self c.args.limit
    c.args.optional c.requires.wanted
    c.in-Failed.ensures.content (λ is. (c.in-Failed.ensures.over is).0)
    c.in-Failed.ensures.keeps) c.stop-in-Failed.ensures.content

pub returns-in-TooLong-clause-steps : goal.returns-in-TooLong-clause-steps
returns-in-TooLong-clause-steps g c =
    λ start before inputs stands.
    let m = g.T.Session.meaning in
    let l2 = g.S.Source.left c.next.new.source in
    let h = g.K.Sink.held c.args.sink.now in
    let w = g.W.Wire.carried c.args.wire.now in
    let n = g.W.Wire.slots c.args.wire.now in
    let d = c.args.desk.now in
    stopped m start before l2 h (g.K.Sink.held c.stop-in-TooLong.new.sink) w n d.page (end.BadInput (d.place + 1))
    c.stop-in-TooLong.result
    (long_closes m start before (g.S.Source.left c.args.source.now) l2 h w n inputs
    (g.T.Session.state c.args.session.now) d stands c.requires.ready
    (λ feed. ap (g.S.Source.left) (c.in-TooLong.ensures.ahead feed)) c.next.new.self c.args.limit
    c.args.optional c.requires.wanted
    (d.place + 1) refl c.in-TooLong.ensures.content
    (λ is. (c.in-TooLong.ensures.over is).0) c.in-TooLong.ensures.keeps) c.stop-in-TooLong.ensures.content
