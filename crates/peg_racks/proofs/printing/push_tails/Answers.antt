use Rattle.std.proofs.Common.{◌+◌, drop, slice_get, subst, arith}
use Rattle.peg_meaning.specs.Racks.{tails_text}
use Rattle.peg_session.proofs.Passing.{IsOnTheWay, way_more, way_cut}
use Rattle.peg_racks.specs.Worlds.{worlds_of}
use Rattle.peg_racks.specs.Tails.{tail_in}
use Rattle.peg_racks.proofs.TailLines.{tails_at}
use Rattle.peg_racks.proofs.printing.push_tails.Goals as goal

pub returns-then-not-push_rack_tail-clause-content :
    goal.returns-then-not-push_rack_tail-clause-content
returns-then-not-push_rack_tail-clause-content g c =
    let i = c.loop-rack.rack in
    let ws = worlds_of c.args.racks.now in
    let e = tails_at c.args.racks.now i
    (omega (arith, c.loop-rack-test.true, c.count-rack-end.ensures.count)) in
    way_cut (tail_in (slice_get ws i) i) (tails_text (i + 1) (drop (i + 1) ws))
    c.push_rack_tail.new.page (g.K.Sink.held c.push_rack_tail.new.sink)
    (subst (λ xs. IsOnTheWay (tails_text 0 ws) xs c.args.page.now c.loop-rack.page
    (g.K.Sink.held c.args.sink.now) (g.K.Sink.held c.loop-rack.sink))
    e c.loop-rack.invariant.way) c.if-not-push_rack_tail.ensures.content

pub loop-rack-preserved : goal.loop-rack-preserved
loop-rack-preserved g c =
    let i = c.loop-rack.rack in
    let ws = worlds_of c.args.racks.now in
    let e = tails_at c.args.racks.now i
    (omega (arith, c.loop-rack-test.true, c.count-rack-end.ensures.count)) in
    record {
      way =
          way_more (tail_in (slice_get ws i) i) (tails_text (i + 1) (drop (i + 1) ws))
          c.push_rack_tail.new.page (g.K.Sink.held c.push_rack_tail.new.sink)
          (subst (λ xs. IsOnTheWay (tails_text 0 ws) xs c.args.page.now c.loop-rack.page
          (g.K.Sink.held c.args.sink.now) (g.K.Sink.held c.loop-rack.sink))
          e c.loop-rack.invariant.way) c.if-not-push_rack_tail.ensures.content;
      later = omega (arith, c.loop-rack.invariant.later, c.if-not-push_rack_tail.ensures.later);
    }
