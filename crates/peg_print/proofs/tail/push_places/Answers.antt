use Rattle.std.proofs.Common.{ℕ, List, ◌+◌, ◌++◌, flat_map, drop, codes, decimal, subst, arith}
use Rattle.peg_model.specs.Schedule.{fed}
use Rattle.peg_session.proofs.Passing.{IsOnTheWay, way_more, way_cut}
use Rattle.peg_print.proofs.Tails.{flat_map_at}
use Rattle.peg_print.proofs.tail.push_places.Goals as goal

at_text : ℕ → List ℕ
at_text place = fed (codes "at " ++ decimal place)

pub loop-i-preserved : goal.loop-i-preserved
unfolding at_text
loop-i-preserved g c =
    let i = c.loop-i.i in
    let ops = c.args.ops.now in
    let e = flat_map_at at_text i ops c.at.result c.at.ensures in
    record {
      way =
          way_more (at_text c.at.result) (flat_map at_text (drop (i + 1) ops)) c.push_place.new.page
          (g.K.Sink.held c.push_place.new.sink)
          (subst (λ xs. IsOnTheWay (flat_map at_text ops) xs c.args.page.now c.loop-i.page
          (g.K.Sink.held c.args.sink.now) (g.K.Sink.held c.loop-i.sink))
          e c.loop-i.invariant.way) c.if-not-push_place.ensures.content;
      later = omega (arith, c.loop-i.invariant.later, c.if-not-push_place.ensures.later);
    }

pub returns-then-not-push_place-clause-content : goal.returns-then-not-push_place-clause-content
unfolding at_text
returns-then-not-push_place-clause-content g c =
    let i = c.loop-i.i in
    let ops = c.args.ops.now in
    let e = flat_map_at at_text i ops c.at.result c.at.ensures in
    way_cut (at_text c.at.result) (flat_map at_text (drop (i + 1) ops)) c.push_place.new.page
    (g.K.Sink.held c.push_place.new.sink)
    (subst (λ xs. IsOnTheWay (flat_map at_text ops) xs c.args.page.now c.loop-i.page
    (g.K.Sink.held c.args.sink.now) (g.K.Sink.held c.loop-i.sink))
    e c.loop-i.invariant.way) c.if-not-push_place.ensures.content
