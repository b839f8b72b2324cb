use Rattle.std.proofs.Common.{◌+◌, ◌∙◌, ◌++◌, true, false, map, arith, codes, decimal, refl}
use Rattle.peg_model.specs.World.{history}
use Rattle.peg_model.specs.Order.{orders}
use Rattle.peg_model.specs.Schedule.{fed}
use Rattle.peg_model.specs.Trace.{tail_text}
use Rattle.peg_session.proofs.Passing.{passes_then, passes_none}
use Rattle.peg_print.specs.Tail.{key_order}
use Rattle.peg_replay.proofs.Stepping.{end_on}
use Rattle.peg_replay.proofs.play.Play.end.Goals as goal

pub returns-then-not-push_end-clause-took : goal.returns-then-not-push_end-clause-took
returns-then-not-push_end-clause-took g c =
    let s = c.args.self.now in
    let h = g.K.Sink.held c.args.sink.now in
    let h1 = g.K.Sink.held c.push_end.new.sink in
    record {
      came = _;
      is =
          end_on s.rack.0 s.rack.1 s.world s.is_over (s.place + 1) _ _ c.requires.on
          (omega (arith, c.requires.tied.count)) refl refl;
      over =
          passes_none (fed (decimal (s.place + 1) ++ codes " end"))
          (tail_text (history s.world.world) (orders s.world.world)) c.args.page.now
          c.push_end.new.page c.push_end.new.page h h1 c.if-not-push_end.ensures.content;
    }

pub returns-then-not-push_tail-clause-took : goal.returns-then-not-push_tail-clause-took
returns-then-not-push_tail-clause-took g c =
    let s = c.args.self.now in
    let tail = tail_text c.history.result.now.ops (map key_order c.deref.result.now) in
    record {
      came = _;
      is =
          end_on s.rack.0 s.rack.1 s.world s.is_over (s.place + 1) c.history.result.now.ops
          (map key_order c.deref.result.now) c.requires.on (omega (arith, c.requires.tied.count))
          c.history.ensures
          (c.prints_orders_of_the_book.ensures s.world.world c.deref.result.now (c.deref.ensures.value ∙ c.in-Ok.ensures.orders));
      over =
          passes_then false (fed (decimal (s.place + 1) ++ codes " end")) tail c.args.page.now
          c.push_end.new.page c.push_tail.new.page (g.K.Sink.held c.args.sink.now)
          (g.K.Sink.held c.push_end.new.sink) (g.K.Sink.held c.push_tail.new.sink)
          c.if-not-push_end.ensures.content c.if-not-push_tail.ensures.content;
    }

pub returns-clause-took : goal.returns-clause-took
returns-clause-took g c =
    let s = c.args.self.now in
    let tail = tail_text c.history.result.now.ops (map key_order c.deref.result.now) in
    record {
      text = _;
      is =
          end_on s.rack.0 s.rack.1 s.world s.is_over (s.place + 1) c.history.result.now.ops
          (map key_order c.deref.result.now) c.requires.on (omega (arith, c.requires.tied.count))
          c.history.ensures
          (c.prints_orders_of_the_book.ensures s.world.world c.deref.result.now (c.deref.ensures.value ∙ c.in-Ok.ensures.orders));
      over =
          passes_then true (fed (decimal (s.place + 1) ++ codes " end")) tail c.args.page.now
          c.push_end.new.page c.push_tail.new.page (g.K.Sink.held c.args.sink.now)
          (g.K.Sink.held c.push_end.new.sink) (g.K.Sink.held c.push_tail.new.sink)
          c.if-not-push_end.ensures.content c.if-not-push_tail.ensures.content;
    }
