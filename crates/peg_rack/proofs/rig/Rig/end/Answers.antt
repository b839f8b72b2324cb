use Rattle.std.proofs.Common.{◌+◌, ◌∙◌, ◌++◌, true, false, map, codes, decimal, ap, sym, refl}
use Rattle.std.proofs.Common.{List}
use Rattle.peg_model.specs.World.{history}
use Rattle.peg_model.specs.Order.{orders}
use Rattle.peg_model.specs.Schedule.{fed}
use Rattle.peg_model.specs.Trace.{tail_text}
use Rattle.peg_meaning.specs.Session.{Letter}
use Rattle.peg_meaning.specs.RackWord.{Finished}
use Rattle.peg_session.proofs.Passing.{passes_then, passes_none}
use Rattle.peg_print.specs.Tail.{key_order}
use Rattle.peg_rack.specs.Racking.{racked_of}
use Rattle.peg_rack.proofs.Stepping.{end_on, goes}
use Rattle.peg_rack.proofs.rig.Rig.end.Goals as goal

pub returns-then-not-push_end-clause-comes : goal.returns-then-not-push_end-clause-comes
returns-then-not-push_end-clause-comes g c =
    let s = c.args.self.now in
    record {
      came = _;
      is = end_on (racked_of s) _ _ refl refl;
      over =
          passes_none (fed (decimal (s.place + 1) ++ codes " end foreign " ++ decimal s.foreign))
          (tail_text (history s.world.world) (orders s.world.world)) c.args.page.now
          c.push_end.new.page c.push_end.new.page (g.K.Sink.held c.args.sink.now)
          (g.K.Sink.held c.push_end.new.sink) c.if-not-push_end.ensures.content;
    }

pub returns-then-not-push_tail-clause-comes : goal.returns-then-not-push_tail-clause-comes
returns-then-not-push_tail-clause-comes g c =
    let s = c.args.self.now in
    let tail = tail_text c.history.result.now.ops (map key_order c.deref.result.now) in
    record {
      came = _;
      is =
          end_on (racked_of s) c.history.result.now.ops (map key_order c.deref.result.now)
          c.history.ensures
          (c.prints_orders_of_the_book.ensures s.world.world c.deref.result.now
          (c.deref.ensures.value ∙ c.in-Ok.ensures.orders));
      over =
          passes_then false
          (fed (decimal (s.place + 1) ++ codes " end foreign " ++ decimal s.foreign)) tail
          c.args.page.now c.push_end.new.page c.push_tail.new.page
          (g.K.Sink.held c.args.sink.now) (g.K.Sink.held c.push_end.new.sink)
          (g.K.Sink.held c.push_tail.new.sink) c.if-not-push_end.ensures.content
          c.if-not-push_tail.ensures.content;
    }

pub returns-clause-comes : goal.returns-clause-comes
returns-clause-comes g c =
    let s = c.args.self.now in
    let tail = tail_text c.history.result.now.ops (map key_order c.deref.result.now) in
    let front = fed (decimal (s.place + 1) ++ codes " end foreign " ++ decimal s.foreign) in
    record {
      text = _;
      is =
          end_on (racked_of s) c.history.result.now.ops (map key_order c.deref.result.now)
          c.history.ensures
          (c.prints_orders_of_the_book.ensures s.world.world c.deref.result.now
          (c.deref.ensures.value ∙ c.in-Ok.ensures.orders))
          ∙ ap (λ (l : List Letter). goes (Finished (racked_of s)) (front ++ tail) l)
          (sym c.requires.quiet);
      over =
          passes_then true front tail c.args.page.now c.push_end.new.page c.push_tail.new.page
          (g.K.Sink.held c.args.sink.now) (g.K.Sink.held c.push_end.new.sink)
          (g.K.Sink.held c.push_tail.new.sink) c.if-not-push_end.ensures.content
          c.if-not-push_tail.ensures.content;
    }
