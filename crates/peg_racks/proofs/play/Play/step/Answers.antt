use Rattle.std.proofs.Common.{arith}
use Rattle.peg_text.specs.Divides.{event_said}
use Rattle.peg_racks.proofs.Stepping.{step_on, not_full, each_goes_on, fewer_lines, not_spent}
use Rattle.peg_racks.proofs.play.Play.step.Goals as goal

pub returns-then-push_taken-clause-tied : goal.returns-then-push_taken-clause-tied
returns-then-push_taken-clause-tied g c =
    λ goes.
    let s = c.args.self.now in
    let t = c.requires.tied in
    let did = c.in-Ok.ensures in
    record {
      each =
          each_goes_on s.racks c.step.new.self s.place s.lines (event_said c.args.event.now) t.each
          did.steps;
      counted = omega (arith, t.counted, did.count);
      some = omega (arith, t.some, did.count);
      most = omega (arith, t.most, did.count);
      few =
          omega (arith, fewer_lines s.lines t.few (not_spent s.lines c.if-self-eq-LINES_MOST.false));
    }

pub returns-else-push_taken-clause-took : goal.returns-else-push_taken-clause-took
returns-else-push_taken-clause-took g c =
    let s = c.args.self.now in
    let t = c.requires.tied in
    let did = c.in-Ok.ensures in
    let e = event_said c.args.event.now in
    let more = not_spent s.lines c.if-self-eq-LINES_MOST.false in
    record {
      came = _;
      is =
          step_on s.racks s.unnamed s.place s.lines e s.is_over c.step.new.self c.in-Ok.rack
          c.line.result c.requires.on more did.rack did.step
          (not_full s.racks c.step.new.self s.place s.lines e t.each
          (fewer_lines s.lines t.few more) did.steps) c.line.ensures;
      over = c.if-push_taken.ensures.content;
    }
