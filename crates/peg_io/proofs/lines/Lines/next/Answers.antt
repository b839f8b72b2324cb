use Rattle.std.proofs.Common.{◌<◌, ◌∙◌, length, subst, sym, ap, arith}
use Rattle.peg_io.specs.Lines.{ReadAhead, HasNoFeed}
use Rattle.peg_io.proofs.LineLemmas.{both_ways}
use Rattle.peg_io.proofs.Reading.{IsUnder_ready, IsUnder_more, gives_part, keeps_part, gives_last}
use Rattle.peg_io.proofs.Reading.{keeps_end, gives_failed, keeps_failed, last_ends}
use Rattle.peg_io.proofs.Reading.{feed_is_more, feed_ends_line}
use Rattle.peg_io.proofs.lines.Lines.next.Goals as goal

pub loop-self-preserved : goal.loop-self-preserved
loop-self-preserved g c =
    let goes_on = c.in-Bytes.ensures.content.goes_on in
    record {
      under = IsUnder_more (IsUnder_ready c.loop-self.invariant.under c.in-Bytes.ensures.content) c.in_default.ensures.content;
      later = omega (arith, c.loop-self.invariant.later, c.in-Bytes.ensures.later);
      ahead = λ feed.
          let held = c.loop-self.invariant.ahead feed in
          let more : 0 < length c.loop-self.self.held = rw held.0 (feed_is_more c.args.self.now.held feed) in
          let same = c.in-Bytes.ensures.ahead more in
          let here = ap (λ (r : ReadAhead). r.held) same.0 ∙ held.0 in
          absurd (feed_ends_line c.args.self.now.held (subst HasNoFeed here c.in_default.ensures.content.part) feed);
      ended = c.in_default.ensures.ended ∙ goes_on.1 ∙ sym goes_on.0 ∙ c.loop-self.invariant.ended;
      over = λ is. absurd (both_ways c.loop-self.self.ended (c.loop-self.invariant.ended ∙ is) goes_on.0);
    }

pub returns-in-End-clause-content : goal.returns-in-End-clause-content
returns-in-End-clause-content g c =
    λ goes_on.
    let none = c.in-End.ensures.content in
    gives_last (g.S.Source.left c.ready.new.source) c.last.result c.last.ensures c.loop-self.invariant.under none.0 none.1
    (none.2 (c.loop-self.invariant.ended ∙ goes_on))

pub returns-in-End-clause-over : goal.returns-in-End-clause-over
returns-in-End-clause-over g c =
    λ is.
    let kept = c.loop-self.invariant.over is in (
      last_ends c.ready.new.self.line c.last.result c.last.ensures (c.in-End.ensures.content.0.line ∙ kept.0),
      (c.in-End.ensures.over (c.loop-self.invariant.ended ∙ is)).1 ∙ kept.1,
    )

pub returns-in-End-clause-keeps : goal.returns-in-End-clause-keeps
returns-in-End-clause-keeps g c =
    keeps_end c.last.result c.last.ensures c.loop-self.invariant.under c.in-End.ensures.content.0 c.in-End.ensures.content.1

pub returns-in-Some-clause-content : goal.returns-in-Some-clause-content
returns-in-Some-clause-content g c =
    λ goes_on.
    gives_part c.take.new.self c.in-Some.answer (IsUnder_ready c.loop-self.invariant.under c.in-Bytes.ensures.content) c.in-Some.ensures.content
    (c.in-Some.ensures.ended ∙ c.in-Bytes.ensures.content.goes_on.1)

pub returns-in-Some-clause-over : goal.returns-in-Some-clause-over
returns-in-Some-clause-over g c =
    λ is. absurd (both_ways c.loop-self.self.ended (c.loop-self.invariant.ended ∙ is) c.in-Bytes.ensures.content.goes_on.0)

pub returns-in-Some-clause-keeps : goal.returns-in-Some-clause-keeps
returns-in-Some-clause-keeps g c =
    keeps_part c.take.new.self c.in-Some.answer (IsUnder_ready c.loop-self.invariant.under c.in-Bytes.ensures.content) c.in-Some.ensures.content
    (c.in-Some.ensures.ended ∙ c.in-Bytes.ensures.content.goes_on.1)

pub returns-in-Failed-clause-content : goal.returns-in-Failed-clause-content
returns-in-Failed-clause-content g c =
    λ goes_on.
    gives_failed (g.S.Source.left c.ready.new.source) c.loop-self.invariant.under c.in-Failed.ensures.content.0 c.in-Failed.ensures.content.2

pub returns-in-Failed-clause-over : goal.returns-in-Failed-clause-over
returns-in-Failed-clause-over g c =
    λ is.
    let asked = (c.in-Failed.ensures.over (c.loop-self.invariant.ended ∙ is)).0 in
    absurd (cc)

pub returns-in-Failed-clause-keeps : goal.returns-in-Failed-clause-keeps
returns-in-Failed-clause-keeps g c =
    keeps_failed c.loop-self.invariant.under c.in-Failed.ensures.content.0 c.in-Failed.ensures.content.1
