use Rattle.std.proofs.Common.{◌≡◌, ◌+◌, ◌≤◌, ◌<◌, ◌∙◌, subst, length, arith, List}
use Rattle.std.proofs.lemmas.List.{take_all}
use Rattle.peg_io.specs.Outside.{Tells, Attempts}
use Rattle.peg_meaning.specs.Session.{Letter, letter_read, sent_more}
use Rattle.peg_session.proofs.Carrying.{one_sent}
use Rattle.peg_session.proofs.desk.send_all.Goals as goal

pub loop-i-preserved : goal.loop-i-preserved
loop-i-preserved g c =
    let within : c.loop-i.i < length (g.T.Session.letters c.args.session.now) =
    subst (λ n. c.loop-i.i < n) c.letter_count-i-end.ensures c.loop-i-test.true in
    record {
      slots = c.send.ensures.bound ∙ c.loop-i.invariant.slots;
      carried = λ from is.
          let l = c.letter_at-slot.result in
          one_sent (g.W.Wire.carried c.args.wire.now) (g.W.Wire.carried c.loop-i.wire)
          (g.W.Wire.carried c.send.new.self) from (g.T.Session.letters c.args.session.now)
          c.loop-i.i (letter_read l) (c.letter_at-slot.ensures.letter within)
          (c.loop-i.invariant.carried from is)
          (subst
          (λ n. Tells (g.W.Wire.carried c.loop-i.wire) (g.W.Wire.carried c.send.new.self)
          (Attempts (n + l.0) l.1 l.2.now))
          (is (omega (arith, c.letter_at-slot.ensures.slot within))) c.send.ensures.content);
      later = omega (arith, c.send.ensures.later, c.loop-i.invariant.later);
    }

pub returns-clause-content : goal.returns-clause-content
returns-clause-content g c =
    λ from is.
    let letters = g.T.Session.letters c.args.session.now in
    let all : length letters ≤ c.loop-i.i =
    subst (λ n. n ≤ c.loop-i.i) c.letter_count-i-end.ensures c.loop-i-test.false in
    subst
    (λ (ls : List Letter). Tells (g.W.Wire.carried c.args.wire.now)
    (g.W.Wire.carried c.loop-i.wire) (λ k n. n ≡ sent_more from ls k))
    (take_all c.loop-i.i letters all) (c.loop-i.invariant.carried from is)
