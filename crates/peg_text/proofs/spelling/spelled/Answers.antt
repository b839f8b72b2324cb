use Rattle.std.proofs.Common.{◌≡◌, ◌<◌, ◌+◌, ◌-◌, ◌∷◌, ◌++◌, [], length, take, set, option_map, subst}
use Rattle.std.proofs.Common.{sym, ap, ◌∙◌, arith, length-append}
use Rattle.std.proofs.lemmas.Bool.Decides.{nat_tests}
use Rattle.std.proofs.lemmas.List.{take_more_set}
use Rattle.peg_text.specs.Reading.{spelled}
use Rattle.peg_text.proofs.Spelled.{full, stopped, went_on, whole}
use Rattle.peg_text.proofs.spelling.spelled.Goals as goal

pub returns-then-count-most-clause-bytes : goal.returns-then-count-most-clause-bytes
returns-then-count-most-clause-bytes c =
    full c.args.form c.args.most (take c.loop-rest.count c.loop-rest.room) c.loop-rest.rest.now _
    c.loop-rest.invariant.whole
    (grind (arith, nat_tests, c.is_empty.ensures, c.loop-rest-test.true)) (omega arith)

pub returns-in_err-byte-clause-bytes : goal.returns-in_err-byte-clause-bytes
returns-in_err-byte-clause-bytes c =
    ap (option_map (λ count. take count c.loop-rest.room)) c.from_residual.ensures
    ∙ stopped c.args.form c.args.most (take c.loop-rest.count c.loop-rest.room) c.loop-rest.rest.now
    _ c.loop-rest.invariant.whole
    (grind (arith, nat_tests, c.is_empty.ensures, c.loop-rest-test.true)) (omega arith)
    (sym c.in_err-byte.ensures)

pub loop-rest-preserved : goal.loop-rest-preserved
loop-rest-preserved c =
    let room = c.loop-rest.room in
    let count = c.loop-rest.count in
    let byte = c.in_ok-byte.byte in
    let within : count < length room =
    omega (arith, c.requires, c.loop-rest.auto.room, c.loop-rest.invariant.few) in
    let next : take (count + 1) (set room count byte) ≡ take count room ++ byte ∷ [] =
    take_more_set room count byte within in
    record {
      few = omega arith;
      held =
          ap length next
          ∙ omega (arith, length-append (take count room) (byte ∷ []), c.loop-rest.invariant.held);
      whole =
          subst (λ held. option_map (λ bytes. held ++ bytes)
          (spelled c.args.form (c.args.most - length held) c.in_ok-byte.after.now)
          ≡ spelled c.args.form c.args.most c.args.word.now) (sym next)
          (went_on c.args.form c.args.most (take count room) c.loop-rest.rest.now
          (spelled c.args.form c.args.most c.args.word.now) byte c.in_ok-byte.after.now
          c.loop-rest.invariant.whole
          (grind (arith, nat_tests, c.is_empty.ensures, c.loop-rest-test.true)) (omega arith)
          (sym c.in_ok-byte.ensures));
    }

pub returns-clause-bytes : goal.returns-clause-bytes
returns-clause-bytes c =
    whole c.args.form c.args.most (take c.loop-rest.count c.loop-rest.room) c.loop-rest.rest.now _
    c.loop-rest.invariant.whole
    (grind (arith, nat_tests, c.is_empty.ensures, c.loop-rest-test.false))
