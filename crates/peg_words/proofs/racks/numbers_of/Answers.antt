use Rattle.std.proofs.Common.{rules, ◌≡◌, ◌∙◌, Some, None, map, length, sym, ap, subst, arith, ◌<◌}
use Rattle.std.proofs.Common.{◌++◌, ◌∷◌, [], take, get_or}
use Rattle.std.proofs.lemmas.List.{map-append, length-map}
use Rattle.std.proofs.lemmas.Iterator.Consumers.{YieldsList-so_far, YieldsList-turn, YieldsList-end}
use Rattle.std.proofs.lemmas.Iterator.Consumers.{YieldsList-at}
use Rattle.std.proofs.lemmas.Iterator.Splits.{YieldsList-from_str_split}
use Rattle.peg_meaning.specs.Commands as commands
use Rattle.peg_words.proofs.RackNumbers.{more, none_with, more_than}
use Rattle.peg_words.proofs.racks.numbers_of.Goals as goal

pub loop-part-preserved : goal.loop-part-preserved
loop-part-preserved g c =
    let number : commands.number_within c.args.low c.args.high c.in-Some.part.now ≡ Some c.in_ok-number.number =
    search rules in
    let pushed : c.try_push.new.self.items ≡ c.loop-part.numbers.items ++ c.in_ok-number.number ∷ [] =
    search rules in
    ap (commands.numbers_within c.args.low c.args.high)
    (map-append (λ part. part.now) c.loop-part.yielded (c.in-Some.part ∷ []))
    ∙ more c.args.low c.args.high (map (λ part. part.now) c.loop-part.yielded) c.loop-part.numbers.items
    c.in-Some.part.now c.in_ok-number.number c.loop-part.invariant number
    ∙ ap (λ items. Some items) (sym pushed)

pub returns-in_err-number-clause-none : goal.returns-in_err-number-clause-none
returns-in_err-number-clause-none g c =
    λ none numbers whole.
    let road =
    YieldsList-at c.into_iter-part-iterator.ensures.into_iter_gives
    (YieldsList-from_str_split 58 c.args.word.now (omega arith) c.split-part-items.ensures.text
    c.split-part-items.ensures.has_more c.split-part-items.ensures.pattern) in
    let so_far =
    YieldsList-so_far road c.loop-part.yielded c.loop-part.part-iterator c.loop-part.yielded_by in
    let turn =
    YieldsList-turn road c.loop-part.yielded c.loop-part.part-iterator c.loop-part.yielded_by
    c.next.result c.next.new.self c.in-Some.part c.in-Some.is c.next.ensures.steps in
    let count = length-map c.loop-part.yielded (λ part. part.now) in
    let is : commands.number_within c.args.low c.args.high c.in-Some.part.now ≡ None = search rules in
    absurd
    (none_with c.args.low c.args.high c.args.word.now (map (λ part. part.now) c.loop-part.yielded) c.in-Some.part.now
    (so_far ∙ ap (λ n. take n (commands.between_colons c.args.word.now)) (sym count))
    (omega (arith, turn.0, count))
    (turn.1 ∙ ap (λ n. get_or (commands.between_colons c.args.word.now) n c.in-Some.part.now)
    (sym count))
    is numbers whole)

pub returns-in_err-ok-clause-none : goal.returns-in_err-ok-clause-none
returns-in_err-ok-clause-none g c =
    λ none numbers whole.
    let road =
    YieldsList-at c.into_iter-part-iterator.ensures.into_iter_gives
    (YieldsList-from_str_split 58 c.args.word.now (omega arith) c.split-part-items.ensures.text
    c.split-part-items.ensures.has_more c.split-part-items.ensures.pattern) in
    let so_far =
    YieldsList-so_far road c.loop-part.yielded c.loop-part.part-iterator c.loop-part.yielded_by in
    let turn =
    YieldsList-turn road c.loop-part.yielded c.loop-part.part-iterator c.loop-part.yielded_by
    c.next.result c.next.new.self c.in-Some.part c.in-Some.is c.next.ensures.steps in
    let count = length-map c.loop-part.yielded (λ part. part.now) in
    let full : length c.loop-part.numbers.items ≡ g.row.MOST = search rules in
    subst (λ n. n < length numbers) full
    (more_than c.args.low c.args.high c.args.word.now (map (λ part. part.now) c.loop-part.yielded) c.in-Some.part.now
    (so_far ∙ ap (λ n. take n (commands.between_colons c.args.word.now)) (sym count))
    (omega (arith, turn.0, count))
    (turn.1 ∙ ap (λ n. get_or (commands.between_colons c.args.word.now) n c.in-Some.part.now)
    (sym count))
    c.loop-part.numbers.items c.loop-part.invariant numbers whole)

pub returns-clause-some : goal.returns-clause-some
returns-clause-some g c =
    let road =
    YieldsList-at c.into_iter-part-iterator.ensures.into_iter_gives
    (YieldsList-from_str_split 58 c.args.word.now (omega arith) c.split-part-items.ensures.text
    c.split-part-items.ensures.has_more c.split-part-items.ensures.pattern) in
    let end =
    YieldsList-end road c.loop-part.yielded c.loop-part.part-iterator c.loop-part.yielded_by
    c.next.result c.next.new.self c.in-None.is c.next.ensures.steps in
    ap (commands.numbers_within c.args.low c.args.high) (sym end.0) ∙ c.loop-part.invariant
