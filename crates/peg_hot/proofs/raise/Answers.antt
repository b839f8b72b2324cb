use Rattle.std.proofs.Common.{◌<◌, ◌+◌, ◌∙◌, ap, sym, subst, arith, length, List}
use Rattle.std.proofs.lemmas.List.{get_or_read}
use Rattle.std.specs.Str.{bytes_eq}
use Rattle.peg_name.specs.declared.Row.{Row}
use Rattle.peg_model.specs.Counts.{raised}
use Rattle.peg_hot.specs.Table.{IsDistinct}
use Rattle.peg_hot.proofs.Rows.{raised_here}
use Rattle.peg_hot.proofs.raise.Goals as goal

pub returns-then-eq-clause-rows : goal.returns-then-eq-clause-rows
returns-then-eq-clause-rows c =
    let row = c.index-rows-i.result in
    let lt : c.loop-i.i < length c.loop-i.rows = omega (arith, c.loop-i.auto.rows, c.loop-i-test.true) in
    let first = sym (get_or_read c.loop-i.rows c.loop-i.i row lt c.index-rows-i.is c.index-rows-i-then-eq.result) in
    let second = sym (get_or_read c.loop-i.rows c.loop-i.i row lt c.index-rows-i.is c.index-rows-i-then-eq-2.result) in
    raised_here c.args.key.now c.loop-i.i c.loop-i.rows row _ lt c.index-rows-i.is
    (ap (λ (r : Row). bytes_eq r.key c.args.key.now) c.index-rows-i.is ∙ sym c.eq.ensures ∙ c.if-eq.true)
    (subst (λ (rs : List Row). IsDistinct rs) (sym c.loop-i.invariant.same) c.requires.distinct)
    (λ i. record { key = (second i).key; count = (first i).count + 1; error = (second i).error })
    c.loop-i.invariant.rest
    ∙ ap (λ rs. raised c.args.key.now rs) c.loop-i.invariant.same
