use Rattle.std.proofs.Common.{◌∙◌, ap, arith}
use Rattle.peg_name.specs.declared.Row.{Row}
use Rattle.peg_model.specs.Counts.{taken_over}
use Rattle.peg_hot.proofs.Rows.{taken_here}
use Rattle.peg_hot.proofs.take_over.Goals as goal

pub returns-then-rows-i : goal.returns-then-rows-i
returns-then-rows-i c =
    taken_here c.args.key.now c.args.count c.loop-i.i c.loop-i.rows c.index-rows-i.result (omega (arith, c.loop-i.auto.rows, c.loop-i-test.true)) c.index-rows-i.is
    (ap (λ (r : Row). r.count) c.index-rows-i.is ∙ c.if-rows-i.true) c.loop-i.invariant.rest
    ∙ ap (λ rs. taken_over c.args.key.now c.args.count rs) c.loop-i.invariant.same
