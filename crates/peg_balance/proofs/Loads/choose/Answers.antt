use Rattle.std.proofs.Common.{◌+◌, ap, ◌∙◌, arith, drop}
use Rattle.peg_meaning.specs.Balance.{chosen_over}
use Rattle.peg_balance.proofs.Choosing.{choice_goes}
use Rattle.peg_balance.proofs.Loads.choose.Goals as goal

pub loop-place-preserved : goal.loop-place-preserved
loop-place-preserved c =
    let place = c.loop-place.place in
    ap (λ best. chosen_over c.args.self.now best (drop (place + 1) c.args.allowed))
    c.lighter-best.ensures
    ∙ choice_goes c.args.self.now c.args.allowed place c.loop-place.best c.nth.result
    (omega (arith, c.loop-place-test.true, c.count-count.ensures)) c.nth.ensures
    ∙ c.loop-place.invariant
