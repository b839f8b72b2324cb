use Rattle.std.proofs.Common.{ap, arith, length}
use Rattle.peg_pool.proofs.Pools.{few-slots}
use Rattle.peg_pool.proofs.pool.SlotPool.put.Goals as goal

pub returns-in_err-grow-clause-few : goal.returns-in_err-grow-clause-few
returns-in_err-grow-clause-few c =
    omega (
      arith,
      ap (λ slots. length slots.used) c.grow.ensures.same,
      few-slots c.self.inside c.args.self.now c.self.invariant c.self.view_is,
    )
