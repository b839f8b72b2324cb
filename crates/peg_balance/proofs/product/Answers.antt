use Rattle.std.proofs.Common.{arith}
use Rattle.peg_balance.proofs.Choosing.{product_fits}
use Rattle.peg_balance.proofs.product.Goals as goal

pub overflow_mul-result : goal.overflow_mul-result
overflow_mul-result c =
    let fits = product_fits c.from.result c.from-2.result (omega (arith, c.from.ensures))
    (omega (arith, c.from-2.ensures)) in
    omega (arith, fits)
