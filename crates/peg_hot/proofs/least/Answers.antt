use Rattle.std.proofs.Common.{arith}
use Rattle.peg_hot.proofs.Counting.{least_last}
use Rattle.peg_hot.proofs.least.Goals as goal

pub loop-row-init : goal.loop-row-init
loop-row-init c = record { small = omega arith; least = let e = least_last c.args.rows.now in omega (arith, e) }
