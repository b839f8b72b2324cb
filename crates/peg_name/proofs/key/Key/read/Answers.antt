use Rattle.std.proofs.Common.{arith, rules}
use Rattle.peg_name.proofs.Padding.{padded_key}
use Rattle.peg_name.proofs.key.Key.read.Goals as goal

pub invariant_of-result : goal.invariant_of-result
invariant_of-result c =
    padded_key c.args.bytes.now c.copy_from_slice.new.self c.copy_from_slice.ensures.after
    (search rules) (omega arith)
