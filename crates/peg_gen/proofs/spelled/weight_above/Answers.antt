use Rattle.std.proofs.Common.{arith}
use Rattle.peg_gen.proofs.Weights.{above_here, above_later, above_none}
use Rattle.peg_gen.proofs.spelled.weight_above.Goals as goal

pub returns-then-left-weight : goal.returns-then-left-weight
returns-then-left-weight c =
    above_here c.args.r c.args.weights.now c.loop-j.j c.loop-j.left (omega arith) (omega arith)
    c.loop-j.invariant

pub loop-j-preserved : goal.loop-j-preserved
loop-j-preserved c =
    above_later c.args.r c.args.weights.now c.loop-j.j c.loop-j.left (omega arith) (omega arith)
    c.loop-j.invariant

pub returns : goal.returns
returns c =
    above_none c.args.r c.args.weights.now c.loop-j.j c.loop-j.left (omega arith)
    c.loop-j.invariant
