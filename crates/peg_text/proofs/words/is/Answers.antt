use Rattle.std.proofs.Common.{eq-eqb, arith}
use Rattle.peg_text.proofs.Alike.{alike_more, all_alike}
use Rattle.peg_text.proofs.words.is.Goals as goal

pub loop-i-preserved : goal.loop-i-preserved
loop-i-preserved c =
    alike_more c.args.word.now c.args.name.now c.loop-i.i _ (omega arith) (omega arith)
    (eq-eqb _ _ c.if-word-i.false) c.loop-i.invariant

pub returns : goal.returns
returns c =
    all_alike c.args.word.now c.args.name.now c.loop-i.i _ (omega arith) (omega arith)
    c.loop-i.invariant
