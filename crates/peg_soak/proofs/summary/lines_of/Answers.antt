use Rattle.std.proofs.Common.{◌∙◌, decimal}
use Rattle.std.proofs.lemmas.Result.{IfOk-weaker}
use Rattle.peg_soak.proofs.SixLines.{six_are}
use Rattle.peg_soak.proofs.summary.lines_of.Goals as goal

pub returns : goal.returns
returns c =
    let a = c.args in
    IfOk-weaker c.format.result _ _
    (λ text is.
    is ∙ six_are (decimal a.events) (decimal a.packets) (decimal a.operations)
    (decimal a.answered) (decimal a.keys))
    c.format.ensures.ok
