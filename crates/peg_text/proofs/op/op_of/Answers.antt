use Rattle.std.proofs.Common.{◌∙◌}
use Rattle.peg_text.proofs.OpLines.{op_complete, op_only}
use Rattle.peg_text.proofs.op.op_of.Goals as goal

pub returns-clause-sound : goal.returns-clause-sound
returns-clause-sound c = op_only c.args.line.now c.op_in.result c.op_in.ensures

pub returns-clause-complete : goal.returns-clause-complete
returns-clause-complete c =
    λ number op is. c.op_in.ensures ∙ op_complete c.args.line.now number op is
