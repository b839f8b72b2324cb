use Rattle.std.proofs.Common.{◌∙◌, ap, sym, arith}
use Rattle.peg_model.specs.Judge.{late_of}
use Rattle.peg_history.specs.Walking.{walked_of}
use Rattle.peg_history.proofs.Walked.{never_late, not_late}
use Rattle.peg_history.proofs.checking.late_fault.Goals as goal

pub returns-in_default : goal.returns-in_default
returns-in_default c =
    let walked = walked_of c.args.history.now.ops c.args.walked.now in
    sym (ap (late_of walked c.args.place) c.in_default.is ∙ never_late walked c.args.place)

pub returns-then-at-latest : goal.returns-then-at-latest
returns-then-at-latest c =
    let walked = walked_of c.args.history.now.ops c.args.walked.now in
    sym (ap (late_of walked c.args.place) c.in-Some.is ∙ not_late walked c.args.place c.in-Some.at (omega (arith, c.requires, c.if-at-latest.true)))
