use Rattle.peg_judge.proofs.Behind.{behind_sound, behind_complete, behind_none}
use Rattle.peg_judge.proofs.numbers.number_behind.Goals as goal

pub returns-in_default-clause-complete : goal.returns-in_default-clause-complete
returns-in_default-clause-complete c =
    behind_none c.args.head.now c.args.line.now _ c.in_default.ensures.cases

pub returns-clause-sound : goal.returns-clause-sound
returns-clause-sound c =
    behind_sound c.args.head.now c.args.line.now c.in-Some.rest.now c.number_of.result
    c.in-Some.ensures.cases.0 c.in-Some.ensures.cases.1 c.number_of.ensures

pub returns-clause-complete : goal.returns-clause-complete
returns-clause-complete c =
    behind_complete c.args.head.now c.args.line.now c.in-Some.rest.now c.number_of.result
    c.in-Some.ensures.cases.1 c.number_of.ensures
