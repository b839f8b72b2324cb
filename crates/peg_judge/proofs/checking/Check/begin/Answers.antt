use Rattle.std.proofs.Common.{refl, subst, arith}
use Rattle.peg_meaning.specs.CheckWord.{History}
use Rattle.peg_judge.specs.declared.checking.Front.{Front}
use Rattle.peg_judge.specs.Judging.{front_said, FrontSays}
use Rattle.peg_judge.proofs.Stepping.{front_goes}
use Rattle.peg_judge.proofs.checking.Check.begin.Goals as goal

pub returns-clause-took : goal.returns-clause-took
returns-clause-took c = λ page held.
    front_goes c.args.self.now.lines c.args.line.now (History c.in-History.count) _ page held
    (subst (λ (f : Front). FrontSays c.args.line.now (front_said f c.args.line.now))
    c.in-History.is c.in-Some.ensures) (omega arith) c.make.ensures.begins refl
