use Rattle.peg_trace.proofs.Runs.{stands_in_all, lines_are, linearizable, told}
use Rattle.peg_trace.proofs.Told.{answers_told}
use Rattle.peg_trace.proofs.shows_each_operation.Goals as goal

pub returns-clause-shown : goal.returns-clause-shown
returns-clause-shown c = stands_in_all

pub returns-clause-lines : goal.returns-clause-lines
returns-clause-lines c = lines_are

pub returns-clause-linearizable : goal.returns-clause-linearizable
returns-clause-linearizable c = linearizable

pub returns-clause-answered : goal.returns-clause-answered
returns-clause-answered c = answers_told

pub returns-clause-told : goal.returns-clause-told
returns-clause-told c = told
