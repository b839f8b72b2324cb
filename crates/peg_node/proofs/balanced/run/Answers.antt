use Rattle.peg_session.proofs.Standings.{not_begun}
use Rattle.peg_node.proofs.balanced.run.Goals as goal

pub returns-in_default-clause-ended : goal.returns-in_default-clause-ended
returns-in_default-clause-ended g c = not_begun _ _ _ _ _

pub returns-in_default-make-clause-ended : goal.returns-in_default-make-clause-ended
returns-in_default-make-clause-ended g c = not_begun _ _ _ _ _
