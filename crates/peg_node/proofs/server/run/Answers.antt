use Rattle.peg_session.proofs.Standings.{not_begun}
use Rattle.peg_node.proofs.server.run.Goals as goal

pub returns-in_default-clause-ended : goal.returns-in_default-clause-ended
returns-in_default-clause-ended g c = not_begun _ _ _ _ _
