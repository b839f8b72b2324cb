use Rattle.peg_law.proofs.Refusals.{client_fine, issue_fine, resend_fine, give_up_fine}
use Rattle.peg_law.proofs.refuses_at_a_client.Goals as goal

pub returns-clause-takes : goal.returns-clause-takes
returns-clause-takes c = client_fine

pub returns-clause-issues : goal.returns-clause-issues
returns-clause-issues c = issue_fine

pub returns-clause-resends : goal.returns-clause-resends
returns-clause-resends c = resend_fine

pub returns-clause-gives_up : goal.returns-clause-gives_up
returns-clause-gives_up c = give_up_fine
