use Rattle.peg_law.proofs.Refusals.{server_fine}
use Rattle.peg_law.proofs.refuses_at_a_server.Goals as goal

pub returns : goal.returns
returns c = server_fine
