use Rattle.peg_law.proofs.Refusals.{switch_fine}
use Rattle.peg_law.proofs.refuses_at_a_switch.Goals as goal

pub returns : goal.returns
returns c = switch_fine
