use Rattle.peg_law.proofs.Filled.{filled_run}
use Rattle.peg_law.proofs.fills_gaps.Goals as goal

pub returns : goal.returns
returns c = filled_run
