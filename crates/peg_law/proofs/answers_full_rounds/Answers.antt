use Rattle.peg_law.proofs.Rounds.{full_round}
use Rattle.peg_law.proofs.answers_full_rounds.Goals as goal

pub returns : goal.returns
returns c = full_round
