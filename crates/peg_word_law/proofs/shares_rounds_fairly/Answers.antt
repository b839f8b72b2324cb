use Rattle.peg_word_law.proofs.Fairness.{rounds_are_fair}
use Rattle.peg_word_law.proofs.shares_rounds_fairly.Goals as goal

pub returns : goal.returns
returns c = rounds_are_fair
