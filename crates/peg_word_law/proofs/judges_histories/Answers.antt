use Rattle.peg_word_law.proofs.Checked.{has_judged}
use Rattle.peg_word_law.proofs.judges_histories.Goals as goal

pub returns : goal.returns
returns c = has_judged
