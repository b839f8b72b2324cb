use Rattle.peg_judge.proofs.Verdicts.{yes_of_histories}
use Rattle.peg_judge.proofs.law.says_yes_of_histories.Goals as goal

pub returns : goal.returns
returns c = λ ops key_orders. yes_of_histories ops key_orders
