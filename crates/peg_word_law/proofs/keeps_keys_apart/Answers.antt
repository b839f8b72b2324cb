use Rattle.peg_word_law.proofs.Homes.{divided_have_own}
use Rattle.peg_word_law.proofs.keeps_keys_apart.Goals as goal

pub returns : goal.returns
returns c = divided_have_own
