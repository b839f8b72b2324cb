use Rattle.peg_hot.proofs.Counting.{counts_well}
use Rattle.peg_hot.proofs.counts_every_list_well.Goals as goal

pub returns : goal.returns
returns c = counts_well
