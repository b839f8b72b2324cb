use Rattle.peg_index.proofs.Grown.{stays}
use Rattle.peg_index.proofs.stays_an_index.Goals as goal

pub returns : goal.returns
returns c = stays
