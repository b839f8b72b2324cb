use Rattle.peg_word_law.proofs.Isolation.{isolated}
use Rattle.peg_word_law.proofs.isolates_racks.Goals as goal

pub returns : goal.returns
returns c = isolated
