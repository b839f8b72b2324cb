use Rattle.peg_word_law.proofs.Spreading.{spreads_requests}
use Rattle.peg_word_law.proofs.goes_to_the_lightest.Goals as goal

pub returns : goal.returns
returns c = spreads_requests
