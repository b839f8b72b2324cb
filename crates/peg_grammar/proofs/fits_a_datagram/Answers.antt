use Rattle.peg_grammar.proofs.fits_a_datagram.Goals as goal
use Rattle.peg_grammar.proofs.Most.{length-spelling}

pub returns : goal.returns
returns c = length-spelling
