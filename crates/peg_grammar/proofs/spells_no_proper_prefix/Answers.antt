use Rattle.peg_grammar.proofs.spells_no_proper_prefix.Goals as goal
use Rattle.peg_grammar.proofs.Prefix.{no_proper_prefix, one_packet}

pub returns : goal.returns
returns c = record { nothing_follows = no_proper_prefix; one_packet = one_packet }
