use Rattle.peg_grammar.proofs.reads_back_what_is_spelled.Goals as goal
use Rattle.peg_grammar.proofs.Spelled.{packet_of-Spells}
use Rattle.peg_grammar.proofs.Whole.{Spells-packet_of}
use Rattle.peg_grammar.proofs.State.{state_of-Spells, Spells-state_of}

pub returns : goal.returns
returns c =
    record {
      packet = Spells-packet_of;
      only_packets = packet_of-Spells;
      state = Spells-state_of;
      only_states = state_of-Spells;
    }
