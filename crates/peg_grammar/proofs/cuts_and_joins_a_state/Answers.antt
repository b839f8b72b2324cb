use Rattle.std.proofs.Common.{[]}
use Rattle.peg_grammar.proofs.cuts_and_joins_a_state.Goals as goal
use Rattle.peg_grammar.proofs.Cut.{length_parts, get_part, full_part, concat_parts}
use Rattle.peg_grammar.proofs.StateSize.{last_size, few_parts, part_in_packet, read_joined}

pub returns : goal.returns
returns c =
    record {
      count = length_parts;
      at = λ bytes index. get_part bytes index [];
      full = full_part;
      last = last_size;
      joined = concat_parts;
      few = few_parts;
      packets = part_in_packet;
      read_back = read_joined;
    }
