use Rattle.peg_grammar.proofs.takes_a_state_over.Goals as goal
use Rattle.peg_grammar.proofs.Activates.{part_any_pick, takes_part, takes_last_part}
use Rattle.peg_grammar.proofs.Activates.{active_in_any_order}

pub returns : goal.returns
returns c =
    record {
      any_pick = part_any_pick;
      one_more = takes_part;
      last = takes_last_part;
      in_any_order = active_in_any_order;
    }
