use Rattle.peg_grammar.proofs.collects_parts_in_any_order.Goals as goal
use Rattle.peg_grammar.proofs.Collect.{held_in_any_order, one_more_holds, whole_bytes}
use Rattle.peg_grammar.proofs.Collect.{every_part_fits, whole_when_all, read_in_any_order}

pub returns : goal.returns
returns c =
    record {
      held = held_in_any_order;
      one_more = one_more_holds;
      whole = whole_bytes;
      in_place = every_part_fits;
      when_each_has_come = whole_when_all;
      read_back = read_in_any_order;
    }
