use Rattle.std.proofs.Common.{◌≡◌, ◌≤◌, ◌+◌, ◌*◌, ◌++◌, take, length, true, vec_capacity}
use Rattle.std.specs.List.{flat_map, list_all}
use Rattle.peg_model.specs.Handover.{stamp_bytes, is_stamp_row}
use Rattle.peg_parts.proofs.spell.put_rows.Given as goal

abbrev pub invariant-loop-client : goal.invariant-loop-client
invariant-loop-client l = record {
  items : l.out.items ≡ l.fn.out.items ++ flat_map stamp_bytes (take l.client l.stamper.rows);
  room : vec_capacity l.fn.out ≤ vec_capacity l.out;
  long : length l.out.items ≡ length l.fn.out.items + 16 * l.client;
  numbers : list_all is_stamp_row (take l.client l.stamper.rows) ≡ true;
}
