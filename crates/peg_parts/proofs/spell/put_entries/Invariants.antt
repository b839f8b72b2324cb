use Rattle.std.proofs.Common.{◌≡◌, ◌≤◌, ◌+◌, ◌*◌, ◌++◌, take, length, true, vec_capacity}
use Rattle.std.specs.List.{flat_map, list_all}
use Rattle.peg_model.specs.Handover.{entry_bytes}
use Rattle.peg_grammar.specs.State.{is_rising}
use Rattle.peg_parts.proofs.spell.put_entries.Given as goal

abbrev pub invariant-loop-place : goal.invariant-loop-place
invariant-loop-place l = record {
  items :
      l.out.items
      ≡ l.fn.out.items ++ flat_map (entry_bytes l.format) (take l.place l.directory.entries);
  room : vec_capacity l.fn.out ≤ vec_capacity l.out;
  short : length l.out.items ≤ length l.fn.out.items + 73 * l.place;
  rising : list_all (λ item. is_rising item.1.holders) (take l.place l.directory.entries) ≡ true;
}
