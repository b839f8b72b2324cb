use Rattle.std.proofs.Common.{◌≡◌, ◌≤◌, ◌+◌, ◌-◌, ◌*◌, ◌++◌, true, length, vec_capacity}
use Rattle.std.specs.List.{list_all}
use Rattle.peg_model.specs.Reading.{one_at}
use Rattle.peg_model.specs.Handover.{entries_at, is_entry}
use Rattle.peg_parts.proofs.read.read_entries.Given as goal

abbrev pub invariant-loop : goal.invariant-loop
invariant-loop l = record {
  entries :
      entries_at l.bytes l.config.format (one_at l.bytes l.at) (l.at + 1)
      ≡ l.entries.items ++ entries_at l.bytes l.config.format (l.count - l.counter) l.place;
  within : list_all (is_entry l.config) l.entries.items ≡ true;
  read : length l.entries.items ≡ l.counter;
  near : l.place ≤ l.at + 1 + 296 * l.counter;
  room : vec_capacity l.entries ≡ vec_capacity l.fn.entries;
}
