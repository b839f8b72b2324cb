use Rattle.std.proofs.Common.{◌≡◌, ◌≤◌, take}
use Rattle.std.specs.Option.{is_some}
use Rattle.std.specs.List.{count_by}
use Rattle.peg_parts.proofs.held.held_count.Given as goal

abbrev pub invariant-loop-part : goal.invariant-loop-part
invariant-loop-part l = record {
  held : l.held ≡ count_by is_some (take l.part-index l.parts);
  most : l.held ≤ l.part-index;
}
