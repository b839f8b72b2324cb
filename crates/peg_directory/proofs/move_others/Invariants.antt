use Rattle.std.proofs.Common.{◌≡◌, ◌≤◌, ◌+◌, length, take, filter, bytes_eq}
use Rattle.indexmap.specs.IndexMap.{spare}
use Rattle.peg_directory.proofs.Moving.{is_other}
use Rattle.peg_directory.proofs.move_others.Given as goal

-- what was passed is there, but for the key, and each of them has taken at most one place
abbrev pub invariant-loop-i : goal.invariant-loop-i
invariant-loop-i g l = record {
  moved : l.to.entries ≡ filter (is_other bytes_eq l.key) (take l.i l.from.entries);
  room : spare l.fn.to ≤ length l.to.entries + spare l.to;
  few : length l.to.entries ≤ l.i;
}
