use Rattle.std.proofs.Common.{◌≡◌, ◌≤◌, ◌+◌, take, length}
use Rattle.indexmap.specs.IndexMap.{spare}
use Rattle.peg_directory.proofs.refill.Given as goal

abbrev pub invariant-loop-key : goal.invariant-loop-key
invariant-loop-key l = record {
  entries : l.kept.entries ≡ take l.key-index l.entries;
  room :
      length l.fn.kept.entries + spare l.fn.kept ≤ length l.kept.entries + spare l.kept;
}
