use Rattle.std.proofs.Common.{◌≡◌, take, vec_capacity}
use Rattle.peg_control.proofs.known.fill.Given as goal

abbrev pub invariant-loop-key : goal.invariant-loop-key
invariant-loop-key l = record {
  items : l.kept.items ≡ take l.key-index l.keys;
  room : vec_capacity l.kept ≡ vec_capacity l.fn.kept;
}
