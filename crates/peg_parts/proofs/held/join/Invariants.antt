use Rattle.std.proofs.Common.{◌≡◌, ◌≤◌, ◌*◌, take, set, length, unwrap_or, Some, [], vec_capacity}
use Rattle.std.specs.List.{flat_map}
use Rattle.peg_parts.proofs.held.join.Given as goal

abbrev pub invariant-loop-place : goal.invariant-loop-place
invariant-loop-place l = record {
  items :
      l.out.items
      ≡ flat_map (λ part. unwrap_or part []) (take l.place (set l.parts l.index (Some l.bytes)));
  long : length l.out.items ≤ 512 * l.place;
  room : vec_capacity l.fn.out ≤ vec_capacity l.out;
}
