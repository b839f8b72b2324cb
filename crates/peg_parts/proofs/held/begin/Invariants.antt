use Rattle.std.proofs.Common.{◌≡◌, replicate, None, vec_capacity}
use Rattle.peg_parts.proofs.held.begin.Given as goal

abbrev pub invariant-loop : goal.invariant-loop
invariant-loop l = record {
  items : l.parts.items ≡ replicate l.counter None;
  room : vec_capacity l.parts ≡ vec_capacity l.fn.parts;
}
