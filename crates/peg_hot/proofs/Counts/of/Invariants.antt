use Rattle.std.proofs.Common.{◌≡◌, drop}
use Rattle.peg_model.specs.Counts.{no_counts}
use Rattle.peg_hot.specs.Table.{counted}
use Rattle.peg_hot.proofs.Counts.of.Given as goal

abbrev pub invariant-loop-key : goal.invariant-loop-key
invariant-loop-key l = record {
  most : l.counts.most ≡ l.m;
  counts : counted l.m l.counts.counts (drop l.key-index l.keys) ≡ counted l.m no_counts l.keys;
}
