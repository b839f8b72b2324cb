use Rattle.std.proofs.Common.{◌≡◌, ◌+◌, drop}
use Rattle.peg_meaning.specs.Workload.{weight_above}
use Rattle.peg_gen.proofs.spelled.weight_above.Given as goal

abbrev pub invariant-loop-j : goal.invariant-loop-j
invariant-loop-j l =
    weight_above l.r l.weights ≡ l.j + weight_above l.left (drop l.j l.weights)
