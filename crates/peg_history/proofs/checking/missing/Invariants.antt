use Rattle.std.proofs.Common.{◌≡◌, drop}
use Rattle.peg_history.specs.Walking.{first_unmarked}
use Rattle.peg_history.proofs.checking.missing.Given as goal

abbrev pub invariant-loop-place : goal.invariant-loop-place
invariant-loop-place l =
    first_unmarked l.marks l.mark (drop l.place-index l.places)
    ≡ first_unmarked l.marks l.mark l.places
