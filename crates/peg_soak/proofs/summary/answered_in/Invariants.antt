use Rattle.std.proofs.Common.{◌≡◌, ◌≤◌, take}
use Rattle.peg_soak.proofs.Counted.{answered_of}
use Rattle.peg_soak.proofs.summary.answered_in.Given as goal

abbrev pub invariant-loop-place : goal.invariant-loop-place
invariant-loop-place l =
    record { counted : l.answered ≡ answered_of (take l.place l.history.ops); few : l.answered ≤ l.place }
