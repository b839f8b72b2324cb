use Rattle.std.proofs.Common.{◌≡◌, drop, Some}
use Rattle.peg_model.specs.Judge.{late_of}
use Rattle.peg_history.specs.Walking.{walked_of}
use Rattle.peg_history.proofs.checking.first_late.Given as goal

abbrev pub invariant-loop-first : goal.invariant-loop-first
invariant-loop-first l =
    late_of (walked_of l.history.ops (drop l.first-index l.walked)) l.place (Some l.at)
    ≡ late_of (walked_of l.history.ops l.walked) l.place (Some l.at)
