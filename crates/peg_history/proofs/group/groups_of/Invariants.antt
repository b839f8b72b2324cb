use Rattle.std.proofs.Common.{map}
use Rattle.peg_history.specs.Groups.{group_of}
use Rattle.peg_history.proofs.Passes.{IsPassed}
use Rattle.peg_history.proofs.group.groups_of.Given as goal

abbrev pub invariant-loop-place : goal.invariant-loop-place
invariant-loop-place l = IsPassed l.history.ops l.tags l.place l.known.keys (map group_of l.groups.items)
