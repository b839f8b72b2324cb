use Rattle.std.proofs.Common.{take}
use Rattle.std.specs.List.{AllByRecursion}
use Rattle.peg_model.specs.Schedule.{IsKeyOfBytes}
use Rattle.peg_world.proofs.ranges.keys_are_in_range.Given as goal

abbrev pub invariant-loop-key : goal.invariant-loop-key
invariant-loop-key l = AllByRecursion IsKeyOfBytes (take l.key-index l.keys)
