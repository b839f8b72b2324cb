use Rattle.std.proofs.Common.{◌≡◌, drop}
use Rattle.std.specs.Map.{keys_of}
use Rattle.peg_model.specs.Packet.{are_distinct}
use Rattle.peg_parts.proofs.read.are_distinct.Given as goal

abbrev pub invariant-loop-i : goal.invariant-loop-i
invariant-loop-i l =
    are_distinct (keys_of l.entries) ≡ are_distinct (keys_of (drop l.i l.entries))
