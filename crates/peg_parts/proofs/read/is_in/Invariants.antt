use Rattle.std.proofs.Common.{◌≡◌, drop}
use Rattle.std.specs.Map.{keys_of}
use Rattle.peg_model.specs.Words.{is_in}
use Rattle.peg_parts.proofs.read.is_in.Given as goal

abbrev pub invariant-loop-other : goal.invariant-loop-other
invariant-loop-other l =
    is_in l.key (keys_of l.entries) ≡ is_in l.key (keys_of (drop l.other-index l.entries))
