use Rattle.std.proofs.Common.{◌≡◌, take}
use Rattle.peg_words.proofs.racks.weights_of.Given as goal

abbrev pub invariant-loop-number : goal.invariant-loop-number
invariant-loop-number l = l.weights.items ≡ take l.number-index l.number-items
