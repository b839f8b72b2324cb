use Rattle.std.proofs.Common.{◌≡◌, length, []}
use Rattle.peg_text.specs.Racks.{keys_on}
use Rattle.peg_text.proofs.rack.read_keys.Given as goal

-- the keys so far and those of the words that are left are all
abbrev pub invariant-loop-word : goal.invariant-loop-word
invariant-loop-word l = keys_on l.listed l.keys l.words ≡ keys_on l.listed [] l.initial.words

abbrev pub decreases-loop-word : goal.decreases-loop-word
decreases-loop-word l = length l.words
