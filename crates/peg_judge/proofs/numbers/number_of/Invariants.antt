use Rattle.std.proofs.Common.{◌≡◌, drop}
use Rattle.peg_text.specs.Reading.{number_on}
use Rattle.peg_judge.proofs.numbers.number_of.Given as goal

-- the number so far goes on over the rest to the number of the word
abbrev pub invariant-loop-byte : goal.invariant-loop-byte
invariant-loop-byte l = number_on l.number (drop l.byte-index l.word) ≡ number_on 0 l.word
