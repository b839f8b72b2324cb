use Rattle.std.proofs.Common.{◌≡◌, drop}
use Rattle.peg_text.specs.Reading.{are_plain}
use Rattle.peg_text.proofs.spelling.are_plain.Given as goal

-- the word is plain just where what is left of it is
abbrev pub invariant-loop-byte : goal.invariant-loop-byte
invariant-loop-byte l = are_plain (drop l.byte-index l.word) ≡ are_plain l.word
