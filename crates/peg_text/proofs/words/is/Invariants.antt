use Rattle.std.proofs.Common.{◌≡◌, drop}
use Rattle.std.specs.Str.{bytes_eq}
use Rattle.peg_text.proofs.words.is.Given as goal

-- the words are the same just where what is left of them is
abbrev pub invariant-loop-i : goal.invariant-loop-i
invariant-loop-i l = bytes_eq (drop l.i l.word) (drop l.i l.name) ≡ bytes_eq l.word l.name
