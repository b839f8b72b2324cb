use Rattle.std.proofs.Common.{◌≡◌, ◌+◌, ◌*◌, ◌≤◌, ◌++◌, length, drop}
use Rattle.peg_model.specs.Text.{key_word}
use Rattle.peg_text.proofs.text.Text.push_each_spelled.Given as goal

-- what is printed and the spelling of the bytes that are left are the whole
abbrev pub invariant-loop-byte : goal.invariant-loop-byte
invariant-loop-byte l = record {
  text : l.self ++ key_word (drop l.byte-index l.bytes) ≡ l.initial.self ++ key_word l.bytes;
  room : length l.self ≤ length l.initial.self + 3 * l.byte-index;
}
