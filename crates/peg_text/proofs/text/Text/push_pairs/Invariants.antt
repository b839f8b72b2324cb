use Rattle.std.proofs.Common.{◌≡◌, ◌+◌, ◌*◌, ◌++◌, length, drop}
use Rattle.std.specs.Prelude.{flat_map}
use Rattle.peg_text.specs.Reading.{lower_pair}
use Rattle.peg_text.proofs.text.Text.push_pairs.Given as goal

-- what is printed and the spelling of the bytes that are left are the whole
abbrev pub invariant-loop-byte : goal.invariant-loop-byte
invariant-loop-byte l = record {
  text :
      l.self ++ flat_map lower_pair (drop l.byte-index l.bytes)
      ≡ l.initial.self ++ flat_map lower_pair l.bytes;
  room : length l.self ≡ length l.initial.self + 2 * l.byte-index;
}
