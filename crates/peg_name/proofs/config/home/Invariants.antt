use Rattle.std.proofs.Common.{◌≡◌, ◌^◌, ◌<◌, drop}
use Rattle.peg_name.specs.Name.{hash_from}
use Rattle.peg_name.proofs.config.home.Given as goal

-- The hash of the bytes so far goes on over the rest to the hash of all.
abbrev pub invariant-loop-byte : goal.invariant-loop-byte
invariant-loop-byte l =
    (l.hash < 2 ^ 32)
    × (hash_from l.hash (drop l.byte-index l.byte-items) ≡ hash_from 0 l.byte-items)
