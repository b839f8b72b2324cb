use Rattle.std.proofs.Common.{◌≡◌, Some, map}
use Rattle.peg_meaning.specs.Commands as commands
use Rattle.peg_words.proofs.racks.numbers_of.Given as goal

abbrev pub invariant-loop-part : goal.invariant-loop-part
invariant-loop-part g l =
    commands.numbers_within l.low l.high (map (λ part. part.now) l.yielded)
    ≡ Some l.numbers.items
