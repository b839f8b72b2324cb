use Rattle.std.proofs.Common.{◌≡◌, map, take, Some}
use Rattle.peg_pool.specs.Block.{patched}
use Rattle.peg_pool.proofs.block.fill.Given as goal

abbrev pub invariant-loop-i : goal.invariant-loop-i
invariant-loop-i l =
    (l.cells.at ≡ l.initial.cells.at)
    × (l.cells.places ≡ patched l.initial.cells.places l.from (map Some (take l.i l.bytes)))
