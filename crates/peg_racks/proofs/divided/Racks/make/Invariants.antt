use Rattle.std.proofs.Common.{◌≡◌, map, take}
use Rattle.peg_racks.specs.Worlds.{begun}
use Rattle.peg_racks.proofs.divided.Racks.make.Given as goal

abbrev pub invariant-loop-rack : goal.invariant-loop-rack
invariant-loop-rack l = l.made ≡ map begun (take l.rack-index l.racks)
