use Rattle.std.proofs.Common.{map}
use Rattle.peg_racks.proofs.TailLines.{AreOrdersBefore}
use Rattle.peg_racks.proofs.printing.orders_of.Given as goal

abbrev pub invariant-loop-rack : goal.invariant-loop-rack
invariant-loop-rack l = AreOrdersBefore l.racks l.rack (map (λ v. v.items) l.all.items)
