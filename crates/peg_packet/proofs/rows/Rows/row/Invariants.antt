use Rattle.std.proofs.Common.{length}
use Rattle.peg_packet.specs.Seen.{rows_seen}
use Rattle.peg_packet.proofs.Walking.{IsOnTheWay}
use Rattle.peg_packet.proofs.rows.Rows.row.Given as goal

abbrev pub invariant-loop-left : goal.invariant-loop-left
invariant-loop-left l =
    IsOnTheWay (rows_seen l.self) l.bytes (length (rows_seen l.self)) l.i l.at l.left

abbrev pub decreases-loop-left : goal.decreases-loop-left
decreases-loop-left l = l.left
