use Rattle.peg_grammar.specs.Rows.{RowsFrom}
use Rattle.peg_packet.proofs.rows.Rows.read.Given as goal

abbrev pub invariant-loop-left : goal.invariant-loop-left
invariant-loop-left l =
    (RowsFrom l.bytes l.count 0 → RowsFrom l.bytes l.left l.at)
    × (RowsFrom l.bytes l.left l.at → RowsFrom l.bytes l.count 0)

abbrev pub decreases-loop-left : goal.decreases-loop-left
decreases-loop-left l = l.left
