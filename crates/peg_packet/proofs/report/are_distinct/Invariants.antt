use Rattle.std.proofs.Common.{◌≡◌}
use Rattle.peg_model.specs.Packet.{are_distinct, keys_of_rows}
use Rattle.peg_model.specs.Reading.{rows_at}
use Rattle.peg_packet.specs.Seen.{rows_seen}
use Rattle.peg_grammar.specs.Rows.{RowsFrom}
use Rattle.peg_packet.proofs.report.are_distinct.Given as goal

abbrev pub invariant-loop-left : goal.invariant-loop-left
invariant-loop-left l =
    RowsFrom l.bytes l.left l.at
    ×
    (are_distinct (keys_of_rows (rows_seen l.fn.rows))
    ≡ are_distinct (keys_of_rows (rows_at l.bytes l.left l.at)))

abbrev pub decreases-loop-left : goal.decreases-loop-left
decreases-loop-left l = l.left
