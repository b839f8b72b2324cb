use Rattle.std.proofs.Common.{◌≡◌}
use Rattle.peg_model.specs.Words.{is_in}
use Rattle.peg_model.specs.Packet.{keys_of_rows}
use Rattle.peg_model.specs.Reading.{rows_at}
use Rattle.peg_grammar.specs.Rows.{RowsFrom}
use Rattle.peg_packet.proofs.report.is_among.Given as goal

abbrev pub invariant-loop-left : goal.invariant-loop-left
invariant-loop-left l =
    RowsFrom l.bytes l.left l.at
    ×
    (is_in l.key (keys_of_rows (rows_at l.bytes l.count l.fn.at))
    ≡ is_in l.key (keys_of_rows (rows_at l.bytes l.left l.at)))

abbrev pub decreases-loop-left : goal.decreases-loop-left
decreases-loop-left l = l.left
