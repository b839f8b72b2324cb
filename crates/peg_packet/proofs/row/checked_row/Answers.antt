use Rattle.std.proofs.Common.{drop}
use Rattle.peg_model.specs.Reading.{past_key}
use Rattle.peg_grammar.proofs.RowsAt.{key_there}
use Rattle.peg_packet.proofs.row.checked_row.Goals as goal

pub returns-in_err-key-clause-none : goal.returns-in_err-key-clause-none
returns-in_err-key-clause-none c =
    rw c.from_residual.ensures
    (λ row. c.in_err-key.ensures (drop (past_key c.args.bytes.now c.args.at) c.args.bytes.now)
    (key_there c.args.bytes.now c.args.at row))
