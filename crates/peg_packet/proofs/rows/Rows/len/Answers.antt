use Rattle.std.proofs.Common.{sym}
use Rattle.peg_grammar.proofs.RowsAt.{length-rows_at}
use Rattle.peg_packet.proofs.rows.Rows.len.Goals as goal

pub returns : goal.returns
returns c =
    sym (length-rows_at c.args.self.now.bytes.now c.args.self.now.count 0)
