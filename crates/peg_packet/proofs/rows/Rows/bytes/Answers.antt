use Rattle.std.proofs.Common.{ℕ, refl, ap, sym, subst}
use Rattle.peg_model.specs.Reading.{rows_at}
use Rattle.peg_grammar.specs.Rows.{RowsFrom}
use Rattle.peg_grammar.proofs.RowsAt.{length-rows_at}
use Rattle.peg_packet.proofs.rows.Rows.bytes.Goals as goal

pub returns-clause-bytes : goal.returns-clause-bytes
returns-clause-bytes c =
    refl

pub returns-clause-spelled : goal.returns-clause-spelled
returns-clause-spelled c =
    c.args.self.now.spelled

pub returns-clause-same : goal.returns-clause-same
returns-clause-same c =
    ap (λ n. rows_at c.args.self.now.bytes.now n 0)
    (length-rows_at c.args.self.now.bytes.now c.args.self.now.count 0)

pub returns-clause-rows : goal.returns-clause-rows
returns-clause-rows c =
    let P : ℕ → Type 0 = λ n. RowsFrom c.args.self.now.bytes.now n 0 in
    subst P (sym (length-rows_at c.args.self.now.bytes.now c.args.self.now.count 0))
    (record { keyed = c.args.self.now.keyed; spelled = c.args.self.now.spelled })
