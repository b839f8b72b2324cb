use Rattle.std.proofs.Common.{ℕ, List, ap, sym, ◌∙◌, subst, arith}
use Rattle.std.specs.List.{flat_map}
use Rattle.peg_model.specs.Packet.{Report, row_bytes}
use Rattle.peg_model.specs.Reading.{one_at, rows_at}
use Rattle.peg_grammar.specs.Rows.{RowsFrom}
use Rattle.peg_grammar.proofs.Parts.{report_says, report_whole}
use Rattle.peg_grammar.proofs.RowsAt.{rows_at-drop, length-rows_at, report_rows}
use Rattle.peg_packet.proofs.read.report.Goals as goal

pub returns-then-bytes-lt21 : goal.returns-then-bytes-lt21
returns-then-bytes-lt21 c =
    λ format begun ranges same. let says =
    report_says format _ _ _ c.args.bytes.now same in omega (arith, says.0)

pub returns-in_err-rows : goal.returns-in_err-rows
returns-in_err-rows c =
    rw c.from_residual.ensures
    (λ format begun ranges same.
    let P : List ℕ → Type 0 = λ b. RowsFrom b (one_at c.args.bytes.now 20) 0 in
    c.in_err-rows.ensures
    (subst P (sym c.tail-spelled.ensures)
    (report_rows format _ _ c.args.bytes.now ranges same)))

pub returns : goal.returns
returns c =
    λ format begun.
    let at_front =
    ap (λ b. rows_at b (one_at c.args.bytes.now 20) 0) c.tail-spelled.ensures ∙ rows_at-drop
    c.args.bytes.now 21 (one_at c.args.bytes.now 20) 0 in (
      λ i. Report (c.eight_at.ensures.number i) (c.eight_at-2.ensures.number i)
          ((c.in_ok-rows.ensures.0 ∙ at_front) i),
      report_whole format c.args.bytes.now
          (rows_at c.args.bytes.now (one_at c.args.bytes.now 20) 21) begun (omega arith)
          c.eight_at.ensures.split c.eight_at-2.ensures.split
          (sym (length-rows_at c.args.bytes.now (one_at c.args.bytes.now 20) 21))
          (sym c.tail-spelled.ensures ∙ c.in_ok-rows.ensures.1.spelled
          ∙ ap (flat_map row_bytes) at_front),
    )
