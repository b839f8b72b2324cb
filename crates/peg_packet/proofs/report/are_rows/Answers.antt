use Rattle.std.proofs.Common.{◌≡◌, ℕ, ◌-◌, ap, sym, ◌∙◌, subst, arith}
use Rattle.std.specs.List.{list_all}
use Rattle.peg_model.specs.Packet.{row_in_range}
use Rattle.peg_model.specs.Reading.{rows_at}
use Rattle.peg_grammar.specs.Rows.{RowsFrom}
use Rattle.peg_grammar.proofs.RowsAt.{rows_first, rows_down, row_out, row_in}
use Rattle.peg_packet.proofs.report.are_rows.Goals as goal

pub loop-left-init : goal.loop-left-init
loop-left-init c =
    let P : ℕ → Type 0 = λ n. RowsFrom c.bytes-bytes.result.now n 0 in (
      subst P (sym c.len-left.ensures) c.bytes-bytes.ensures.rows,
      ap (list_all row_in_range)
          (sym c.bytes-bytes.ensures.same ∙ ap (λ n. rows_at c.bytes-bytes.result.now n 0)
          (sym c.len-left.ensures)),
    )

pub row_at-requires : goal.row_at-requires
row_at-requires c =
    rows_first c.bytes-bytes.result.now c.loop-left.left (c.loop-left.left - 1) c.loop-left.at
    (omega arith) c.loop-left.invariant.0

pub past_row-at-requires : goal.past_row-at-requires
past_row-at-requires c =
    rows_first c.bytes-bytes.result.now c.loop-left.left (c.loop-left.left - 1) c.loop-left.at
    (omega arith) c.loop-left.invariant.0

pub overflow_sub-left : goal.overflow_sub-left
overflow_sub-left c =
    omega arith

pub loop-left-smaller : goal.loop-left-smaller
loop-left-smaller c =
    omega arith

pub returns-then-not-is_row : goal.returns-then-not-is_row
returns-then-not-is_row c =
    sym
    (c.loop-left.invariant.1 ∙ row_out c.bytes-bytes.result.now c.loop-left.left
    (c.loop-left.left - 1) c.loop-left.at (omega arith)
    (sym (c.is_row.ensures ∙ (λ i. row_in_range
    (record {
      key = c.row_at.ensures.key i;
      count = c.row_at.ensures.count i;
      error = c.row_at.ensures.error i;
    }))) ∙ c.if-not-is_row.true))

pub loop-left-preserved : goal.loop-left-preserved
loop-left-preserved c = (
  rows_down c.bytes-bytes.result.now c.loop-left.left (c.loop-left.left - 1) c.loop-left.at
      c.past_row-at.result (omega arith) c.past_row-at.ensures c.loop-left.invariant.0,
  c.loop-left.invariant.1 ∙ row_in c.bytes-bytes.result.now c.loop-left.left
      (c.loop-left.left - 1) c.loop-left.at c.past_row-at.result (omega arith)
      c.past_row-at.ensures
      (sym
      (c.is_row.ensures ∙ (λ i. row_in_range
      (record {
        key = c.row_at.ensures.key i;
        count = c.row_at.ensures.count i;
        error = c.row_at.ensures.error i;
      })))
      ∙ c.if-not-is_row.false),
)

pub returns : goal.returns
returns c =
    let none : c.loop-left.left ≡ 0 = omega arith in
    sym
    (c.loop-left.invariant.1 ∙ ap (λ n. list_all row_in_range
    (rows_at c.bytes-bytes.result.now n c.loop-left.at)) none)
