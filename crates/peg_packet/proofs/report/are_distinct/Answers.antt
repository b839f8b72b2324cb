use Rattle.std.proofs.Common.{◌≡◌, ℕ, ◌-◌, ap, sym, ◌∙◌, subst, arith}
use Rattle.peg_model.specs.Words.{is_in}
use Rattle.peg_model.specs.Packet.{are_distinct, keys_of_rows}
use Rattle.peg_model.specs.Reading.{rows_at}
use Rattle.peg_grammar.specs.Rows.{RowsFrom}
use Rattle.peg_grammar.proofs.RowsAt.{rows_first, rows_down, twice, once}
use Rattle.peg_packet.proofs.report.are_distinct.Goals as goal

pub loop-left-init : goal.loop-left-init
loop-left-init c =
    let P : ℕ → Type 0 = λ n. RowsFrom c.bytes-bytes.result.now n 0 in (
      subst P (sym c.len-left.ensures) c.bytes-bytes.ensures.rows,
      ap (λ rows. are_distinct (keys_of_rows rows))
          (sym c.bytes-bytes.ensures.same ∙ ap (λ n. rows_at c.bytes-bytes.result.now n 0)
          (sym c.len-left.ensures)),
    )

pub past_row-next-requires : goal.past_row-next-requires
past_row-next-requires c =
    rows_first c.bytes-bytes.result.now c.loop-left.left (c.loop-left.left - 1) c.loop-left.at
    (omega arith) c.loop-left.invariant.0

pub row_key-requires : goal.row_key-requires
row_key-requires c =
    rows_first c.bytes-bytes.result.now c.loop-left.left (c.loop-left.left - 1) c.loop-left.at
    (omega arith) c.loop-left.invariant.0

pub overflow_sub-left : goal.overflow_sub-left
overflow_sub-left c =
    omega arith

pub loop-left-smaller : goal.loop-left-smaller
loop-left-smaller c =
    omega arith

pub is_among-requires : goal.is_among-requires
is_among-requires c =
    rows_down c.bytes-bytes.result.now c.loop-left.left (c.loop-left.left - 1) c.loop-left.at
    c.past_row-next.result (omega arith) c.past_row-next.ensures c.loop-left.invariant.0

pub returns-then-is_among : goal.returns-then-is_among
returns-then-is_among c =
    sym
    (c.loop-left.invariant.1 ∙ twice c.bytes-bytes.result.now c.loop-left.left
    (c.loop-left.left - 1) c.loop-left.at c.past_row-next.result (omega arith)
    c.past_row-next.ensures (ap (λ k. is_in k
    (keys_of_rows (rows_at c.bytes-bytes.result.now (c.loop-left.left - 1)
    c.past_row-next.result))) (sym c.row_key.ensures) ∙ sym c.is_among.ensures
    ∙ c.if-is_among.true))

pub loop-left-preserved : goal.loop-left-preserved
loop-left-preserved c = (
  rows_down c.bytes-bytes.result.now c.loop-left.left (c.loop-left.left - 1) c.loop-left.at
      c.past_row-next.result (omega arith) c.past_row-next.ensures c.loop-left.invariant.0,
  c.loop-left.invariant.1 ∙ once c.bytes-bytes.result.now c.loop-left.left
      (c.loop-left.left - 1) c.loop-left.at c.past_row-next.result (omega arith)
      c.past_row-next.ensures
      (ap (λ k. is_in k (keys_of_rows (rows_at c.bytes-bytes.result.now (c.loop-left.left - 1)
      c.past_row-next.result))) (sym c.row_key.ensures) ∙ sym c.is_among.ensures
      ∙ c.if-is_among.false),
)

pub returns : goal.returns
returns c =
    let none : c.loop-left.left ≡ 0 = omega arith in
    sym
    (c.loop-left.invariant.1 ∙ ap (λ n. are_distinct
    (keys_of_rows (rows_at c.bytes-bytes.result.now n c.loop-left.at))) none)
