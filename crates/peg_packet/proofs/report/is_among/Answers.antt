use Rattle.std.proofs.Common.{◌≡◌, ◌-◌, ap, sym, ◌∙◌, arith, refl}
use Rattle.peg_model.specs.Words.{is_in}
use Rattle.peg_model.specs.Packet.{keys_of_rows}
use Rattle.peg_model.specs.Reading.{rows_at}
use Rattle.std.specs.Str.{bytes_eq}
use Rattle.peg_grammar.proofs.RowsAt.{rows_first, rows_down, key_in, key_out}
use Rattle.peg_packet.proofs.report.is_among.Goals as goal

pub loop-left-init : goal.loop-left-init
loop-left-init c = (c.requires, refl)

pub row_key-requires : goal.row_key-requires
row_key-requires c =
    rows_first c.args.bytes.now c.loop-left.left (c.loop-left.left - 1) c.loop-left.at
    (omega arith)
    c.loop-left.invariant.0

pub returns-then-eq : goal.returns-then-eq
returns-then-eq c =
    sym (c.loop-left.invariant.1
    ∙ key_in c.args.key.now c.args.bytes.now c.loop-left.left (c.loop-left.left - 1) c.loop-left.at
    (omega arith)
    (ap (bytes_eq c.args.key.now) (sym c.row_key.ensures) ∙ sym c.eq.ensures ∙ c.if-eq.true))

pub past_row-at-requires : goal.past_row-at-requires
past_row-at-requires c =
    rows_first c.args.bytes.now c.loop-left.left (c.loop-left.left - 1) c.loop-left.at
    (omega arith)
    c.loop-left.invariant.0

pub overflow_sub-left : goal.overflow_sub-left
overflow_sub-left c = omega arith

pub loop-left-smaller : goal.loop-left-smaller
loop-left-smaller c = omega arith

pub loop-left-preserved : goal.loop-left-preserved
loop-left-preserved c = (
  rows_down c.args.bytes.now c.loop-left.left (c.loop-left.left - 1) c.loop-left.at
      c.past_row-at.result (omega arith) c.past_row-at.ensures c.loop-left.invariant.0,
  c.loop-left.invariant.1
      ∙ key_out c.args.key.now c.args.bytes.now c.loop-left.left (c.loop-left.left - 1)
      c.loop-left.at
      c.past_row-at.result (omega arith) c.past_row-at.ensures
      (ap (bytes_eq c.args.key.now) (sym c.row_key.ensures) ∙ sym c.eq.ensures ∙ c.if-eq.false),
)

pub returns : goal.returns
returns c =
    let none : c.loop-left.left ≡ 0 = omega arith in
    sym (c.loop-left.invariant.1
    ∙ ap (λ n. is_in c.args.key.now (keys_of_rows (rows_at c.args.bytes.now n c.loop-left.at)))
    none)
