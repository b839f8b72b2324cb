use Rattle.std.proofs.Common.{◌≡◌, suc, ◌-◌, refl, arith}
use Rattle.peg_grammar.proofs.RowsAt.{rows_down, rows_up, rows_first, rows_over, rows_all}
use Rattle.peg_packet.proofs.rows.Rows.read.Goals as goal

pub loop-left-init : goal.loop-left-init
loop-left-init c =
    (λ r. r, λ r. r)

pub loop-left-preserved : goal.loop-left-preserved
loop-left-preserved c =
    let more : c.loop-left.left ≡ suc (c.loop-left.left - 1) = omega arith in (
      λ r. rows_down c.args.bytes.now c.loop-left.left (c.loop-left.left - 1) c.loop-left.at
          c.in_ok-next.next more c.in_ok-next.ensures.next (c.loop-left.invariant.0 r),
      λ r. c.loop-left.invariant.1
          (rows_up c.args.bytes.now c.loop-left.left (c.loop-left.left - 1) c.loop-left.at
          c.in_ok-next.next (λ i. omega (arith, c.type_inv.bytes i)) more
          c.in_ok-next.ensures.next c.in_ok-next.ensures.row r),
    )

pub returns-in_err-next : goal.returns-in_err-next
returns-in_err-next c =
    rw c.from_residual.ensures
    (let more : c.loop-left.left ≡ suc (c.loop-left.left - 1) = omega arith in
    λ r. c.in_err-next.ensures.none
    (rows_first c.args.bytes.now c.loop-left.left (c.loop-left.left - 1) c.loop-left.at more
    (c.loop-left.invariant.0 r)))

pub overflow_sub-left : goal.overflow_sub-left
overflow_sub-left c =
    omega arith

pub loop-left-smaller : goal.loop-left-smaller
loop-left-smaller c =
    omega arith

pub returns-then-at-bytes : goal.returns-then-at-bytes
returns-then-at-bytes c =
    λ r. omega (
      arith,
      rows_over c.args.bytes.now c.loop-left.left c.loop-left.at (omega arith)
          (c.loop-left.invariant.0 r),
    )

pub returns : goal.returns
returns c = (
  refl,
  c.loop-left.invariant.1
      (rows_all c.args.bytes.now c.loop-left.left c.loop-left.at (omega arith) (omega arith)),
)

pub invariant_of-result : goal.invariant_of-result
invariant_of-result c =
    let rows =
    c.loop-left.invariant.1
    (rows_all c.args.bytes.now c.loop-left.left c.loop-left.at (omega arith) (omega arith))
    in
    record { keyed = rows.keyed; spelled = rows.spelled }
