use Rattle.std.proofs.Common.{ap, sym, ◌∙◌, ◌≤◌, length, subst}
use Rattle.std.proofs.lemmas.List.{take_all}
use Rattle.peg_model.specs.Controller.{is_worth}
use Rattle.peg_control.specs.Orders.{Orders}
use Rattle.peg_control.proofs.Planning.{none_more, few_taken, promoted_more, promoted_same}
use Rattle.peg_control.proofs.Planning.{with_promotions}
use Rattle.peg_control.proofs.plans.wait_promotions.Goals.{then-is_worth, else-is_worth}
use Rattle.peg_control.proofs.plans.wait_promotions.Goals as goal

pub loop-row-init : goal.loop-row-init
loop-row-init c = none_more c.args.orders.now c.requires.few

pub wait_if_room-requires-clause-few : goal.wait_if_room-requires-clause-few
wait_if_room-requires-clause-few c =
    subst (λ (o : Orders). length o.queue ≤ 64) (sym c.loop-row.invariant) (few_taken 64 _)

pub loop-row-preserved : goal.loop-row-preserved
loop-row-preserved c =
    let first = c.args.orders.now in
    let test = is_worth c.args.promote_at c.args.known.now in
    let rows = c.hottest-row-items.result.now in
    let i = c.loop-row.row-index in
    let row = c.row-item.result in
    elim c.if-is_worth.branch [
      | then-is_worth w ↦ promoted_more first c.loop-row.orders c.if-is_worth.orders test rows i row
          c.loop-row-test.true c.row-item.is (sym c.is_worth.ensures ∙ w.if-is_worth.true)
          c.loop-row.invariant (w.orders-is ∙ w.wait_if_room.ensures)
      | else-is_worth w ↦ promoted_same first c.loop-row.orders c.if-is_worth.orders test rows i row
          c.loop-row-test.true c.row-item.is (sym c.is_worth.ensures ∙ w.if-is_worth.false)
          c.loop-row.invariant w.orders-is
    ]

pub returns : goal.returns
returns c =
    let test = is_worth c.args.promote_at c.args.known.now in
    let rows = c.hottest-row-items.result.now in
    record {
      orders = c.loop-row.invariant
          ∙ ap (with_promotions c.args.orders.now test)
          (take_all c.loop-row.row-index rows c.loop-row-test.false
          ∙ c.hottest-row-items.ensures);
    }
