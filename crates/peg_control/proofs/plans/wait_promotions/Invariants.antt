use Rattle.std.proofs.Common.{◌≡◌, ◌++◌, map, filter, take}
use Rattle.peg_name.specs.declared.Row.{Row}
use Rattle.peg_event.specs.declared.Command.TheVariants.{Promote}
use Rattle.peg_model.specs.Controller.{is_worth}
use Rattle.peg_control.proofs.plans.wait_promotions.Given as goal

abbrev pub invariant-loop-row : goal.invariant-loop-row
invariant-loop-row l =
    l.orders
    ≡ record l.fn.orders {
      queue = take 64
          (l.fn.orders.queue
          ++ map (λ (row : Row). Promote row.key)
          (filter (is_worth l.promote_at l.known) (take l.row-index l.row-items)));
    }
