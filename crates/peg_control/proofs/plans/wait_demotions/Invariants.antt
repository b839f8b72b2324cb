use Rattle.std.proofs.Common.{◌≡◌, ◌≤◌, length, take}
use Rattle.peg_model.specs.Controller.{demotions}
use Rattle.peg_control.proofs.plans.wait_demotions.Given as goal

abbrev pub invariant-loop-key : goal.invariant-loop-key
invariant-loop-key l = record {
  orders : l.orders
      ≡ record l.fn.orders {
        queue = demotions (take l.key-index l.known) l.report l.demote_below;
      };
  few : length l.orders.queue ≤ l.key-index;
}
