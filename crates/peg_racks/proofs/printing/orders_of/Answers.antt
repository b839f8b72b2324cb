use Rattle.std.proofs.Common.{Vec, Global}
use Rattle.peg_history.specs.declared.KeyOrder.{KeyOrder}
use Rattle.peg_racks.proofs.TailLines.{orders_pushed}
use Rattle.peg_racks.proofs.printing.orders_of.Goals as goal

pub loop-rack-preserved : goal.loop-rack-preserved
loop-rack-preserved c =
    orders_pushed (λ (v : Vec KeyOrder Global). v.items) c.args.racks.now c.loop-rack.rack
    c.loop-rack.all.items c.push.new.self.items c.in_ok-orders.field-0 c.in_ok-push.ensures.items
    c.loop-rack.invariant c.in_ok-orders.ensures
