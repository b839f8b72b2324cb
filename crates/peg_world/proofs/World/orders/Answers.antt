use Rattle.std.proofs.Common.{subst}
use Rattle.std.specs.Prelude.{IfOk}
use Rattle.peg_model.specs.World.{history}
use Rattle.peg_world.specs.Running.{Running, AreHistories}
use Rattle.peg_world.proofs.Orders.{orders_if}
use Rattle.peg_world.proofs.World.orders.Goals as goal

pub returns-clause-histories : goal.returns-clause-histories
returns-clause-histories c =
    subst (λ (r : Running). IfOk c.orders.result (λ o. AreHistories (history r.world) o.items))
    c.self.view_is
    (orders_if c.self.inside.machine.world (λ o. o.items) c.orders.result c.orders.ensures
    (c.keeps_worlds_of_runs.ensures.shown c.self.inside.machine.world c.self.invariant.shows).0)
