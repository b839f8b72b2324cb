use Rattle.peg_law.proofs.Refusals.{controller_fine, order_fine, plan_fine}
use Rattle.peg_law.proofs.refuses_at_the_controller.Goals as goal

pub returns-clause-takes : goal.returns-clause-takes
returns-clause-takes c = controller_fine

pub returns-clause-orders : goal.returns-clause-orders
returns-clause-orders c = order_fine

pub returns-clause-plans : goal.returns-clause-plans
returns-clause-plans c = plan_fine
