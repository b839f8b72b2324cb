use Rattle.std.proofs.Common.{ap, ◌∙◌}
use Rattle.peg_control.specs.Orders.{with_next}
use Rattle.peg_control.specs.Plans.{commands_of}
use Rattle.peg_control.proofs.Kept.{planned_kept}
use Rattle.peg_control.proofs.Planning.{commands_fit, few_taken}
use Rattle.peg_control.proofs.Controller.plan.Goals as goal

pub invariant_of-self : goal.invariant_of-self
invariant_of-self c =
    let i = c.self.inside in
    planned_kept _ c.begin_next.new.self
    (commands_of i.known i.report c.args.promote_at c.args.demote_below) c.self.invariant
    (c.begin_next.ensures ∙ ap with_next c.wait_all-demotes.ensures.orders)
    (commands_fit i.config i.known i.report c.args.promote_at c.args.demote_below)
    (few_taken 64 _)
