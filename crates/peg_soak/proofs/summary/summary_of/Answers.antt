use Rattle.std.proofs.Common.{◌∙◌, arith}
use Rattle.std.proofs.lemmas.Result.{IfOk-from_err}
use Rattle.peg_soak.proofs.SixLines.{yes_by, says_yes, summary_is}
use Rattle.peg_soak.proofs.summary.summary_of.Goals as goal

pub returns-in_err-orders-clause-text : goal.returns-in_err-orders-clause-text
returns-in_err-orders-clause-text c = IfOk-from_err _ _ c.from_residual.ensures.0

pub returns-in_err-orders-clause-yes : goal.returns-in_err-orders-clause-yes
returns-in_err-orders-clause-yes c = IfOk-from_err _ _ c.from_residual.ensures.0

pub returns-in_err-check-clause-text : goal.returns-in_err-check-clause-text
returns-in_err-check-clause-text c = IfOk-from_err _ _ c.from_residual-in_err-check.ensures.0

pub returns-in_err-check-clause-yes : goal.returns-in_err-check-clause-yes
returns-in_err-check-clause-yes c = IfOk-from_err _ _ c.from_residual-in_err-check.ensures.0

pub unreachable-requires : goal.unreachable-requires
unreachable-requires c =
    c.in_default.not-Yes
    (yes_by c.args.world.now.world c.history-history.result.now.ops c.in_ok-orders.orders.items
    c.deref.result.now c.in_ok-check.field-0 c.history-history.ensures c.deref.ensures.value
    c.in_ok-orders.ensures.histories c.in_ok-check.ensures.yes)

pub unreachable-unreachable : goal.unreachable-unreachable
unreachable-unreachable c =
    c.in_default.not-Yes
    (yes_by c.args.world.now.world c.history-history.result.now.ops c.in_ok-orders.orders.items
    c.deref.result.now c.in_ok-check.field-0 c.history-history.ensures c.deref.ensures.value
    c.in_ok-orders.ensures.histories c.in_ok-check.ensures.yes)

pub returns-in_err-lines_of-clause-text : goal.returns-in_err-lines_of-clause-text
returns-in_err-lines_of-clause-text c =
    IfOk-from_err _ _ c.from_residual-in_err-lines_of.ensures.0

pub returns-in_err-lines_of-clause-yes : goal.returns-in_err-lines_of-clause-yes
returns-in_err-lines_of-clause-yes c =
    IfOk-from_err _ _ c.from_residual-in_err-lines_of.ensures.0

pub returns-clause-text : goal.returns-clause-text
returns-clause-text c =
    c.in_ok-lines_of.ensures
    ∙ summary_is c.args.world.now.world c.history-history.result.now.ops
    c.in_ok-orders.orders.items c.deref.result.now c.in_ok-check.field-0 c.history-history.ensures
    c.deref.ensures.value c.args.events c.in_ok-orders.ensures.orders c.in_ok-check.ensures.verdict
    c.in-Yes.is c.packets.result c.len.result c.answered_in-answered.result c.len-2.result
    c.packets.ensures c.len.ensures.len c.answered_in-answered.ensures
    (omega (arith, c.len-2.ensures, c.in_ok-orders.orders.ok.0))

pub returns-clause-yes : goal.returns-clause-yes
returns-clause-yes c =
    says_yes c.args.world.now.world c.history-history.result.now.ops
    c.in_ok-orders.orders.items c.deref.result.now c.in_ok-check.field-0 c.history-history.ensures
    c.deref.ensures.value c.args.events c.in_ok-orders.ensures.orders c.in_ok-check.ensures.verdict
    c.in-Yes.is
