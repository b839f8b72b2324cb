use Rattle.std.proofs.Common.{ap, ◌∙◌, ◌-◌, length, arith}
use Rattle.peg_model.specs.Controller.{is_demotion, demotions}
use Rattle.peg_control.specs.Orders.{Orders}
use Rattle.peg_control.specs.Plans.{commands_of}
use Rattle.peg_control.proofs.Kept.{length_filter_le}
use Rattle.peg_control.proofs.Planning.{demotions_counted, commands_counted}
use Rattle.peg_control.proofs.plans.wait_all.Goals as goal

pub returns-clause-demotes : goal.returns-clause-demotes
returns-clause-demotes c =
    let known = c.args.known.now in
    let report = c.args.report.now in
    c.waiting-demotes.ensures
    ∙ ap (λ (o : Orders). length o.queue) c.wait_demotions.ensures.orders
    ∙ ap (λ keys. length (demotions keys report c.args.demote_below)) c.keys.ensures
    ∙ demotions_counted known report c.args.promote_at c.args.demote_below c.requires.few

pub overflow_sub-result : goal.overflow_sub-result
overflow_sub-result c =
    let commands = commands_of c.args.known.now c.args.report.now c.args.promote_at
    c.args.demote_below in
    let all = commands_counted c.args.known.now _ c.args.report.now c.args.promote_at
    c.args.demote_below _ c.args.orders.now c.wait_demotions.new.orders c.wait_promotions.new.orders
    c.keys.ensures c.wait_demotions.ensures.orders
    c.wait_promotions.ensures.orders c.waiting.ensures in
    let some = returns-clause-demotes c in
    let le = length_filter_le is_demotion commands in
    omega (arith, all, some, le)

pub returns-clause-promotes : goal.returns-clause-promotes
returns-clause-promotes c =
    let commands = commands_of c.args.known.now c.args.report.now c.args.promote_at
    c.args.demote_below in
    let all = commands_counted c.args.known.now _ c.args.report.now c.args.promote_at
    c.args.demote_below _ c.args.orders.now c.wait_demotions.new.orders c.wait_promotions.new.orders
    c.keys.ensures c.wait_demotions.ensures.orders
    c.wait_promotions.ensures.orders c.waiting.ensures in
    ap (λ n. n - c.waiting-demotes.result) all
    ∙ ap (λ n. length commands - n) (returns-clause-demotes c)
