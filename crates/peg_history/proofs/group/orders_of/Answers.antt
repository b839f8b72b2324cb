use Rattle.std.proofs.Common.{◌≡◌, ◌∙◌, arith, length, map}
use Rattle.std.specs.Vec.Iter.{into_iter_items}
use Rattle.peg_history.proofs.Passes.{order_of_group, one_more, no_more, key_orders_are}
use Rattle.peg_history.proofs.group.orders_of.Goals as goal

pub loop-group-preserved : goal.loop-group-preserved
loop-group-preserved c =
    one_more c.loop-group.orders.items c.push.new.self.items c.in_ok-order_in.field-0 c.in-Some.group (into_iter_items c.next.new.self)
    (into_iter_items c.loop-group.group-iterator) (map order_of_group (into_iter_items c.into_iter-group-iterator.result))
    c.in_ok-push.ensures.items c.in_ok-order_in.ensures c.in-Some.ensures.steps.0 c.loop-group.invariant

pub returns : goal.returns
returns c =
    let none : length (into_iter_items c.loop-group.group-iterator) ≡ 0 = omega (arith, c.in-None.ensures.steps.0, c.loop-group.group-iterator.rest.ok) in
    let orders = no_more c.loop-group.orders.items (into_iter_items c.loop-group.group-iterator) (map order_of_group (into_iter_items c.into_iter-group-iterator.result)) none c.loop-group.invariant in
    let given = c.into_iter-group-iterator.ensures.into_iter_gives.0 in
    orders ∙ (rw given (key_orders_are c.args.history.now.ops c.args.tags.now c.in_ok-groups.groups.items c.requires c.in_ok-groups.ensures.groups c.in_ok-groups.ensures.range))
