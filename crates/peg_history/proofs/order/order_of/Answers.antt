use Rattle.std.proofs.Common.{◌≡◌, ◌<◌, ◌≤◌, ◌∙◌, refl, sym, subst, arith, length}
use Rattle.std.proofs.lemmas.Option.{get_or_from_slice_get}
use Rattle.std.specs.Result.{IfOk}
use Rattle.std.specs.Str.{bytes_eq}
use Rattle.peg_history.specs.declared.KeyOrder.{KeyOrder}
use Rattle.peg_history.proofs.Orders.{IsGathered, none_gathered, gathered_more, gathered_all}
use Rattle.peg_history.proofs.Orders.{rest_more, yes, no}
use Rattle.peg_history.proofs.order.order_of.Goals as goal
use Rattle.peg_history.proofs.order.order_of.Goals.{then-eq+in_ok-keep, else-eq}

pub loop-place-init : goal.loop-place-init
loop-place-init c =
    subst (λ es. IsGathered c.args.key.now c.args.history.now.ops c.args.tags.now 0 es)
    (sym c.new-entries.ensures.items)
    (none_gathered c.args.key.now c.args.history.now.ops c.args.tags.now)

pub loop-place-preserved : goal.loop-place-preserved
loop-place-preserved c =
    let ops = c.args.history.now.ops in
    let place = c.loop-place.place in
    let op = c.op-op.result in
    let tag = c.index-tags-place.result in
    let in_ops : place < length ops = omega (arith, c.len-place-end.ensures.len, c.loop-place-test.true) in
    let in_tags : place < length c.args.tags.now = omega (arith, c.requires, in_ops) in
    let rest = rest_more ops c.args.tags.now place op tag in_ops in_tags
    (sym (get_or_from_slice_get ops place op op (sym c.op-op.ensures))) c.index-tags-place.is in
    let next : c.if-eq.entries.items ≡ _ → IsGathered c.args.key.now ops c.args.tags.now _ c.if-eq.entries.items =
    λ now. gathered_more c.args.key.now ops c.args.tags.now place op tag c.loop-place.entries.items c.if-eq.entries.items c.entry_if-entry.result
    rest c.entry_if-entry.ensures.range c.entry_if-entry.ensures.entry now c.loop-place.invariant in
    elim c.if-eq.branch [
      | then-eq+in_ok-keep w ↦ next (yes (bytes_eq op.key c.args.key.now) c.loop-place.entries.items c.if-eq.entries.items c.entry_if-entry.result (sym c.eq.ensures ∙ w.if-eq.true) (rw w.entries-is w.in_ok-keep.ensures))
      | else-eq w ↦ next (no (bytes_eq op.key c.args.key.now) c.loop-place.entries.items c.if-eq.entries.items c.entry_if-entry.result (sym c.eq.ensures ∙ w.if-eq.false) (rw w.entries-is refl))
    ]

pub returns : goal.returns
returns c =
    let ops = c.args.history.now.ops in
    let past : length ops ≤ c.loop-place.place =
    omega (arith, c.len-place-end.ensures.len, c.loop-place-test.false) in
    let order = gathered_all c.args.key.now ops c.args.tags.now c.loop-place.place c.loop-place.entries.items past c.loop-place.invariant in
    subst (λ ops. IfOk c.order_in.result (λ (o : KeyOrder). o ≡ record { key = c.args.key.now; ops = ops })) order c.order_in.ensures
