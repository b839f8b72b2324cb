use Rattle.std.proofs.Common.{◌<◌, ◌≤◌, ap, sym, arith, map, length}
use Rattle.std.proofs.lemmas.Option.{get_or_from_slice_get}
use Rattle.peg_history.specs.Groups.{group_of}
use Rattle.peg_history.proofs.Orders.{rest_more}
use Rattle.peg_history.proofs.Passes.{none_passed, more_passed, all_groups, all_range}
use Rattle.peg_history.proofs.group.groups_of.Goals as goal

pub loop-place-init : goal.loop-place-init
loop-place-init c =
    none_passed c.args.history.now.ops c.args.tags.now c.new-known.result.keys (map group_of c.new-groups.result.items) (ap (map group_of) c.new-groups.ensures.items) c.new-known.ensures.empty

pub loop-place-preserved : goal.loop-place-preserved
loop-place-preserved c =
    let ops = c.args.history.now.ops in
    let place = c.loop-place.place in
    let op = c.op-op.result in
    let tag = c.index-tags-place.result in
    let in_ops : place < length ops = omega (arith, c.len-place-end.ensures.len, c.loop-place-test.true) in
    let in_tags : place < length c.args.tags.now = omega (arith, c.requires, in_ops) in
    let rest = rest_more ops c.args.tags.now place op tag in_ops in_tags
    (sym (get_or_from_slice_get ops place op op (sym c.op-op.ensures))) c.index-tags-place.is in
    more_passed ops c.args.tags.now place op tag c.entry_if-entry.result c.loop-place.known.keys c.add.new.known.keys
    (map group_of c.loop-place.groups.items) (map group_of c.add.new.groups.items) rest c.entry_if-entry.ensures.range c.entry_if-entry.ensures.entry
    c.in_ok-add.ensures.groups c.in_ok-add.ensures.index c.loop-place.invariant

pub returns : goal.returns
returns c =
    let ops = c.args.history.now.ops in
    let past : length ops ≤ c.loop-place.place =
    omega (arith, c.len-place-end.ensures.len, c.loop-place-test.false) in
    record {
      groups =
          all_groups ops c.args.tags.now c.loop-place.place c.loop-place.known.keys (map group_of c.loop-place.groups.items) past c.loop-place.invariant;
      range =
          all_range ops c.args.tags.now c.loop-place.place c.loop-place.known.keys (map group_of c.loop-place.groups.items) past c.loop-place.invariant;
    }
