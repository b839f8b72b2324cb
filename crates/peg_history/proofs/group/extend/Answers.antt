use Rattle.peg_history.proofs.Indexed.{map-extended}
use Rattle.peg_history.proofs.group.extend.Goals as goal

pub returns : goal.returns
returns c =
    let old = c.index_mut-group.result.now in
    map-extended c.args.groups.now.items c.args.index (record { key = old.key; entries = c.keep.new.entries }) old c.args.entry c.requires c.index_mut-group.ensures.value
    (λ i. (old.key, c.in_ok-keep.ensures i))
