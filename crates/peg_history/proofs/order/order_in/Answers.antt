use Rattle.std.proofs.Common.{◌==◌, ◌∙◌, ap, map, List}
use Rattle.std.specs.List.{list_any}
use Rattle.peg_history.specs.declared.Entry.{Entry}
use Rattle.peg_history.specs.Entries.{has_read}
use Rattle.peg_history.proofs.EntryOrder.{printed_of}
use Rattle.peg_history.proofs.order.order_in.Goals as goal

pub returns : goal.returns
returns c =
    let ops = printed_of c.args.entries.items c.keep_seen.new.entries.items c.sort_unstable.new.self.items c.deref-2.result.now c.in_ok-ops.ops
    c.keep_seen.ensures
    (λ tag. ap (λ ts. list_any (λ t. t == tag) ts) c.deref-2.ensures.value ∙ c.in_ok-tags.ensures.tags tag ∙ ap (λ es. has_read es tag) c.deref.ensures.value)
    c.sort_unstable.ensures.permutation c.sort_unstable.ensures.sorted
    (c.in_ok-ops.ensures ∙ ap (λ (es : List Entry). map (λ e. e.place) es) c.deref-3.ensures.value) in
    λ i. record { key = c.args.key; ops = ops i }
