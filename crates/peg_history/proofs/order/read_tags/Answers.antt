use Rattle.std.proofs.Common.{◌==◌, ◌∙◌, ap}
use Rattle.std.proofs.lemmas.List.{take_all}
use Rattle.std.proofs.lemmas.List.Sorted.{IsNonDecreasingBy-from_sort, list_any-IsPermutation}
use Rattle.std.proofs.lemmas.List.Sorted.{IsPermutation-sym}
use Rattle.peg_history.specs.Entries.{has_read}
use Rattle.peg_history.proofs.order.read_tags.Goals as goal

pub returns-clause-rising : goal.returns-clause-rising
returns-clause-rising c = IsNonDecreasingBy-from_sort (λ x. x) c.sort_unstable.new.self.items c.sort_unstable.ensures.sorted

pub returns-clause-tags : goal.returns-clause-tags
returns-clause-tags c = λ tag.
    list_any-IsPermutation (λ t. t == tag) c.sort_unstable.new.self.items c.loop-entry.tags.items (IsPermutation-sym c.loop-entry.tags.items c.sort_unstable.new.self.items c.sort_unstable.ensures.permutation)
    ∙ c.loop-entry.invariant tag
    ∙ ap (λ es. has_read es tag) (take_all c.loop-entry.entry-index c.args.entries.now c.loop-entry-test.false)
