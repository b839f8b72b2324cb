use Rattle.std.proofs.Common.{◌≡◌, ◌==◌, ℕ, take}
use Rattle.std.specs.List.{list_any}
use Rattle.peg_history.specs.Entries.{has_read}
use Rattle.peg_history.proofs.order.read_tags.Given as goal

abbrev pub invariant-loop-entry : goal.invariant-loop-entry
invariant-loop-entry l = (tag : ℕ) → list_any (λ t. t == tag) l.tags.items ≡ has_read (take l.entry-index l.entries) tag
