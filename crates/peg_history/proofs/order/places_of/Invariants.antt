use Rattle.std.proofs.Common.{◌≡◌, map, take}
use Rattle.peg_history.proofs.order.places_of.Given as goal

abbrev pub invariant-loop-entry : goal.invariant-loop-entry
invariant-loop-entry l = l.ops ≡ map (λ e. e.place) (take l.entry-index l.entries)
