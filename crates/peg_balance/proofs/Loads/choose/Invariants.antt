use Rattle.std.proofs.Common.{◌≡◌, drop}
use Rattle.peg_meaning.specs.Balance.{chosen_over, chosen}
use Rattle.peg_balance.proofs.Loads.choose.Given as goal

abbrev pub invariant-loop-place : goal.invariant-loop-place
invariant-loop-place l =
    chosen_over l.self l.best (drop l.place l.allowed) ≡ chosen l.self l.allowed
