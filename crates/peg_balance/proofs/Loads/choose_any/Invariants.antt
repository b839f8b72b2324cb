use Rattle.std.proofs.Common.{◌≡◌}
use Rattle.peg_model.specs.Words.{below}
use Rattle.peg_meaning.specs.Balance.{chosen}
use Rattle.peg_balance.proofs.Loads.choose_any.Given as goal

abbrev pub invariant-loop-server : goal.invariant-loop-server
invariant-loop-server l = l.best ≡ chosen l.self (below l.server)
