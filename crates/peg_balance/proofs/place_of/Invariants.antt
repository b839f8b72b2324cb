use Rattle.std.proofs.Common.{◌≡◌, ◌+◌, drop}
use Rattle.peg_meaning.specs.Balance.{place_of}
use Rattle.peg_balance.proofs.place_of.Given as goal

abbrev pub invariant-loop-place : goal.invariant-loop-place
invariant-loop-place l =
    place_of l.server l.servers ≡ l.place + place_of l.server (drop l.place l.servers)
