use Rattle.peg_name.proofs.Servers.{Walks}
use Rattle.peg_name.proofs.holders.Holders.nth.Given as goal

abbrev pub invariant-loop-server : goal.invariant-loop-server
invariant-loop-server l = Walks l.self l.fn.place l.server l.bits l.before
