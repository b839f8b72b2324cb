use Rattle.std.proofs.Common.{◌≡◌, map}
use Rattle.peg_model.specs.Words.{below}
use Rattle.peg_model.specs.Server.{new_server}
use Rattle.peg_world.proofs.making.servers.Given as goal

abbrev pub invariant-loop-id : goal.invariant-loop-id
invariant-loop-id l = l.servers.items ≡ map (new_server l.config) (below l.id)
