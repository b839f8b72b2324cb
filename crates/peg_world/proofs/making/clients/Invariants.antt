use Rattle.std.proofs.Common.{◌≡◌, map}
use Rattle.peg_model.specs.Words.{below}
use Rattle.peg_model.specs.Client.{new_client}
use Rattle.peg_world.proofs.making.clients.Given as goal

abbrev pub invariant-loop-id : goal.invariant-loop-id
invariant-loop-id l =
    l.clients.items ≡ map (λ id. new_client l.config.format id 1) (below l.id)
