use Rattle.peg_world.proofs.World.keeps_laws.Goals as goal

pub returns-clause-rounds : goal.returns-clause-rounds
returns-clause-rounds c =
    λ run client seq last full.
    c.answers_full_rounds_at_places.ensures c.args.self.now.world.rack run.keys run.reached.placed
    client seq last run.reached.rising full
