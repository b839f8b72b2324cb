use Rattle.peg_world.proofs.OfRun.{run_made}
use Rattle.peg_world.proofs.World.make.Goals as goal

pub invariant_of-result : goal.invariant_of-result
invariant_of-result c =
    run_made c.in_ok-make.field-0 c.args.config.now c.args.keys.now
    c.keeps_worlds_of_runs.ensures.begins c.listed.ensures.limits c.keys_are_in_range.ensures
    c.requires.distinct c.requires.few c.in_ok-make.ensures.world c.in_ok-make.ensures.sent
