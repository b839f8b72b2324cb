use Rattle.std.proofs.Common.{ap, ◌∙◌, ◌++◌, ◌∷◌, []}
use Rattle.peg_model.specs.Switch.{Switch, new_switch}
use Rattle.peg_world.proofs.Made.{made_more}
use Rattle.peg_world.proofs.making.switches.Goals as goal

pub loop-id-preserved : goal.loop-id-preserved
loop-id-preserved c =
    c.in_ok-push.ensures.items
    ∙ ap (λ (s : Switch). c.loop-id.switches.items ++ s ∷ []) c.in_ok-make.ensures
    ∙ made_more (new_switch c.args.config.now c.args.keys.now) c.loop-id.switches.items
    c.loop-id.id c.loop-id.invariant
