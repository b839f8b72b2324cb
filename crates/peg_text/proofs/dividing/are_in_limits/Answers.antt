use Rattle.std.proofs.Common.{arith, subst}
use Rattle.std.specs.Prelude.{All, List}
use Rattle.std.proofs.lemmas.List.{take_all}
use Rattle.std.proofs.lemmas.List.Elements.{All-more}
use Rattle.peg_name.specs.Name.{Rack, InLimits}
use Rattle.peg_text.proofs.dividing.are_in_limits.Goals as goal

pub loop-config-preserved : goal.loop-config-preserved
loop-config-preserved c =
    All-more InLimits c.args.configs.now c.loop-config.config-index c.config-item.result
    c.loop-config-test.true c.loop-config.invariant
    (subst (λ (r : Rack). InLimits r) c.config-item.is c.clients.ensures.limits)

pub returns : goal.returns
returns c =
    subst (λ (racks : List Rack). All InLimits racks)
    (take_all c.loop-config.config-index c.args.configs.now (omega (arith, c.loop-config-test.false)))
    c.loop-config.invariant
