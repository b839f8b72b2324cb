use Rattle.std.proofs.Common.{take}
use Rattle.std.specs.Prelude.{All}
use Rattle.peg_name.specs.Name.{InLimits}
use Rattle.peg_text.proofs.dividing.are_in_limits.Given as goal

abbrev pub invariant-loop-config : goal.invariant-loop-config
invariant-loop-config l = All InLimits (take l.config-index l.configs)
