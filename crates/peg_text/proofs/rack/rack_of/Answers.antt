use Rattle.std.proofs.Common.{◌∙◌}
use Rattle.peg_text.proofs.RackLines.{rack_complete, rack_only}
use Rattle.peg_text.proofs.rack.rack_of.Goals as goal

pub returns-clause-sound : goal.returns-clause-sound
returns-clause-sound c = rack_only c.args.line.now c.rack_in.result c.rack_in.ensures

pub returns-clause-complete : goal.returns-clause-complete
returns-clause-complete c =
    λ rack keys is. c.rack_in.ensures ∙ rack_complete c.args.line.now rack keys is
