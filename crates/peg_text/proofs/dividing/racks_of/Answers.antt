use Rattle.std.proofs.Common.{◌∙◌}
use Rattle.peg_text.proofs.DivideLines.{counted_sound, count_complete}
use Rattle.peg_text.proofs.dividing.racks_of.Goals as goal

pub returns-clause-sound : goal.returns-clause-sound
returns-clause-sound c = counted_sound c.args.line.now c.count_in.result c.count_in.ensures

pub returns-clause-complete : goal.returns-clause-complete
returns-clause-complete c =
    λ racks is. c.count_in.ensures ∙ count_complete c.args.line.now racks is
