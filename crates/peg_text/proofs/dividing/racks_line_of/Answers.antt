use Rattle.std.proofs.Common.{◌∙◌}
use Rattle.peg_text.proofs.DivideLines.{read_sound, line_complete}
use Rattle.peg_text.proofs.dividing.racks_line_of.Goals as goal

pub returns-clause-sound : goal.returns-clause-sound
returns-clause-sound c =
    λ d is. read_sound d c.args.configs.now is c.are_in_limits.ensures c.requires.few
    c.args.line.now c.line_in.result c.line_in.ensures

pub returns-clause-complete : goal.returns-clause-complete
returns-clause-complete c =
    λ d e is said. c.line_in.ensures
    ∙ line_complete d c.args.configs.now is c.are_in_limits.ensures c.requires.few
    c.args.line.now e said
