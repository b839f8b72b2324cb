use Rattle.std.proofs.Common.{◌∙◌}
use Rattle.peg_text.proofs.RecordLines.{entry_complete, read_sound}
use Rattle.peg_text.proofs.recording.record_entry_of.Goals as goal

pub returns-clause-sound : goal.returns-clause-sound
returns-clause-sound c =
    read_sound c.args.config.now c.clients.ensures.limits c.args.line.now c.entry_of.result
    c.entry_of.ensures

pub returns-clause-complete : goal.returns-clause-complete
returns-clause-complete c =
    λ e is. c.entry_of.ensures ∙ entry_complete c.args.config.now c.clients.ensures.limits
    c.args.line.now e is
