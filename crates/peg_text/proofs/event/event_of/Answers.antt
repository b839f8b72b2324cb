use Rattle.std.proofs.Common.{◌∙◌}
use Rattle.peg_text.proofs.EntryLines.{reads_event, reads_end, reads_only}
use Rattle.peg_text.proofs.event.event_of.Goals as goal

pub returns-clause-event : goal.returns-clause-event
returns-clause-event c =
    λ e is. c.entry_of.ensures ∙ reads_event c.args.config.now c.clients.ensures.limits
    c.args.line.now e is

pub returns-clause-end : goal.returns-clause-end
returns-clause-end c =
    λ e. c.entry_of.ensures ∙ reads_end c.args.config.now c.clients.ensures.limits c.args.line.now
    e

pub returns-clause-sound : goal.returns-clause-sound
returns-clause-sound c =
    reads_only c.args.config.now c.clients.ensures.limits c.args.line.now c.entry_of.result
    c.entry_of.ensures
