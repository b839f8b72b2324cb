use Rattle.peg_text.proofs.AuditLines.{read_sound, read_complete}
use Rattle.peg_text.proofs.auditing.audit_entry_of.Goals as goal

pub returns-clause-sound : goal.returns-clause-sound
returns-clause-sound c =
    λ a stage. read_sound c.args.config.now c.clients.ensures.limits c.args.has_begun
    c.args.line.now c.entry_of.result c.entry_of.ensures a stage

pub returns-clause-complete : goal.returns-clause-complete
returns-clause-complete c =
    λ a stage. read_complete c.args.config.now c.clients.ensures.limits c.args.has_begun
    c.args.line.now c.entry_of.result c.entry_of.ensures a stage
