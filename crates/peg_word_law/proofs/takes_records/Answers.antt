use Rattle.peg_word_law.proofs.AuditRead.{takes_records}
use Rattle.peg_word_law.proofs.takes_records.Goals as goal

pub returns : goal.returns
returns c = takes_records
