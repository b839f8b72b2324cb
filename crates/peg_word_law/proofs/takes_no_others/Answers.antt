use Rattle.peg_word_law.proofs.AuditRead.{takes_no_others}
use Rattle.peg_word_law.proofs.takes_no_others.Goals as goal

pub returns : goal.returns
returns c = takes_no_others
