use Rattle.peg_law.proofs.Places.{reached_start, reached_step, reached_later, reached_rack}
use Rattle.peg_law.proofs.Places.{reached_is_end}
use Rattle.peg_law.proofs.reaches_ends_of_runs.Goals as goal

pub returns-clause-begins : goal.returns-clause-begins
returns-clause-begins c = reached_start

pub returns-clause-steps : goal.returns-clause-steps
returns-clause-steps c = reached_step

pub returns-clause-waits : goal.returns-clause-waits
returns-clause-waits c = reached_later

pub returns-clause-of_rack : goal.returns-clause-of_rack
returns-clause-of_rack c = reached_rack

pub returns-clause-ends : goal.returns-clause-ends
returns-clause-ends c = reached_is_end
