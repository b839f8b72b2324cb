use Rattle.peg_word_law.proofs.AuditReached.{audited_is_run}
use Rattle.peg_word_law.proofs.audits_a_run.Goals as goal

pub returns : goal.returns
returns c =
    audited_is_run
    (record {
      begins = c.reaches_ends_of_runs.ensures.begins;
      steps = c.reaches_ends_of_runs.ensures.steps;
      waits = c.reaches_ends_of_runs.ensures.waits;
      of_rack = c.reaches_ends_of_runs.ensures.of_rack;
      ends = c.reaches_ends_of_runs.ensures.ends;
    })
