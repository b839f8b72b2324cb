use Rattle.peg_word_law.proofs.RacksReached.{divided_are_runs}
use Rattle.peg_word_law.proofs.plays_runs.Goals as goal

pub returns : goal.returns
returns c =
    divided_are_runs
    (record {
      begins = c.reaches_ends_of_runs.ensures.begins;
      steps = c.reaches_ends_of_runs.ensures.steps;
      waits = c.reaches_ends_of_runs.ensures.waits;
      of_rack = c.reaches_ends_of_runs.ensures.of_rack;
      ends = c.reaches_ends_of_runs.ensures.ends;
    })
