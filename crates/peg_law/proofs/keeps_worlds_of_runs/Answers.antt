use Rattle.std.proofs.Common.{sym, subst}
use Rattle.peg_model.specs.Headline.{OrdersAreHistories}
use Rattle.peg_model.specs.Once.{ActsOnce}
use Rattle.peg_model.specs.World.{World}
use Rattle.peg_law.specs.Agreed.{OneState, OneVoice}
use Rattle.peg_law.specs.Below.{VersionsAreBelow}
use Rattle.peg_law.specs.Covered.{ReportsAreHeld, KeysAreCovered}
use Rattle.peg_law.specs.Fenced.{KeysAreFenced}
use Rattle.peg_law.specs.Given.{VersionsAreGiven}
use Rattle.peg_law.specs.Guarded.{KeysAreGuarded}
use Rattle.peg_law.specs.Reached.{ReachesWhatWasAnswered}
use Rattle.peg_law.specs.Settled.{CommandsSettle}
use Rattle.peg_law.proofs.OfRun.{of_run_start, of_run_step, holds_of, next_in_place}
use Rattle.peg_law.proofs.OfRun.{shown_histories}
use Rattle.peg_law.proofs.keeps_worlds_of_runs.Goals as goal

pub returns-clause-begins : goal.returns-clause-begins
returns-clause-begins c = of_run_start

pub returns-clause-steps : goal.returns-clause-steps
returns-clause-steps c = of_run_step

pub returns-clause-laws : goal.returns-clause-laws
returns-clause-laws c = λ w of.
    record {
      histories = holds_of OrdersAreHistories c.prints_register_histories.ensures w of;
      once = holds_of (λ (v : World). ActsOnce v.packets) c.acts_once.ensures w of;
      below = holds_of VersionsAreBelow c.keeps_versions_below_next.ensures w of;
      given = holds_of VersionsAreGiven c.gives_each_version_once.ensures w of;
      held = holds_of ReportsAreHeld c.holds_what_it_reports.ensures w of;
      covered = holds_of KeysAreCovered c.covers_each_key.ensures w of;
      fenced = holds_of KeysAreFenced c.fences_each_key.ensures w of;
      guarded = holds_of KeysAreGuarded c.keeps_the_last_fences.ensures w of;
      reads = holds_of ReachesWhatWasAnswered c.reaches_what_was_answered.ensures w of;
      one_state = holds_of OneState c.hands_over_one_state.ensures w of;
      one_voice = holds_of OneVoice c.gives_one_command.ensures w of;
      settled = holds_of CommandsSettle c.settles_each_command.ensures w of;
    }

pub returns-clause-in_place : goal.returns-clause-in_place
returns-clause-in_place c = next_in_place c.refuses_nothing_at_places.ensures

pub returns-clause-shown : goal.returns-clause-shown
returns-clause-shown c = λ w s. (
  shown_histories (holds_of OrdersAreHistories c.prints_register_histories.ensures) w s,
  subst ActsOnce (sym s.packets)
      (holds_of (λ (v : World). ActsOnce v.packets) c.acts_once.ensures s.shown s.of_run),
)
