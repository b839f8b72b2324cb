-- Worlds that a run at rising places comes to, and all that holds of them.
--     IsWorldOfRun w      events of the rack's lines led to this world from a rack line, at rising
--         places up to its own
--     KeepsLaws w      the laws that hold of a world at each moment of a run
--     ShowsRun w      its packets and its operations are those of such a world
use Rattle.std.specs.Prelude.{◌≡◌, ◌≤◌, ℕ, List}
use Rattle.peg_model.specs.Headline.{OrdersAreHistories}
use Rattle.peg_model.specs.Once.{ActsOnce}
use Rattle.peg_model.specs.Schedule.{IsStart}
use Rattle.peg_model.specs.World.{World}
use Rattle.peg_law.specs.Agreed.{OneState, OneVoice}
use Rattle.peg_law.specs.Below.{VersionsAreBelow}
use Rattle.peg_law.specs.Covered.{ReportsAreHeld, KeysAreCovered}
use Rattle.peg_law.specs.Fenced.{KeysAreFenced}
use Rattle.peg_law.specs.Given.{VersionsAreGiven}
use Rattle.peg_law.specs.Guarded.{KeysAreGuarded}
use Rattle.peg_law.specs.Places.{IsReached}
use Rattle.peg_law.specs.Reached.{ReachesWhatWasAnswered}
use Rattle.peg_law.specs.Settled.{CommandsSettle}

pub record IsWorldOfRun (w : World) : Type 0 where
  pub keys : List (List ℕ)
  pub is_start : IsStart w.rack keys
  pub from_first : 1 ≤ w.place
  pub reached : IsReached w.rack keys w.place w

pub record KeepsLaws (w : World) : Type 0 where
  pub histories : OrdersAreHistories w
  pub once : ActsOnce w.packets
  pub below : VersionsAreBelow w
  pub given : VersionsAreGiven w
  pub held : ReportsAreHeld w
  pub covered : KeysAreCovered w
  pub fenced : KeysAreFenced w
  pub guarded : KeysAreGuarded w
  pub reads : ReachesWhatWasAnswered w
  pub one_state : OneState w
  pub one_voice : OneVoice w
  pub settled : CommandsSettle w

-- whatever else became of it
pub record ShowsRun (w : World) : Type 0 where
  pub shown : World
  pub of_run : IsWorldOfRun shown
  pub packets : w.packets ≡ shown.packets
  pub operations : w.operations ≡ shown.operations
