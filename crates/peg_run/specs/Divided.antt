-- What `racks` has written, where it is done.
--     DividesKeys text      the text of a run of all racks that its lines name, of which each stands
--         alone: its operations are those of its own keys, its orders are register histories, and
--         what it wrote and holds is that of its own run
--     ShowsRacks      so does what was appended
use Rattle.std.specs.Prelude.{◌≡◌, ℕ, Some, List, ◌++◌, length, codes, slice_get}
use Rattle.std.specs.List.{AllByRecursion}
use Rattle.peg_model.specs.World.{World}
use Rattle.peg_model.specs.Headline.{OrdersAreHistories}
use Rattle.peg_meaning.specs.Racks.{RacksEntry, at_place, tails_text}
use Rattle.peg_word_law.specs.Runs.{racks_of, AreRunsOf}
use Rattle.peg_word_law.specs.Divided.{worlds_of, events_from, run_of, lines_text}
use Rattle.peg_word_law.specs.Homes.{KeepOwnKeys}
use Rattle.peg_word_law.specs.Isolated.{IsIsolated}

pub record DividesKeys (text : List ℕ) : Type 0 where
  pub entries : List RacksEntry
  pub is :
      text
      ≡ lines_text entries
      ++ (at_place (length entries) (codes "end") ++ tails_text 0 (run_of entries).0)
  pub runs : AreRunsOf (racks_of entries) (run_of entries).0
  pub histories : AllByRecursion OrdersAreHistories (run_of entries).0
  pub apart : KeepOwnKeys (run_of entries).0
  pub alone : (rack : ℕ) (w : World) → slice_get (worlds_of entries) rack ≡ Some w
      → IsIsolated (worlds_of entries) (events_from 1 entries) rack w

abbrev pub ShowsRacks : List ℕ → List ℕ → Type 0
ShowsRacks before now = (output : List ℕ) × (now ≡ before ++ output) × DividesKeys output
