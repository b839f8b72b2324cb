-- What `soak` has written, by its end.
--     six_lines ..      the summary of these numbers, where the verdict is yes
--     five_lines events w      the lines before the verdict
--     SaysYes events w      the last line of the summary says yes
--     IsPast events number line      this is the first event after which the run has too many packets
--     Stopped events number end      why a run was not played to its end
--     Ended events number end held held'      all that holds at this end
use Rattle.std.specs.Prelude.{◌≡◌, ◌<◌, ◌≤◌, ℕ, Option, List, ◌++◌, length, codes, decimal}
use Rattle.peg_model.specs.World.{World}
use Rattle.peg_model.specs.Order.{orders}
use Rattle.peg_model.specs.Schedule.{fed}
use Rattle.peg_meaning.specs.Workload.{summary_text, soak_text, soak_world, answered_count}
use Rattle.peg_io.specs.Outside.{Tells, Appends, WritesSome}
use Rattle.peg_session.specs.declared.End.{End}
use Rattle.peg_session.specs.declared.End.TheVariants as end

abbrev pub six_lines : ℕ → ℕ → ℕ → ℕ → ℕ → List ℕ
six_lines events packets operations answered keys =
    fed (codes "events " ++ decimal events)
    ++ fed (codes "packets " ++ decimal packets)
    ++ fed (codes "operations " ++ decimal operations)
    ++ fed (codes "answered " ++ decimal answered)
    ++ fed (codes "keys " ++ decimal keys)
    ++ fed (codes "check yes")

abbrev pub five_lines : ℕ → World → List ℕ
five_lines events w =
    fed (codes "events " ++ decimal events)
    ++ fed (codes "packets " ++ decimal (length w.packets))
    ++ fed (codes "operations " ++ decimal (length w.operations))
    ++ fed (codes "answered " ++ decimal (answered_count w))
    ++ fed (codes "keys " ++ decimal (length (orders w)))

abbrev pub SaysYes : ℕ → World → Type 0
SaysYes events w = summary_text events w ≡ five_lines events w ++ fed (codes "check yes")

-- it is one of so many events, after it there are more packets than a run may have, and after fewer
-- events there are not
pub record IsPast (events number line : ℕ) : Type 0 where
  pub among : line ≤ events
  pub past : 200000 < length (soak_world line number).packets
  pub first : (fewer : ℕ) → fewer < line → length (soak_world fewer number).packets ≤ 200000

abbrev pub Stopped : ℕ → ℕ → End → Type 0
Stopped events number end.OutOfMemory = Unit {0}
Stopped events number (end.TooMuch line) = IsPast events number line
Stopped events number _ = ⊥

pub record IsDone (events number : ℕ) (held held' : Option (List ℕ)) : Type 0 where
  pub written : Tells held held' (Appends (soak_text events number))
  pub yes : SaysYes events (soak_world events number)

abbrev pub Ended : ℕ → ℕ → End → Option (List ℕ) → Option (List ℕ) → Type 0
Ended events number end.Done held held' = IsDone events number held held'
Ended events number end.WriteFault held held' =
    Tells held held' (WritesSome (soak_text events number))
Ended events number end held held' = Stopped events number end × (held' ≡ held)
