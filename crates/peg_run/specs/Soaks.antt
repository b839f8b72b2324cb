-- How `soak` ends.
--     Soaks events number status held held'      all that holds at this status, where so many events
--         were to be made from this number: a first part of the summary is written where the sink
--         failed, and nothing where there was no memory or the run has too many packets
use Rattle.std.specs.Prelude.{◌≡◌, ℕ, Option, List}
use Rattle.peg_io.specs.Outside.{Tells, WritesSome}
use Rattle.peg_meaning.specs.Workload.{soak_text}
use Rattle.peg_soak.specs.Soaked.{IsDone, IsPast}
use Rattle.peg_run.specs.declared.Status.{Status}
use Rattle.peg_run.specs.declared.Status.TheVariants as status

abbrev pub Soaks : ℕ → ℕ → Status → Option (List ℕ) → Option (List ℕ) → Type 0
Soaks events number status.Done held held' = IsDone events number held held'
Soaks events number status.WriteFault held held' =
    Tells held held' (WritesSome (soak_text events number))
Soaks events number status.OutOfMemory held held' = held' ≡ held
Soaks events number (status.TooMuch line) held held' = IsPast events number line × (held' ≡ held)
Soaks events number _ held held' = ⊥
