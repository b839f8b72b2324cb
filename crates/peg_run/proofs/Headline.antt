-- The headline: what was printed is linearizable, since every run of the book is.
use Rattle.std.proofs.Common.{◌≡◌, ℕ, Option, List}
use Rattle.std.specs.List.{AllByRecursion}
use Rattle.peg_name.specs.Name.{Rack}
use Rattle.peg_event.specs.declared.Event.{Event}
use Rattle.peg_model.specs.World.{start, run}
use Rattle.peg_model.specs.Schedule.{IsStart}
use Rattle.peg_model.specs.Trace.{replay_text}
use Rattle.peg_model.specs.Headline.{IsLinearizable, OrdersAreHistories}
use Rattle.peg_law.specs.Lines.{IsLine}
use Rattle.peg_trace.specs.Answers.{AreTold}
use Rattle.peg_io.specs.Outside.{Tells, Appends}
use Rattle.peg_run.specs.Ends.{ShowsRegisters, IsDone, Ended}
use Rattle.peg_run.specs.declared.Status.{Status}
use Rattle.peg_run.specs.declared.Status.TheVariants as status
use Rattle.peg_run.proofs.Answered.{ended_as}
use Rattle.peg_io.proofs.Telling.{Tells_as}

-- the law that orders are register histories, and that of texts, as their contracts say them
abbrev pub Histories : Type 0
Histories =
    (rack : Rack) (keys : List (List ℕ)) (events : List Event) → IsStart rack keys
    → AllByRecursion (IsLine rack) events → OrdersAreHistories (run (start rack keys) 2 events).0

abbrev pub Texts : Type 0
Texts =
    (rack : Rack) (keys : List (List ℕ)) (events : List Event)
    → OrdersAreHistories (run (start rack keys) 2 events).0
    → (plain : IsLinearizable (replay_text rack keys events)) × AreTold plain.trace plain.ops

-- all that was appended at the end is
done_shows :
    (left left' held held' : Option (List ℕ)) → Histories → Texts → IsDone left left' held held'
    → Tells held held' ShowsRegisters
done_shows left left' held held' histories texts done =
    Tells_as held held' (Appends (replay_text done.rack done.keys done.events)) ShowsRegisters
    (λ before now is. (replay_text done.rack done.keys done.events, is, told.0, told.1))
    done.written
  where
    told :
        (plain : IsLinearizable (replay_text done.rack done.keys done.events))
        × AreTold plain.trace plain.ops
    told =
        texts done.rack done.keys done.events
        (histories done.rack done.keys done.events done.spelled.0 done.spelled.1)

pub histories_told :
    (left left' held held' : Option (List ℕ)) (s : Status) → Histories → Texts
    → Ended s left left' held held' → s ≡ status.Done → Tells held held' ShowsRegisters
histories_told left left' held held' s histories texts ended e =
    done_shows left left' held held' histories texts
    (ended_as left left' held held' s status.Done e ended).0
