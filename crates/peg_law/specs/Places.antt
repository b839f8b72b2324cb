-- Runs whose events stand at places with gaps between them.
--     run_at w placed      the world after events at given places, and the lines with these
--     moments_at w placed      the lines of such a run, one by one
--     AreRising place placed      each place is above the one before, and the first at least this
--     quiet      an event that changes nothing
--     filled place placed      the events, with quiet ones in the gaps
--     IsReached rack keys place w      events of the rack's lines led to this world, at places up
--         to this one
--     IsEndOfRun rack keys w      the world is the end of a schedule, so that the laws hold of it
use Rattle.std.specs.Prelude.{◌≡◌, ◌≤◌, ◌+◌, ◌-◌, ℕ, List, [], ◌∷◌, ◌++◌, replicate}
use Rattle.std.specs.List.{AllByRecursion}
use Rattle.peg_name.specs.Name.{Rack}
use Rattle.peg_name.specs.declared.Node.TheVariants as node
use Rattle.peg_event.specs.declared.Event.{Event}
use Rattle.peg_event.specs.declared.Event.TheVariants as event
use Rattle.peg_event.specs.declared.Line.{Line}
use Rattle.peg_model.specs.World.{World, start, step, run}
use Rattle.peg_model.specs.Moments.{Moment}
use Rattle.peg_law.specs.Lines.{IsLine}

unfoldable pub run_at : World → List (ℕ × Event) → World × List (ℕ × Line)
run_at w [] = (w, [])
run_at w ((place, e) ∷ placed) =
    let now = step w place e in
    let rest = run_at now.0 placed in
    (rest.0, (place, now.1) ∷ rest.1)

-- an event at its place, and what its line says
abbrev pub moment_at : World → ℕ → Event → Moment
moment_at w place e =
    record { place = place; event = e; before = w; line = (step w place e).1 }

abbrev pub moments_at : World → List (ℕ × Event) → List Moment
moments_at w [] = []
moments_at w ((place, e) ∷ placed) =
    moment_at w place e ∷ moments_at (step w place e).0 placed

abbrev pub AreRising : ℕ → List (ℕ × Event) → Type 0
AreRising place [] = Unit {0}
AreRising place ((at, e) ∷ placed) = (place ≤ at) × AreRising (at + 1) placed

-- no bytes at all, which no packet has
abbrev pub quiet : Event
quiet = event.Junk node.Controller []

abbrev pub filled : ℕ → List (ℕ × Event) → List Event
filled place [] = []
filled place ((at, e) ∷ placed) = replicate (at - place) quiet ++ e ∷ filled (at + 1) placed

-- events led to this world, at rising places up to this one
pub record IsReached (rack : Rack) (keys : List (List ℕ)) (place : ℕ) (w : World) : Type 0 where
  pub placed : List (ℕ × Event)
  pub rising : AreRising 2 placed
  pub up_to : AllByRecursion (λ p. p.0 ≤ place) placed
  pub of_lines : AllByRecursion (λ p. IsLine rack p.1) placed
  pub world : w ≡ (run_at (start rack keys) placed).0

-- it is the end of a schedule
pub record IsEndOfRun (rack : Rack) (keys : List (List ℕ)) (w : World) : Type 0 where
  pub events : List Event
  pub of_lines : AllByRecursion (IsLine rack) events
  pub world : w ≡ (run (start rack keys) 2 events).0
