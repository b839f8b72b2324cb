-- A run with gaps between its places is a run of a schedule.
use Rattle.std.proofs.Common.{◌≡◌, ◌+◌, ◌-◌, ℕ, zero, suc, List, [], ◌∷◌, ◌++◌, replicate, refl}
use Rattle.std.proofs.Common.{sym, ap, ◌∙◌, arith, append-nil}
use Rattle.peg_event.specs.declared.Event.{Event}
use Rattle.peg_model.specs.Reading.{packet_of}
use Rattle.peg_model.specs.World.{World, happens, step, run}
use Rattle.peg_law.specs.Places.{run_at, AreRising, quiet, filled}

-- a world behind a quiet event
abbrev pub quieted : World → ℕ → World
quieted w place = record w { place = place; packets = w.packets ++ [] }

pub quiet_step : (w : World) (place : ℕ) → (step w place quiet).0 ≡ quieted w place
unfolding happens packet_of
quiet_step w place = refl

behind_quiet :
    (w : World) (place at : ℕ) (e : Event) (events : List Event)
    → (run (quieted w place) at (e ∷ events)).0 ≡ (run w at (e ∷ events)).0
unfolding run
behind_quiet w place at e events =
    ap
    (λ packets. (run (step (record w { packets = packets }) at e).0 (at + 1) events).0)
    (append-nil w.packets)

quiet_run :
    (k : ℕ) (w : World) (place : ℕ) (e : Event) (events : List Event)
    → (run w place (replicate k quiet ++ e ∷ events)).0 ≡ (run w (place + k) (e ∷ events)).0
unfolding run
quiet_run zero w place e events =
    let same : place ≡ place + 0 = omega arith in ap (λ n. (run w n (e ∷ events)).0) same
quiet_run (suc k) w place e events =
    let same : place + 1 + k ≡ place + suc k = omega arith in
    ap (λ v. (run v (place + 1) (replicate k quiet ++ e ∷ events)).0) (quiet_step w place)
    ∙ quiet_run k (quieted w place) (place + 1) e events
    ∙ ap (λ n. (run (quieted w place) n (e ∷ events)).0) same
    ∙ behind_quiet w place (place + suc k) e events

pub filled_run :
    (w : World) (place : ℕ) (placed : List (ℕ × Event)) → AreRising place placed
    → (run_at w placed).0 ≡ (run w place (filled place placed)).0
unfolding run run_at
filled_run w place [] rising = refl
filled_run w place ((at, e) ∷ placed) rising =
    let same : place + (at - place) ≡ at = omega (arith, rising.0) in
    let events = filled (at + 1) placed in
    filled_run (step w at e).0 (at + 1) placed rising.1
    ∙ sym
    (quiet_run (at - place) w place e events ∙ ap (λ n. (run w n (e ∷ events)).0) same)
