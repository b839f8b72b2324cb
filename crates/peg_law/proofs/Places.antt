-- A world that events at rising places led to is the end of a schedule.
use Rattle.std.proofs.Common.{◌≡◌, ◌≤◌, ◌<◌, ◌+◌, ◌-◌, ℕ, zero, suc, List, [], ◌∷◌, ◌++◌, replicate}
use Rattle.std.proofs.Common.{refl, sym, ap, ◌∙◌, arith}
use Rattle.std.specs.List.{AllByRecursion}
use Rattle.peg_name.specs.Name.{Rack}
use Rattle.peg_event.specs.declared.Event.{Event}
use Rattle.peg_model.specs.World.{World, start, step}
use Rattle.peg_law.specs.Lines.{IsLine}
use Rattle.peg_law.specs.Places.{run_at, AreRising, quiet, filled, IsReached, IsEndOfRun}
use Rattle.peg_law.proofs.Fixed.{Frame, frame_same}
use Rattle.peg_law.proofs.Filled.{filled_run}

-- ---- one more event

pub run_one_more :
    (w : World) (placed : List (ℕ × Event)) (at : ℕ) (e : Event)
    → (run_at w (placed ++ (at, e) ∷ [])).0 ≡ (step (run_at w placed).0 at e).0
unfolding run_at
run_one_more w [] at e = refl
run_one_more w ((place, first) ∷ placed) at e = run_one_more (step w place first).0 placed at e

pub rising_one_more :
    (from place at : ℕ) (placed : List (ℕ × Event)) (e : Event) → AreRising from placed
    → AllByRecursion (λ p. p.0 ≤ place) placed → from ≤ at → place < at
    → AreRising from (placed ++ (at, e) ∷ [])
rising_one_more from place at [] e rising up low high = (low, tt)
rising_one_more from place at ((first, f) ∷ placed) e rising up low high = (
  rising.0,
  rising_one_more (first + 1) place at placed e rising.1 up.1
      (let most = up.0 in omega (arith, most, high)) high,
)

pub all_one_more :
    (P : ℕ × Event → Type 0) (placed : List (ℕ × Event)) (p : ℕ × Event)
    → AllByRecursion P placed → P p → AllByRecursion P (placed ++ p ∷ [])
all_one_more P [] p all one = (one, tt)
all_one_more P (q ∷ placed) p all one = (all.0, all_one_more P placed p all.1 one)

all_up_to :
    (place more : ℕ) (placed : List (ℕ × Event)) → place ≤ more
    → AllByRecursion (λ p. p.0 ≤ place) placed → AllByRecursion (λ p. p.0 ≤ more) placed
all_up_to place more [] le all = tt
all_up_to place more (p ∷ placed) le all =
    (let most = all.0 in omega (arith, most, le), all_up_to place more placed le all.1)

-- ---- what is reached

pub reached_start : (rack : Rack) (keys : List (List ℕ)) → IsReached rack keys 1 (start rack keys)
unfolding run_at
reached_start rack keys =
    record { placed = []; rising = tt; up_to = tt; of_lines = tt; world = refl }

pub reached_later :
    (rack : Rack) (keys : List (List ℕ)) (place more : ℕ) (w : World) → place ≤ more
    → IsReached rack keys place w → IsReached rack keys more w
reached_later rack keys place more w le r =
    record {
      placed = r.placed;
      rising = r.rising;
      up_to = all_up_to place more r.placed le r.up_to;
      of_lines = r.of_lines;
      world = r.world;
    }

pub reached_step :
    (rack : Rack) (keys : List (List ℕ)) (place at : ℕ) (w : World) (e : Event)
    → IsReached rack keys place w → 2 ≤ at → place < at → IsLine rack e
    → IsReached rack keys at (step w at e).0
reached_step rack keys place at w e r low high of_line =
    record {
      placed = r.placed ++ (at, e) ∷ [];
      rising = rising_one_more 2 place at r.placed e r.rising r.up_to low high;
      up_to =
          all_one_more (λ p. p.0 ≤ at) r.placed (at, e)
          (all_up_to place at r.placed (omega (arith, high)) r.up_to) (omega arith);
      of_lines = all_one_more (λ p. IsLine rack p.1) r.placed (at, e) r.of_lines of_line;
      world =
          ap (λ v. (step v at e).0) r.world
          ∙ sym (run_one_more (start rack keys) r.placed at e);
    }

run_rack : (w : World) (placed : List (ℕ × Event)) → (run_at w placed).0.rack ≡ w.rack
unfolding run_at
run_rack w [] = refl
run_rack w ((place, e) ∷ placed) =
    run_rack (step w place e).0 placed
    ∙ ap (λ (f : Frame). f.rack) (frame_same (record w { place = place }) e)

pub reached_rack :
    (rack : Rack) (keys : List (List ℕ)) (place : ℕ) (w : World) → IsReached rack keys place w
    → w.rack ≡ rack
reached_rack rack keys place w r =
    ap (λ (v : World). v.rack) r.world ∙ run_rack (start rack keys) r.placed

-- ---- the schedule

quiet_of_line : (rack : Rack) → IsLine rack quiet
quiet_of_line rack = (tt, (omega arith, tt))

all_quiet_then :
    (rack : Rack) (k : ℕ) (events : List Event) → AllByRecursion (IsLine rack) events
    → AllByRecursion (IsLine rack) (replicate k quiet ++ events)
all_quiet_then rack zero events all = all
all_quiet_then rack (suc k) events all =
    (quiet_of_line rack, all_quiet_then rack k events all)

pub filled_of_lines :
    (rack : Rack) (place : ℕ) (placed : List (ℕ × Event))
    → AllByRecursion (λ p. IsLine rack p.1) placed
    → AllByRecursion (IsLine rack) (filled place placed)
filled_of_lines rack place [] all = tt
filled_of_lines rack place ((at, e) ∷ placed) all =
    all_quiet_then rack (at - place) (e ∷ filled (at + 1) placed)
    (all.0, filled_of_lines rack (at + 1) placed all.1)

pub reached_is_end :
    (rack : Rack) (keys : List (List ℕ)) (place : ℕ) (w : World) → IsReached rack keys place w
    → IsEndOfRun rack keys w
reached_is_end rack keys place w r =
    record {
      events = filled 2 r.placed;
      of_lines = filled_of_lines rack 2 r.placed r.of_lines;
      world = r.world ∙ filled_run (start rack keys) 2 r.placed r.rising;
    }
