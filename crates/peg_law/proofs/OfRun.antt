-- A world that a run at rising places comes to goes on being one, and all laws hold of it.
use Rattle.std.proofs.Common.{◌≡◌, ◌≤◌, ◌<◌, ℕ, suc, List, [], ◌∷◌, ◌++◌}
use Rattle.std.proofs.Common.{refl, sym, ap, ◌∙◌, subst, arith}
use Rattle.std.specs.Prelude.{Contains}
use Rattle.std.specs.List.{AllByRecursion}
use Rattle.peg_name.specs.Name.{Rack}
use Rattle.peg_event.specs.declared.Event.{Event}
use Rattle.peg_model.specs.World.{World, start, step, run, history}
use Rattle.peg_model.specs.Order.{orders}
use Rattle.peg_model.specs.Schedule.{IsStart}
use Rattle.peg_model.specs.Moments.{Moment, IsInPlace}
use Rattle.peg_model.specs.Headline.{OrdersAreHistories}
use Rattle.peg_model.specs.Register.{IsRegisterHistory}
use Rattle.peg_law.specs.Lines.{IsLine}
use Rattle.peg_law.specs.Places.{run_at, AreRising, moment_at, moments_at, IsReached, IsEndOfRun}
use Rattle.peg_law.specs.OfRun.{IsWorldOfRun, ShowsRun}
use Rattle.peg_law.proofs.Fixed.{Frame, frame_same}
use Rattle.peg_law.proofs.Places.{reached_start, reached_step, reached_is_end}
use Rattle.peg_law.proofs.Places.{rising_one_more, all_one_more}

pub of_run_start : (rack : Rack) (keys : List (List ℕ)) → IsStart rack keys
    → IsWorldOfRun (start rack keys)
of_run_start rack keys is =
    record {
      keys = keys;
      is_start = is;
      from_first = omega arith;
      reached = reached_start rack keys;
    }

pub of_run_step :
    (w : World) (at : ℕ) (e : Event) → IsWorldOfRun w → w.place < at → IsLine w.rack e
    → IsWorldOfRun (step w at e).0
of_run_step w at e of later line =
    let now = (step w at e).0 in
    let same = frame_same (record w { place = at }) e in
    let rack : now.rack ≡ w.rack = ap (λ (f : Frame). f.rack) same in
    let place : now.place ≡ at = ap (λ (f : Frame). f.place) same in
    record {
      keys = of.keys;
      is_start = subst (λ r. IsStart r of.keys) (sym rack) of.is_start;
      from_first = omega (arith, place, later);
      reached =
          subst (λ r. IsReached r of.keys now.place now) (sym rack)
          (subst (λ n. IsReached w.rack of.keys n now) (sym place)
          (reached_step w.rack of.keys w.place at w e of.reached
          (let first = of.from_first in omega (arith, first, later)) later line));
    }

-- ---- what holds of the ends of schedules

pub end_of_run :
    (w : World) (of : IsWorldOfRun w) → IsEndOfRun w.rack of.keys w
end_of_run w of = reached_is_end w.rack of.keys w.place w of.reached

pub holds_of :
    (P : World → Type 0)
    →
    ((rack : Rack) (keys : List (List ℕ)) (events : List Event) → IsStart rack keys
    → AllByRecursion (IsLine rack) events → P (run (start rack keys) 2 events).0)
    → (w : World) → IsWorldOfRun w → P w
holds_of P law w of =
    let ends = end_of_run w of in
    subst P (sym ends.world) (law w.rack of.keys ends.events of.is_start ends.of_lines)

-- ---- its next line

last_line :
    (w : World) (placed : List (ℕ × Event)) (at : ℕ) (e : Event)
    → Contains (moments_at w (placed ++ (at, e) ∷ [])) (moment_at (run_at w placed).0 at e)
unfolding run_at
last_line w [] at e = (0, omega arith, refl)
last_line w ((place, first) ∷ placed) at e =
    let h = last_line (step w place first).0 placed at e in
    (suc h.0, omega (arith, h.1), h.2)

pub next_in_place :
    ((rack : Rack) (keys : List (List ℕ)) (placed : List (ℕ × Event)) → IsStart rack keys
    → AreRising 2 placed → AllByRecursion (λ p. IsLine rack p.1) placed → (m : Moment)
    → Contains (moments_at (start rack keys) placed) m → IsInPlace m)
    → (w : World) (at : ℕ) (e : Event) → IsWorldOfRun w → w.place < at → IsLine w.rack e
    → IsInPlace (moment_at w at e)
next_in_place law w at e of later line =
    let r = of.reached in
    let first = of.from_first in
    let low : 2 ≤ at = omega (arith, first, later) in
    subst (λ v. IsInPlace (moment_at v at e)) (sym r.world)
    (law w.rack of.keys (r.placed ++ (at, e) ∷ []) of.is_start
    (rising_one_more 2 w.place at r.placed e r.rising r.up_to low later)
    (all_one_more (λ p. IsLine w.rack p.1) r.placed (at, e) r.of_lines line)
    (moment_at (run_at (start w.rack of.keys) r.placed).0 at e)
    (last_line (start w.rack of.keys) r.placed at e))

-- ---- what a world shows

pub shows_itself : (w : World) → IsWorldOfRun w → ShowsRun w
shows_itself w of = record { shown = w; of_run = of; packets = refl; operations = refl }

pub shows_still :
    (w v : World) → ShowsRun w → v.packets ≡ w.packets → v.operations ≡ w.operations → ShowsRun v
shows_still w v s packets operations =
    record {
      shown = s.shown;
      of_run = s.of_run;
      packets = packets ∙ s.packets;
      operations = operations ∙ s.operations;
    }

pub shown_histories :
    ((w : World) → IsWorldOfRun w → OrdersAreHistories w) → (w : World) → ShowsRun w
    → OrdersAreHistories w
shown_histories law w s =
    let v = s.shown in
    subst
    (λ operations.
    let u = record w { operations = operations } in
    AllByRecursion (λ o. IsRegisterHistory (history u) o.0 o.1) (orders u))
    (sym s.operations) (law v s.of_run)
