-- What a world keeps of its run, at each of its ends.
use Rattle.std.proofs.Common.{◌≡◌, ◌≢◌, ◌≤◌, ◌<◌, ◌+◌, ℕ, Bool, true, false, List, [], length}
use Rattle.std.proofs.Common.{◌++◌, Option, Some, None, refl, sym, ap, ◌∙◌, subst, arith}
use Rattle.std.specs.Prelude.{AllPairs, Ok}
use Rattle.std.specs.List.{AllByRecursion}
use Rattle.peg_name.specs.Name.{Rack, InLimits}
use Rattle.peg_event.specs.declared.Event.{Event}
use Rattle.peg_event.specs.declared.Line.{Line}
use Rattle.peg_event.specs.declared.Said.{Said}
use Rattle.peg_model.specs.Schedule.{IsStart, IsKeyOfBytes, EventInRack, EventInRange}
use Rattle.peg_model.specs.World.{World, start, step}
use Rattle.peg_law.specs.Lines.{IsLine}
use Rattle.peg_law.specs.OfRun.{IsWorldOfRun, ShowsRun}
use Rattle.peg_world.specs.Midway.{Midway, Came}
use Rattle.peg_world.specs.Running.{IsRun}
use Rattle.peg_world.specs.Telling.{told, number_in}

-- the law of worlds of runs, as its contract says it
abbrev pub Begins : Type 0
Begins =
    (rack : Rack) (keys : List (List ℕ)) → IsStart rack keys → IsWorldOfRun (start rack keys)

abbrev pub Steps : Type 0
Steps =
    (w : World) (at : ℕ) (e : Event) → IsWorldOfRun w → w.place < at → IsLine w.rack e
    → IsWorldOfRun (step w at e).0

shows_itself : (w : World) → IsWorldOfRun w → ShowsRun w
shows_itself w of = record { shown = w; of_run = of; packets = refl; operations = refl }

pub run_made :
    (m : Midway) (rack : Rack) (keys : List (List ℕ)) → Begins → InLimits rack
    → AllByRecursion IsKeyOfBytes keys → AllPairs (λ key other. key ≢ other) keys
    → length keys ≤ rack.listed → m.world ≡ start rack keys → m.sent ≡ [] → IsRun m 0 false
run_made m rack keys begins limits bytes distinct few is empty =
    let starts : IsStart rack keys =
    record { limits = limits; named = (bytes, distinct, few) } in
    let of : IsWorldOfRun m.world = subst IsWorldOfRun (sym is) (begins rack keys starts) in
    record {
      sent = λ e. empty;
      counted = let none = ap (λ (w : World). length w.operations) is in omega (arith, none);
      limited = omega arith;
      shows = shows_itself m.world of;
      of_run = λ e. of;
    }

-- it is over
pub run_over : (m : Midway) (events : ℕ) (o : Bool) → IsRun m events o → IsRun m events true
run_over m events o r =
    record {
      sent = λ e. absurd (cc);
      counted = r.counted;
      limited = r.limited;
      shows = r.shows;
      of_run = λ e. absurd (cc);
    }

-- there was no memory
pub run_same :
    (old now : Midway) (events : ℕ) → now.world ≡ old.world → now.sent ≡ old.sent
    → IsRun old events false → IsRun now events false
run_same old now events world sent r =
    record {
      sent = λ e. sent ∙ r.sent refl;
      counted =
          let same = ap (λ (w : World). length w.operations) world in
          let few = r.counted in omega (arith, same, few);
      limited = r.limited;
      shows = subst ShowsRun (sym world) r.shows;
      of_run = λ e. subst IsWorldOfRun (sym world) (r.of_run refl);
    }

-- it is over, though a node has moved
pub run_stopped :
    (old now : Midway) (events : ℕ) (o : Bool) → now.world.packets ≡ old.world.packets
    → now.world.operations ≡ old.world.operations → IsRun old events o → IsRun now events true
run_stopped old now events o packets operations r =
    record {
      sent = λ e. absurd (cc);
      counted = let same = ap length operations in let few = r.counted in omega (arith, same, few);
      limited = r.limited;
      shows =
          record {
            shown = r.shows.shown;
            of_run = r.shows.of_run;
            packets = packets ∙ r.shows.packets;
            operations = operations ∙ r.shows.operations;
          };
      of_run = λ e. absurd (cc);
    }

came_to :
    (old mid : Midway) (place : ℕ) (after : World × Line) (s : Said) (n : Option ℕ)
    → Came old mid place after (told n old.world (Ok s))
    → record mid.world { packets = mid.world.packets ++ mid.sent } ≡ after.0
came_to old mid place after s None came = ap (λ (r : World × Line). r.0) came.comes.is
came_to old mid place after s (Some n) came = ap (λ (r : World × Line). r.0) came.comes.is

-- one event more
pub run_stepped :
    (old mid now : Midway) (place events : ℕ) (e : Event) (s : Said) → Steps
    → IsRun old events false → old.world.place < place → EventInRack old.world.rack e
    → EventInRange e
    → Came old mid place (step old.world place e) (told (number_in e old.world) old.world (Ok s))
    → now.world ≡ record mid.world { packets = mid.world.packets ++ mid.sent } → now.sent ≡ []
    → events < 1000000 → IsRun now (events + 1) false
run_stepped old mid now place events e s steps r later in_rack in_range came world sent few =
    let is : now.world ≡ (step old.world place e).0 =
    world ∙ came_to old mid place (step old.world place e) s (number_in e old.world) came in
    let of : IsWorldOfRun now.world =
    subst IsWorldOfRun (sym is)
    (steps old.world place e (r.of_run refl) later (in_rack, in_range)) in
    record {
      sent = λ f. sent;
      counted =
          let same = ap (λ (w : World). length w.operations) world in
          let more = came.counted in
          let before = r.counted in omega (arith, same, more, before);
      limited = omega (arith, few);
      shows = shows_itself now.world of;
      of_run = λ f. of;
    }
