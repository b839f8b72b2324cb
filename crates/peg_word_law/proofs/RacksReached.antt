-- Each world of the word `racks` is the end of a schedule.
use Rattle.std.proofs.Common.{◌≡◌, ◌≤◌, ◌+◌, ℕ, zero, suc, Bool, true, false, List, [], ◌∷◌, ◌++◌}
use Rattle.std.proofs.Common.{length, Option, Some, None, refl, ap, subst, ◌∙◌, sym, append-nil}
use Rattle.std.proofs.Common.{if◌then◌else◌, arith}
use Rattle.std.specs.Prelude.{◌==◌, slice_get, slice_set, unwrap_or}
use Rattle.peg_name.specs.Name.{Rack}
use Rattle.peg_event.specs.declared.Event.{Event}
use Rattle.peg_model.specs.World.{World, step, start}
use Rattle.peg_model.specs.Schedule.{IsStart}
use Rattle.peg_law.specs.Lines.{IsLine}
use Rattle.peg_law.specs.Places.{IsReached}
use Rattle.peg_meaning.specs.Session.{Input, Entry, Inputs, More, Answer, Goes, Past, IsTaken}
use Rattle.peg_meaning.specs.Session.{state_of, saying, entries_of}
use Rattle.peg_meaning.specs.Roles.{lines_most}
use Rattle.peg_meaning.specs.Racks.{RacksEvent, Routed, Within, RacksEntry, Counted, Named, Happens}
use Rattle.peg_meaning.specs.Racks.{End, RacksWord, Starting, Running, Finished, Division, rack_of}
use Rattle.peg_meaning.specs.Racks.{event_in, racks_step, stepped, is_full, happens, division_on}
use Rattle.peg_meaning.specs.Racks.{racks_on, plays_racks, racks_start, IsDivisionLine, IsLineOf}
use Rattle.peg_meaning.specs.Racks.{IsRacksEventLine, line_of}
use Rattle.peg_meaning.proofs.Keeping.{OnGoes, IsReadable, all_kept_with}
use Rattle.peg_word_law.specs.Runs.{racks_of, AreRunsOf, HaveRuns}
use Rattle.peg_word_law.proofs.Reaching.{Reaching}

record IsKept (rack : Rack) (keys : List (List ℕ)) (place : ℕ) (w : World) : Type 0 where
  is_start : IsStart rack keys
  reached : IsReached rack keys place w

-- ---- the racks that are named, and their worlds

abbrev Racks : Type 0
Racks = List (Rack × List (List ℕ))

abbrev AreKept : ℕ → Racks → List World → Type 0
AreKept place [] [] = Unit {0}
AreKept place (r ∷ racks) (w ∷ worlds) = IsKept r.0 r.1 place w × AreKept place racks worlds
AreKept place _ _ = ⊥

pub racks_append : (xs ys : List RacksEntry) → racks_of (xs ++ ys) ≡ racks_of xs ++ racks_of ys
racks_append [] ys = refl
racks_append (Named rack keys ∷ xs) ys = ap (λ rs. (rack, keys) ∷ rs) (racks_append xs ys)
racks_append (_ ∷ xs) ys = racks_append xs ys

kept_push :
    (place : ℕ) (racks : Racks) (worlds : List World) (rack : Rack) (keys : List (List ℕ))
    (w : World) → AreKept place racks worlds → IsKept rack keys place w
    → AreKept place (racks ++ (rack, keys) ∷ []) (worlds ++ w ∷ [])
kept_push place [] [] rack keys w all one = (one, tt)
kept_push place (r ∷ racks) (v ∷ worlds) rack keys w all one =
    (all.0, kept_push place racks worlds rack keys w all.1 one)
kept_push place [] (v ∷ worlds) rack keys w all one = absurd all
kept_push place (r ∷ racks) [] rack keys w all one = absurd all

-- what the world that takes an event accepts
AcceptsEvent : Option World → Event → Type 0
AcceptsEvent None e = ⊥
AcceptsEvent (Some w) e = IsLine w.rack e

accepts_line :
    (o : Option World) (whole line : List ℕ) (e : Event) → IsLineOf o whole line e
    → AcceptsEvent o e
unfolding AcceptsEvent
accepts_line None whole line e is_line = absurd is_line
accepts_line (Some w) whole line e is_line = (is_line.0.in_rack, is_line.0.in_range)

accepts :
    (worlds : List World) (line : List ℕ) (e : RacksEvent) → IsRacksEventLine worlds line e
    → AcceptsEvent (slice_get worlds (rack_of (length worlds) e)) (event_in e)
accepts worlds line (Routed e) is_line =
    accepts_line (slice_get worlds (rack_of (length worlds) (Routed e))) line line e is_line.1
accepts worlds line (Within rack e) is_line =
    accepts_line (slice_get worlds rack) line is_line.1.0 e is_line.1.2

record IsDivided (entries : List RacksEntry) (d : Division) : Type 0 where
  worlds : AreKept d.place (racks_of entries) d.worlds
  begun : 1 ≤ d.place

abbrev Keeps : Inputs RacksEntry → RacksWord → Type 0
Keeps inputs Starting = entries_of inputs ≡ []
Keeps inputs (Running d) = IsDivided (entries_of inputs) d
Keeps inputs (Finished d) = IsDivided (entries_of inputs) d

module _ (law : Reaching) where
  later :
      (rack : Rack) (keys : List (List ℕ)) (place more : ℕ) (w : World) → place ≤ more
      → IsKept rack keys place w → IsKept rack keys more w
  later rack keys place more w le kept =
      record {
        is_start = kept.is_start;
        reached = law.waits rack keys place more w le kept.reached;
      }

  all_later :
      (place more : ℕ) (racks : Racks) (worlds : List World) → place ≤ more
      → AreKept place racks worlds → AreKept more racks worlds
  all_later place more [] [] le all = tt
  all_later place more (r ∷ racks) (w ∷ worlds) le all =
      (later r.0 r.1 place more w le all.0, all_later place more racks worlds le all.1)
  all_later place more [] (w ∷ worlds) le all = absurd all
  all_later place more (r ∷ racks) [] le all = absurd all

  -- ---- one event

  step_kept :
      (rack : Rack) (keys : List (List ℕ)) (place : ℕ) (w : World) (e : Event) → 1 ≤ place
      → IsKept rack keys place w → IsLine w.rack e
      → IsKept rack keys (place + 1) (step w (place + 1) e).0
  step_kept rack keys place w e begun kept of_line =
      record {
        is_start = kept.is_start;
        reached =
            law.steps rack keys place (place + 1) w e kept.reached (omega (arith, begun))
            (omega arith)
            (subst (λ k. IsLine k e) (law.of_rack rack keys place w kept.reached) of_line);
      }

  kept_set :
      (place : ℕ) (racks : Racks) (worlds : List World) (i : ℕ) (w : World) (e : Event)
      → 1 ≤ place → AreKept place racks worlds → slice_get worlds i ≡ Some w → IsLine w.rack e
      → AreKept (place + 1) racks (slice_set worlds i (step w (place + 1) e).0)
  kept_set place racks [] i w e begun all at of_line =
      let never : None ≡ Some w = at in absurd (cc)
  kept_set place [] (v ∷ worlds) i w e begun all at of_line = absurd all
  kept_set place (r ∷ racks) (v ∷ worlds) zero w e begun all at of_line =
      let same : v ≡ w = ap (λ (o : Option World). unwrap_or o v) at in (
        step_kept r.0 r.1 place w e begun (subst (IsKept r.0 r.1 place) same all.0) of_line,
        all_later place (place + 1) racks worlds (omega arith) all.1,
      )
  kept_set place (r ∷ racks) (v ∷ worlds) (suc i) w e begun all at of_line = (
    later r.0 r.1 place (place + 1) v (omega arith) all.0,
    kept_set place racks worlds i w e begun all.1 at of_line,
  )

  step_keeps :
      (o : Option World) (racks : Racks) (worlds : List World) (i place : ℕ) (e : Event)
      → slice_get worlds i ≡ o → 1 ≤ place → AreKept place racks worlds → AcceptsEvent o e
      → AreKept (place + 1) racks (stepped o worlds i (place + 1) e).0
  unfolding AcceptsEvent
  step_keeps None racks worlds i place e at begun all accepts = absurd accepts
  step_keeps (Some w) racks worlds i place e at begun all accepts =
      kept_set place racks worlds i w e begun all at accepts

  if_past :
      (inputs : Inputs RacksEntry) (b : Bool) (answer : Answer RacksWord)
      → OnGoes (Keeps inputs) answer → OnGoes (Keeps inputs) (if b then Past else answer)
  if_past inputs true answer on = tt
  if_past inputs false answer on = on

  -- a line that names no rack
  plain_racks :
      (entries : List RacksEntry) (x : RacksEntry) (place : ℕ) (worlds : List World)
      → racks_of (x ∷ []) ≡ [] → AreKept place (racks_of entries) worlds
      → AreKept place (racks_of (entries ++ x ∷ [])) worlds
  plain_racks entries x place worlds plain all =
      subst (λ racks. AreKept place racks worlds)
      (sym
      (racks_append entries (x ∷ [])
      ∙ ap (λ rs. racks_of entries ++ rs) plain
      ∙ append-nil (racks_of entries)))
      all

  happens_keeps :
      (inputs : Inputs RacksEntry) (d : Division) (line : List ℕ) (e : RacksEvent)
      → IsDivided (entries_of inputs) d → IsRacksEventLine d.worlds line e
      → OnGoes (Keeps (More inputs (Entry (Happens e)))) (happens d e)
  happens_keeps inputs d line e divided is_line =
      let entries = entries_of inputs in
      let place = d.place + 1 in
      let rack = rack_of (length d.worlds) e in
      let now = racks_step d.worlds place e in
      if_past (More inputs (Entry (Happens e))) (is_full (slice_get now.0 rack))
      (Goes (saying (Running (record d { worlds = now.0; place = place; lines = d.lines + 1 }))
      (line_of now.1 place rack)))
      (record {
        worlds =
            plain_racks entries (Happens e) place now.0 refl
            (step_keeps (slice_get d.worlds rack) (racks_of entries) d.worlds rack d.place
            (event_in e) refl divided.begun divided.worlds (accepts d.worlds line e is_line));
        begun = omega arith;
      })

  -- ---- a line

  named_keeps :
      (entries : List RacksEntry) (d : Division) (rack : Rack) (keys : List (List ℕ))
      → IsStart rack keys → IsDivided entries d
      → AreKept (d.place + 1) (racks_of (entries ++ Named rack keys ∷ []))
      (d.worlds ++ start rack keys ∷ [])
  named_keeps entries d rack keys is_start divided =
      subst (λ racks. AreKept (d.place + 1) racks (d.worlds ++ start rack keys ∷ []))
      (sym (racks_append entries (Named rack keys ∷ [])))
      (kept_push (d.place + 1) (racks_of entries) d.worlds rack keys (start rack keys)
      (all_later d.place (d.place + 1) (racks_of entries) d.worlds (omega arith) divided.worlds)
      (record {
        is_start = is_start;
        reached =
            law.waits rack keys 1 (d.place + 1) (start rack keys)
            (let first = divided.begun in omega (arith, first)) (law.begins rack keys);
      }))

  division_keeps :
      (unnamed : ℕ) (inputs : Inputs RacksEntry) (d : Division) (line : List ℕ) (e : RacksEntry)
      → IsDivided (entries_of inputs) d → IsDivisionLine unnamed d line e
      → OnGoes (Keeps (More inputs (Entry e))) (division_on d e)
  division_keeps zero inputs d line (Happens e) divided is_line =
      if_past (More inputs (Entry (Happens e))) (d.lines == lines_most) (happens d e)
      (happens_keeps inputs d line e divided is_line)
  division_keeps zero inputs d line End divided is_line =
      record {
        worlds = plain_racks (entries_of inputs) End d.place d.worlds refl divided.worlds;
        begun = divided.begun;
      }
  division_keeps (suc unnamed) inputs d line (Named rack keys) divided is_line =
      record {
        worlds =
            named_keeps (entries_of inputs) d rack keys
            (record { limits = is_line.limits; named = is_line.named }) divided;
        begun = omega arith;
      }
  division_keeps _ inputs d line e divided is_line = absurd is_line

  one :
      (inputs : Inputs RacksEntry) (s : RacksWord) (x : Input RacksEntry) → Keeps inputs s
      → IsReadable plays_racks s x → OnGoes (Keeps (More inputs x)) (racks_on s x)
  one inputs Starting (Entry (Counted racks)) none readable =
      record {
        worlds = subst (λ es. AreKept 1 (racks_of (es ++ Counted racks ∷ [])) []) (sym none) tt;
        begun = omega arith;
      }
  one inputs (Running d) (Entry e) divided readable =
      division_keeps d.unnamed inputs d readable.0 e divided readable.1
  one inputs s x keeps readable = tt

  -- ---- the whole

  all_run :
      (place : ℕ) (racks : Racks) (worlds : List World) → AreKept place racks worlds
      → AreRunsOf racks worlds
  all_run place [] [] all = tt
  all_run place (r ∷ racks) (w ∷ worlds) all = (
    record { is_start = all.0.is_start; is_end = law.ends r.0 r.1 place w all.0.reached },
    all_run place racks worlds all.1,
  )
  all_run place [] (w ∷ worlds) all = absurd all
  all_run place (r ∷ racks) [] all = absurd all

  have_runs :
      (inputs : Inputs RacksEntry) (s : RacksWord) → Keeps inputs s
      → HaveRuns (entries_of inputs) s
  have_runs inputs Starting none = none
  have_runs inputs (Running d) divided =
      all_run d.place (racks_of (entries_of inputs)) d.worlds divided.worlds
  have_runs inputs (Finished d) divided =
      all_run d.place (racks_of (entries_of inputs)) d.worlds divided.worlds

  pub divided_are_runs :
      (inputs : Inputs RacksEntry) → IsTaken plays_racks racks_start inputs
      → HaveRuns (entries_of inputs) (state_of plays_racks racks_start inputs)
  divided_are_runs inputs taken =
      have_runs inputs (state_of plays_racks racks_start inputs)
      (all_kept_with plays_racks Keeps one racks_start inputs taken refl)
