-- One event of several racks: it is a step of the one world that takes it.
use Rattle.std.proofs.Common.{◌≡◌, ◌<◌, ◌⊎◌, inl, inr, ℕ, zero, suc, true, false, Option, Some}
use Rattle.std.proofs.Common.{List, []}
use Rattle.std.proofs.Common.{◌∷◌, ◌++◌, length, map, slice_get, slice_set, refl, sym, ap, ◌∙◌}
use Rattle.std.proofs.Common.{subst, arith}
use Rattle.std.specs.Prelude.{option_map, if◌then◌else◌, nat_lt, Result, Err}
use Rattle.std.proofs.lemmas.List.{length-map, length-set, map-set}
use Rattle.std.proofs.Math.Seq.{map-set_same}
use Rattle.std.proofs.lemmas.Option.{slice_get-map, slice_get_within, same_Some}
use Rattle.std.proofs.lemmas.Option.{get_or_from_slice_get}
use Rattle.peg_name.specs.Name.{Rack, line_most}
use Rattle.peg_event.specs.declared.Event.{Event}
use Rattle.peg_event.specs.declared.Line.{Line}
use Rattle.peg_model.specs.World.{World, step}
use Rattle.peg_meaning.specs.Racks as book
use Rattle.peg_meaning.specs.Racks.{RacksEvent, rack_of, event_in, racks_step, longest}
use Rattle.peg_world.specs.Running as running
use Rattle.peg_world.specs.Running.{Running, Halted, is_past}
use Rattle.peg_world.specs.declared.Halt.{Halt}
use Rattle.peg_world.proofs.Each.{set_there}
use Rattle.peg_racks.specs.Worlds.{config_of, world_of, worlds_of, taking, longest_of, line_in}
use Rattle.peg_racks.specs.Worlds.{AreKept, Steps, Halts, IsPastIn, IsPastAt, IsOverIn, IsOverAt}

-- ---- lists

pub set_other :
    {A : Type 0} (xs : List A) (i j : ℕ) (y : A) → (j ≡ i → ⊥)
    → slice_get (slice_set xs i y) j ≡ slice_get xs j
set_other [] i j y other = refl
set_other (x ∷ xs) zero zero y other = absurd (other refl)
set_other (x ∷ xs) zero (suc j) y other = refl
set_other (x ∷ xs) (suc i) zero y other = refl
set_other (x ∷ xs) (suc i) (suc j) y other =
    set_other xs i j y (λ same. other (omega (arith, same)))

pub get_pushed :
    {A : Type 0} (xs : List A) (y z : A) (i : ℕ) → slice_get (xs ++ y ∷ []) i ≡ Some z
    → (slice_get xs i ≡ Some z) ⊎ ((i ≡ length xs) × (y ≡ z))
get_pushed [] y z zero e = inr (refl, same_Some y z e)
get_pushed [] y z (suc i) e = absurd cc
get_pushed (x ∷ xs) y z zero e = inl e
get_pushed (x ∷ xs) y z (suc i) e = further (get_pushed xs y z i e)
  where
    further :
        (slice_get xs i ≡ Some z) ⊎ ((i ≡ length xs) × (y ≡ z))
        → (slice_get xs i ≡ Some z) ⊎ ((suc i ≡ suc (length xs)) × (y ≡ z))
    further (inl e) = inl e
    further (inr e) = inr (ap suc e.0, e.1)

pub get_within :
    {A : Type 0} (xs : List A) (i : ℕ) → i < length xs → (x : A) × (slice_get xs i ≡ Some x)
get_within [] i within = absurd (omega (arith, within))
get_within (x ∷ xs) zero within = (x, refl)
get_within (x ∷ xs) (suc i) within = get_within xs i (omega (arith, within))

-- ---- a step

pub worlds_count : (rs : List Running) (e : RacksEvent) → rack_of (length (worlds_of rs)) e ≡ taking rs e
worlds_count rs e = ap (λ n. rack_of n e) (length-map rs world_of)

pub world_at :
    (rs : List Running) (i : ℕ) (r : Running) → slice_get rs i ≡ Some r
    → slice_get (worlds_of rs) i ≡ Some r.world
world_at rs i r at = slice_get-map world_of rs i ∙ ap (option_map world_of) at

-- the racks behind an event, before the line
pub at_world :
    (rs : List Running) (place : ℕ) (e : RacksEvent) (r : Running)
    → slice_get rs (taking rs e) ≡ Some r
    → racks_step (worlds_of rs) place e
    ≡ (
      slice_set (worlds_of rs) (taking rs e) (step r.world place (event_in e)).0,
      Some (step r.world place (event_in e)).1,
    )
at_world rs place e r at =
    let ws = worlds_of rs in
    let f : ℕ → List World × Option Line =
    λ i. book.stepped (slice_get ws i) ws i place (event_in e) in
    ap f (worlds_count rs e)
    ∙ ap (λ (o : Option World). book.stepped o ws (taking rs e) place (event_in e))
    (world_at rs (taking rs e) r at)

pub steps_book :
    (rs : List Running) (place : ℕ) (e : RacksEvent) (r a : Running)
    → slice_get rs (taking rs e) ≡ Some r → a ≡ running.stepped r place (event_in e)
    → racks_step (worlds_of rs) place e
    ≡ (
      worlds_of (slice_set rs (taking rs e) a),
      line_in (slice_set rs (taking rs e) a) (taking rs e),
    )
steps_book rs place e r a at did =
    let i = taking rs e in
    let ws = worlds_of rs in
    let there = set_there rs i a (slice_get_within rs i r at) in
    at_world rs place e r at
    ∙ ap (λ (b : Running). (slice_set ws i b.world, Some b.line)) (sym did)
    ∙ ap (λ (vs : List World). (vs, Some a.line)) (sym (map-set world_of rs i a))
    ∙ ap (λ (o : Option Running). (
      worlds_of (slice_set rs i a),
      option_map (λ (b : Running). b.line) o,
    )) (sym there)

-- ---- a call of the world that takes an event

-- where it stands
pub taken_at :
    (old items : List Running) (e : RacksEvent) (n rack i : ℕ) (r : Running) → items ≡ old
    → n ≡ length old → rack ≡ rack_of n e → i ≡ rack → taking old e < length old
    → (i < length items → slice_get items i ≡ Some r)
    → (i ≡ taking old e) × (slice_get old (taking old e) ≡ Some r)
taken_at old items e n rack i r view count is_rack is below read =
    let index : i ≡ taking old e = is ∙ is_rack ∙ ap (λ m. rack_of m e) count in
    let within : i < length items = omega (arith, index, below, ap length view) in (
      index,
      ap (slice_get old) (sym index) ∙ ap (λ (xs : List Running). slice_get xs i) (sym view)
          ∙ read within,
    )

module _ (old items : List Running) (view : items ≡ old) (place : ℕ) (e : RacksEvent) (i : ℕ)
    (r a : Running) (k : Event) (told : k ≡ event_in e)
    (found : (i ≡ taking old e) × (slice_get old (taking old e) ≡ Some r)) where
  same : slice_set items i a ≡ slice_set old (taking old e) a
  same =
      ap (λ (xs : List Running). slice_set xs i a) view ∙ ap (λ j. slice_set old j a) found.0

  did : a ≡ running.stepped r place k → a ≡ running.stepped r place (event_in e)
  did is = is ∙ ap (running.stepped r place) told

  pub called_book :
      a ≡ running.stepped r place k
      → racks_step (worlds_of old) place e
      ≡ (worlds_of (slice_set items i a), line_in (slice_set items i a) (taking old e))
  called_book is =
      steps_book old place e r a found.1 (did is)
      ∙ ap (λ (xs : List Running). (worlds_of xs, line_in xs (taking old e))) (sym same)

  pub called_steps :
      a ≡ running.stepped r place k → a.world.place ≡ place → is_past r place k ≡ false
      → Steps old (slice_set items i a) place e
  called_steps is placed within =
      record {
        before = r;
        after = a;
        at = found.1;
        is = same;
        did = did is;
        placed = placed;
        within = ap (is_past r place) (sym told) ∙ within;
      }

  pub called_halts : (halt : Halt) → Halted halt r a → Halts halt old (slice_set items i a) (taking old e)
  called_halts halt halted =
      record { before = r; after = a; at = found.1; is = same; halted = halted }

  pub called_past : is_past r place k ≡ true → IsPastAt old place e
  called_past past =
      subst (λ (o : Option Running). IsPastIn o place (event_in e)) (sym found.1)
      (ap (is_past r place) (sym told) ∙ past)

  pub called_over : IsOverAt old (taking old e) → r.is_over ≡ true
  called_over over = subst (λ (o : Option Running). IsOverIn o) found.1 over

  pub called_others :
      (other : ℕ) → (other ≡ taking old e → ⊥)
      → slice_get (slice_set items i a) other ≡ slice_get old other
  called_others other differs =
      ap (λ (xs : List Running). slice_get xs other) same
      ∙ set_other old (taking old e) other a differs

  pub called_kept :
      (configs : List Rack) → AreKept configs items → a.world.rack ≡ r.world.rack
      → AreKept configs (slice_set items i a)
  called_kept configs kept rack =
      let at : slice_get items i ≡ Some r =
      ap (λ (xs : List Running). slice_get xs i) view ∙ ap (slice_get old) found.0 ∙ found.1 in
      record {
        configs_are =
            kept.configs_are
            ∙ sym (map-set_same config_of items i a r
            (rack ∙ ap config_of (sym (get_or_from_slice_get items i r r at))));
        few = omega (arith, kept.few, length-set items i a);
      }

-- the same halt, as another answer
pub halt_as :
    {A B : Type 0} (h k : Halt) → ◌≡◌ {A = Result A Halt} (Err h) (Err k)
    → ◌≡◌ {A = Result B Halt} (Err h) (Err k)
halt_as h k is = let same : h ≡ k = cc is in ap (λ (x : Halt). Err x) same

-- ---- the longest line

pub longest_line :
    (rs : List Running) (configs : List Rack) → configs ≡ map config_of rs
    → longest_of configs ≡ longest (worlds_of rs)
longest_line rs configs is = ap longest_of is ∙ one_by_one rs
  where
    one_by_one : (rs : List Running) → longest_of (map config_of rs) ≡ longest (worlds_of rs)
    one_by_one [] = refl
    one_by_one (r ∷ rs) =
        ap (λ most. if nat_lt most (line_most r.world.rack.format)
        then line_most r.world.rack.format else most) (one_by_one rs)
