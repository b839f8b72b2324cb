-- Each rack runs as if it were alone.
use Rattle.std.proofs.Common.{◌≡◌, ◌≢◌, ◌<◌, ℕ, Bool, true, false, List, [], ◌∷◌, length, Option}
use Rattle.std.proofs.Common.{Some, None, refl, sym, ap, subst, ◌∙◌, if◌then◌else◌, inl, inr}
use Rattle.std.specs.Prelude.{◌==◌, slice_get, slice_set}
use Rattle.std.proofs.lemmas.Bool.Decides.{eqb_tells}
use Rattle.std.proofs.lemmas.Option.{slice_get_within, slice_get_read, get_or_from_slice_get}
use Rattle.std.proofs.lemmas.List.{get_or-set_same, get_or-set_other, length-set}
use Rattle.peg_event.specs.declared.Event.{Event}
use Rattle.peg_event.specs.declared.Line.{Line}
use Rattle.peg_model.specs.World.{World, step}
use Rattle.peg_meaning.specs.Racks.{rack_of, event_in, stepped}
use Rattle.peg_word_law.specs.Isolated.{Placed, with_line, run_racks, own_events, own_lines}
use Rattle.peg_word_law.specs.Isolated.{IsIsolated}
use Rattle.peg_law.specs.Places.{run_at}

set_there :
    (ws : List World) (i : ℕ) (a : World) → i < length ws → slice_get (slice_set ws i a) i ≡ Some a
set_there ws i a lt =
    slice_get_read (slice_set ws i a) (length ws) i a (sym (length-set ws i a)) lt
    (sym (get_or-set_same ws i a a lt))

set_elsewhere :
    (ws : List World) (i j : ℕ) (a w : World) → j ≢ i → slice_get ws j ≡ Some w
    → slice_get (slice_set ws i a) j ≡ Some w
set_elsewhere ws i j a w other at =
    slice_get_read (slice_set ws i a) (length ws) j w (sym (length-set ws i a))
    (slice_get_within ws j w at)
    (sym (get_or-set_other ws i j a w other ∙ get_or_from_slice_get ws j w w at))

-- the run behind one step
abbrev run_behind :
    List World × Option Line → ℕ → ℕ → Placed → List World × List (ℕ × ℕ × Line)
run_behind now r place placed =
    let rest = run_racks now.0 placed in (rest.0, with_line now.1 r place rest.1)

abbrev own_if : Bool → ℕ → Event → List (ℕ × Event) → List (ℕ × Event)
own_if b place e events = if b then (place, e) ∷ events else events

-- a run of all racks, and one of a rack alone
abbrev Agree : List World × List (ℕ × ℕ × Line) → List (ℕ × Event) → ℕ → World → Type 0
Agree all own rack w =
    (slice_get all.0 rack ≡ Some (run_at w own).0) × (own_lines rack all.1 ≡ (run_at w own).1)

own_line :
    (r rack place : ℕ) (line : Line) (lines : List (ℕ × ℕ × Line)) → (r == rack) ≡ true
    → own_lines rack ((r, place, line) ∷ lines) ≡ (place, line) ∷ own_lines rack lines
own_line r rack place line lines same =
    ap (λ (b : Bool). if b then (place, line) ∷ own_lines rack lines else own_lines rack lines) same

other_line :
    (r rack place : ℕ) (line : Line) (lines : List (ℕ × ℕ × Line)) → (r == rack) ≡ false
    → own_lines rack ((r, place, line) ∷ lines) ≡ own_lines rack lines
other_line r rack place line lines other =
    ap (λ (b : Bool). if b then (place, line) ∷ own_lines rack lines else own_lines rack lines)
    other

-- what holds of the events behind a step
abbrev AgreeBehind : Placed → ℕ → Type 0
AgreeBehind placed rack =
    (worlds : List World) (w : World) → slice_get worlds rack ≡ Some w
    → Agree (run_racks worlds placed) (own_events rack (length worlds) placed) rack w

own_step :
    (worlds : List World) (placed : Placed) (rack place : ℕ) (w : World) (e : Event)
    → (rack == rack) ≡ true → slice_get worlds rack ≡ Some w → AgreeBehind placed rack
    → Agree (run_behind (stepped (Some w) worlds rack place e) rack place placed)
    ((place, e) ∷ own_events rack (length worlds) placed) rack w
unfolding run_at
own_step worlds placed rack place w e same at behind =
    let now = step w place e in
    let after = slice_set worlds rack now.0 in
    let there = set_there worlds rack now.0 (slice_get_within worlds rack w at) in
    let agree : Agree (run_racks after placed) (own_events rack (length worlds) placed) rack now.0 =
    subst
    (λ n. Agree (run_racks after placed) (own_events rack n placed) rack now.0)
    (length-set worlds rack now.0)
    (behind after now.0 there) in (
      agree.0,
      own_line rack rack place now.1 (run_racks after placed).1 same
          ∙ ap (λ (lines : List (ℕ × Line)). (place, now.1) ∷ lines) agree.1,
    )

other_step :
    (o : Option World) (worlds : List World) (placed : Placed) (r rack place : ℕ) (w : World)
    (e : Event) → (r == rack) ≡ false → r ≢ rack → slice_get worlds rack ≡ Some w
    → AgreeBehind placed rack
    → Agree (run_behind (stepped o worlds r place e) r place placed)
    (own_events rack (length worlds) placed) rack w
other_step None worlds placed r rack place w e other differs at behind = behind worlds w at
other_step (Some v) worlds placed r rack place w e other differs at behind =
    let now = step v place e in
    let after = slice_set worlds r now.0 in
    let there = set_elsewhere worlds r rack now.0 w (λ same. differs (sym same)) at in
    let agree : Agree (run_racks after placed) (own_events rack (length worlds) placed) rack w =
    subst
    (λ n. Agree (run_racks after placed) (own_events rack n placed) rack w)
    (length-set worlds r now.0)
    (behind after w there) in (
      agree.0,
      other_line r rack place now.1 (run_racks after placed).1 other ∙ agree.1,
    )

-- the rack that takes the event is this one, or another
any_step :
    (worlds : List World) (placed : Placed) (r rack place : ℕ) (w : World) (e : Event)
    → slice_get worlds rack ≡ Some w → AgreeBehind placed rack
    → Agree (run_behind (stepped (slice_get worlds r) worlds r place e) r place placed)
    (own_if (r == rack) place e (own_events rack (length worlds) placed)) rack w
any_step worlds placed r rack place w e at behind =
    elim (eqb_tells r rack) [
      | inl h ↦
          subst
          (λ (b : Bool).
          Agree (run_behind (stepped (slice_get worlds r) worlds r place e) r place placed)
          (own_if b place e (own_events rack (length worlds) placed)) rack w)
          (sym h.0)
          (subst
          (λ q. Agree (run_behind (stepped (slice_get worlds q) worlds q place e) q place placed)
          ((place, e) ∷ own_events rack (length worlds) placed) rack w)
          (sym h.1)
          (subst
          (λ o. Agree (run_behind (stepped o worlds rack place e) rack place placed)
          ((place, e) ∷ own_events rack (length worlds) placed) rack w)
          (sym at)
          (own_step worlds placed rack place w e (subst (λ q. (q == rack) ≡ true) h.1 h.0) at
          behind)))
      | inr h ↦
          subst
          (λ (b : Bool).
          Agree (run_behind (stepped (slice_get worlds r) worlds r place e) r place placed)
          (own_if b place e (own_events rack (length worlds) placed)) rack w)
          (sym h.0)
          (other_step (slice_get worlds r) worlds placed r rack place w e h.0 h.1 at behind)
    ]

agrees :
    (placed : Placed) (rack : ℕ) (worlds : List World) (w : World) → slice_get worlds rack ≡ Some w
    → Agree (run_racks worlds placed) (own_events rack (length worlds) placed) rack w
unfolding run_racks run_at
agrees [] rack worlds w at = (at, refl)
agrees ((place, e) ∷ placed) rack worlds w at =
    any_step worlds placed (rack_of (length worlds) e) rack place w (event_in e) at
    (agrees placed rack)

pub isolated :
    (worlds : List World) (placed : Placed) (rack : ℕ) (w : World)
    → slice_get worlds rack ≡ Some w → IsIsolated worlds placed rack w
isolated worlds placed rack w at =
    let agree = agrees placed rack worlds w at in record { world = agree.0; lines = agree.1 }
