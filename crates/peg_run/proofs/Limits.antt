-- Where a run passes a limit.
use Rattle.std.proofs.Common.{◌≡◌, ◌≤◌, ◌+◌, ◌||◌, ℕ, true, false, List, [], ◌∷◌, ◌++◌, length}
use Rattle.std.proofs.Common.{sym, subst, arith}
use Rattle.std.specs.Prelude.{nat_lt}
use Rattle.std.proofs.lemmas.Bool.Decides.{nat_tests}
use Rattle.peg_name.specs.Name.{Rack}
use Rattle.peg_event.specs.declared.Event.{Event}
use Rattle.peg_model.specs.World.{World, step}
use Rattle.peg_meaning.specs.ReplayWord.{is_past}
use Rattle.peg_run.specs.Front.{Lines, ran, IsWithin}
use Rattle.peg_run.specs.Forced.{reached}
use Rattle.peg_run.proofs.Runs.{ran_more, length_more}

within_by :
    (n p : ℕ) → (nat_lt 1000000 (n + 1) || nat_lt 200000 p) ≡ false
    → (n + 1 ≤ 1000000) × (p ≤ 200000)
within_by n p off = (grind (arith, nat_tests), grind (arith, nat_tests))

past_by :
    (n p : ℕ) → (nat_lt 1000000 (n + 1) || nat_lt 200000 p) ≡ true → n + 1 ≤ 1000000
    → p ≤ 200000 → ⊥
past_by n p on few small = grind (arith, nat_tests)

pub within_more :
    (rack : Rack) (keys : List (List ℕ)) (events : List Event) (e : Event)
    → is_past (reached rack keys events) e ≡ false
    → IsWithin (Lines rack keys (events ++ e ∷ []))
within_more rack keys events e off =
    let now = within_by (length events)
    (length (step (ran rack keys events).0 (length events + 2) e).0.packets) off in (
      subst (λ n. n ≤ 1000000) (sym (length_more events e)) now.0,
      subst (λ (w : World). length w.packets ≤ 200000) (sym (ran_more rack keys events e)) now.1,
    )

pub past_more :
    (rack : Rack) (keys : List (List ℕ)) (events : List Event) (e : Event)
    → is_past (reached rack keys events) e ≡ true
    → IsWithin (Lines rack keys (events ++ e ∷ [])) → ⊥
past_more rack keys events e on within =
    past_by (length events)
    (length (step (ran rack keys events).0 (length events + 2) e).0.packets) on
    (subst (λ n. n ≤ 1000000) (length_more events e) within.0)
    (subst (λ (w : World). length w.packets ≤ 200000) (ran_more rack keys events e) within.1)
