-- What the table of events has at each number below 32.
use Rattle.std.proofs.Common.{◌≡◌, ◌<◌, ◌≤◌, ◌+◌, ◌%◌, ℕ, zero, suc, Bool, true, false, ◌⊎◌, inl}
use Rattle.std.proofs.Common.{inr, refl, subst, ap, sym, ◌∙◌, arith}
use Rattle.std.specs.Prelude.{nat_eq, slice_index_or}
use Rattle.std.proofs.lemmas.Bool.Decides.{nat_tests}
use Rattle.peg_event.specs.declared.Event.{Event}
use Rattle.peg_event.specs.declared.Event.TheVariants as event
use Rattle.peg_meaning.specs.Workload.{of_client, of_key, of_client_and_key, plainly, writes, junks}
use Rattle.peg_meaning.specs.Workload.{copies, handovers, delivers, table, drawn}

-- it holds of each of n numbers from `low` on
abbrev AllFrom : (ℕ → Type 0) → ℕ → ℕ → Type 0
AllFrom P low zero = Unit {0}
AllFrom P low (suc n) = P low × AllFrom P (low + 1) n

first_or_later : (low d : ℕ) → low ≤ d → (low ≡ d) ⊎ (low + 1 ≤ d)
first_or_later low d le = by_test (nat_eq low d) refl
  where
    by_test : (b : Bool) → nat_eq low d ≡ b → (low ≡ d) ⊎ (low + 1 ≤ d)
    by_test true e = let same : low ≡ d = grind (arith, nat_tests) in inl same
    by_test false e = let more : low + 1 ≤ d = grind (arith, nat_tests) in inr more

of_all : (P : ℕ → Type 0) (low n d : ℕ) → AllFrom P low n → low ≤ d → d < low + n → P d
of_all P low zero d all le lt = absurd (omega arith)
of_all P low (suc n) d all le lt =
    elim (first_or_later low d le) [
      | inl e ↦ subst P e all.0
      | inr later ↦ of_all P (low + 1) n d all.1 later (omega arith)
    ]

-- the number that is drawn first
module _ {G : Type 0} (draw : G → ℕ × G) (number sent : ℕ) (g : G) (d : ℕ)
    (is : d ≡ (draw g).0 % 32) where
  abbrev IsAt : (G → Event × G) → ℕ → Type 0
  IsAt X d = slice_index_or (table draw number sent) d (plainly draw event.Retry) ≡ X

  row :
      (X : G → Event × G) (low n : ℕ) → AllFrom (IsAt X) low n → low ≤ d → d < low + n
      → drawn draw number sent g ≡ X (draw g).1
  unfolding drawn
  row X low n all le lt =
      ap (λ k. slice_index_or (table draw number sent) k (plainly draw event.Retry) (draw g).1)
      (sym is)
      ∙ ap (λ (f : G → Event × G). f (draw g).1) (of_all (IsAt X) low n d all le lt)

  -- ---- row by row

  pub reads :
      d < 4 → drawn draw number sent g ≡ of_client_and_key draw event.Read (draw g).1
  reads lt = row (of_client_and_key draw event.Read) 0 4 (refl, (refl, (refl, (refl, tt)))) (omega arith) (omega arith)

  pub is_write :
      4 ≤ d → d < 7 → drawn draw number sent g ≡ writes draw number (draw g).1
  is_write le lt = row (writes draw number) 4 3 (refl, (refl, (refl, tt))) (omega arith) (omega arith)

  pub resends : d ≡ 7 → drawn draw number sent g ≡ of_client draw event.Resend (draw g).1
  resends at = row (of_client draw event.Resend) 7 1 (refl, tt) (omega arith) (omega arith)

  pub gives_up : d ≡ 8 → drawn draw number sent g ≡ of_client draw event.GiveUp (draw g).1
  gives_up at = row (of_client draw event.GiveUp) 8 1 (refl, tt) (omega arith) (omega arith)

  pub is_junk : d ≡ 9 → drawn draw number sent g ≡ junks draw (draw g).1
  is_junk at = row (junks draw) 9 1 (refl, tt) (omega arith) (omega arith)

  pub promotes : d ≡ 10 → drawn draw number sent g ≡ of_key draw event.Promote (draw g).1
  promotes at = row (of_key draw event.Promote) 10 1 (refl, tt) (omega arith) (omega arith)

  pub demotes : d ≡ 11 → drawn draw number sent g ≡ of_key draw event.Demote (draw g).1
  demotes at = row (of_key draw event.Demote) 11 1 (refl, tt) (omega arith) (omega arith)

  pub is_copy : d ≡ 12 → drawn draw number sent g ≡ copies draw (draw g).1
  is_copy at = row (copies draw) 12 1 (refl, tt) (omega arith) (omega arith)

  pub is_handover : d ≡ 13 → drawn draw number sent g ≡ handovers draw (draw g).1
  is_handover at = row (handovers draw) 13 1 (refl, tt) (omega arith) (omega arith)

  pub surveys : d ≡ 14 → drawn draw number sent g ≡ plainly draw event.Survey (draw g).1
  surveys at = row (plainly draw event.Survey) 14 1 (refl, tt) (omega arith) (omega arith)

  pub plans : d ≡ 15 → drawn draw number sent g ≡ plainly draw (event.Plan 8 2) (draw g).1
  plans at = row (plainly draw (event.Plan 8 2)) 15 1 (refl, tt) (omega arith) (omega arith)

  pub clears : d ≡ 16 → drawn draw number sent g ≡ plainly draw event.Clear (draw g).1
  clears at = row (plainly draw event.Clear) 16 1 (refl, tt) (omega arith) (omega arith)

  pub retries : d ≡ 17 → drawn draw number sent g ≡ plainly draw event.Retry (draw g).1
  retries at = row (plainly draw event.Retry) 17 1 (refl, tt) (omega arith) (omega arith)

  pub is_delivery :
      18 ≤ d → d < 32 → drawn draw number sent g ≡ delivers draw sent (draw g).1
  is_delivery le lt = row (delivers draw sent) 18 14 (refl, (refl, (refl, (refl, (refl, (refl, (refl, (refl, (refl, (refl, (refl, (refl, (refl, (refl, tt)))))))))))))) (omega arith) (omega arith)

  -- ---- what comes of the row

  pub event_by :
      (X : G → Event × G) (h : G) (e : Event) → drawn draw number sent g ≡ X (draw g).1
      → h ≡ (draw g).1 → e ≡ (X h).0 → e ≡ (drawn draw number sent g).0
  event_by X h e at after found =
      found ∙ ap (λ k. (X k).0) after ∙ ap (λ (p : Event × G). p.0) (sym at)

  pub after_by :
      (X : G → Event × G) (h new : G) → drawn draw number sent g ≡ X (draw g).1
      → h ≡ (draw g).1 → new ≡ (X h).1 → new ≡ (drawn draw number sent g).1
  after_by X h new at after found =
      found ∙ ap (λ k. (X k).1) after ∙ ap (λ (p : Event × G). p.1) (sym at)
