-- Which parts are held once these have come, one after the other.
use Rattle.std.proofs.Common.{◌≡◌, ℕ, zero, suc, ◌<◌, true, false, ◌⊎◌, inl, inr}
use Rattle.std.proofs.Common.{Some, None, List, [], ◌∷◌, ◌++◌, length, get_or}
use Rattle.std.proofs.Common.{refl, ap, sym, ◌∙◌, subst, arith}
use Rattle.std.specs.Option.{is_some}
use Rattle.std.specs.List.{Contains}
use Rattle.std.proofs.lemmas.Bool.{cases_eq, cond_both, false≢true}
use Rattle.std.proofs.lemmas.List.{get_or-set_other, get_or-set_same}
use Rattle.peg_model.specs.Handover.{Collected, with_part, has_part}
use Rattle.peg_model.specs.Handover.{part_of}
use Rattle.peg_grammar.specs.Collecting.{after_part, after_parts}
use Rattle.peg_grammar.proofs.Collect.{after_next, taken_epoch}
use Rattle.peg_grammar.proofs.Collect.{taken}
use Rattle.std.proofs.lemmas.List.{length-set}

put_has :
    (d : Collected) (i : ℕ) (part : List ℕ) → i < length d.parts
    → has_part (with_part d i part) i ≡ true
put_has d i part within = ap is_some (get_or-set_same d.parts i (Some part) None within)

put_keeps :
    (d : Collected) (x i : ℕ) (part : List ℕ) → has_part d i ≡ true → has_part d x ≡ false
    → has_part (with_part d x part) i ≡ true
put_keeps d x i part has free =
    ap is_some
    (get_or-set_other d.parts x i (Some part) None
    (λ same. false≢true (sym free ∙ ap (has_part d) (sym same) ∙ has)))
    ∙ has

put_only :
    (d : Collected) (x i : ℕ) (part : List ℕ) → (i ≡ x) ⊎ (i ≡ x → ⊥)
    → has_part (with_part d x part) i ≡ true → (has_part d i ≡ true) ⊎ (i ≡ x)
put_only d x i part (inl same) has = inr same
put_only d x i part (inr other) has =
    inl (sym (ap is_some (get_or-set_other d.parts x i (Some part) None other)) ∙ has)

module _ (sealed : List ℕ) where
  taken_keeps :
      (d : Collected) (x i : ℕ) → has_part d i ≡ true → has_part (taken sealed d x) i ≡ true
  taken_keeps d x i has =
      cond_both (has_part d x) d (with_part d x (part_of sealed x)) (λ now. has_part now i ≡ true)
      (λ held. has) (λ free. put_keeps d x i (part_of sealed x) has free)

  pub taken_has :
      (d : Collected) (x : ℕ) → x < length d.parts → has_part (taken sealed d x) x ≡ true
  taken_has d x within =
      cond_both (has_part d x) d (with_part d x (part_of sealed x)) (λ now. has_part now x ≡ true)
      (λ held. held) (λ free. put_has d x (part_of sealed x) within)

  pub taken_only :
      (d : Collected) (x i : ℕ) → has_part (taken sealed d x) i ≡ true
      → (has_part d i ≡ true) ⊎ (i ≡ x)
  taken_only d x i =
      cond_both (has_part d x) d (with_part d x (part_of sealed x))
      (λ now. has_part now i ≡ true → (has_part d i ≡ true) ⊎ (i ≡ x)) (λ held has. inl has)
      (λ free has. put_only d x i (part_of sealed x) (cases_eq i x) has)

  taken_places : (d : Collected) (x : ℕ) → length (taken sealed d x).parts ≡ length d.parts
  taken_places d x =
      cond_both (has_part d x) d (with_part d x (part_of sealed x))
      (λ now. length now.parts ≡ length d.parts) (λ held. refl)
      (λ free. length-set d.parts x (Some (part_of sealed x)))

  module _ (epoch : ℕ) where
    after_epoch :
        (d : Collected) (x : ℕ) → d.epoch ≡ epoch → (after_part epoch sealed d x).epoch ≡ epoch
    after_epoch d x same =
        ap (λ (k : Collected). k.epoch) (after_next epoch sealed d x same)
        ∙ taken_epoch sealed d x
        ∙ same

    pub epoch_kept :
        (d : Collected) (xs : List ℕ) → d.epoch ≡ epoch
        → (after_parts epoch sealed d xs).epoch ≡ epoch
    epoch_kept d [] same = same
    epoch_kept d (x ∷ xs) same =
        epoch_kept (after_part epoch sealed d x) xs (after_epoch d x same)

    pub keeps :
        (d : Collected) (xs : List ℕ) (i : ℕ) → d.epoch ≡ epoch → has_part d i ≡ true
        → has_part (after_parts epoch sealed d xs) i ≡ true
    keeps d [] i same has = has
    keeps d (x ∷ xs) i same has =
        keeps (after_part epoch sealed d x) xs i (after_epoch d x same)
        (ap (λ k. has_part k i) (after_next epoch sealed d x same) ∙ taken_keeps d x i has)

    pub first_or_later :
        (x i k : ℕ) (xs : List ℕ) → k < suc (length xs) → get_or (x ∷ xs) k i ≡ i
        → (x ≡ i) ⊎ Contains xs i
    first_or_later x i zero xs within at = inl at
    first_or_later x i (suc k) xs within at = inr (k, omega arith, at)

    pub comes :
        (d : Collected) (xs : List ℕ) (i : ℕ) → d.epoch ≡ epoch → i < length d.parts
        → Contains xs i → has_part (after_parts epoch sealed d xs) i ≡ true
    comes d [] i same within (k, inside, at) = absurd (omega arith)
    comes d (x ∷ xs) i same within (k, inside, at) =
        let next = after_next epoch sealed d x same in
        let more : Collected = after_part epoch sealed d x in
        let now : more.epoch ≡ epoch = after_epoch d x same in
        let places : i < length more.parts =
        omega (arith, within, ap (λ (k : Collected). length k.parts) next, taken_places d x)
        in
        elim (first_or_later x i k xs inside at) [
          | inl first ↦
              keeps more xs i now
              (ap (λ k. has_part k i) next
              ∙ subst (λ y. has_part (taken sealed d y) i ≡ true) (sym first)
              (taken_has d i within))
          | inr later ↦ comes more xs i now places later
        ]

    pub later : (x i : ℕ) (xs : List ℕ) → Contains xs i → Contains (x ∷ xs) i
    later x i xs (k, within, at) = (suc k, omega arith, at)

    pub only :
        (d : Collected) (xs : List ℕ) (i : ℕ) → d.epoch ≡ epoch
        → has_part (after_parts epoch sealed d xs) i ≡ true
        → (has_part d i ≡ true) ⊎ Contains xs i
    only d [] i same has = inl has
    only d (x ∷ xs) i same has =
        elim (only (after_part epoch sealed d x) xs i (after_epoch d x same) has) [
          | inl before ↦
              elim (taken_only d x i
              (sym (ap (λ k. has_part k i) (after_next epoch sealed d x same)) ∙ before)) [
                | inl held ↦ inl held
                | inr first ↦ inr (0, omega arith, sym first)
              ]
          | inr come ↦ inr (later x i xs come)
        ]

    pub snoc :
        (d : Collected) (xs : List ℕ) (x : ℕ)
        → after_parts epoch sealed d (xs ++ x ∷ [])
        ≡ after_part epoch sealed (after_parts epoch sealed d xs) x
    snoc d [] x = refl
    snoc d (y ∷ xs) x = snoc (after_part epoch sealed d y) xs x
