-- The parts of a sealed state in any order, with earlier ones between them.
use Rattle.std.proofs.Common.{◌≡◌, ℕ, ◌<◌, true, false, ◌⊎◌, inl, inr}
use Rattle.std.proofs.Common.{Option, Some, None, List, [], ◌∷◌, ◌++◌, length, replicate, ◌↔◌}
use Rattle.std.proofs.Common.{refl, ap, sym, ◌∙◌, subst, arith, append_assoc, append-nil}
use Rattle.std.specs.List.{Contains, AllByRecursion}
use Rattle.std.proofs.lemmas.Bool.{cases_lt, cases_Bool, cond-true, cond-false, false≢true}
use Rattle.std.proofs.lemmas.Bool.{false_from_ne_true}
use Rattle.std.proofs.lemmas.List.Elements.{Contains-append_left}
use Rattle.peg_name.specs.Name.{Rack}
use Rattle.peg_model.specs.Handover.{State, Collected, none_collected, begun, with_part, has_part}
use Rattle.peg_model.specs.Handover.{part_of, parts, held_count, is_whole, bytes_of, state_of}
use Rattle.peg_grammar.specs.Collecting.{HoldsParts, after_part, after_parts}
use Rattle.peg_grammar.proofs.Collect.{after_first, taken_epoch, held_in_any_order}
use Rattle.peg_grammar.proofs.Collect.{whole_when_all, read_in_any_order}
use Rattle.peg_grammar.proofs.Collect.{taken}
use Rattle.peg_parts.specs.declared.Taken.TheVariants.{Old, Repeated, More, Whole}
use Rattle.peg_parts.specs.Taking.{Take, leaves, completes, adds, take_part}
use Rattle.peg_parts.specs.Arrivals.{Arrival, Sent, Other, came, takes_arrival, collected_after}
use Rattle.peg_parts.specs.Arrivals.{IsInPlace, IsHandedOver, IsCollecting}
use Rattle.peg_parts.proofs.Taking.{begun_same, begun_anew, takes_past, takes_below, takes_again}
use Rattle.peg_parts.proofs.Taking.{takes_added, fresh_free}
use Rattle.std.proofs.lemmas.List.{length-replicate}
use Rattle.peg_parts.proofs.Coming.{epoch_kept, keeps, first_or_later, comes, later}
use Rattle.peg_parts.proofs.Coming.{only, snoc, taken_has, taken_only}

-- ---- what has come, and what it does

module _ (rack : Rack) (epoch : ℕ) (sealed : List ℕ) (s : State) (c : Collected)
    (h : IsHandedOver rack epoch sealed s c)
  where
    abbrev count : ℕ
    count = length (parts sealed)

    -- once the first of the parts has come
    abbrev after : ℕ → List ℕ → Collected
    after first order = after_parts epoch sealed c (first ∷ order)

    abbrev begun_with : ℕ → Collected
    begun_with first = after_part epoch sealed c first

    begun_is :
        (first : ℕ)
        → begun_with first
        ≡ taken sealed (record { epoch = epoch; parts = replicate count None }) first
    begun_is first = after_first epoch sealed c first h.after_collected

    begun_epoch : (first : ℕ) → (begun_with first).epoch ≡ epoch
    begun_epoch first =
        ap (λ (k : Collected). k.epoch) (begun_is first)
        ∙ taken_epoch sealed (record { epoch = epoch; parts = replicate count None }) first

    after_is : (first : ℕ) (order : List ℕ) → (after first order).epoch ≡ epoch
    after_is first order = epoch_kept sealed epoch (begun_with first) order (begun_epoch first)

    holds : (first : ℕ) (order : List ℕ) → HoldsParts sealed (after first order)
    holds first order =
        subst (HoldsParts sealed)
        (begun_same (after first order) epoch count (omega (arith, after_is first order)))
        (held_in_any_order epoch sealed c (first ∷ order) h.after_collected)

    begun_places : (first : ℕ) → length (begun_with first).parts ≡ count
    begun_places first = (holds first []).places

    has_come :
        (first : ℕ) (order : List ℕ) (i : ℕ) → i < count → Contains (first ∷ order) i
        → has_part (after first order) i ≡ true
    has_come first order i within (k, inside, at) =
        let fresh : Collected = record { epoch = epoch; parts = replicate count None } in
        let place : i < length (begun_with first).parts = omega (arith, within, begun_places first) in
        elim (first_or_later sealed epoch first i k order inside at) [
          | inl same ↦
              keeps sealed epoch (begun_with first) order i (begun_epoch first)
              (ap (λ k. has_part k i) (begun_is first)
              ∙ subst (λ y. has_part (taken sealed fresh y) i ≡ true) (sym same)
              (taken_has sealed fresh i
              (omega (arith, within, length-replicate {A = Option (List ℕ)} count None))))
          | inr come ↦ comes sealed epoch (begun_with first) order i (begun_epoch first) place come
        ]

    has_only :
        (first : ℕ) (order : List ℕ) (i : ℕ) → has_part (after first order) i ≡ true
        → Contains (first ∷ order) i
    has_only first order i has =
        let fresh : Collected = record { epoch = epoch; parts = replicate count None } in
        elim (only sealed epoch (begun_with first) order i (begun_epoch first) has) [
          | inl before ↦
              elim (taken_only sealed fresh first i
              (sym (ap (λ k. has_part k i) (begun_is first)) ∙ before)) [
                | inl held ↦ absurd (false≢true (sym (fresh_free count i) ∙ held))
                | inr same ↦ (0, omega arith, sym same)
              ]
          | inr come ↦ later sealed epoch first i order come
        ]

    -- ---- a part of an earlier epoch

    takes_earlier :
        (own : ℕ) (d : Collected) (other index many : ℕ) (bytes : List ℕ) → d.epoch ≡ epoch → other < epoch
        → take_part rack own d other index many bytes ≡ leaves Old d
    takes_earlier own d other index many bytes same below =
        elim (cases_lt own other) [
          | inl past ↦ takes_below rack own d other index many bytes past (omega (arith, same, below))
          | inr past ↦ takes_past rack own d other index many bytes past
        ]

    -- ---- a part of the state

    abbrev sent : ℕ → Collected → ℕ → Take
    sent own d index = take_part rack own d epoch index count (part_of sealed index)

    sent_again :
        (own : ℕ) → own < epoch → (first : ℕ) (order : List ℕ) (index : ℕ) → index < count → Contains (first ∷ order) index
        → sent own (after first order) index ≡ leaves Repeated (after first order)
    sent_again own below first order index within come =
        let d : Collected = after first order in
        let same = begun_same d epoch count (omega (arith, after_is first order)) in
        takes_again rack own d epoch index count (part_of sealed index) below
        (omega (arith, after_is first order))
        (ap (λ (k : Collected). length k.parts) same ∙ (holds first order).places)
        (ap (λ k. has_part k index) same ∙ has_come first order index within come)

    -- that part is new, and these are the parts with it
    sent_new :
        (own : ℕ) → own < epoch → (seen : List ℕ) (index : ℕ) → index < count → (Contains seen index → ⊥)
        → sent own (after_parts epoch sealed c seen) index
        ≡ adds rack (after_parts epoch sealed c seen)
        (after_parts epoch sealed c (seen ++ index ∷ []))
    sent_new own below [] index within new =
        let anew = begun_anew c epoch count h.after_collected in
        let free : has_part (begun c epoch count) index ≡ false =
        ap (λ k. has_part k index) anew ∙ fresh_free count index
        in
        takes_added rack own c epoch index count (part_of sealed index) below
        (omega (arith, h.after_collected))
        (ap (λ (k : Collected). length k.parts) anew ∙ length-replicate count None) free
        ∙ ap (adds rack c)
        (sym (cond-false (has_part (begun c epoch count) index) c
        (with_part (begun c epoch count) index (part_of sealed index)) free))
    sent_new own below (first ∷ order) index within new =
        let d : Collected = after first order in
        let same = begun_same d epoch count (omega (arith, after_is first order)) in
        let free : has_part (begun d epoch count) index ≡ false =
        false_from_ne_true (has_part (begun d epoch count) index)
        (λ has. new (has_only first order index (sym (ap (λ k. has_part k index) same) ∙ has)))
        in
        takes_added rack own d epoch index count (part_of sealed index) below
        (omega (arith, after_is first order))
        (ap (λ (k : Collected). length k.parts) same ∙ (holds first order).places) free
        ∙ ap (adds rack d)
        (sym (cond-false (has_part (begun d epoch count) index) d
        (with_part (begun d epoch count) index (part_of sealed index)) free)
        ∙ sym (snoc sealed epoch c (first ∷ order) index))

    whole_snoc :
        (seen : List ℕ) (index : ℕ)
        → (is_whole (after_parts epoch sealed c (seen ++ index ∷ [])) ≡ true)
        ↔ ((i : ℕ) → i < count → Contains (seen ++ index ∷ []) i)
    whole_snoc [] index = whole_when_all epoch sealed c index [] h.after_collected
    whole_snoc (first ∷ order) index =
        whole_when_all epoch sealed c first (order ++ index ∷ []) h.after_collected

    sent_more :
        (own : ℕ) → own < epoch → (seen : List ℕ) (index i : ℕ) → index < count → (Contains seen index → ⊥) → i < count
        → (Contains (seen ++ index ∷ []) i → ⊥)
        → sent own (after_parts epoch sealed c seen) index
        ≡ leaves (More (held_count (after_parts epoch sealed c (seen ++ index ∷ []))))
        (after_parts epoch sealed c (seen ++ index ∷ []))
    sent_more own below seen index i within new inside missing =
        let now : Collected = after_parts epoch sealed c (seen ++ index ∷ []) in
        let d : Collected = after_parts epoch sealed c seen in
        let some : is_whole now ≡ false =
        false_from_ne_true (is_whole now)
        (λ whole. missing ((whole_snoc seen index).0 whole i inside))
        in
        sent_new own below seen index within new
        ∙ cond-false (is_whole now) (completes (state_of rack (bytes_of now)) d)
        (leaves (More (held_count now)) now) some

    sent_whole :
        (own : ℕ) → own < epoch → (seen : List ℕ) (index : ℕ) → index < count → (Contains seen index → ⊥)
        → ((i : ℕ) → i < count → Contains (seen ++ index ∷ []) i)
        → sent own (after_parts epoch sealed c seen) index
        ≡ record { answer = Whole s.last; collected = none_collected; state = Some s }
    sent_whole own below seen index within new all =
        let now : Collected = after_parts epoch sealed c (seen ++ index ∷ []) in
        let d : Collected = after_parts epoch sealed c seen in
        sent_new own below seen index within new
        ∙ cond-true (is_whole now) (completes (state_of rack (bytes_of now)) d)
        (leaves (More (held_count now)) now) ((whole_snoc seen index).1 all)
        ∙ ap (λ state. completes state d)
        (read_in_any_order rack sealed s epoch c (seen ++ index ∷ []) h.limits h.spelled
        h.after_collected all)

    -- ---- what is collected

    -- the next part of the state, whether it is new or not, while one is missing
    sent_collects :
        (own : ℕ) → own < epoch → (first : ℕ) (order : List ℕ) (index i : ℕ) → index < count → i < count
        → (Contains (first ∷ order ++ index ∷ []) i → ⊥)
        → (Contains (first ∷ order) index) ⊎ (Contains (first ∷ order) index → ⊥)
        → (sent own (after first order) index).collected ≡ after first (order ++ index ∷ [])
    sent_collects own below first order index i within inside missing (inl come) =
        let d : Collected = after first order in
        let same = begun_same d epoch count (omega (arith, after_is first order)) in
        let has : has_part (begun d epoch count) index ≡ true =
        ap (λ k. has_part k index) same ∙ has_come first order index within come
        in
        ap (λ (t : Take). t.collected) (sent_again own below first order index within come)
        ∙ sym (cond-true (has_part (begun d epoch count) index) d
        (with_part (begun d epoch count) index (part_of sealed index)) has)
        ∙ sym (snoc sealed epoch c (first ∷ order) index)
    sent_collects own below first order index i within inside missing (inr new) =
        ap (λ (t : Take). t.collected)
        (sent_more own below (first ∷ order) index i within new inside missing)

    come_or_not :
        (first : ℕ) (order : List ℕ) (index : ℕ) → index < count
        → (Contains (first ∷ order) index) ⊎ (Contains (first ∷ order) index → ⊥)
    come_or_not first order index within =
        elim (cases_Bool (has_part (after first order) index)) [
          | inl has ↦ inl (has_only first order index has)
          | inr free ↦ inr (λ come.
              false≢true (sym free ∙ has_come first order index within come))
        ]

    later_after :
        (first : ℕ) (order : List ℕ) (arrivals : List Arrival) (i : ℕ) → i < count
        → AllByRecursion (IsInPlace epoch sealed) arrivals
        → (Contains (first ∷ order ++ came arrivals) i → ⊥)
        → collected_after rack epoch sealed (after first order) arrivals
        ≡ after first (order ++ came arrivals)
    later_after first order [] i inside in_place missing =
        ap (after first) (sym (append-nil order))
    later_after first order (Sent own index ∷ arrivals) i inside (within, rest) missing =
        let front : List ℕ = order ++ index ∷ [] in
        let same : front ++ came arrivals ≡ order ++ index ∷ came arrivals =
        append_assoc order (index ∷ []) (came arrivals)
        in
        let left : Contains (first ∷ front ++ came arrivals) i → ⊥ =
        λ come. missing (subst (λ xs. Contains (first ∷ xs) i) same come)
        in
        let step =
        sent_collects own within.0 first order index i within.1 inside
        (λ come. left (Contains-append_left (first ∷ front) (came arrivals) i come))
        (come_or_not first order index within.1)
        in
        ap (λ d. collected_after rack epoch sealed d arrivals) step
        ∙ later_after first front arrivals i inside rest left
        ∙ ap (after first) same
    later_after first order (Other own other index many bytes ∷ arrivals) i inside (below, rest) missing =
        ap (λ (t : Take). collected_after rack epoch sealed t.collected arrivals)
        (takes_earlier own (after first order) other index many bytes (after_is first order) below)
        ∙ later_after first order arrivals i inside rest missing

-- ---- the law

module _ (rack : Rack) (epoch : ℕ) (sealed : List ℕ) (s : State) (c : Collected) where
  collected_is :
      (arrivals : List Arrival) → IsCollecting rack epoch sealed s c arrivals
      → collected_after rack epoch sealed c arrivals
      ≡ after_parts epoch sealed c (came arrivals)
  collected_is [] is = refl
  collected_is (Sent own first ∷ arrivals) is =
      let (i, inside, missing) = is.missing in
      let begun =
      sent_more rack epoch sealed s c is.handed own is.in_place.0.0 [] first i is.in_place.0.1
      (λ none. absurd (omega (arith, none.1))) inside
      (λ come. missing (Contains-append_left (first ∷ []) (came arrivals) i come))
      in
      ap (λ (t : Take). collected_after rack epoch sealed t.collected arrivals) begun
      ∙ later_after rack epoch sealed s c is.handed first [] arrivals i inside is.in_place.1
      missing
  collected_is (Other own other index many bytes ∷ arrivals) is = absurd is.starts

  pub old_between :
      (own : ℕ) (arrivals : List Arrival) (other index many : ℕ) (bytes : List ℕ)
      → IsCollecting rack epoch sealed s c arrivals → 0 < length arrivals → other < epoch
      → take_part rack own (collected_after rack epoch sealed c arrivals) other index many bytes
      ≡ leaves Old (collected_after rack epoch sealed c arrivals)
  old_between own [] other index many bytes is some below = absurd (omega arith)
  old_between own (Sent there first ∷ arrivals) other index many bytes is some below =
      let same = collected_is (Sent there first ∷ arrivals) is in
      takes_earlier rack epoch sealed s c is.handed own
      (collected_after rack epoch sealed c (Sent there first ∷ arrivals)) other index many bytes
      (ap (λ (k : Collected). k.epoch) same
      ∙ after_is rack epoch sealed s c is.handed first (came arrivals))
      below
  old_between own (Other _ _ _ _ _ ∷ arrivals) other index many bytes is some below = absurd is.starts

  pub repeated_again :
      (own : ℕ) (arrivals : List Arrival) (index : ℕ)
      → IsCollecting rack epoch sealed s c arrivals → own < epoch
      → index < length (parts sealed) → Contains (came arrivals) index
      → takes_arrival rack epoch sealed (collected_after rack epoch sealed c arrivals)
      (Sent own index)
      ≡ leaves Repeated (collected_after rack epoch sealed c arrivals)
  repeated_again own [] index is below within come = absurd (omega (arith, come.1))
  repeated_again own (Sent there first ∷ arrivals) index is below within come =
      let same = collected_is (Sent there first ∷ arrivals) is in
      subst
      (λ d. takes_arrival rack epoch sealed d (Sent own index) ≡ leaves Repeated d) (sym same)
      (sent_again rack epoch sealed s c is.handed own below first (came arrivals) index within come)
  repeated_again own (Other _ _ _ _ _ ∷ arrivals) index is below within come = absurd is.starts

  pub more_missing :
      (own : ℕ) (arrivals : List Arrival) (index i : ℕ)
      → IsCollecting rack epoch sealed s c arrivals → own < epoch
      → index < length (parts sealed) → (Contains (came arrivals) index → ⊥)
      → i < length (parts sealed) → (Contains (came arrivals ++ index ∷ []) i → ⊥)
      → (takes_arrival rack epoch sealed (collected_after rack epoch sealed c arrivals)
      (Sent own index)).answer
      ≡ More (held_count
      (takes_arrival rack epoch sealed (collected_after rack epoch sealed c arrivals)
      (Sent own index)).collected)
  more_missing own arrivals index i is below within new inside missing =
      let same = collected_is arrivals is in
      subst
      (λ d. (takes_arrival rack epoch sealed d (Sent own index)).answer
      ≡ More (held_count (takes_arrival rack epoch sealed d (Sent own index)).collected))
      (sym same)
      (subst (λ (t : Take). t.answer ≡ More (held_count t.collected))
      (sym (sent_more rack epoch sealed s c is.handed own below (came arrivals) index i within new
      inside missing))
      refl)

  pub whole_with_the_last :
      (own : ℕ) (arrivals : List Arrival) (index : ℕ)
      → IsCollecting rack epoch sealed s c arrivals → own < epoch
      → index < length (parts sealed) → (Contains (came arrivals) index → ⊥)
      → ((i : ℕ) → i < length (parts sealed) → Contains (came arrivals ++ index ∷ []) i)
      → takes_arrival rack epoch sealed (collected_after rack epoch sealed c arrivals)
      (Sent own index)
      ≡ record { answer = Whole s.last; collected = none_collected; state = Some s }
  whole_with_the_last own arrivals index is below within new all =
      ap (λ d. takes_arrival rack epoch sealed d (Sent own index)) (collected_is arrivals is)
      ∙ sent_whole rack epoch sealed s c is.handed own below (came arrivals) index within new all
