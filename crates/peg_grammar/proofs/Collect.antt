-- Parts of one state's bytes, collected in whatever order: once each has come they are the bytes.
use Rattle.std.proofs.Common.{◌≡◌, ℕ, zero, suc, ◌+◌, ◌<◌, ◌≤◌, Bool, true, false, ◌==◌, ◌⊎◌}
use Rattle.std.proofs.Common.{◌↔◌, inl, inr, nat_lt, not, ◌&&◌, ◌||◌, Option, Some, None, List, []}
use Rattle.std.proofs.Common.{◌∷◌, unwrap_or, length, map, get_or, set, replicate, cond, refl}
use Rattle.std.proofs.Common.{if◌then◌else◌, ap, sym, ◌∙◌, subst, arith}
use Rattle.std.specs.Option.{is_some}
use Rattle.std.specs.List.{flat_map, count_by, Contains}
use Rattle.std.proofs.lemmas.Bool.{cases_eq, cases_lt, cond_both, le-ltb, lt-ltb}
use Rattle.std.proofs.lemmas.Bool.{cond-true, cond-false, eq-eqb, eqb-true, false≢true}
use Rattle.std.proofs.lemmas.Bool.{false_from_ne_true}
use Rattle.std.proofs.lemmas.List.{ext_get_or, get_or-map, get_or-set_other, get_or-set_same}
use Rattle.std.proofs.lemmas.List.{get_or_past, length-map, length-set, length-replicate}
use Rattle.std.proofs.lemmas.List.Folds.{flat_map-map}
use Rattle.std.proofs.lemmas.List.Sums.{count_by-le-length, sum_by-cons}
use Rattle.peg_name.specs.Name.{Rack, InLimits}
use Rattle.peg_model.specs.Handover.{State, Collected, begun, has_part, with_part, part_of, parts}
use Rattle.peg_model.specs.Handover.{bytes_of, held_count, is_whole, fits, state_of}
use Rattle.peg_grammar.specs.State.{SpellsState}
use Rattle.peg_grammar.specs.Collecting.{HoldsParts, after_part, after_parts}
use Rattle.peg_grammar.proofs.Cut.{get_part, joined_parts}
use Rattle.peg_grammar.proofs.State.{Spells-state_of}
use Rattle.peg_grammar.proofs.StateSize.{few_parts}

-- ---- counts

module _ {X : Type 0} (p : X → Bool) where
  counted_head :
      (x : X) (xs : List X) → count_by p (x ∷ xs) ≡ suc (length xs)
      → (p x ≡ true) × (count_by p xs ≡ length xs)
  counted_head x xs all =
      let more = sum_by-cons (λ y. cond (p y) 1 0) x xs in
      let most = count_by-le-length p xs in
      cond_both (p x) 1 0
      (λ n. count_by p (x ∷ xs) ≡ n + count_by p xs → (p x ≡ true) × (count_by p xs ≡ length xs))
      (λ yes e. (yes, omega arith)) (λ no e. absurd (omega arith)) more

  each_counted :
      (xs : List X) (i : ℕ) (d : X) → count_by p xs ≡ length xs → i < length xs
      → p (get_or xs i d) ≡ true
  each_counted [] i d all within = absurd (omega arith)
  each_counted (x ∷ xs) zero d all within = (counted_head x xs all).0
  each_counted (x ∷ xs) (suc i) d all within =
      each_counted xs i d (counted_head x xs all).1 (omega arith)

  all_counted :
      (xs : List X) (d : X) → ((i : ℕ) → i < length xs → p (get_or xs i d) ≡ true)
      → count_by p xs ≡ length xs
  all_counted [] d each = refl
  all_counted (x ∷ xs) d each =
      let first : p x ≡ true = each 0 (omega arith) in
      let one : cond {A = ℕ} (p x) 1 0 ≡ 1 = (λ j. cond (first j) 1 0) in
      let later = all_counted xs d (λ i within. each (suc i) (omega arith)) in
      omega (arith, one, later, sum_by-cons (λ y. cond (p y) 1 0) x xs)

-- ---- what is held are parts of the bytes

none_held : (n i : ℕ) → get_or (replicate {A = Option (List ℕ)} n None) i None ≡ None
none_held zero i = refl
none_held (suc n) zero = refl
none_held (suc n) (suc i) = none_held n i

abbrev pub fresh : ℕ → List ℕ → Collected
fresh epoch bytes = record { epoch = epoch; parts = replicate (length (parts bytes)) None }

fresh_has_none : (epoch : ℕ) (bytes : List ℕ) (i : ℕ) → has_part (fresh epoch bytes) i ≡ false
fresh_has_none epoch bytes i = ap is_some (none_held (length (parts bytes)) i)

pub fresh_holds : (epoch : ℕ) (bytes : List ℕ) → HoldsParts bytes (fresh epoch bytes)
fresh_holds epoch bytes = record {
  places = length-replicate (length (parts bytes)) None;
  held = λ i has. absurd (false≢true (sym (fresh_has_none epoch bytes i) ∙ has));
}

-- one of the bytes' parts more
with_part_holds :
    (bytes : List ℕ) (c : Collected) (index i : ℕ) → HoldsParts bytes c
    → (i ≡ index) ⊎ (i ≡ index → ⊥) → (i < length c.parts) ⊎ (length c.parts ≤ i)
    → has_part (with_part c index (part_of bytes index)) i ≡ true
    → get_or (with_part c index (part_of bytes index)).parts i None ≡ Some (part_of bytes i)
with_part_holds bytes c index i holds (inl same) (inl within) has =
    let put : Option (List ℕ) = Some (part_of bytes index) in
    let inside : index < length c.parts = omega arith in
    ap (λ k. get_or (set c.parts index put) k None) same
    ∙ get_or-set_same c.parts index put None inside
    ∙ ap (λ k. Some (part_of bytes k)) (sym same)
with_part_holds bytes c index i holds (inl same) (inr past) has =
    let put : Option (List ℕ) = Some (part_of bytes index) in
    let size : length (set c.parts index put) ≡ length c.parts = length-set c.parts index put in
    let none : get_or (set c.parts index put) i None ≡ None =
    get_or_past (set c.parts index put) i None (omega arith)
    in
    absurd (false≢true (sym (ap is_some none) ∙ has))
with_part_holds bytes c index i holds (inr other) within has =
    let put : Option (List ℕ) = Some (part_of bytes index) in
    let same : get_or (set c.parts index put) i None ≡ get_or c.parts i None =
    get_or-set_other c.parts index i put None other
    in
    same ∙ holds.held i (sym (ap is_some same) ∙ has)

pub one_more_holds :
    (bytes : List ℕ) (c : Collected) (index : ℕ) → HoldsParts bytes c
    → HoldsParts bytes (with_part c index (part_of bytes index))
one_more_holds bytes c index holds =
    let put : Option (List ℕ) = Some (part_of bytes index) in
    record {
      places = length-set c.parts index put ∙ holds.places;
      held = λ i.
          with_part_holds bytes c index i holds (cases_eq i index) (cases_lt i (length c.parts));
    }

-- ---- a whole collection

whole_parts :
    (bytes : List ℕ) (c : Collected) → HoldsParts bytes c → is_whole c ≡ true
    → c.parts ≡ map (λ part. Some part) (parts bytes)
whole_parts bytes c holds whole =
    let all = parts bytes in
    let counted = eqb-true (held_count c) (length c.parts) whole in
    let same : length c.parts ≡ length (map (λ part. Some part) all) =
    holds.places ∙ sym (length-map all (λ part. Some part))
    in
    ext_get_or None c.parts (map (λ part. Some part) all) same
    (λ i within.
    let inside : i < length all = omega (arith, holds.places) in
    let there : get_or (map (λ part. Some part) all) i None ≡ Some (part_of bytes i) =
    get_or-map (λ part. Some part) all i [] None inside ∙ ap Some (get_part bytes i [] inside)
    in
    holds.held i (each_counted is_some c.parts i None counted within) ∙ sym there)

pub whole_bytes :
    (bytes : List ℕ) (c : Collected) → HoldsParts bytes c → is_whole c ≡ true
    → bytes_of c ≡ bytes
whole_bytes bytes c holds whole =
    ap (flat_map (λ part. unwrap_or part [])) (whole_parts bytes c holds whole)
    ∙ flat_map-map (λ part. unwrap_or part []) (λ part. Some part) (parts bytes)
    ∙ joined_parts bytes

-- ---- no part of a state is out of place

fits_test :
    (counted has whole state : Bool) → counted ≡ true → (whole ≡ true → state ≡ true)
    → (counted && (has || not whole || state)) ≡ true
fits_test counted true whole state count ends = λ j. count j && true
fits_test counted false true state count ends = λ j. count j && ends refl j
fits_test counted false false state count ends = λ j. count j && true

pub every_part_fits :
    (rack : Rack) (bytes : List ℕ) (s : State) (c : Collected) (index : ℕ) → InLimits rack
    → SpellsState rack bytes s → HoldsParts bytes c
    → fits rack c index (length (parts bytes)) (part_of bytes index) ≡ true
every_part_fits rack bytes s c index limits spells holds =
    let now : Collected = with_part c index (part_of bytes index) in
    let held = one_more_holds bytes c index holds in
    let count : (length c.parts == length (parts bytes)) ≡ true =
    eq-eqb (length c.parts) (length (parts bytes)) holds.places
    in
    let state : is_whole now ≡ true → is_some (state_of rack (bytes_of now)) ≡ true =
    λ whole.
    ap (λ joined. is_some (state_of rack joined)) (whole_bytes bytes now held whole)
    ∙ ap is_some (Spells-state_of rack bytes s limits spells)
    in
    fits_test (length c.parts == length (parts bytes)) (has_part c index) (is_whole now)
    (is_some (state_of rack (bytes_of now))) count state

-- ---- one part, and then another

-- what a part makes of parts of the same epoch
abbrev pub taken : List ℕ → Collected → ℕ → Collected
taken bytes c index = if has_part c index then c else with_part c index (part_of bytes index)

pub taken_holds :
    (bytes : List ℕ) (c : Collected) (index : ℕ) → HoldsParts bytes c
    → HoldsParts bytes (taken bytes c index)
taken_holds bytes c index holds =
    cond_both (has_part c index) c (with_part c index (part_of bytes index)) (HoldsParts bytes)
    (λ has. holds) (λ none. one_more_holds bytes c index holds)

put_has :
    (c : Collected) (index : ℕ) (part : List ℕ) → index < length c.parts
    → has_part (with_part c index part) index ≡ true
put_has c index part within = ap is_some (get_or-set_same c.parts index (Some part) None within)

held_within : (c : Collected) (i : ℕ) → has_part c i ≡ true → length c.parts ≤ i → ⊥
held_within c i has past =
    false≢true (sym (ap is_some (get_or_past c.parts i None past)) ∙ has)

put_keeps_at :
    (c : Collected) (index i : ℕ) (part : List ℕ) → has_part c i ≡ true
    → (i ≡ index) ⊎ (i ≡ index → ⊥) → (i < length c.parts) ⊎ (length c.parts ≤ i)
    → has_part (with_part c index part) i ≡ true
put_keeps_at c index i part has (inl same) (inl within) =
    let inside : index < length c.parts = omega arith in
    ap (has_part (with_part c index part)) same ∙ put_has c index part inside
put_keeps_at c index i part has (inl same) (inr past) = absurd (held_within c i has past)
put_keeps_at c index i part has (inr other) within =
    ap is_some (get_or-set_other c.parts index i (Some part) None other) ∙ has

put_keeps :
    (c : Collected) (index i : ℕ) (part : List ℕ) → has_part c i ≡ true
    → has_part (with_part c index part) i ≡ true
put_keeps c index i part has =
    put_keeps_at c index i part has (cases_eq i index) (cases_lt i (length c.parts))

put_only :
    (c : Collected) (index i : ℕ) (part : List ℕ) → (i ≡ index) ⊎ (i ≡ index → ⊥)
    → has_part (with_part c index part) i ≡ true → (has_part c i ≡ true) ⊎ (i ≡ index)
put_only c index i part (inl same) has = inr same
put_only c index i part (inr other) has =
    inl (sym (ap is_some (get_or-set_other c.parts index i (Some part) None other)) ∙ has)

taken_keeps :
    (bytes : List ℕ) (c : Collected) (index i : ℕ) → has_part c i ≡ true
    → has_part (taken bytes c index) i ≡ true
taken_keeps bytes c index i has =
    let part : List ℕ = part_of bytes index in
    cond_both (has_part c index) c (with_part c index part) (λ now. has_part now i ≡ true)
    (λ held. has) (λ none. put_keeps c index i part has)

taken_has :
    (bytes : List ℕ) (c : Collected) (index : ℕ) → index < length c.parts
    → has_part (taken bytes c index) index ≡ true
taken_has bytes c index within =
    let part : List ℕ = part_of bytes index in
    cond_both (has_part c index) c (with_part c index part) (λ now. has_part now index ≡ true)
    (λ held. held) (λ none. put_has c index part within)

taken_only :
    (bytes : List ℕ) (c : Collected) (index i : ℕ) → has_part (taken bytes c index) i ≡ true
    → (has_part c i ≡ true) ⊎ (i ≡ index)
taken_only bytes c index i =
    let part : List ℕ = part_of bytes index in
    cond_both (has_part c index) c (with_part c index part)
    (λ now. has_part now i ≡ true → (has_part c i ≡ true) ⊎ (i ≡ index))
    (λ held has. inl has) (λ none has. put_only c index i part (cases_eq i index) has)

pub taken_epoch :
    (bytes : List ℕ) (c : Collected) (index : ℕ) → (taken bytes c index).epoch ≡ c.epoch
taken_epoch bytes c index =
    cond_both (has_part c index) c (with_part c index (part_of bytes index))
    (λ now. now.epoch ≡ c.epoch) (λ held. refl) (λ none. refl)

-- ---- parts in any order

abbrev pub takes : List ℕ → Collected → List ℕ → Collected
takes bytes c [] = c
takes bytes c (index ∷ order) = takes bytes (taken bytes c index) order

takes_holds :
    (bytes : List ℕ) (c : Collected) (order : List ℕ) → HoldsParts bytes c
    → HoldsParts bytes (takes bytes c order)
takes_holds bytes c [] holds = holds
takes_holds bytes c (index ∷ order) holds =
    takes_holds bytes (taken bytes c index) order (taken_holds bytes c index holds)

takes_epoch :
    (bytes : List ℕ) (c : Collected) (order : List ℕ) → (takes bytes c order).epoch ≡ c.epoch
takes_epoch bytes c [] = refl
takes_epoch bytes c (index ∷ order) =
    takes_epoch bytes (taken bytes c index) order ∙ taken_epoch bytes c index

takes_keeps :
    (bytes : List ℕ) (c : Collected) (order : List ℕ) (i : ℕ) → has_part c i ≡ true
    → has_part (takes bytes c order) i ≡ true
takes_keeps bytes c [] i has = has
takes_keeps bytes c (index ∷ order) i has =
    takes_keeps bytes (taken bytes c index) order i (taken_keeps bytes c index i has)

contains_cases :
    (x i k : ℕ) (xs : List ℕ) → k < suc (length xs) → get_or (x ∷ xs) k i ≡ i
    → (x ≡ i) ⊎ Contains xs i
contains_cases x i zero xs within at = inl at
contains_cases x i (suc k) xs within at = inr (k, omega arith, at)

takes_has :
    (bytes : List ℕ) (c : Collected) (order : List ℕ) (i : ℕ) → HoldsParts bytes c
    → i < length (parts bytes) → Contains order i → has_part (takes bytes c order) i ≡ true
takes_has bytes c [] i holds within (k, inside, at) = absurd (omega arith)
takes_has bytes c (index ∷ order) i holds within (k, inside, at) =
    let more : Collected = taken bytes c index in
    let place : i < length c.parts = omega (arith, holds.places) in
    elim (contains_cases index i k order inside at) [
      | inl first ↦
          takes_keeps bytes more order i
          (subst (λ x. has_part (taken bytes c x) i ≡ true) (sym first) (taken_has bytes c i place))
      | inr later ↦ takes_has bytes more order i (taken_holds bytes c index holds) within later
    ]

contains_later : (x i : ℕ) (xs : List ℕ) → Contains xs i → Contains (x ∷ xs) i
contains_later x i xs (k, within, at) = (suc k, omega arith, at)

takes_only :
    (bytes : List ℕ) (c : Collected) (order : List ℕ) (i : ℕ)
    → has_part (takes bytes c order) i ≡ true → (has_part c i ≡ true) ⊎ Contains order i
takes_only bytes c [] i has = inl has
takes_only bytes c (index ∷ order) i has =
    elim (takes_only bytes (taken bytes c index) order i has) [
      | inl before ↦
          elim (taken_only bytes c index i before) [
            | inl held ↦ inl held
            | inr same ↦ inr (0, omega arith, sym same)
          ]
      | inr later ↦ inr (contains_later index i order later)
    ]

-- ---- from none on

whole_needs_all :
    (epoch : ℕ) (bytes order : List ℕ) → is_whole (takes bytes (fresh epoch bytes) order) ≡ true
    → (i : ℕ) → i < length (parts bytes) → Contains order i
whole_needs_all epoch bytes order whole i within =
    let now : Collected = takes bytes (fresh epoch bytes) order in
    let holds = takes_holds bytes (fresh epoch bytes) order (fresh_holds epoch bytes) in
    let counted = eqb-true (held_count now) (length now.parts) whole in
    let place : i < length now.parts = omega (arith, holds.places) in
    let has = each_counted is_some now.parts i None counted place in
    elim (takes_only bytes (fresh epoch bytes) order i has) [
      | inl held ↦ absurd (false≢true (sym (fresh_has_none epoch bytes i) ∙ held))
      | inr come ↦ come
    ]

pub all_make_whole :
    (epoch : ℕ) (bytes order : List ℕ) → ((i : ℕ) → i < length (parts bytes) → Contains order i)
    → is_whole (takes bytes (fresh epoch bytes) order) ≡ true
all_make_whole epoch bytes order all =
    let none : Collected = fresh epoch bytes in
    let now : Collected = takes bytes none order in
    let holds = takes_holds bytes none order (fresh_holds epoch bytes) in
    let each : (i : ℕ) → i < length now.parts → is_some (get_or now.parts i None) ≡ true =
    λ i within.
    let inside : i < length (parts bytes) = omega (arith, holds.places) in
    takes_has bytes none order i (fresh_holds epoch bytes) inside (all i inside)
    in
    eq-eqb (held_count now) (length now.parts) (all_counted is_some now.parts None each)

pub fresh_lacks :
    (rack : Rack) (bytes : List ℕ) (s : State) (epoch : ℕ) → InLimits rack
    → SpellsState rack bytes s → is_whole (fresh epoch bytes) ≡ false
fresh_lacks rack bytes s epoch limits spells =
    let some : 0 < length (parts bytes) = omega (arith, (few_parts rack bytes s limits spells).0) in
    false_from_ne_true (is_whole (fresh epoch bytes))
    (λ whole.
    let first = whole_needs_all epoch bytes [] whole 0 some in
    absurd (omega (arith, first.1)))

-- ---- in a collection of an earlier epoch

pub begun_anew :
    (c : Collected) (epoch : ℕ) (bytes : List ℕ) → c.epoch < epoch
    → begun c epoch (length (parts bytes)) ≡ fresh epoch bytes
begun_anew c epoch bytes before =
    cond-true (nat_lt c.epoch epoch) (fresh epoch bytes) c (lt-ltb c.epoch epoch before)

pub begun_same :
    (c : Collected) (epoch : ℕ) (bytes : List ℕ) → c.epoch ≡ epoch
    → begun c epoch (length (parts bytes)) ≡ c
begun_same c epoch bytes same =
    cond-false (nat_lt c.epoch epoch) (fresh epoch bytes) c
    (le-ltb c.epoch epoch (omega arith))

pub after_first :
    (epoch : ℕ) (bytes : List ℕ) (c : Collected) (index : ℕ) → c.epoch < epoch
    → after_part epoch bytes c index ≡ taken bytes (fresh epoch bytes) index
after_first epoch bytes c index before =
    let none : Collected = fresh epoch bytes in
    let put : Collected = with_part none index (part_of bytes index) in
    let part : List ℕ = part_of bytes index in
    ap (λ now. if has_part now index then c else with_part now index part)
    (begun_anew c epoch bytes before)
    ∙ cond-false (has_part none index) c put (fresh_has_none epoch bytes index)
    ∙ sym (cond-false (has_part none index) none put (fresh_has_none epoch bytes index))

pub after_next :
    (epoch : ℕ) (bytes : List ℕ) (c : Collected) (index : ℕ) → c.epoch ≡ epoch
    → after_part epoch bytes c index ≡ taken bytes c index
after_next epoch bytes c index same =
    let part : List ℕ = part_of bytes index in
    ap (λ now. if has_part now index then c else with_part now index part)
    (begun_same c epoch bytes same)

after_takes :
    (epoch : ℕ) (bytes : List ℕ) (c : Collected) (order : List ℕ) → c.epoch ≡ epoch
    → after_parts epoch bytes c order ≡ takes bytes c order
after_takes epoch bytes c [] same = refl
after_takes epoch bytes c (index ∷ order) same =
    ap (λ now. after_parts epoch bytes now order) (after_next epoch bytes c index same)
    ∙ after_takes epoch bytes (taken bytes c index) order (taken_epoch bytes c index ∙ same)

after_all :
    (epoch : ℕ) (bytes : List ℕ) (c : Collected) (first : ℕ) (order : List ℕ) → c.epoch < epoch
    → after_parts epoch bytes c (first ∷ order)
    ≡ takes bytes (fresh epoch bytes) (first ∷ order)
after_all epoch bytes c first order before =
    let none : Collected = fresh epoch bytes in
    ap (λ now. after_parts epoch bytes now order) (after_first epoch bytes c first before)
    ∙ after_takes epoch bytes (taken bytes none first) order (taken_epoch bytes none first)

-- ---- the laws

pub whole_when_all :
    (epoch : ℕ) (bytes : List ℕ) (c : Collected) (first : ℕ) (order : List ℕ) → c.epoch < epoch
    → (is_whole (after_parts epoch bytes c (first ∷ order)) ≡ true)
    ↔ ((index : ℕ) → index < length (parts bytes) → Contains (first ∷ order) index)
whole_when_all epoch bytes c first order before =
    let same = after_all epoch bytes c first order before in (
      λ whole. whole_needs_all epoch bytes (first ∷ order) (sym (ap is_whole same) ∙ whole),
      λ all. ap is_whole same ∙ all_make_whole epoch bytes (first ∷ order) all,
    )

pub held_in_any_order :
    (epoch : ℕ) (bytes : List ℕ) (c : Collected) (order : List ℕ) → c.epoch < epoch
    → HoldsParts bytes (begun (after_parts epoch bytes c order) epoch (length (parts bytes)))
held_in_any_order epoch bytes c [] before =
    subst (HoldsParts bytes) (sym (begun_anew c epoch bytes before)) (fresh_holds epoch bytes)
held_in_any_order epoch bytes c (first ∷ order) before =
    let none : Collected = fresh epoch bytes in
    let now : Collected = takes bytes none (first ∷ order) in
    let is : begun (after_parts epoch bytes c (first ∷ order)) epoch (length (parts bytes)) ≡ now =
    ap (λ some. begun some epoch (length (parts bytes)))
    (after_all epoch bytes c first order before)
    ∙ begun_same now epoch bytes (takes_epoch bytes none (first ∷ order))
    in
    subst (HoldsParts bytes) (sym is)
    (takes_holds bytes none (first ∷ order) (fresh_holds epoch bytes))

pub read_in_any_order :
    (rack : Rack) (bytes : List ℕ) (s : State) (epoch : ℕ) (c : Collected) (order : List ℕ)
    → InLimits rack → SpellsState rack bytes s → c.epoch < epoch
    → ((index : ℕ) → index < length (parts bytes) → Contains order index)
    → state_of rack (bytes_of (after_parts epoch bytes c order)) ≡ Some s
read_in_any_order rack bytes s epoch c [] limits spells before all =
    let some : 0 < length (parts bytes) = omega (arith, (few_parts rack bytes s limits spells).0) in
    absurd (omega (arith, (all 0 some).1))
read_in_any_order rack bytes s epoch c (first ∷ order) limits spells before all =
    let none : Collected = fresh epoch bytes in
    let now : Collected = takes bytes none (first ∷ order) in
    let holds = takes_holds bytes none (first ∷ order) (fresh_holds epoch bytes) in
    ap (λ some. state_of rack (bytes_of some)) (after_all epoch bytes c first order before)
    ∙ ap (state_of rack)
    (whole_bytes bytes now holds (all_make_whole epoch bytes (first ∷ order) all))
    ∙ Spells-state_of rack bytes s limits spells
