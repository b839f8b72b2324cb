-- What a part does, once it is known how many are held with it.
use Rattle.std.proofs.Common.{◌≡◌, ℕ, zero, suc, ◌+◌, ◌<◌, ◌≤◌, Bool, true, false, not, ◌&&◌, ◌||◌}
use Rattle.std.proofs.Common.{nat_lt, nat_le, ◌==◌, Option, Some, None, List, [], ◌∷◌, length, get_or}
use Rattle.std.proofs.Common.{set, replicate, cond, if◌then◌else◌, refl, ap, sym, ◌∙◌, arith, subst}
use Rattle.std.specs.Option.{is_some}
use Rattle.std.specs.List.{count_by}
use Rattle.std.proofs.lemmas.Bool.{ne_eqb, eq-eqb}
use Rattle.std.proofs.lemmas.Bool.Decides.{nat_tests}
use Rattle.std.proofs.lemmas.List.{length-set, length-replicate, append-nil}
use Rattle.std.proofs.lemmas.List.Sums.{sum_by-cons}
use Rattle.peg_name.specs.Name.{Rack}
use Rattle.peg_model.specs.Rules.{Stamps}
use Rattle.peg_model.specs.Handover.{State, Collected, none_collected, begun, with_part, has_part}
use Rattle.peg_model.specs.Handover.{held_count, is_whole, bytes_of, state_of, fits}
use Rattle.peg_directory.specs.Table.{Table, with_entries}
use Rattle.peg_parts.specs.Sealed.{state_with}
use Rattle.peg_parts.specs.declared.Taken.{Taken}
use Rattle.peg_parts.specs.declared.Taken.TheVariants.{Old, Malformed, Repeated, More, Whole}
use Rattle.peg_parts.specs.Taking.{Collection, Take, leaves, completes, adds, take_part, TakesAs}

-- ---- counts

abbrev Places : Type 0
Places = List (Option (List ℕ))

counted_first :
    (part : Option (List ℕ)) (parts : Places)
    → count_by is_some (part ∷ parts) ≡ cond (is_some part) 1 0 + count_by is_some parts
counted_first part parts = sum_by-cons (λ p. cond (is_some p) 1 0) part parts

count_fresh : (n : ℕ) → count_by is_some (replicate {A = Option (List ℕ)} n None) ≡ 0
count_fresh zero = refl
count_fresh (suc n) =
    omega (arith, counted_first None (replicate n None), count_fresh n)

none_of : (part : Option (List ℕ)) → is_some part ≡ false → cond {A = ℕ} (is_some part) 1 0 ≡ 0
none_of part none = λ j. cond (none j) 1 0

count_put :
    (parts : Places) (i : ℕ) (bytes : List ℕ) → i < length parts
    → is_some (get_or parts i None) ≡ false
    → count_by is_some (set parts i (Some bytes)) ≡ count_by is_some parts + 1
count_put [] i bytes within free = absurd (omega (arith, within))
count_put (part ∷ parts) zero bytes within free =
    omega (
      arith,
      counted_first (Some bytes) parts,
      counted_first part parts,
      none_of part free,
    )
count_put (part ∷ parts) (suc i) bytes within free =
    omega (
      arith,
      counted_first part (set parts i (Some bytes)),
      counted_first part parts,
      count_put parts i bytes (omega (arith, within)) free,
    )

pub fresh_free : (n i : ℕ) → is_some (get_or (replicate {A = Option (List ℕ)} n None) i None) ≡ false
fresh_free zero i = refl
fresh_free (suc n) zero = refl
fresh_free (suc n) (suc i) = fresh_free n i

-- ---- the parts with one more

-- this part is the first of its epoch
pub begun_anew :
    (c : Collected) (epoch count : ℕ) → c.epoch < epoch
    → begun c epoch count ≡ record { epoch = epoch; parts = replicate count None }
begun_anew c epoch count above =
    let newer : nat_lt c.epoch epoch ≡ true = grind (arith, nat_tests) in
    λ j. if newer j then record { epoch = epoch; parts = replicate count None } else c

pub count_more :
    (c : Collected) (index : ℕ) (bytes : List ℕ) → index < length c.parts
    → has_part c index ≡ false → held_count (with_part c index bytes) ≡ held_count c + 1
count_more c index bytes within free = count_put c.parts index bytes within free

pub count_first :
    (epoch count index : ℕ) (bytes : List ℕ) → index < count
    → held_count
    (with_part (record { epoch = epoch; parts = replicate count None }) index bytes) ≡ 1
count_first epoch count index bytes within =
    let all : Places = replicate count None in
    let put : count_by is_some (set all index (Some bytes)) ≡ count_by is_some all + 1 =
    count_put all index bytes (omega (arith, within, length-replicate {A = Option (List ℕ)} count None))
    (fresh_free count index)
    in
    omega (arith, put, count_fresh count)

-- the one part of an epoch
pub bytes_alone :
    (epoch count index : ℕ) (bytes : List ℕ) → index < count → count ≤ 1
    → bytes_of (with_part (record { epoch = epoch; parts = replicate count None }) index bytes)
    ≡ bytes
bytes_alone epoch zero index bytes within one = absurd (omega (arith, within))
bytes_alone epoch (suc zero) zero bytes within one = append-nil bytes
bytes_alone epoch (suc zero) (suc index) bytes within one = absurd (omega (arith, within))
bytes_alone epoch (suc (suc count)) index bytes within one = absurd (omega (arith, one))

pub places_more :
    (c : Collected) (index : ℕ) (bytes : List ℕ)
    → length (with_part c index bytes).parts ≡ length c.parts
places_more c index bytes = length-set c.parts index (Some bytes)

-- ---- what a call is to answer

module _ (rack : Rack) (c now : Collected) (old new : Collection) (stamps : Stamps) (table : Table)
  where
    adds_more : held_count now < length now.parts → adds rack c now ≡ leaves (More (held_count now)) now
    adds_more few =
        let some : is_whole now ≡ false =
        ne_eqb (held_count now) (length now.parts) (λ same. omega arith)
        in
        λ j. if some j then completes (state_of rack (bytes_of now)) c
        else leaves (More (held_count now)) now

    adds_whole :
        held_count now ≡ length now.parts
        → adds rack c now ≡ completes (state_of rack (bytes_of now)) c
    adds_whole all =
        let every : is_whole now ≡ true = eq-eqb (held_count now) (length now.parts) all in
        λ j. if every j then completes (state_of rack (bytes_of now)) c
        else leaves (More (held_count now)) now

    pub takes_more :
        (held : ℕ) → held ≡ held_count now → held_count now < length now.parts
        → new ≡ record old { collected = now }
        → TakesAs (adds rack c now) (More held) old new stamps stamps table table
    takes_more held count few after =
        let same = adds_more few in
        subst (λ (t : Take). TakesAs t (More held) old new stamps stamps table table) (sym same)
        (record { answered = ap More count; collects = after; stamped = refl; listed = refl })

    pub takes_none :
        (then_stamps : Stamps) (then_table : Table) → held_count now ≡ length now.parts
        → state_of rack (bytes_of now) ≡ None → new ≡ record old { collected = c }
        → then_stamps ≡ stamps → then_table ≡ table
        → TakesAs (adds rack c now) Malformed old new stamps then_stamps table then_table
    takes_none then_stamps then_table all none after stamped listed =
        let same = adds_whole all ∙ ap (λ s. completes s c) none in
        subst
        (λ (t : Take). TakesAs t Malformed old new stamps then_stamps table then_table) (sym same)
        (record { answered = refl; collects = after; stamped = stamped; listed = listed })

    pub takes_whole :
        (last : ℕ) (then_stamps : Stamps) (then_table : Table)
        → held_count now ≡ length now.parts
        → state_of rack (bytes_of now) ≡ Some (state_with then_stamps last then_table.entries)
        → then_table ≡ with_entries table then_table.entries
        → new ≡ record old { collected = none_collected }
        → TakesAs (adds rack c now) (Whole last) old new stamps then_stamps table then_table
    takes_whole last then_stamps then_table all some listed after =
        let same = adds_whole all ∙ ap (λ s. completes s c) some in
        subst
        (λ (t : Take). TakesAs t (Whole last) old new stamps then_stamps table then_table)
        (sym same)
        (record { answered = refl; collects = after; stamped = refl; listed = listed })

-- ---- which case it is

module _ (old malformed repeated added : Take) where
  abbrev pick : Bool → Bool → Bool → Take
  pick is_old fitting held =
      if is_old then old
      else (if not fitting then malformed else (if held then repeated else added))

module _ (rack : Rack) (own : ℕ) (c : Collected) (epoch index count : ℕ) (bytes : List ℕ) where
  abbrev now : Collected
  now = begun c epoch count

  abbrev is_before : Bool
  is_before = nat_le epoch own || nat_lt epoch c.epoch

  abbrev picked : Bool → Bool → Bool → Take
  picked =
      pick (leaves Old c) (leaves Malformed c) (leaves Repeated c)
      (adds rack c (with_part now index bytes))

  picks :
      take_part rack own c epoch index count bytes
      ≡ picked is_before (fits rack now index count bytes) (has_part now index)
  unfolding take_part
  picks = refl

  before_own : epoch ≤ own → is_before ≡ true
  before_own past = grind (arith, nat_tests)

  before_held : own < epoch → epoch < c.epoch → is_before ≡ true
  before_held past below = grind (arith, nat_tests)

  not_before : own < epoch → c.epoch ≤ epoch → is_before ≡ false
  not_before past above = grind (arith, nat_tests)

  is_picked_old : is_before ≡ true → take_part rack own c epoch index count bytes ≡ leaves Old c
  is_picked_old before =
      picks ∙ (λ j. picked (before j) (fits rack now index count bytes) (has_part now index))

  pub takes_past : epoch ≤ own → take_part rack own c epoch index count bytes ≡ leaves Old c
  takes_past past = is_picked_old (before_own past)

  pub takes_below :
      own < epoch → epoch < c.epoch → take_part rack own c epoch index count bytes ≡ leaves Old c
  takes_below past below = is_picked_old (before_held past below)

  pub takes_other_count :
      own < epoch → c.epoch ≤ epoch → (length now.parts ≡ count → ⊥)
      → take_part rack own c epoch index count bytes ≡ leaves Malformed c
  takes_other_count past above other =
      let differ : (length now.parts == count) ≡ false = ne_eqb (length now.parts) count other in
      let whole : Bool = is_whole (with_part now index bytes) in
      let state : Bool = is_some (state_of rack (bytes_of (with_part now index bytes))) in
      picks
      ∙ (λ j. picked (not_before past above j)
      (differ j && (has_part now index || not whole || state)) (has_part now index))

  pub takes_again :
      own < epoch → c.epoch ≤ epoch → length now.parts ≡ count → has_part now index ≡ true
      → take_part rack own c epoch index count bytes ≡ leaves Repeated c
  takes_again past above same held =
      let whole : Bool = is_whole (with_part now index bytes) in
      let state : Bool = is_some (state_of rack (bytes_of (with_part now index bytes))) in
      picks
      ∙ (λ j. picked (not_before past above j)
      (eq-eqb (length now.parts) count same j && (held j || not whole || state)) (held j))

  added :
      (whole : Bool) (state : Option State) (more : Take)
      → pick (leaves Old c) (leaves Malformed c) (leaves Repeated c)
      (if whole then completes state c else more)
      false (true && (false || not whole || is_some state)) false
      ≡ (if whole then completes state c else more)
  added false state more = refl
  added true None more = refl
  added true (Some s) more = refl

  pub takes_added :
      own < epoch → c.epoch ≤ epoch → length now.parts ≡ count → has_part now index ≡ false
      → take_part rack own c epoch index count bytes ≡ adds rack c (with_part now index bytes)
  takes_added past above same free =
      let with : Collected = with_part now index bytes in
      let state : Option State = state_of rack (bytes_of with) in
      picks
      ∙ (λ j. picked (not_before past above j)
      (eq-eqb (length now.parts) count same j && (free j || not (is_whole with) || is_some state))
      (free j))
      ∙ added (is_whole with) state (leaves (More (held_count with)) with)

-- nothing changes
pub unchanged :
    (t : Take) (answer : Taken) (old : Collection) (stamps : Stamps) (table : Table)
    → t ≡ leaves answer old.collected → TakesAs t answer old old stamps stamps table table
unchanged t answer old stamps table is =
    subst (λ (u : Take). TakesAs u answer old old stamps stamps table table) (sym is)
    (record { answered = refl; collects = refl; stamped = refl; listed = refl })

-- of the epoch that is collected
pub begun_same :
    (c : Collected) (epoch count : ℕ) → epoch ≤ c.epoch → begun c epoch count ≡ c
begun_same c epoch count not_above =
    let older : nat_lt c.epoch epoch ≡ false = grind (arith, nat_tests) in
    λ j. if older j then record { epoch = epoch; parts = replicate count None } else c
