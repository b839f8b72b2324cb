-- What a collector takes in is what the book's switch holds after the part.
use Rattle.std.proofs.Common.{◌≡◌, ℕ, ◌≤◌, Bool, true, false, not, ◌&&◌, ◌||◌, nat_le, nat_lt}
use Rattle.std.proofs.Common.{Option, Some, None, List, [], ◌∷◌, refl, ap, sym, ◌∙◌, subst, arith}
use Rattle.std.proofs.Common.{if◌then◌else◌}
use Rattle.std.proofs.lemmas.Bool.Decides.{nat_tests}
use Rattle.std.proofs.lemmas.Bool.{false≢true}
use Rattle.peg_name.specs.Name.{Rack}
use Rattle.peg_model.specs.Packet.{Part, is_positive}
use Rattle.peg_model.specs.Handover.{State, Collected, none_collected, begun, fits, has_part}
use Rattle.peg_model.specs.Handover.{with_part, is_whole, held_count, state_of, bytes_of}
use Rattle.peg_model.specs.Switch.{Switch, SwitchStep, switch_step, is_active, activates, Active}
use Rattle.peg_model.specs.Switch.{acknowledgement}
use Rattle.peg_model.specs.Counts.{no_counts}
use Rattle.peg_event.specs.declared.Outcome.TheVariants as outcome
use Rattle.peg_event.specs.declared.SwitchDid.TheVariants as did
use Rattle.peg_grammar.specs.State.{SpellsState}
use Rattle.peg_parts.specs.declared.Taken.{Taken}
use Rattle.peg_parts.specs.declared.Taken.TheVariants.{Old, Malformed, Repeated, More, Whole}
use Rattle.peg_parts.specs.Taking.{Take, leaves, completes, take_part}
use Rattle.peg_parts.specs.Switching.{part_step, step_of}
use Rattle.peg_switch.specs.Modes.{taken_in, is_short}

-- what each answer leaves of what was collected, and the state that it brings
Leaves : Taken → Take → Collected → Type 0
Leaves Old t c = (t.collected ≡ c) × (t.state ≡ None)
Leaves Malformed t c = (t.collected ≡ c) × (t.state ≡ None)
Leaves Repeated t c = (t.collected ≡ c) × (t.state ≡ None)
Leaves (More held) t c = t.state ≡ None
Leaves (Whole last) t c =
    (x : State) × (t.state ≡ Some x) × (t.collected ≡ none_collected) × (x.last ≡ last)

left_by :
    (c now : Collected) (old misfit held whole : Bool) (state : Option State)
    → let t = (if old then leaves Old c
    else (if misfit then leaves Malformed c
    else (if held then leaves Repeated c
    else (if whole then completes state c else leaves (More (held_count now)) now)))) in
    Leaves t.answer t c
unfolding Leaves
left_by c now true misfit held whole state = (refl, refl)
left_by c now false true held whole state = (refl, refl)
left_by c now false false true whole state = (refl, refl)
left_by c now false false false false state = refl
left_by c now false false false true None = (refl, refl)
left_by c now false false false true (Some x) = (x, refl, refl, refl)

left :
    (rack : Rack) (own : ℕ) (c : Collected) (epoch index count : ℕ) (bytes : List ℕ)
    → Leaves (take_part rack own c epoch index count bytes).answer
    (take_part rack own c epoch index count bytes) c
unfolding take_part
left rack own c epoch index count bytes =
    let now = begun c epoch count in
    let with = with_part now index bytes in
    left_by c with (nat_le epoch own || nat_lt epoch c.epoch)
    (not (fits rack now index count bytes)) (has_part now index) (is_whole with)
    (state_of rack (bytes_of with))

-- ---- the switch after the part

short_by :
    (a : Taken) (t : Take) (s : Switch) (epoch index count : ℕ)
    → Leaves a t s.collected → is_short a ≡ true
    → taken_in s t ≡ (step_of a t s epoch index count).state
unfolding Leaves
short_by Old t s epoch index count (same, none) short =
    ap (λ o. taken_in s (record { answer = t.answer; collected = t.collected; state = o })) none
    ∙ ap (λ c. record s { collected = c }) same
short_by Malformed t s epoch index count (same, none) short =
    ap (λ o. taken_in s (record { answer = t.answer; collected = t.collected; state = o })) none
    ∙ ap (λ c. record s { collected = c }) same
short_by Repeated t s epoch index count (same, none) short =
    ap (λ o. taken_in s (record { answer = t.answer; collected = t.collected; state = o })) none
    ∙ ap (λ c. record s { collected = c }) same
short_by (More held) t s epoch index count none short =
    ap (λ o. taken_in s (record { answer = t.answer; collected = t.collected; state = o })) none
short_by (Whole last) t s epoch index count is short = absurd (false≢true short)

-- the step of a switch that is active with the state that it took in
abbrev pub active_from : Switch → ℕ → ℕ → SwitchStep
active_from s epoch last = record {
  state = record s {
    mode = Active;
    epoch = epoch;
    counts = no_counts;
    last = last;
    kept = Some (outcome.Activated epoch);
  };
  sent = acknowledgement last (outcome.Activated epoch) ∷ [];
  did = did.Activated epoch;
}

whole_by :
    (last : ℕ) (t : Take) (s : Switch) (epoch : ℕ)
    → Leaves (Whole last) t s.collected
    → activates t.state s epoch ≡ active_from (taken_in s t) epoch last
unfolding Leaves
whole_by last t s epoch (x, some, same, number) =
    ap (λ o. activates o s epoch) some
    ∙ sym (ap (λ o. active_from
    (taken_in s (record { answer = t.answer; collected = t.collected; state = o })) epoch last) some
    ∙ ap (λ c. active_from
    (record s { collected = c; stamps = x.stamps; entries = x.entries }) epoch last) same
    ∙ ap (λ n. active_from (record s {
      collected = none_collected;
      stamps = x.stamps;
      entries = x.entries;
    }) epoch n) (sym number))

-- the step by the collector's answer, which is the book's step
abbrev ByAnswer : Type 0
ByAnswer = (s : Switch) (epoch index count : ℕ) (bytes : List ℕ) (pick : ℕ)
    → is_active s.mode ≡ false → switch_step s (Part epoch index count bytes) pick
    ≡ part_step (take_part s.rack s.epoch s.collected epoch index count bytes) s epoch index count

module _ (s : Switch) (epoch index count : ℕ) (bytes : List ℕ) where
  abbrev pub took : Take
  took = take_part s.rack s.epoch s.collected epoch index count bytes

  pub short_after :
      ByAnswer → is_active s.mode ≡ false → is_short took.answer ≡ true
      → taken_in s took ≡ (switch_step s (Part epoch index count bytes) 0).state
  short_after law idle short =
      short_by took.answer took s epoch index count
      (left s.rack s.epoch s.collected epoch index count bytes) short
      ∙ ap (λ (t : SwitchStep). t.state) (sym (law s epoch index count bytes 0 idle))

  pub whole_after :
      (last : ℕ) → ByAnswer → is_active s.mode ≡ false → took.answer ≡ Whole last
      → switch_step s (Part epoch index count bytes) 0
      ≡ active_from (taken_in s took) epoch last
  whole_after last law idle whole =
      law s epoch index count bytes 0 idle
      ∙ ap (λ a. step_of a took s epoch index count) whole
      ∙ whole_by last took s epoch (subst (λ a. Leaves a took s.collected) whole
      (left s.rack s.epoch s.collected epoch index count bytes))

-- ---- the number of a state that was taken

first_of : (a b : Bool) → (a && b) ≡ true → a ≡ true
first_of true b h = refl
first_of false b h = cc

second_of : (a b : Bool) → (a && b) ≡ true → b ≡ true
second_of true b h = h
second_of false b h = cc

abbrev OnlyStates : Type 0
OnlyStates = (rack : Rack) (bytes : List ℕ) (x : State)
    → state_of rack bytes ≡ Some x → SpellsState rack bytes x

positive : (n : ℕ) → is_positive n ≡ true → 1 ≤ n
positive n h = grind (arith, nat_tests)

state_number :
    (rack : Rack) (bytes : List ℕ) (x : State)
    → OnlyStates → state_of rack bytes ≡ Some x → 1 ≤ x.last
state_number rack bytes x law is =
    positive x.last (second_of _ _ (first_of _ _ (first_of _ _ (first_of _ _ (first_of _ _
    (first_of _ _ (law rack bytes x is).in_range))))))

number_by :
    (c now : Collected) (old misfit held whole : Bool) (state : Option State) (last : ℕ)
    → ((x : State) → state ≡ Some x → 1 ≤ x.last)
    → (if old then leaves Old c
    else (if misfit then leaves Malformed c
    else (if held then leaves Repeated c
    else (if whole then completes state c else leaves (More (held_count now)) now)))).answer
    ≡ Whole last
    → 1 ≤ last
number_by c now true misfit held whole state last law is = cc
number_by c now false true held whole state last law is = cc
number_by c now false false true whole state last law is = cc
number_by c now false false false false state last law is = cc
number_by c now false false false true None last law is = cc
number_by c now false false false true (Some x) last law is =
    let same : x.last ≡ last = cc in
    let one = law x refl in
    omega (arith, same, one)

pub taken_number :
    (rack : Rack) (own : ℕ) (c : Collected) (epoch index count : ℕ) (bytes : List ℕ) (last : ℕ)
    → OnlyStates → (take_part rack own c epoch index count bytes).answer ≡ Whole last → 1 ≤ last
unfolding take_part
taken_number rack own c epoch index count bytes last law is =
    let now = begun c epoch count in
    let with = with_part now index bytes in
    number_by c with (nat_le epoch own || nat_lt epoch c.epoch)
    (not (fits rack now index count bytes)) (has_part now index) (is_whole with)
    (state_of rack (bytes_of with)) last
    (λ x some. state_number rack (bytes_of with) x law some) is
