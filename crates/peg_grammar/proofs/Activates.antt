-- What a switch makes of the parts of one state's bytes, in the book's steps.
use Rattle.std.proofs.Common.{◌≡◌, ℕ, ◌<◌, ◌≤◌, Bool, true, false, not, ◌&&◌, ◌||◌, ◌==◌, ◌⊎◌}
use Rattle.std.proofs.Common.{inl, inr, nat_lt, Some, List, [], ◌∷◌, length, if◌then◌else◌, refl}
use Rattle.std.proofs.Common.{ap, sym, ◌∙◌, subst, arith}
use Rattle.std.specs.List.{Contains}
use Rattle.std.proofs.lemmas.Bool.{cases_Bool, cases_lt, cond-true, eq-eqb, false≢true, le-ltb}
use Rattle.std.proofs.lemmas.Bool.{ne_eqb}
use Rattle.std.proofs.lemmas.Bool.Decides.{nat_tests}
use Rattle.peg_name.specs.Name.{InLimits}
use Rattle.peg_event.specs.declared.SwitchDid.TheVariants as did
use Rattle.peg_model.specs.Words.{refuse}
use Rattle.peg_model.specs.Packet.{Packet, Part}
use Rattle.peg_model.specs.Handover.{State, Collected, begun, has_part, with_part, part_of, parts}
use Rattle.peg_model.specs.Handover.{bytes_of, held_count, is_whole, state_of}
use Rattle.peg_model.specs.Switch.{Mode, Idle, Active, Sealed, Switch, SwitchStep, is_active}
use Rattle.peg_model.specs.Switch.{is_old, activates, collects, on_part, in_mode, out_of_place}
use Rattle.peg_model.specs.Switch.{active_step, repeats, switch_step}
use Rattle.peg_grammar.specs.State.{SpellsState}
use Rattle.peg_grammar.specs.Collecting.{HoldsParts, after_part, switch_after}
use Rattle.peg_grammar.proofs.Collect.{one_more_holds, whole_bytes, every_part_fits, taken}
use Rattle.peg_grammar.proofs.Collect.{taken_holds, taken_epoch, takes, fresh_holds, fresh_lacks}
use Rattle.peg_grammar.proofs.Collect.{all_make_whole, begun_anew, begun_same, after_first}
use Rattle.peg_grammar.proofs.Collect.{after_next}
use Rattle.peg_grammar.proofs.State.{Spells-state_of}
use Rattle.peg_grammar.proofs.StateSize.{sized}

-- a part that does not complete them
takes_at :
    (s : Switch) (epoch index count : ℕ) (part : List ℕ) (now : Collected) (old has : Bool)
    → old ≡ false
    → is_whole (if has then s.collected else with_part now index part) ≡ false
    → (if old then refuse s (did.OldPart epoch)
    else (if has then refuse s (did.HasPart index)
    else collects (with_part now index part) s epoch count)).state
    ≡ record s { collected = if has then s.collected else with_part now index part }
takes_at s epoch index count part now old true new lacks =
    let passed : SwitchStep = refuse s (did.OldPart epoch) in
    let again : SwitchStep = refuse s (did.HasPart index) in
    λ j. (if new j then passed else again).state
takes_at s epoch index count part now old false new lacks =
    let more : Collected = with_part now index part in
    let passed : SwitchStep = refuse s (did.OldPart epoch) in
    let active : SwitchStep = activates (state_of s.rack (bytes_of more)) s epoch in
    let waits : SwitchStep = record {
      state = record s { collected = more };
      sent = [];
      did = did.Collected (held_count more) count;
    }
    in
    (λ j. (if new j then passed else collects more s epoch count).state)
    ∙ (λ j. (if lacks j then active else waits).state)

pub takes_part :
    (s : Switch) (bytes : List ℕ) (epoch index : ℕ) → is_old s epoch ≡ false
    → is_whole (after_part epoch bytes s.collected index) ≡ false
    → (on_part s epoch index (length (parts bytes)) (part_of bytes index)).state
    ≡ record s { collected = after_part epoch bytes s.collected index }
takes_part s bytes epoch index new lacks =
    let count : ℕ = length (parts bytes) in
    let now : Collected = begun s.collected epoch count in
    takes_at s epoch index count (part_of bytes index) now (is_old s epoch) (has_part now index)
    new lacks

-- the part that completes them
pub takes_last_part :
    (s : Switch) (bytes : List ℕ) (handed : State) (epoch index : ℕ) → InLimits s.rack
    → SpellsState s.rack bytes handed → is_old s epoch ≡ false
    → HoldsParts bytes (begun s.collected epoch (length (parts bytes)))
    → has_part (begun s.collected epoch (length (parts bytes))) index ≡ false
    → is_whole (after_part epoch bytes s.collected index) ≡ true
    → on_part s epoch index (length (parts bytes)) (part_of bytes index)
    ≡ activates (Some handed) s epoch
takes_last_part s bytes handed epoch index limits spells new holds lacked whole =
    let count : ℕ = length (parts bytes) in
    let part : List ℕ = part_of bytes index in
    let now : Collected = begun s.collected epoch count in
    let more : Collected = with_part now index part in
    let ends : is_whole more ≡ true =
    sym (λ j. is_whole (if lacked j then s.collected else more)) ∙ whole
    in
    let read : state_of s.rack (bytes_of more) ≡ Some handed =
    ap (state_of s.rack) (whole_bytes bytes more (one_more_holds bytes now index holds) ends)
    ∙ Spells-state_of s.rack bytes handed limits spells
    in
    let passed : SwitchStep = refuse s (did.OldPart epoch) in
    let again : SwitchStep = refuse s (did.HasPart index) in
    let waits : SwitchStep = record {
      state = record s { collected = more };
      sent = [];
      did = did.Collected (held_count more) count;
    }
    in
    (λ j. if new j then passed else (if lacked j then again else collects more s epoch count))
    ∙ (λ j. if ends j then activates (state_of s.rack (bytes_of more)) s epoch else waits)
    ∙ ap (λ state. activates state s epoch) read

-- ---- in any order

-- a switch that collects parts of these bytes, and lacks one
record Waits (s : Switch) (bytes : List ℕ) (epoch : ℕ) : Type 0 where
  passive : is_active s.mode ≡ false
  next : s.epoch < epoch
  upto : s.collected.epoch ≤ epoch
  holds : HoldsParts bytes (begun s.collected epoch (length (parts bytes)))
  lacks : is_whole (begun s.collected epoch (length (parts bytes))) ≡ false

new_to : (s : Switch) (bytes : List ℕ) (epoch : ℕ) → Waits s bytes epoch → is_old s epoch ≡ false
new_to s bytes epoch waits = grind (arith, nat_tests, waits.next, waits.upto)

in_passive :
    (mode : Mode) (s : Switch) (epoch index count : ℕ) (part : List ℕ)
    → is_active mode ≡ false
    → in_mode mode s (Part epoch index count part) 0 ≡ on_part s epoch index count part
in_passive Idle s epoch index count part passive = refl
in_passive Active s epoch index count part passive = absurd cc
in_passive (Sealed target) s epoch index count part passive = refl

mode_any_pick :
    (mode : Mode) (s : Switch) (epoch index count : ℕ) (part : List ℕ) (pick : ℕ)
    → in_mode mode s (Part epoch index count part) pick
    ≡ in_mode mode s (Part epoch index count part) 0
mode_any_pick Idle s epoch index count part pick = refl
mode_any_pick Active s epoch index count part pick = refl
mode_any_pick (Sealed target) s epoch index count part pick = refl

pub part_any_pick :
    (s : Switch) (epoch index count : ℕ) (part : List ℕ) (pick : ℕ)
    → switch_step s (Part epoch index count part) pick
    ≡ switch_step s (Part epoch index count part) 0
unfolding switch_step
part_any_pick s epoch index count part pick =
    let packet : Packet = Part epoch index count part in
    ap (λ step. if out_of_place s packet then refuse s did.OutOfPlace else step)
    (mode_any_pick s.mode s epoch index count part pick)

-- the part reaches the collection
reaches :
    (s : Switch) (bytes : List ℕ) (handed : State) (epoch index : ℕ) → InLimits s.rack
    → SpellsState s.rack bytes handed → Waits s bytes epoch
    → switch_step s (Part epoch index (length (parts bytes)) (part_of bytes index)) 0
    ≡ on_part s epoch index (length (parts bytes)) (part_of bytes index)
unfolding switch_step
reaches s bytes handed epoch index limits spells waits =
    let count : ℕ = length (parts bytes) in
    let part : List ℕ = part_of bytes index in
    let packet : Packet = Part epoch index count part in
    let now : Collected = begun s.collected epoch count in
    let fit = every_part_fits s.rack bytes handed now index limits spells waits.holds in
    let new = new_to s bytes epoch waits in
    let ahead : Bool = nat_lt s.epoch epoch || (epoch == s.epoch && s.last == 0) in
    let placed : out_of_place s packet ≡ false =
    (λ j. if waits.passive j then ahead else not (new j) && not (fit j))
    in
    (λ j. if placed j then refuse s did.OutOfPlace else in_mode s.mode s packet 0)
    ∙ in_passive s.mode s epoch index count part waits.passive

-- a switch that took the state over stays as it is
active : Switch → State → ℕ → Switch
active s handed epoch = (activates (Some handed) s epoch).state

stays_once :
    (s : Switch) (handed : State) (epoch index count : ℕ) (part : List ℕ) → 0 < handed.last
    → (switch_step (active s handed epoch) (Part epoch index count part) 0).state
    ≡ active s handed epoch
unfolding active switch_step
stays_once s handed epoch index count part positive =
    let now : Switch = active s handed epoch in
    let packet : Packet = Part epoch index count part in
    let same : (epoch == epoch) ≡ true = eq-eqb epoch epoch refl in
    let level : nat_lt epoch epoch ≡ false = le-ltb epoch epoch (omega arith) in
    let some : (handed.last == 0) ≡ false = ne_eqb handed.last 0 (λ none. omega arith) in
    let placed : out_of_place now packet ≡ false = (λ j. level j || (same j && some j)) in
    (λ j. (if placed j then refuse now did.OutOfPlace else active_step now packet 0).state)
    ∙ (λ j. (if same j then repeats now else refuse now (did.OldPart epoch)).state)

stays :
    (s : Switch) (bytes : List ℕ) (handed : State) (epoch : ℕ) (order : List ℕ) → 0 < handed.last
    → switch_after epoch bytes (active s handed epoch) order ≡ active s handed epoch
stays s bytes handed epoch [] positive = refl
stays s bytes handed epoch (index ∷ order) positive =
    ap (λ now. switch_after epoch bytes now order)
    (stays_once s handed epoch index (length (parts bytes)) (part_of bytes index) positive)
    ∙ stays s bytes handed epoch order positive

-- the collection goes on from the parts that were held
after_is_at :
    (epoch : ℕ) (bytes : List ℕ) (c : Collected) (index : ℕ) → c.epoch ≤ epoch
    → (c.epoch < epoch) ⊎ (epoch ≤ c.epoch)
    → (after_part epoch bytes c index
    ≡ taken bytes (begun c epoch (length (parts bytes))) index)
    × ((begun c epoch (length (parts bytes))).epoch ≡ epoch)
after_is_at epoch bytes c index upto (inl before) =
    let anew = begun_anew c epoch bytes before in (
      after_first epoch bytes c index before ∙ ap (λ now. taken bytes now index) (sym anew),
      ap (λ now. now.epoch) anew,
    )
after_is_at epoch bytes c index upto (inr level) =
    let is : c.epoch ≡ epoch = omega arith in
    let same = begun_same c epoch bytes is in (
      after_next epoch bytes c index is ∙ ap (λ now. taken bytes now index) (sym same),
      ap (λ now. now.epoch) same ∙ is,
    )

record GoesOn (epoch : ℕ) (bytes : List ℕ) (c : Collected) (index : ℕ) : Type 0 where
  is :
      after_part epoch bytes c index ≡ taken bytes (begun c epoch (length (parts bytes))) index
  epoch_is : (after_part epoch bytes c index).epoch ≡ epoch
  begun_is :
      begun (after_part epoch bytes c index) epoch (length (parts bytes))
      ≡ taken bytes (begun c epoch (length (parts bytes))) index

goes_on :
    (epoch : ℕ) (bytes : List ℕ) (c : Collected) (index : ℕ) → c.epoch ≤ epoch
    → GoesOn epoch bytes c index
goes_on epoch bytes c index upto =
    let now : Collected = begun c epoch (length (parts bytes)) in
    let at = after_is_at epoch bytes c index upto (cases_lt c.epoch epoch) in
    let epoch_is : (after_part epoch bytes c index).epoch ≡ epoch =
    ap (λ some. some.epoch) at.0 ∙ taken_epoch bytes now index ∙ at.1
    in
    record {
      is = at.0;
      epoch_is = epoch_is;
      begun_is = begun_same (after_part epoch bytes c index) epoch bytes epoch_is ∙ at.0;
    }

waits_on :
    (s : Switch) (bytes : List ℕ) (epoch index : ℕ) → Waits s bytes epoch
    → is_whole (taken bytes (begun s.collected epoch (length (parts bytes))) index) ≡ false
    → Waits (record s { collected = after_part epoch bytes s.collected index }) bytes epoch
waits_on s bytes epoch index waits lacks =
    let now : Collected = begun s.collected epoch (length (parts bytes)) in
    let on = goes_on epoch bytes s.collected index waits.upto in
    record {
      passive = waits.passive;
      next = waits.next;
      upto = omega (arith, on.epoch_is);
      holds =
          subst (HoldsParts bytes) (sym on.begun_is) (taken_holds bytes now index waits.holds);
      lacks = ap is_whole on.begun_is ∙ lacks;
    }

-- what completes the parts was lacking
lacked_at :
    (bytes : List ℕ) (now : Collected) (index : ℕ) → is_whole now ≡ false
    → is_whole (taken bytes now index) ≡ true → (has : Bool) → has_part now index ≡ has
    → has_part now index ≡ false
lacked_at bytes now index lacks whole true has =
    let put : Collected = with_part now index (part_of bytes index) in
    let same : taken bytes now index ≡ now = cond-true (has_part now index) now put has in
    absurd (false≢true (sym lacks ∙ sym (ap is_whole same) ∙ whole))
lacked_at bytes now index lacks whole false has = has

to_active :
    (bytes : List ℕ) (handed : State) (epoch : ℕ) (order : List ℕ) (s : Switch) → InLimits s.rack
    → SpellsState s.rack bytes handed → Waits s bytes epoch
    → is_whole (takes bytes (begun s.collected epoch (length (parts bytes))) order) ≡ true
    → switch_after epoch bytes s order ≡ active s handed epoch
unfolding active
to_active bytes handed epoch [] s limits spells waits whole =
    absurd (false≢true (sym waits.lacks ∙ whole))
to_active bytes handed epoch (index ∷ order) s limits spells waits whole =
    let count : ℕ = length (parts bytes) in
    let now : Collected = begun s.collected epoch count in
    let new = new_to s bytes epoch waits in
    let on = goes_on epoch bytes s.collected index waits.upto in
    let comes = ap (λ step. step.state) (reaches s bytes handed epoch index limits spells waits) in
    elim (cases_Bool (is_whole (taken bytes now index))) [
      | inl ends ↦
          let lacked = lacked_at bytes now index waits.lacks ends (has_part now index) refl in
          let last =
          takes_last_part s bytes handed epoch index limits spells new waits.holds lacked
          (ap is_whole on.is ∙ ends)
          in
          ap (λ some. switch_after epoch bytes some order) (comes ∙ ap (λ step. step.state) last)
          ∙ stays s bytes handed epoch order (sized s.rack handed spells.in_range).last
      | inr lacks ↦
          let more : Switch = record s { collected = after_part epoch bytes s.collected index } in
          let one = takes_part s bytes epoch index new (ap is_whole on.is ∙ lacks) in
          ap (λ some. switch_after epoch bytes some order) (comes ∙ one)
          ∙ to_active bytes handed epoch order more limits spells
          (waits_on s bytes epoch index waits lacks)
          (ap (λ some. is_whole (takes bytes some order)) on.begun_is ∙ whole)
    ]

-- ---- the law

pub active_in_any_order :
    (s : Switch) (bytes : List ℕ) (handed : State) (epoch : ℕ) (order : List ℕ) → InLimits s.rack
    → SpellsState s.rack bytes handed → is_active s.mode ≡ false → s.epoch < epoch
    → s.collected.epoch < epoch
    → ((index : ℕ) → index < length (parts bytes) → Contains order index)
    → switch_after epoch bytes s order ≡ (activates (Some handed) s epoch).state
unfolding active
active_in_any_order s bytes handed epoch order limits spells passive next before all =
    let anew = begun_anew s.collected epoch bytes before in
    let waits : Waits s bytes epoch = record {
      passive = passive;
      next = next;
      upto = omega arith;
      holds = subst (HoldsParts bytes) (sym anew) (fresh_holds epoch bytes);
      lacks = ap is_whole anew ∙ fresh_lacks s.rack bytes handed epoch limits spells;
    }
    in
    to_active bytes handed epoch order s limits spells waits
    (ap (λ now. is_whole (takes bytes now order)) anew ∙ all_make_whole epoch bytes order all)
