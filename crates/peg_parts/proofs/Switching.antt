-- A switch that isn't active does with a part what its collector says.
use Rattle.std.proofs.Common.{◌≡◌, ℕ, Bool, true, false, not, ◌&&◌, ◌||◌, ◌==◌, nat_lt}
use Rattle.std.proofs.Common.{Option, Some, None, List, [], length, if◌then◌else◌, refl, ap, sym, ◌∙◌, subst}
use Rattle.std.specs.Option.{is_some}
use Rattle.peg_event.specs.declared.SwitchDid.TheVariants as did
use Rattle.peg_model.specs.Words.{refuse}
use Rattle.peg_model.specs.Packet.{Part}
use Rattle.peg_model.specs.Rules.{Stamps, Directory}
use Rattle.peg_model.specs.Handover.{State, Collected, begun, with_part, has_part, is_whole}
use Rattle.peg_model.specs.Handover.{held_count, bytes_of, state_of, fits}
use Rattle.peg_model.specs.Switch.{Switch, SwitchStep, Mode, Idle, Active, Sealed, is_active, is_old}
use Rattle.peg_model.specs.Switch.{is_misplaced, on_part, activates, in_mode, switch_step}
use Rattle.peg_parts.specs.Sealed.{state_with}
use Rattle.peg_parts.specs.declared.Taken.TheVariants.{Old, Malformed, Repeated, More, Whole}
use Rattle.peg_parts.specs.Taking.{Take, leaves, completes, take_part, stamps_after}
use Rattle.peg_parts.specs.Taking.{entries_after}
use Rattle.peg_parts.specs.Switching.{is_malformed, part_step}

-- ---- by the answers to the tests

abbrev fitting : Bool → Bool → Bool → Option State → Bool
fitting counted held whole state = counted && (held || not whole || is_some state)

abbrev take_by : Collected → Collected → Bool → Bool → Bool → Bool → Option State → Take
take_by c now old counted held whole state =
    if old then leaves Old c
    else (if not (fitting counted held whole state) then leaves Malformed c
    else (if held then leaves Repeated c
    else (if whole then completes state c else leaves (More (held_count now)) now)))

malformed_by :
    (c now : Collected) (old counted held whole : Bool) (state : Option State)
    → (not old && not (fitting counted held whole state))
    ≡ is_malformed (take_by c now old counted held whole state).answer
malformed_by c now true counted held whole state = refl
malformed_by c now false false held whole state = refl
malformed_by c now false true true whole state = refl
malformed_by c now false true false false state = refl
malformed_by c now false true false true None = refl
malformed_by c now false true false true (Some s) = refl

-- the switch's step, once it isn't active
abbrev step_by :
    Switch → ℕ → ℕ → ℕ → Collected → Bool → Bool → Bool → Bool → Option State → SwitchStep
step_by s epoch index count now old counted held whole state =
    if not old && not (fitting counted held whole state) then refuse s did.OutOfPlace
    else (if old then refuse s (did.OldPart epoch)
    else (if held then refuse s (did.HasPart index)
    else (if whole then activates state s epoch
    else record {
      state = record s { collected = now };
      sent = [];
      did = did.Collected (held_count now) count;
    })))

steps_by :
    (s : Switch) (epoch index count : ℕ) (c now : Collected) (old counted held whole : Bool)
    (state : Option State)
    → step_by s epoch index count now old counted held whole state
    ≡ part_step (take_by c now old counted held whole state) s epoch index count
steps_by s epoch index count c now true counted held whole state = refl
steps_by s epoch index count c now false false held whole state = refl
steps_by s epoch index count c now false true true whole state = refl
steps_by s epoch index count c now false true false false state = refl
steps_by s epoch index count c now false true false true None = refl
steps_by s epoch index count c now false true false true (Some state) = refl

state_by :
    (c now : Collected) (old counted held whole : Bool) (state : Option State) (last : ℕ)
    (stamps : Stamps) (entries : Directory)
    → (take_by c now old counted held whole state).answer ≡ Whole last
    → (take_by c now old counted held whole state).state
    ≡ Some (state_with (stamps_after stamps (take_by c now old counted held whole state).state)
    last (entries_after entries (take_by c now old counted held whole state).state))
state_by c now true counted held whole state last stamps entries is = cc
state_by c now false false held whole state last stamps entries is = cc
state_by c now false true true whole state last stamps entries is = cc
state_by c now false true false false state last stamps entries is = cc
state_by c now false true false true None last stamps entries is = cc
state_by c now false true false true (Some s) last stamps entries is =
    let same : s.last ≡ last = cc in
    λ j. Some (state_with s.stamps (same j) s.entries)

-- ---- the book's step

module _ (s : Switch) (epoch index count : ℕ) (bytes : List ℕ) where
  abbrev now : Collected
  now = begun s.collected epoch count

  abbrev with : Collected
  with = with_part now index bytes

  takes_by :
      take_part s.rack s.epoch s.collected epoch index count bytes
      ≡ take_by s.collected with (is_old s epoch) (length now.parts == count) (has_part now index)
      (is_whole with) (state_of s.rack (bytes_of with))
  unfolding take_part
  takes_by = refl

  misplaced_by :
      (active : Bool) → active ≡ false
      → (if active then nat_lt s.epoch epoch || (epoch == s.epoch && s.last == 0)
      else not (is_old s epoch) && not (fits s.rack now index count bytes))
      ≡ (not (is_old s epoch) && not (fits s.rack now index count bytes))
  misplaced_by active idle =
      λ j. if idle j then nat_lt s.epoch epoch || (epoch == s.epoch && s.last == 0)
      else not (is_old s epoch) && not (fits s.rack now index count bytes)

  pub misplaced :
      is_active s.mode ≡ false
      → is_misplaced s (Part epoch index count bytes)
      ≡ is_malformed (take_part s.rack s.epoch s.collected epoch index count bytes).answer
  misplaced idle =
      misplaced_by (is_active s.mode) idle
      ∙ malformed_by s.collected with (is_old s epoch) (length now.parts == count)
      (has_part now index) (is_whole with) (state_of s.rack (bytes_of with))
      ∙ sym (ap (λ (t : Take). is_malformed t.answer) takes_by)

  in_its_mode :
      (mode : Mode) (pick : ℕ) → is_active mode ≡ false
      → in_mode mode s (Part epoch index count bytes) pick ≡ on_part s epoch index count bytes
  in_its_mode Idle pick idle = refl
  in_its_mode Active pick idle = cc
  in_its_mode (Sealed target) pick idle = refl

  pub steps :
      (pick : ℕ) → is_active s.mode ≡ false
      → switch_step s (Part epoch index count bytes) pick
      ≡ part_step (take_part s.rack s.epoch s.collected epoch index count bytes) s epoch index count
  unfolding switch_step
  steps pick idle =
      (λ j. if misplaced_by (is_active s.mode) idle j then refuse s did.OutOfPlace
      else in_its_mode s.mode pick idle j)
      ∙ steps_by s epoch index count s.collected with (is_old s epoch) (length now.parts == count)
      (has_part now index) (is_whole with) (state_of s.rack (bytes_of with))
      ∙ sym (ap (λ (t : Take). part_step t s epoch index count) takes_by)

  pub state_taken :
      (last : ℕ) (stamps : Stamps) (entries : Directory)
      → (take_part s.rack s.epoch s.collected epoch index count bytes).answer ≡ Whole last
      → (take_part s.rack s.epoch s.collected epoch index count bytes).state
      ≡ Some (state_with
      (stamps_after stamps
      (take_part s.rack s.epoch s.collected epoch index count bytes).state)
      last
      (entries_after entries
      (take_part s.rack s.epoch s.collected epoch index count bytes).state))
  state_taken last stamps entries is =
      subst
      (λ (t : Take). t.answer ≡ Whole last → t.state
      ≡ Some (state_with (stamps_after stamps t.state) last (entries_after entries t.state)))
      (sym takes_by)
      (state_by s.collected with (is_old s epoch) (length now.parts == count) (has_part now index)
      (is_whole with) (state_of s.rack (bytes_of with)) last stamps entries)
      is
