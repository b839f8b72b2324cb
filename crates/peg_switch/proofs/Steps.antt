-- What a packet comes to, by whether it is in place and by the mode of the switch.
use Rattle.std.proofs.Common.{◌≡◌, ℕ, ◌+◌, ◌==◌, ◌&&◌, ◌||◌, Bool, true, false, not, List}
use Rattle.std.proofs.Common.{ap, sym, ◌∙◌, refl, arith}
use Rattle.std.proofs.lemmas.Bool.{false≢true}
use Rattle.std.proofs.lemmas.List.{append-nil}
use Rattle.std.proofs.lemmas.Bool.Decides.{nat_tests}
use Rattle.std.specs.Prelude.{if◌then◌else◌}
use Rattle.peg_event.specs.declared.SwitchDid.{SwitchDid}
use Rattle.peg_event.specs.declared.SwitchDid.TheVariants as did
use Rattle.peg_packet.specs.Outbox.{Outbox, posted}
use Rattle.peg_model.specs.Words.{refuse}
use Rattle.peg_model.specs.Packet.{Packet, What, Command, Promote, Demote, Copy, Seal, Clear}
use Rattle.peg_model.specs.Packet.{FenceKey, Part, Read, Write, ReadReply, WriteReply, Void, Held}
use Rattle.peg_model.specs.Packet.{Survey}
use Rattle.peg_model.specs.Switch.{Switch, SwitchStep, Active, Idle, Sealed, switch_takes}
use Rattle.peg_model.specs.Switch.{is_misplaced, switch_step, active_step, idle_step, sealed_step}
use Rattle.peg_model.specs.Switch.{in_mode, is_active}
use Rattle.peg_switch.specs.Kept.{comes_next}
use Rattle.peg_switch.specs.Modes.{idle_packet, sealed_packet}

-- a packet that is for the switch and in place
in_place :
    (s : Switch) (p : Packet) (pick : ℕ)
    → switch_takes s.rack p ≡ true → is_misplaced s p ≡ false
    → switch_step s p pick ≡ in_mode s.mode s p pick
unfolding switch_step
in_place s p pick taken placed =
    ap (λ t. if not t || is_misplaced s p then refuse s did.OutOfPlace
    else in_mode s.mode s p pick) taken
    ∙ ap (λ m. if m then refuse s did.OutOfPlace else in_mode s.mode s p pick) placed

pub misplaced :
    (s : Switch) (p : Packet) (pick : ℕ)
    → switch_takes s.rack p ≡ true → is_misplaced s p ≡ true
    → switch_step s p pick ≡ refuse s did.OutOfPlace
unfolding switch_step
misplaced s p pick taken placed =
    ap (λ t. if not t || is_misplaced s p then refuse s did.OutOfPlace
    else in_mode s.mode s p pick) taken
    ∙ ap (λ m. if m then refuse s did.OutOfPlace else in_mode s.mode s p pick) placed

pub active_does :
    (s : Switch) (p : Packet) (pick : ℕ)
    → switch_takes s.rack p ≡ true → is_misplaced s p ≡ false → s.mode ≡ Active
    → switch_step s p pick ≡ active_step s p pick
active_does s p pick taken placed active =
    in_place s p pick taken placed ∙ ap (λ mode. in_mode mode s p pick) active

-- what is sent by a step that is refused
pub unsent :
    (post : Outbox) (step : SwitchStep) (s : Switch) (d : SwitchDid) → step ≡ refuse s d
    → post ≡ posted post step.sent
unsent post step s d is =
    sym (ap (λ (t : SwitchStep). posted post t.sent) is
    ∙ ap (λ items. record post { items = items }) (append-nil post.items))

pub not_taken :
    (s : Switch) (p : Packet) (pick : ℕ) → switch_takes s.rack p ≡ false
    → switch_step s p pick ≡ refuse s did.OutOfPlace
unfolding switch_step
not_taken s p pick none =
    ap (λ t. if not t || is_misplaced s p then refuse s did.OutOfPlace
    else in_mode s.mode s p pick) none

-- the next command, where it is in place, is of the next epoch if it seals
pub next_command :
    (s : Switch) (number : ℕ) (what : What)
    → s.mode ≡ Active → number ≡ s.last + 1
    → is_misplaced s (Command number what) ≡ false
    → comes_next s.epoch what ≡ true
next_command s number (Promote key) active next placed = refl
next_command s number (Demote key) active next placed = refl
next_command s number (Copy target key) active next placed = refl
next_command s number (FenceKey key) active next placed = refl
next_command s number Clear active next placed = refl
next_command s number (Seal target epoch) active next placed =
    by (is_active s.mode) (number == s.last + 1) (target == s.id) (epoch == s.epoch + 1)
    (ap is_active active) (same number (s.last + 1) next) placed
  where
    same : (a b : ℕ) → a ≡ b → (a == b) ≡ true
    same a b h = grind (arith, nat_tests)

    by :
        (active next self due : Bool) → active ≡ true → next ≡ true
        → (active && next && (self || not due)) ≡ false → due ≡ true
    by true true false true a n h = refl
    by true true false false a n h = cc
    by true true true due a n h = cc
    by true false self due a n h = cc
    by false next self due a n h = cc

-- ---- a switch that is not active

is_part : Packet → Bool
is_part (Part epoch index count bytes) = true
is_part _ = false

-- only a part can be out of place then
placed_by_mode :
    (s : Switch) (p : Packet) → is_active s.mode ≡ false → is_part p ≡ false
    → is_misplaced s p ≡ false
unfolding is_part
placed_by_mode s (Command number (Seal target epoch)) inactive other =
    ap (λ a. a && number == s.last + 1 && (target == s.id || not (epoch == s.epoch + 1))) inactive
placed_by_mode s (Command number (Promote key)) inactive other = refl
placed_by_mode s (Command number (Demote key)) inactive other = refl
placed_by_mode s (Command number (Copy target key)) inactive other = refl
placed_by_mode s (Command number (FenceKey key)) inactive other = refl
placed_by_mode s (Command number Clear) inactive other = refl
placed_by_mode s (Part epoch index count bytes) inactive other = absurd (false≢true (sym other))
placed_by_mode s _ inactive other = refl

idle_by :
    (s : Switch) (p : Packet) (pick : ℕ)
    → switch_takes s.rack p ≡ true → s.mode ≡ Idle → is_part p ≡ false
    → switch_step s p pick ≡ idle_step s p
idle_by s p pick taken idle other =
    in_place s p pick taken (placed_by_mode s p (ap is_active idle) other)
    ∙ ap (λ mode. in_mode mode s p pick) idle

sealed_by :
    (s : Switch) (target : ℕ) (p : Packet) (pick : ℕ)
    → switch_takes s.rack p ≡ true → s.mode ≡ Sealed target → is_part p ≡ false
    → switch_step s p pick ≡ sealed_step s target p
sealed_by s target p pick taken mode other =
    in_place s p pick taken (placed_by_mode s p (ap is_active mode) other)
    ∙ ap (λ mode. in_mode mode s p pick) mode

-- a part asks for no pick
abbrev AnyPick : Type 0
AnyPick = (s : Switch) (epoch index count : ℕ) (bytes : List ℕ) (pick : ℕ)
    → switch_step s (Part epoch index count bytes) pick
    ≡ switch_step s (Part epoch index count bytes) 0

pub idle_does :
    (s : Switch) (p : Packet) (pick : ℕ) → AnyPick
    → switch_takes s.rack p ≡ true → s.mode ≡ Idle
    → switch_step s p pick ≡ idle_packet s p
unfolding is_part
idle_does s (Part epoch index count bytes) pick any taken idle = any s epoch index count bytes pick
idle_does s (Read client seq key) pick any taken idle = idle_by s _ pick taken idle refl
idle_does s (Write client seq key content) pick any taken idle = idle_by s _ pick taken idle refl
idle_does s (ReadReply client seq version server switch key content) pick any taken idle =
    idle_by s _ pick taken idle refl
idle_does s (WriteReply client seq version server switch key) pick any taken idle =
    idle_by s _ pick taken idle refl
idle_does s (Void client seq version server switch key) pick any taken idle =
    idle_by s _ pick taken idle refl
idle_does s (Held server version key) pick any taken idle = idle_by s _ pick taken idle refl
idle_does s (Command number what) pick any taken idle = idle_by s _ pick taken idle refl
idle_does s Survey pick any taken idle = idle_by s _ pick taken idle refl
idle_does s _ pick any taken idle = absurd (false≢true taken)

pub sealed_does :
    (s : Switch) (target : ℕ) (p : Packet) (pick : ℕ) → AnyPick
    → switch_takes s.rack p ≡ true → s.mode ≡ Sealed target
    → switch_step s p pick ≡ sealed_packet s target p
unfolding is_part
sealed_does s target (Part epoch index count bytes) pick any taken mode =
    any s epoch index count bytes pick
sealed_does s target (Read client seq key) pick any taken mode =
    sealed_by s target _ pick taken mode refl
sealed_does s target (Write client seq key content) pick any taken mode =
    sealed_by s target _ pick taken mode refl
sealed_does s target (ReadReply client seq version server switch key content) pick any taken mode =
    sealed_by s target _ pick taken mode refl
sealed_does s target (WriteReply client seq version server switch key) pick any taken mode =
    sealed_by s target _ pick taken mode refl
sealed_does s target (Void client seq version server switch key) pick any taken mode =
    sealed_by s target _ pick taken mode refl
sealed_does s target (Held server version key) pick any taken mode =
    sealed_by s target _ pick taken mode refl
sealed_does s target (Command number what) pick any taken mode =
    sealed_by s target _ pick taken mode refl
sealed_does s target Survey pick any taken mode = sealed_by s target _ pick taken mode refl
sealed_does s target _ pick any taken mode = absurd (false≢true taken)
