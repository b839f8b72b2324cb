-- What a balanced switch makes of a packet that bytes spell.
use Rattle.std.proofs.Common.{◌≡◌, ◌∙◌, ℕ, List, Option, Some, true, ap, subst, sym, refl}
use Rattle.std.specs.Prelude.{if◌then◌else◌}
use Rattle.peg_name.specs.declared.Format.{Format}
use Rattle.peg_name.specs.declared.Format.TheVariants.{One, Two}
use Rattle.peg_name.specs.declared.Node.{Node}
use Rattle.peg_event.specs.declared.SwitchDid.{SwitchDid}
use Rattle.peg_event.specs.declared.SwitchDid.TheVariants as did
use Rattle.peg_model.specs.Words.{refuse}
use Rattle.peg_model.specs.Packet.{Packet}
use Rattle.peg_model.specs.Reading.{packet_of, is_format}
use Rattle.peg_model.specs.Switch.{Switch, SwitchStep, switch_step}
use Rattle.peg_model.specs.Datagrams.{on_bytes}
use Rattle.peg_meaning.specs.Balance as book
use Rattle.peg_meaning.specs.Balance.{Balanced, Loads, balanced_turn, pick_by, charged_by}
use Rattle.peg_switch.specs.Choices.{packet_allowed}

abbrev Turned : Type 0
Turned = Balanced × List (Node × Packet)

stepped : Balanced → SwitchStep → Turned
stepped b step = (record { switch = step.state; loads = charged_by step.did b.loads }, step.sent)

-- the pick, and the step with it, by the packet that the bytes spell
picked : Balanced → Option (Format × Packet) → ℕ
picked b o = pick_by b.loads b.switch.rack (book.packet_allowed o b.switch)

turned : Balanced → Option (Format × Packet) → Turned
turned b o =
    stepped b
    (on_bytes o b.switch.rack.format (λ p. switch_step b.switch p (picked b o)) b.switch
    did.Malformed did.OutOfPlace)

by_packet : (b : Balanced) (bytes : List ℕ) → balanced_turn b bytes 0 ≡ turned b (packet_of bytes)
unfolding turned stepped picked
by_packet b bytes = refl

own_format : (f : Format) → is_format f f ≡ true
own_format One = refl
own_format Two = refl

own_turned :
    (b : Balanced) (p : Packet)
    → turned b (Some (b.switch.rack.format, p))
    ≡ stepped b
    (switch_step b.switch p (pick_by b.loads b.switch.rack (packet_allowed b.switch p)))
unfolding turned picked packet_allowed
own_turned b p =
    ap
    (λ t. stepped b
    (if t then switch_step b.switch p (picked b (Some (b.switch.rack.format, p)))
    else refuse b.switch did.OutOfPlace))
    (own_format b.switch.rack.format)

-- a packet of the rack's format, with the pick of the lightest server
own :
    (b : Balanced) (bytes : List ℕ) (f : Format) (p : Packet) (pick : ℕ)
    → packet_of bytes ≡ Some (f, p) → f ≡ b.switch.rack.format
    → pick ≡ pick_by b.loads b.switch.rack (packet_allowed b.switch p)
    → balanced_turn b bytes 0 ≡ stepped b (switch_step b.switch p pick)
own b bytes f p pick spells same lightest =
    by_packet b bytes
    ∙ ap (turned b) spells
    ∙ ap (λ g. turned b (Some (g, p))) same
    ∙ own_turned b p
    ∙ ap (λ k. stepped b (switch_step b.switch p k)) (sym lightest)

-- the pick that a switch was given, in another spelling of the same switch
lightest_as :
    (o b : Balanced) (p : Packet) (pick : ℕ) → o ≡ b
    → pick ≡ pick_by b.loads b.switch.rack (packet_allowed b.switch p)
    → pick ≡ pick_by o.loads o.switch.rack (packet_allowed o.switch p)
lightest_as o b p pick is lightest =
    subst
    (λ (x : Balanced). pick ≡ pick_by x.loads x.switch.rack (packet_allowed x.switch p))
    (sym is) lightest

-- ---- what is kept and sent

pub turned_after :
    (o b : Balanced) (bytes : List ℕ) (f : Format) (p : Packet) (pick : ℕ)
    (s : Switch) (d : SwitchDid) (loads : Loads)
    → o ≡ b → packet_of bytes ≡ Some (f, p) → f ≡ o.switch.rack.format
    → pick ≡ pick_by b.loads b.switch.rack (packet_allowed b.switch p)
    → s ≡ (switch_step o.switch p pick).state → d ≡ (switch_step o.switch p pick).did
    → loads ≡ charged_by d o.loads
    → let now : Balanced = record { switch = s; loads = loads } in
    now ≡ (balanced_turn b bytes 0).0
unfolding stepped
turned_after o b bytes f p pick s d loads is spells same lightest after did charged =
    let step = switch_step o.switch p pick in
    let F : Switch → Loads → Balanced = λ t l. record { switch = t; loads = l } in
    ap (F s) (charged ∙ ap (λ k. charged_by k o.loads) did)
    ∙ ap (λ t. F t (charged_by step.did o.loads)) after
    ∙ sym
    (ap (λ (t : Turned). t.0)
    (own o bytes f p pick spells same (lightest_as o b p pick is lightest)))
    ∙ ap (λ (x : Balanced). (balanced_turn x bytes 0).0) is

pub turned_sent :
    (o b : Balanced) (bytes : List ℕ) (f : Format) (p : Packet) (pick : ℕ)
    → o ≡ b → packet_of bytes ≡ Some (f, p) → f ≡ o.switch.rack.format
    → pick ≡ pick_by b.loads b.switch.rack (packet_allowed b.switch p)
    → (switch_step o.switch p pick).sent ≡ (balanced_turn b bytes 0).1
unfolding stepped
turned_sent o b bytes f p pick is spells same lightest =
    sym
    (ap (λ (t : Turned). t.1)
    (own o bytes f p pick spells same (lightest_as o b p pick is lightest)))
    ∙ ap (λ (x : Balanced). (balanced_turn x bytes 0).1) is
