-- What the commands of a world tell the controller, since they do in the protocol machine.
use Rattle.std.proofs.Common.{◌≡◌, ◌+◌, ◌==◌, ℕ, List, Option, Some, None}
use Rattle.std.proofs.Common.{IsSome, option_map, refl, sym, ap, ◌∙◌, subst, Contains}
use Rattle.std.specs.Prelude.{is_none}
use Rattle.std.specs.List.{list_any}
use Rattle.peg_name.specs.declared.Node.TheVariants as node
use Rattle.peg_event.specs.declared.Command.{Command}
use Rattle.peg_event.specs.declared.Command.TheVariants as command
use Rattle.peg_event.specs.declared.answers.Listing.{Listing}
use Rattle.peg_event.specs.declared.Outcome.{Outcome}
use Rattle.peg_event.specs.declared.Outcome.TheVariants as outcome
use Rattle.peg_model.specs.Controller.{what_of, belongs}
use Rattle.peg_model.specs.Packet as packet
use Rattle.peg_model.specs.Packet.{What}
use Rattle.peg_model.specs.Rules.{entry_of}
use Rattle.peg_model.specs.World.{World, switch_of}
use Rattle.peg_law.specs.Codes.{number_of, what_code, outcome_code, entry_code}
use Rattle.peg_law.specs.Mirrors.{Mirrors, mode_code}
use Rattle.peg_law.specs.Settled.{names_key, is_unmarked, IsHandingOver, CommandsSettle}
use Rattle.peg_law.proofs.Agreed.{what_same}
use Rattle.peg_law.proofs.Codes.{number_test}
use Rattle.peg_law.proofs.Cores.{entry_is}
use Rattle.peg_law.proofs.Covered.{current_here, plain_there}
use Rattle.peg_law.proofs.Outcomes.{any_known, same_belongs}
use Rattle.peg_protocol.specs.ControllerLaw.{ControllerLaw, plain, plain_mark, pending_speaks_of}
use Rattle.peg_protocol.specs.Core as core
use Rattle.peg_protocol.specs.Handover.{HandoverLaw}
use Rattle.peg_protocol.specs.Packet as law
use Rattle.peg_protocol.specs.System as system
use Rattle.peg_protocol.specs.System.{System}

belongs_alike : (number : ℕ) (what : What) (o : Outcome)
    → system.belongs number (what_code what) (outcome_code o) ≡ belongs number what o
belongs_alike number (packet.Promote key) o = same_belongs number 0 (command.Promote key) o
belongs_alike number (packet.Demote key) o = same_belongs number 0 (command.Demote key) o
belongs_alike number (packet.Copy target key) o = same_belongs number 0 (command.Copy key target) o
belongs_alike number (packet.FenceKey key) o = same_belongs number 0 (command.Fence key) o
belongs_alike number packet.Clear o = same_belongs number 0 command.Clear o
belongs_alike number (packet.Seal target epoch) (outcome.Activated e) = refl
belongs_alike number (packet.Seal target epoch) o = refl

speaks_alike : (epoch : ℕ) (o : Option Command) (key : List ℕ)
    → pending_speaks_of (option_map (λ k. what_code (what_of epoch k)) o) (number_of key)
    ≡ names_key o key
speaks_alike epoch None key = refl
speaks_alike epoch (Some (command.Promote other)) key = number_test other key
speaks_alike epoch (Some (command.Demote other)) key = number_test other key
speaks_alike epoch (Some (command.Copy other target)) key = number_test other key
speaks_alike epoch (Some (command.Fence other)) key = number_test other key
speaks_alike epoch (Some (command.Handover target)) key = refl
speaks_alike epoch (Some command.Clear) key = refl

plain_alike : (key : List ℕ) (o : Option Listing)
    → plain (option_map (λ x. entry_code (key, x)) o) ≡ is_unmarked o
plain_alike key None = refl
plain_alike key (Some entry) = by_mark entry.mark
  where
    by_mark : (mark : Option ℕ) → plain_mark mark ≡ is_none mark
    by_mark None = refl
    by_mark (Some n) = refl

module _ (keys : List (List ℕ)) (w : World) (s : System) (m : Mirrors keys w s) (holder : ℕ)
    (h : HandoverLaw s holder) where
  handing_over :
      (o : Option Command) (target epoch : ℕ)
      → option_map (λ k. what_code (what_of w.controller.epoch k)) o
      ≡ Some (law.Seal target epoch)
      → (o ≡ Some (command.Handover target)) × (w.controller.epoch + 1 ≡ epoch)
  handing_over None target epoch e = absurd (cc)
  handing_over (Some (command.Promote key)) target epoch e = absurd (cc)
  handing_over (Some (command.Demote key)) target epoch e = absurd (cc)
  handing_over (Some (command.Copy key other)) target epoch e = absurd (cc)
  handing_over (Some (command.Fence key)) target epoch e = absurd (cc)
  handing_over (Some command.Clear) target epoch e = absurd (cc)
  handing_over (Some (command.Handover other)) target epoch e =
      let t : other ≡ target = cc in
      let n : w.controller.epoch + 1 ≡ epoch = cc in
      (ap (λ x. Some (command.Handover x)) t, n)

  pending_there :
      (o : Option Command) → IsSome o
      → IsSome (option_map (λ k. what_code (what_of w.controller.epoch k)) o)
  pending_there None x = absurd (cc)
  pending_there (Some k) x = refl

  handing : (target epoch : ℕ) → s.command ≡ Some (law.Seal target epoch) →
      IsHandingOver w target epoch
  handing target epoch e =
      handing_over w.controller.pending target epoch (sym m.controller.pending_is ∙ e)

  pub settled_here : ControllerLaw s holder → CommandsSettle w
  settled_here l =
      record {
        holder = holder;
        current = current_here keys w s m holder h;
        belongs = λ a number what o x y.
            sym (belongs_alike number what o)
            ∙ l.can_belong a number (what_code what) (outcome_code o)
            (plain_there keys w s m (node.Switch a) (packet.Command number what)
            (law.Command number (what_code what)) (λ i f. f.packet) x)
            (plain_there keys w s m node.Controller (packet.CommandAck number o)
            (law.Ack number (outcome_code o)) (λ i f. f.packet) y);
        pending = λ a what k e x.
            what_same what (what_of w.controller.epoch k)
            (l.pending a (what_code (what_of w.controller.epoch k)) (what_code what)
            (m.controller.pending_is ∙ ap (option_map (λ o. what_code (what_of w.controller.epoch o))) e)
            (subst (λ n. Contains s.sent (law.item (law.Switch a) (law.Command n (what_code what))))
            (sym m.controller.number_is)
            (plain_there keys w s m (node.Switch a) (packet.Command w.controller.last what)
            (law.Command w.controller.last (what_code what)) (λ i f. f.packet) x)));
        known = λ key e.
            sym (ap (list_any (λ j. j == number_of key)) m.controller.known_is
            ∙ any_known key w.controller.known)
            ∙ l.known (number_of key)
            (ap (λ o. pending_speaks_of o (number_of key)) m.controller.pending_is
            ∙ speaks_alike w.controller.epoch w.controller.pending key ∙ e)
            ∙ ap plain
            (ap (core.entry_of (number_of key)) (m.switches holder).core_is.entries_is
            ∙ entry_is key (switch_of w holder).entries)
            ∙ plain_alike key (entry_of (switch_of w holder).entries key);
        sealed = λ target e.
            subst (λ n. IsHandingOver w target (n + 1)) (m.switches holder).epoch_is
            (handing target (s.epochs holder + 1)
            (l.sealed target ((m.switches holder).mode_is ∙ ap mode_code e)));
        activated = λ epoch some sent.
            subst (IsHandingOver w holder) (m.switches holder).epoch_is
            (handing holder (s.epochs holder)
            (l.activated epoch
            (subst (λ o. IsSome o) (sym m.controller.pending_is)
            (pending_there w.controller.pending some))
            (subst
            (λ n. Contains s.sent (law.item law.Controller (law.Ack n (law.Activated epoch))))
            (sym m.controller.number_is)
            (plain_there keys w s m node.Controller
            (packet.CommandAck w.controller.last (outcome.Activated epoch))
            (law.Ack w.controller.last (law.Activated epoch)) (λ i f. f.packet) sent))));
      }
