-- What parts, commands and outcomes agree on, since they do in the protocol machine.
use Rattle.std.proofs.Common.{◌≡◌, ◌≤◌, ◌+◌, ◌⊎◌, inl, inr, ℕ, List, length}
use Rattle.std.proofs.Common.{Option, Some, None, IsSome, option_map, refl, sym, ap, ◌∙◌}
use Rattle.std.proofs.Common.{subst, Contains, arith}
use Rattle.peg_name.specs.declared.Node.TheVariants as node
use Rattle.peg_event.specs.declared.Command.{Command}
use Rattle.peg_event.specs.declared.Command.TheVariants as command
use Rattle.peg_event.specs.declared.Outcome.{Outcome}
use Rattle.peg_event.specs.declared.Outcome.TheVariants as outcome
use Rattle.peg_model.specs.Packet as packet
use Rattle.peg_model.specs.Packet.{Packet, What}
use Rattle.peg_model.specs.Handover.{parts, part_of}
use Rattle.peg_model.specs.Controller.{what_of}
use Rattle.peg_model.specs.Switch as switch
use Rattle.peg_model.specs.Switch.{state_held}
use Rattle.peg_model.specs.World.{World, switch_of}
use Rattle.peg_law.specs.Agreed as agreed
use Rattle.peg_law.specs.Agreed.{PartWasSent, IsPartOf, OneState, OneVoice}
use Rattle.peg_law.specs.Codes.{bytes_of, what_code, outcome_code}
use Rattle.peg_law.specs.Mirrors.{Mirrors, ItemFits, PartFits, part_bytes, mode_code}
use Rattle.peg_law.specs.Mirrors.{state_told}
use Rattle.peg_law.proofs.Codes.{bytes_of-number}
use Rattle.peg_law.proofs.Collecting.{paired_contains}
use Rattle.peg_law.proofs.Covered.{current_here, plain_there}
use Rattle.peg_law.proofs.Parts.{told_is}
use Rattle.peg_protocol.specs.Core as core
use Rattle.peg_protocol.specs.Packet as law
use Rattle.peg_protocol.specs.ControllerLaw.{ControllerLaw}
use Rattle.peg_protocol.specs.Handover as handover
use Rattle.peg_protocol.specs.Handover.{HandoverLaw}
use Rattle.peg_protocol.specs.System.{System}

-- ---- commands and outcomes are read back from their codes

what_back : law.What → What
what_back (law.Promote key) = packet.Promote (bytes_of key)
what_back (law.Demote key) = packet.Demote (bytes_of key)
what_back (law.Copy target key) = packet.Copy target (bytes_of key)
what_back (law.Seal target epoch) = packet.Seal target epoch
what_back (law.FenceKey key) = packet.FenceKey (bytes_of key)
what_back law.Clear = packet.Clear

what_again : (what : What) → what_back (what_code what) ≡ what
unfolding what_back
what_again (packet.Promote key) = ap packet.Promote (bytes_of-number key)
what_again (packet.Demote key) = ap packet.Demote (bytes_of-number key)
what_again (packet.Copy target key) = ap (packet.Copy target) (bytes_of-number key)
what_again (packet.Seal target epoch) = refl
what_again (packet.FenceKey key) = ap packet.FenceKey (bytes_of-number key)
what_again packet.Clear = refl

pub what_same : (what other : What) → what_code what ≡ what_code other → what ≡ other
what_same what other e = sym (what_again what) ∙ ap what_back e ∙ what_again other

outcome_back : law.Outcome → Outcome
outcome_back (law.Listed l) = outcome.Listed l
outcome_back (law.Already l) = outcome.Already l
outcome_back (law.Full n) = outcome.Full n
outcome_back (law.Marked n) = outcome.Marked n
outcome_back law.NotListed = outcome.NotListed
outcome_back (law.AlreadyMarked n) = outcome.AlreadyMarked n
outcome_back (law.Ordered n) = outcome.Ordered n
outcome_back law.Holds = outcome.Holds
outcome_back (law.Activated n) = outcome.Activated n
outcome_back law.Cleared = outcome.Cleared
outcome_back (law.Fenced n) = outcome.Fenced n
outcome_back law.NoBase = outcome.NoBase
outcome_back (law.NoVersion n) = outcome.NoVersion n

outcome_again : (o : Outcome) → outcome_back (outcome_code o) ≡ o
unfolding outcome_back
outcome_again (outcome.Listed l) = refl
outcome_again (outcome.Already l) = refl
outcome_again (outcome.Full n) = refl
outcome_again (outcome.Marked n) = refl
outcome_again outcome.NotListed = refl
outcome_again (outcome.AlreadyMarked n) = refl
outcome_again (outcome.Ordered n) = refl
outcome_again outcome.Holds = refl
outcome_again (outcome.Activated n) = refl
outcome_again outcome.Cleared = refl
outcome_again (outcome.Fenced n) = refl
outcome_again outcome.NoBase = refl
outcome_again (outcome.NoVersion n) = refl

module _ (keys : List (List ℕ)) (w : World) (s : System) (m : Mirrors keys w s) (holder : ℕ)
    (h : HandoverLaw s holder) where
  -- ---- parts

  record PartThere (a epoch index count : ℕ) (bytes : List ℕ) : Type 0 where
    pub fit : (q : law.Packet) × PartFits w.rack epoch index count bytes q
    pub sent :
        Contains s.sent
        (law.item (law.Switch a) (law.Part epoch index count (PartFits.state fit.1)))

  part_there :
      (a epoch index count : ℕ) (bytes : List ℕ) → PartWasSent w a epoch index count bytes
      → PartThere a epoch index count bytes
  part_there a epoch index count bytes sent =
      let x =
      paired_contains (ItemFits w.rack) w.packets s.sent
      (node.Switch a, packet.Part epoch index count bytes) m.sent sent in
      let f : PartFits w.rack epoch index count bytes x.0.packet = x.2.packet in
      record {
        fit = (x.0.packet, f);
        sent =
            subst (λ t. Contains s.sent (law.item t (law.Part epoch index count f.state))) x.2.to
            (subst (λ y. Contains s.sent (law.item x.0.to y)) f.is x.1);
      }

  epoch_is : (a : ℕ) → s.epochs a ≡ (switch_of w a).epoch
  epoch_is a = (m.switches a).epoch_is

  sealed_is : (mode : switch.Mode) → handover.IsSealed (mode_code mode) → agreed.IsSealed mode
  sealed_is switch.Idle x = absurd x
  sealed_is switch.Active x = absurd x
  sealed_is (switch.Sealed target) x = tt

  pub one_state_here : OneState w
  one_state_here =
      record {
        holder = holder;
        current = current_here keys w s m holder h;
        one_target = λ a b epoch index other count count' bytes bytes' x y.
            let p = part_there a epoch index count bytes x in
            let q = part_there b epoch other count' bytes' y in
            let same =
            h.one_state a b epoch index other count count' p.fit.1.state q.fit.1.state p.sent
            q.sent in (
              same.0,
              p.fit.1.parts ∙ ap (λ c. length (parts (part_bytes w.rack c))) same.1
                  ∙ sym q.fit.1.parts,
            );
        one_slice = λ a b epoch index count count' bytes bytes' x y.
            let p = part_there a epoch index count bytes x in
            let q = part_there b epoch index count' bytes' y in
            let same =
            h.one_state a b epoch index index count count' p.fit.1.state q.fit.1.state p.sent
            q.sent in
            p.fit.1.slice ∙ ap (λ c. part_of (part_bytes w.rack c) index) same.1
            ∙ sym q.fit.1.slice;
        one_state = λ a epoch index count bytes x.
            let p = part_there a epoch index count bytes x in (
              state_told w.rack p.fit.1.state,
              λ b other count' bytes' y.
                  let q = part_there b epoch other count' bytes' y in
                  let same =
                  h.one_state a b epoch index other count count' p.fit.1.state q.fit.1.state p.sent
                  q.sent in
                  subst
                  (λ c. IsPartOf w.rack.format (state_told w.rack c) other count' bytes')
                  (sym same.1) (is_part epoch other count' bytes' q.fit.0 q.fit.1),
            );
        sealed_state = λ a index count bytes x.
            let p = part_there a ((switch_of w holder).epoch + 1) index count bytes x in
            sealed_part index count bytes p.fit.0 p.fit.1
            (h.new a ((switch_of w holder).epoch + 1) index count p.fit.1.state p.sent);
        old = λ a epoch index count bytes x most.
            let p = part_there a epoch index count bytes x in
            let e = epoch_is holder in
            let f = epoch_is a in
            let r = h.old a epoch index count p.fit.1.state p.sent (omega (arith, most, e)) in
            omega (arith, r, f);
        new = λ a epoch index count bytes x.
            let p = part_there a epoch index count bytes x in
            by_new epoch p.fit.1.state (h.new a epoch index count p.fit.1.state p.sent);
        collected = λ a index bytes e. (
          length (switch_of w a).collected.parts,
          (m.switches a).gathered_is.was_sent index bytes e,
        );
      }
    where
      is_part :
          (epoch index count : ℕ) (bytes : List ℕ) (p : law.Packet)
          → (f : PartFits w.rack epoch index count bytes p)
          → IsPartOf w.rack.format (state_told w.rack f.state) index count bytes
      is_part epoch index count bytes p f = (f.parts, f.among, f.slice)

      held_state : state_told w.rack (s.cores holder) ≡ state_held (switch_of w holder)
      held_state =
          told_is w.rack (switch_of w holder).stamps (switch_of w holder).entries
          (switch_of w holder).last (s.cores holder) (m.switches holder).core_is

      sealed_part :
          (index count : ℕ) (bytes : List ℕ) (p : law.Packet)
          → (f : PartFits w.rack ((switch_of w holder).epoch + 1) index count bytes p)
          → ((switch_of w holder).epoch + 1 ≤ s.epochs holder)
          ⊎ (handover.IsSealed (s.modes holder)
          × ((switch_of w holder).epoch + 1 ≡ s.epochs holder + 1) × (f.state ≡ s.cores holder))
          → IsPartOf w.rack.format (state_held (switch_of w holder)) index count bytes
      sealed_part index count bytes p f (inl less) =
          let e = epoch_is holder in absurd (omega (arith, less, e))
      sealed_part index count bytes p f (inr x) =
          subst (λ state. IsPartOf w.rack.format state index count bytes)
          (ap (state_told w.rack) x.2 ∙ held_state)
          (is_part ((switch_of w holder).epoch + 1) index count bytes p f)

      by_new :
          (epoch : ℕ) (c : core.Core)
          → (epoch ≤ s.epochs holder)
          ⊎ (handover.IsSealed (s.modes holder) × (epoch ≡ s.epochs holder + 1)
          × (c ≡ s.cores holder))
          → (epoch ≤ (switch_of w holder).epoch)
          ⊎ (agreed.IsSealed (switch_of w holder).mode
          × (epoch ≡ (switch_of w holder).epoch + 1))
      by_new epoch c (inl l) = let e = epoch_is holder in inl (omega (arith, l, e))
      by_new epoch c (inr x) =
          let e = epoch_is holder in
          let n = x.1 in
          inr (
            sealed_is (switch_of w holder).mode
                (subst handover.IsSealed (m.switches holder).mode_is x.0),
            omega (arith, n, e),
          )

  -- ---- commands

  pub one_voice_here : ControllerLaw s holder → OneVoice w
  one_voice_here l =
      record {
        holder = holder;
        current = current_here keys w s m holder h;
        one_command = λ a b number what other x y.
            let same =
            l.one_command a b number (what_code what) (what_code other)
            (plain_there keys w s m (node.Switch a) (packet.Command number what)
            (law.Command number (what_code what)) (λ i f. f.packet) x)
            (plain_there keys w s m (node.Switch b) (packet.Command number other)
            (law.Command number (what_code other)) (λ i f. f.packet) y) in
            what_same what other same;
        one_outcome = λ number o other x y.
            let same =
            l.one_outcome number (outcome_code o) (outcome_code other)
            (plain_there keys w s m node.Controller (packet.CommandAck number o)
            (law.Ack number (outcome_code o)) (λ i f. f.packet) x)
            (plain_there keys w s m node.Controller (packet.CommandAck number other)
            (law.Ack number (outcome_code other)) (λ i f. f.packet) y) in
            sym (outcome_again o) ∙ ap outcome_back same ∙ outcome_again other;
        last = by_last l.last;
        place = by_place l.place;
      }
    where
      pending_is :
          (o : Option Command) →
          IsSome (option_map (λ k. what_code (what_of w.controller.epoch k)) o)
          → IsSome o
      pending_is None x = absurd (cc)
      pending_is (Some k) x = refl

      handover_is :
          (o : Option Command)
          → option_map (λ k. what_code (what_of w.controller.epoch k)) o
          ≡ Some (law.Seal holder (s.epochs holder))
          → (o ≡ Some (command.Handover holder)) × (w.controller.epoch + 1 ≡ s.epochs holder)
      handover_is None e = absurd (cc)
      handover_is (Some (command.Promote key)) e = absurd (cc)
      handover_is (Some (command.Demote key)) e = absurd (cc)
      handover_is (Some (command.Copy key target)) e = absurd (cc)
      handover_is (Some (command.Fence key)) e = absurd (cc)
      handover_is (Some command.Clear) e = absurd (cc)
      handover_is (Some (command.Handover target)) e =
          let t : target ≡ holder = cc in
          let n : w.controller.epoch + 1 ≡ s.epochs holder = cc in
          (ap (λ x. Some (command.Handover x)) t, n)

      is_pending : IsSome s.command → IsSome w.controller.pending
      is_pending x =
          pending_is w.controller.pending (subst (λ o. IsSome o) m.controller.pending_is x)

      by_last :
          ((s.cores holder).last ≡ s.number)
          ⊎ (((s.cores holder).last + 1 ≡ s.number) × IsSome s.command)
          → ((switch_of w holder).last ≡ w.controller.last)
          ⊎ (((switch_of w holder).last + 1 ≡ w.controller.last) × IsSome w.controller.pending)
      by_last (inl e) =
          inl (sym (m.switches holder).core_is.last_is ∙ e ∙ m.controller.number_is)
      by_last (inr x) =
          inr (
            ap (λ n. n + 1) (sym (m.switches holder).core_is.last_is) ∙ x.0
                ∙ m.controller.number_is,
            is_pending x.1,
          )

      by_place :
          ((s.switch ≡ holder) × (s.epoch ≡ s.epochs holder))
          ⊎ (s.command ≡ Some (law.Seal holder (s.epochs holder)))
          → ((w.controller.switch ≡ holder)
          × (w.controller.epoch ≡ (switch_of w holder).epoch))
          ⊎ ((w.controller.pending ≡ Some (command.Handover holder))
          × (w.controller.epoch + 1 ≡ (switch_of w holder).epoch))
      by_place (inl x) =
          inl (
            sym m.controller.switch_is ∙ x.0,
            sym m.controller.epoch_is ∙ x.1 ∙ epoch_is holder,
          )
      by_place (inr e) =
          let x = handover_is w.controller.pending (sym m.controller.pending_is ∙ e) in
          inr (x.0, x.1 ∙ epoch_is holder)
