-- A switch that is handed a packet, in both machines.
use Rattle.std.proofs.Common.{◌≡◌, ◌<◌, ◌≤◌, ◌+◌, ◌==◌, ◌&&◌, ◌||◌, ℕ, Bool, true, false, not, List}
use Rattle.std.proofs.Common.{[], ◌∷◌, ◌++◌}
use Rattle.std.proofs.Common.{cond, Option, Some, None, refl, sym, ap, ◌∙◌, subst, nat_lt}
use Rattle.std.proofs.Common.{arith, eqb-true, lt-ltb}
use Rattle.std.proofs.lemmas.Bool.{and_from}
use Rattle.peg_name.specs.Name.{Rack, IsKey}
use Rattle.peg_name.specs.declared.value.Content.{Content}
use Rattle.peg_name.specs.declared.Node.TheVariants as node
use Rattle.peg_event.specs.declared.Outcome.{Outcome}
use Rattle.peg_event.specs.declared.SwitchDid.TheVariants as did
use Rattle.peg_model.specs.Words.{refuse, last_number}
use Rattle.peg_model.specs.Packet as packet
use Rattle.peg_model.specs.Packet.{Packet, What}
use Rattle.peg_model.specs.Switch as switch
use Rattle.peg_model.specs.Switch.{Switch, SwitchStep, out_of_place, in_mode, switch_step}
use Rattle.peg_model.specs.Switch.{on_command, repeats, kept_of, carry_out}
use Rattle.peg_model.specs.World.{World, switch_of, with_switch, switch_stepped, after_switch}
use Rattle.peg_law.specs.Codes.{number_of, content_code, what_code}
use Rattle.peg_law.specs.Mirrors.{Mirrors, WhatInRack, KeptFits, mode_code}
use Rattle.peg_law.proofs.Nodes.{posted}
use Rattle.peg_law.proofs.SwitchSteps.{unchanged, switch_idle, read_forwarded, write_forwarded}
use Rattle.peg_law.proofs.SwitchNotes.{read_reply_noted, write_reply_noted, held_noted, void_taken}
use Rattle.peg_law.proofs.Commands.{cleared, copied, fenced, demoted}
use Rattle.peg_law.proofs.Promotions.{promotes}
use Rattle.peg_protocol.specs.Packet as law
use Rattle.peg_protocol.specs.Machine as machine
use Rattle.peg_protocol.specs.System as system
use Rattle.peg_protocol.specs.System.{System}

pub stepped :
    (sw : Switch) (p : Packet) (pick : ℕ) (b : Bool) → out_of_place sw p ≡ b
    → switch_step sw p pick ≡ cond b (refuse sw did.OutOfPlace) (in_mode sw.mode sw p pick)
unfolding switch_step
stepped sw p pick b e =
    ap (λ t. cond t (refuse sw did.OutOfPlace) (in_mode sw.mode sw p pick)) e

pub family : (rack : Rack) (client server switch : ℕ) → client < rack.clients →
    server < rack.servers
    → switch < rack.switches
    → (nat_lt client rack.clients && nat_lt server rack.servers && nat_lt switch rack.switches)
    ≡ true
family rack client server switch x y z =
    and_from (nat_lt client rack.clients && nat_lt server rack.servers)
    (nat_lt switch rack.switches)
    (and_from (nat_lt client rack.clients) (nat_lt server rack.servers)
    (lt-ltb client rack.clients x) (lt-ltb server rack.servers y))
    (lt-ltb switch rack.switches z)

-- nothing but the switch changes where a command is skipped or was taken before
pub skipped_plain :
    (w : World) (sw : Switch) (number n last : ℕ) (what : What)
    → after_switch w sw (packet.Command number what) (did.Skipped n last) ≡ w
skipped_plain w sw number n last (packet.Promote key) = refl
skipped_plain w sw number n last (packet.Demote key) = refl
skipped_plain w sw number n last (packet.Copy target key) = refl
skipped_plain w sw number n last (packet.FenceKey key) = refl
skipped_plain w sw number n last packet.Clear = refl
skipped_plain w sw number n last (packet.Seal target epoch) = refl

pub repeated_plain :
    (w : World) (sw : Switch) (number last : ℕ) (what : What)
    → after_switch w sw (packet.Command number what) (did.Repeated last) ≡ w
repeated_plain w sw number last (packet.Promote key) = refl
repeated_plain w sw number last (packet.Demote key) = refl
repeated_plain w sw number last (packet.Copy target key) = refl
repeated_plain w sw number last (packet.FenceKey key) = refl
repeated_plain w sw number last packet.Clear = refl
repeated_plain w sw number last (packet.Seal target epoch) = refl

pub not_active_plain :
    (w : World) (sw : Switch) (number epoch : ℕ) (what : What)
    → after_switch w sw (packet.Command number what) (did.NotActive epoch) ≡ w
not_active_plain w sw number epoch (packet.Promote key) = refl
not_active_plain w sw number epoch (packet.Demote key) = refl
not_active_plain w sw number epoch (packet.Copy target key) = refl
not_active_plain w sw number epoch (packet.FenceKey key) = refl
not_active_plain w sw number epoch packet.Clear = refl
not_active_plain w sw number epoch (packet.Seal target epoch') = refl

module _ (keys : List (List ℕ)) (w : World) (s : System) (m : Mirrors keys w s) (pick a : ℕ)
    (within : a < w.rack.switches) where
  abbrev here : Switch
  here = switch_of w a

  abbrev Handed : Packet → law.Packet → Type 0
  Handed p q =
      Mirrors keys (switch_stepped w a p (switch_step here p pick)).0
      (system.takes s pick (law.Switch a) q)

  -- a packet that is in place, by the mode of the switch
  pub by_mode :
      (p : Packet) (q : law.Packet) → out_of_place here p ≡ false
      → ((mode : switch.Mode) → here.mode ≡ mode
      → Mirrors keys (switch_stepped w a p (in_mode mode here p pick)).0
      (system.switch_takes s a (mode_code mode) pick q))
      → Handed p q
  by_mode p q e h =
      subst
      (λ (x : SwitchStep).
      Mirrors keys (switch_stepped w a p x).0 (system.takes s pick (law.Switch a) q))
      (sym (stepped here p pick false e))
      (subst
      (λ mode.
      Mirrors keys (switch_stepped w a p (in_mode here.mode here p pick)).0
      (system.switch_takes s a mode pick q))
      (sym (m.switches a).mode_is) (h here.mode refl))

  -- the tests are of the rack
  pub in_place :
      (p : Packet) → switch.switch_takes w.rack p ≡ true → switch.is_misplaced here p ≡ false
      → out_of_place here p ≡ false
  in_place p e f =
      ap (λ r. not (switch.switch_takes r p) || switch.is_misplaced here p)
      (m.switches a).rack_is
      ∙ ap (λ b. not b || switch.is_misplaced here p) e ∙ f

  idle : Mirrors keys (with_switch w here) s
  idle = unchanged keys w s m a within here.counts (m.switches a).counts

  -- the kept outcome again
  pub kept_again :
      (p : Packet) → here.mode ≡ switch.Active → 1 ≤ here.last
      → ((sw : Switch) → (switch_stepped w a p (repeats sw)).0
      ≡ record (with_switch w sw) { packets = w.packets ++ kept_of sw.kept sw.last })
      → Mirrors keys (switch_stepped w a p (repeats here)).0
      (system.post s (law.item law.Controller (law.Ack (s.cores a).last (s.outcomes a))))
  kept_again p active some plain =
      subst
      (λ x.
      Mirrors keys x
      (system.post s (law.item law.Controller (law.Ack (s.cores a).last (s.outcomes a)))))
      (sym (plain here))
      (by_kept here.kept
      (subst (λ mode. KeptFits mode here.last here.kept (s.outcomes a)) active
      (m.switches a).kept_is))
    where
      by_kept :
          (o : Option Outcome) → KeptFits switch.Active here.last o (s.outcomes a)
          → Mirrors keys
          (record (with_switch w here) { packets = w.packets ++ kept_of o here.last })
          (system.post s (law.item law.Controller (law.Ack (s.cores a).last (s.outcomes a))))
      by_kept None f = absurd (omega (arith, f, some))
      by_kept (Some o) f =
          posted keys (with_switch w here) s idle
          ((node.Controller, packet.CommandAck here.last o) ∷ [])
          (law.item law.Controller (law.Ack (s.cores a).last (s.outcomes a)) ∷ []) (
            record {
              sent = tt;
              to = refl;
              packet =
                  ap (λ n. law.Ack n (s.outcomes a)) (m.switches a).core_is.last_is
                  ∙ ap (law.Ack here.last) f;
            },
            tt,
          )

  -- ---- commands at an active switch

  commanded :
      (number : ℕ) (what : What) → here.mode ≡ switch.Active → 1 ≤ number
      → (number ≡ here.last + 1
      → Mirrors keys
      (switch_stepped w a (packet.Command number what) (carry_out here number what)).0
      (system.executes s a number (what_code what)))
      → Mirrors keys
      (switch_stepped w a (packet.Command number what) (on_command here number what)).0
      (system.commands s a number (what_code what))
  commanded number what active some h =
      rw (m.switches a).core_is.last_is
      (by_tests (number == here.last + 1) refl (number == here.last) refl)
    where
      by_tests :
          (b1 : Bool) → (number == here.last + 1) ≡ b1 → (b2 : Bool) → (number == here.last) ≡ b2
          → Mirrors keys
          (switch_stepped w a (packet.Command number what)
          (cond b1 (carry_out here number what)
          (cond b2 (repeats here) (refuse here (did.Skipped number here.last))))).0
          (cond b1 (system.executes s a number (what_code what))
          (cond b2
          (system.post s (law.item law.Controller (law.Ack number (s.outcomes a)))) s))
      by_tests true e1 b2 e2 = h (eqb-true number (here.last + 1) e1)
      by_tests false e1 true e2 =
          let same = eqb-true number here.last e2 in
          subst
          (λ n.
          Mirrors keys (switch_stepped w a (packet.Command number what) (repeats here)).0
          (system.post s (law.item law.Controller (law.Ack n (s.outcomes a)))))
          ((m.switches a).core_is.last_is ∙ sym same)
          (kept_again (packet.Command number what) active (omega (arith, same, some))
          (λ sw.
          ap (λ (x : World). record x { packets = x.packets ++ kept_of sw.kept sw.last })
          (repeated_plain (with_switch w sw) sw number sw.last what)))
      by_tests false e1 false e2 =
          subst (λ (x : World). Mirrors keys (record x { packets = x.packets ++ [] }) s)
          (sym (skipped_plain (with_switch w here) here number number here.last what))
          (switch_idle keys w s m a within)

  execute :
      (number : ℕ) (what : What) → here.mode ≡ switch.Active → number ≤ last_number
      → WhatInRack w.rack what
      → ((target epoch : ℕ) → what ≡ packet.Seal target epoch → number ≡ here.last + 1
      → Mirrors keys
      (switch_stepped w a (packet.Command number what) (carry_out here number what)).0
      (system.executes s a number (what_code what)))
      → number ≡ here.last + 1
      → Mirrors keys
      (switch_stepped w a (packet.Command number what) (carry_out here number what)).0
      (system.executes s a number (what_code what))
  execute number (packet.Promote key) active few x seal next =
      promotes keys w s m a within active number next key x few
  execute number (packet.Demote key) active few x seal next =
      demoted keys w s m a within active number next key
  execute number (packet.Copy target key) active few x seal next =
      copied keys w s m a within active number next target key x
  execute number (packet.FenceKey key) active few x seal next =
      fenced keys w s m a within active number next key
  execute number packet.Clear active few x seal next =
      cleared keys w s m a within active number next
  execute number (packet.Seal target epoch) active few x seal next = seal target epoch refl next

  -- ---- requests, replies and reports

  pub read_handed :
      (client seq : ℕ) (key : List ℕ) → client < w.rack.clients → IsKey key
      → Handed (packet.Read client seq key) (law.Read client seq (number_of key))
  read_handed client seq key c is_key =
      by_mode (packet.Read client seq key) (law.Read client seq (number_of key))
      (in_place (packet.Read client seq key) (lt-ltb client w.rack.clients c) refl) mode
    where
      mode :
          (md : switch.Mode) → here.mode ≡ md
          → Mirrors keys
          (switch_stepped w a (packet.Read client seq key)
          (in_mode md here (packet.Read client seq key) pick)).0
          (system.switch_takes s a (mode_code md) pick (law.Read client seq (number_of key)))
      mode switch.Active e = read_forwarded keys w s m a within client seq key pick c is_key
      mode switch.Idle e = switch_idle keys w s m a within
      mode (switch.Sealed target) e = switch_idle keys w s m a within

  pub write_handed :
      (client seq : ℕ) (key : List ℕ) (content : Content) (x : Option ℕ)
      → client < w.rack.clients → IsKey key → (s.plans client seq).act ≡ machine.Writes x
      → (s.modes a ≡ system.Active → (version : ℕ) → ((s.cores a).rows client).seq ≡ seq
      → ((s.cores a).rows client).version ≡ version → 1 ≤ version → s.stamps client seq ≡ version)
      → Handed (packet.Write client seq key content)
      (law.Write client seq (number_of key) (content_code content))
  write_handed client seq key content x c is_key write last_stamp =
      by_mode (packet.Write client seq key content)
      (law.Write client seq (number_of key) (content_code content))
      (in_place (packet.Write client seq key content) (lt-ltb client w.rack.clients c) refl) mode
    where
      mode :
          (md : switch.Mode) → here.mode ≡ md
          → Mirrors keys
          (switch_stepped w a (packet.Write client seq key content)
          (in_mode md here (packet.Write client seq key content) pick)).0
          (system.switch_takes s a (mode_code md) pick
          (law.Write client seq (number_of key) (content_code content)))
      mode switch.Active e =
          write_forwarded keys w s m a within client seq key content pick c is_key e x write
          (last_stamp ((m.switches a).mode_is ∙ ap mode_code e))
      mode switch.Idle e = switch_idle keys w s m a within
      mode (switch.Sealed target) e = switch_idle keys w s m a within

  pub read_reply_handed :
      (client seq version server named : ℕ) (key : List ℕ) (content : Content)
      → client < w.rack.clients → server < w.rack.servers → named < w.rack.switches
      → Handed (packet.ReadReply client seq version server named key content)
      (law.ReadReply client seq version server named (number_of key) (content_code content))
  read_reply_handed client seq version server named key content c t n =
      by_mode (packet.ReadReply client seq version server named key content)
      (law.ReadReply client seq version server named (number_of key) (content_code content))
      (in_place (packet.ReadReply client seq version server named key content)
      (family w.rack client server named c t n) refl)
      mode
    where
      mode :
          (md : switch.Mode) → here.mode ≡ md
          → Mirrors keys
          (switch_stepped w a (packet.ReadReply client seq version server named key content)
          (in_mode md here (packet.ReadReply client seq version server named key content) pick)).0
          (system.switch_takes s a (mode_code md) pick
          (law.ReadReply client seq version server named (number_of key) (content_code content)))
      mode switch.Active e =
          read_reply_noted keys w s m a within e client seq version server named key content pick c
          t
      mode switch.Idle e = switch_idle keys w s m a within
      mode (switch.Sealed target) e = switch_idle keys w s m a within

  pub write_reply_handed :
      (client seq version server named : ℕ) (key : List ℕ) → client < w.rack.clients
      → server < w.rack.servers → named < w.rack.switches
      → Handed (packet.WriteReply client seq version server named key)
      (law.WriteReply client seq version server named (number_of key))
  write_reply_handed client seq version server named key c t n =
      by_mode (packet.WriteReply client seq version server named key)
      (law.WriteReply client seq version server named (number_of key))
      (in_place (packet.WriteReply client seq version server named key)
      (family w.rack client server named c t n) refl)
      mode
    where
      mode :
          (md : switch.Mode) → here.mode ≡ md
          → Mirrors keys
          (switch_stepped w a (packet.WriteReply client seq version server named key)
          (in_mode md here (packet.WriteReply client seq version server named key) pick)).0
          (system.switch_takes s a (mode_code md) pick
          (law.WriteReply client seq version server named (number_of key)))
      mode switch.Active e =
          write_reply_noted keys w s m a within e client seq version server named key pick c t
      mode switch.Idle e = switch_idle keys w s m a within
      mode (switch.Sealed target) e = switch_idle keys w s m a within

  pub held_handed :
      (server version : ℕ) (key : List ℕ) → server < w.rack.servers
      → Handed (packet.Held server version key) (law.Held server version (number_of key))
  held_handed server version key t =
      by_mode (packet.Held server version key) (law.Held server version (number_of key))
      (in_place (packet.Held server version key) (lt-ltb server w.rack.servers t) refl) mode
    where
      mode :
          (md : switch.Mode) → here.mode ≡ md
          → Mirrors keys
          (switch_stepped w a (packet.Held server version key)
          (in_mode md here (packet.Held server version key) pick)).0
          (system.switch_takes s a (mode_code md) pick
          (law.Held server version (number_of key)))
      mode switch.Active e = held_noted keys w s m a within e server version key pick t
      mode switch.Idle e = switch_idle keys w s m a within
      mode (switch.Sealed target) e = switch_idle keys w s m a within

  pub void_handed :
      (client seq version server named : ℕ) (key : List ℕ) → client < w.rack.clients
      → server < w.rack.servers → named < w.rack.switches
      → Handed (packet.Void client seq version server named key)
      (law.Void client seq version server named (number_of key))
  void_handed client seq version server named key c t n =
      by_mode (packet.Void client seq version server named key)
      (law.Void client seq version server named (number_of key))
      (in_place (packet.Void client seq version server named key)
      (family w.rack client server named c t n) refl)
      mode
    where
      mode :
          (md : switch.Mode) → here.mode ≡ md
          → Mirrors keys
          (switch_stepped w a (packet.Void client seq version server named key)
          (in_mode md here (packet.Void client seq version server named key) pick)).0
          (system.switch_takes s a (mode_code md) pick
          (law.Void client seq version server named (number_of key)))
      mode switch.Active e =
          void_taken keys w s m a within e client seq version server named key pick c
      mode switch.Idle e = switch_idle keys w s m a within
      mode (switch.Sealed target) e = switch_idle keys w s m a within

  -- ---- commands in every mode, given what seals and what is sent again

  pub command_handed :
      (number : ℕ) (what : What) → 1 ≤ number → number ≤ last_number → WhatInRack w.rack what
      → switch.is_misplaced here (packet.Command number what) ≡ false
      → ((target epoch : ℕ) → what ≡ packet.Seal target epoch → number ≡ here.last + 1
      → here.mode ≡ switch.Active
      → Mirrors keys
      (switch_stepped w a (packet.Command number what) (carry_out here number what)).0
      (system.executes s a number (what_code what)))
      → ((target : ℕ) → here.mode ≡ switch.Sealed target
      → Mirrors keys
      (switch_stepped w a (packet.Command number what)
      (cond (number == here.last) (switch.sends_again here target)
      (refuse here (did.Skipped number here.last)))).0
      (system.sealed_takes s a target (law.Command number (what_code what))))
      → Handed (packet.Command number what) (law.Command number (what_code what))
  command_handed number what some few x placed seal again =
      by_mode (packet.Command number what) (law.Command number (what_code what))
      (in_place (packet.Command number what) (what_taken w.rack what x) placed) mode
    where
      what_taken : (rack : Rack) (k : What) → WhatInRack rack k → switch.what_in_rack rack k ≡ true
      what_taken rack (packet.Promote key) y = refl
      what_taken rack (packet.Demote key) y = refl
      what_taken rack (packet.Copy target key) y = lt-ltb target rack.servers y
      what_taken rack (packet.FenceKey key) y = refl
      what_taken rack packet.Clear y = refl
      what_taken rack (packet.Seal target epoch) y = lt-ltb target rack.switches y

      mode :
          (md : switch.Mode) → here.mode ≡ md
          → Mirrors keys
          (switch_stepped w a (packet.Command number what)
          (in_mode md here (packet.Command number what) pick)).0
          (system.switch_takes s a (mode_code md) pick (law.Command number (what_code what)))
      mode switch.Active e =
          commanded number what e some
          (execute number what e few x (λ target epoch f next. seal target epoch f next e))
      mode switch.Idle e =
          subst (λ (y : World). Mirrors keys (record y { packets = y.packets ++ [] }) s)
          (sym (not_active_plain (with_switch w here) here number here.epoch what))
          (switch_idle keys w s m a within)
      mode (switch.Sealed target) e = again target e
