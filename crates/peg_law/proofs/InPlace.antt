-- No packet that a node sent is ever out of place where it comes.
use Rattle.std.proofs.Common.{◌≡◌, ◌≢◌, ◌<◌, ◌+◌, ◌==◌, ◌&&◌, ◌||◌, ◌⊎◌, inl, inr, ℕ, Bool}
use Rattle.std.proofs.Common.{true, false, not, List, length}
use Rattle.std.proofs.Common.{cond, Option, Some, None, option_map, refl, sym, ap, ◌∙◌, subst}
use Rattle.std.proofs.Common.{nat_lt, nat_le}
use Rattle.std.proofs.Common.{eq-eqb, eqb-true, lt-ltb}
use Rattle.std.proofs.lemmas.Bool.{and_from, and_parts, eqb-false, or_cases}
use Rattle.std.proofs.lemmas.List.{length-map}
use Rattle.peg_name.specs.Name.{Rack, home_of}
use Rattle.peg_name.specs.declared.Node.{Node}
use Rattle.peg_name.specs.declared.Node.TheVariants as node
use Rattle.peg_event.specs.declared.Command.{Command}
use Rattle.peg_event.specs.declared.ControlDid.{ControlDid}
use Rattle.peg_event.specs.declared.ControlDid.TheVariants as control_did
use Rattle.peg_event.specs.declared.Outcome.{Outcome}
use Rattle.peg_event.specs.declared.Said.TheVariants as said
use Rattle.peg_model.specs.Words.{refuse, Step}
use Rattle.peg_model.specs.Packet as packet
use Rattle.peg_model.specs.Packet.{Packet, What}
use Rattle.peg_model.specs.Rules.{read_request, write_request, on_void}
use Rattle.peg_model.specs.Server.{Server, held, serve, server_step, server_takes}
use Rattle.peg_model.specs.Server.{write_over, apply_over, fence_over}
use Rattle.peg_model.specs.Switch as switch
use Rattle.peg_model.specs.Switch.{Switch, SwitchStep, core_of, in_mode, switch_step, out_of_place}
use Rattle.peg_model.specs.Switch.{on_part, is_old, activates, repeats}
use Rattle.peg_model.specs.Controller as control
use Rattle.peg_model.specs.Controller.{Controller, what_of, belongs, is_strange, is_listed}
use Rattle.peg_model.specs.Controller.{acknowledged, controller_step}
use Rattle.peg_model.specs.World.{World, server_of, switch_of}
use Rattle.peg_law.specs.Codes.{number_of, what_code, outcome_code, packet_code}
use Rattle.peg_law.specs.Mirrors.{Mirrors, IsSent, WhatInRack, mode_code}
use Rattle.peg_law.proofs.ServerHanded.{step_by, taken, home_is, two_named, one_named}
use Rattle.peg_law.proofs.SwitchHanded.{stepped, in_place, family}
use Rattle.peg_law.proofs.Commanding.{bad_seal}
use Rattle.peg_law.proofs.ControllerHanded.{overfull_is}
use Rattle.peg_law.proofs.Outcomes.{same_belongs}
use Rattle.peg_law.proofs.Replies.{SameOrigins}
use Rattle.peg_law.proofs.Deliveries.{IsPart}
use Rattle.peg_law.proofs.Said.{IsFine, ServerFine, SwitchFine, write_fine, copy_fine, fence_fine}
use Rattle.peg_law.proofs.Said.{order_copy_fine, read_fine, forward_fine, void_fine, command_fine}
use Rattle.peg_law.proofs.Said.{again_fine}
use Rattle.peg_protocol.specs.Core as core
use Rattle.peg_protocol.specs.Packet as law
use Rattle.peg_protocol.specs.OutOfPlace.{Refused, AckRefused}
use Rattle.peg_protocol.specs.System as system
use Rattle.peg_protocol.specs.System.{System}

module _ (keys : List (List ℕ)) (w : World) (s : System) (m : Mirrors keys w s)
    (origins : SameOrigins w s) (pick : ℕ) where
  -- ---- servers

  module _ (t : ℕ) where
    abbrev sv : Server
    sv = server_of w t

    by_taken :
        (p : Packet) → server_takes w.rack t p ≡ true → ServerFine (serve sv p)
        → ServerFine (server_step sv p)
    by_taken p e fine =
        subst ServerFine (sym (step_by sv p true (taken keys w s m origins pick t p true e))) fine

    pub server_fine :
        (p : Packet) → IsSent w.rack (node.Server t) p
        → (Refused s (law.Server t) (packet_code p) → ⊥) → ServerFine (server_step sv p)
    server_fine (packet.ToServerRead client seq server named key) x fits =
        by_taken (packet.ToServerRead client seq server named key)
        (two_named server t client named w.rack x.0 x.2 x.3) (λ id. (refl, refl))
    server_fine (packet.ToServerWrite client seq version server named key content) x fits =
        by_taken (packet.ToServerWrite client seq version server named key content)
        (two_named server t client named w.rack x.0 x.2 x.3)
        (write_fine (write_over (held sv.store key) version) sv client seq version named key
        content)
    server_fine (packet.CopyData named server version key content) x fits =
        by_taken (packet.CopyData named server version key content)
        (one_named server t named w.rack x.0 x.2)
        (copy_fine (apply_over (held sv.store key) version) sv version named key content)
    server_fine (packet.CopyOrder named server target key) x fits =
        by_taken (packet.CopyOrder named server target key)
        (and_from
        (server == t && nat_lt named w.rack.switches && nat_lt target w.rack.servers)
        (not (target == t))
        (and_from (server == t && nat_lt named w.rack.switches) (nat_lt target w.rack.servers)
        (one_named server t named w.rack x.0 x.2) (lt-ltb target w.rack.servers x.3))
        (ap not (apart (target == t) refl)))
        (order_copy_fine ((held sv.store key).version == 0) (held sv.store key) sv named target key)
      where
        apart : (b : Bool) → (target == t) ≡ b → (target == t) ≡ false
        apart true e = absurd (fits (eqb-true target t e))
        apart false e = e
    server_fine (packet.Fence named server version key) x fits =
        by_taken (packet.Fence named server version key)
        (and_from (server == t && nat_lt named w.rack.switches) (home_of w.rack.servers key == t)
        (one_named server t named w.rack x.0 x.2) (at_home (home_of w.rack.servers key == t) refl))
        (fence_fine (fence_over (held sv.store key) version) sv version named key)
      where
        at_home :
            (b : Bool) → (home_of w.rack.servers key == t) ≡ b
            → (home_of w.rack.servers key == t) ≡ true
        at_home true e = e
        at_home false e =
            absurd
            (fits
            (λ z.
            eqb-false (home_of w.rack.servers key) t e
            (sym (z ∙ home_is keys w s m key))))
    server_fine (packet.Read client seq key) x fits = absurd x
    server_fine (packet.Write client seq key content) x fits = absurd x
    server_fine (packet.ReadReply client seq version server named key content) x fits = absurd x
    server_fine (packet.WriteReply client seq version server named key) x fits = absurd x
    server_fine (packet.Command number what) x fits = absurd x
    server_fine (packet.CommandAck number o) x fits = absurd x
    server_fine (packet.Held server version key) x fits = absurd x
    server_fine (packet.Part epoch index count bytes) x fits = absurd x
    server_fine (packet.Announce epoch named) x fits = absurd x
    server_fine packet.Survey x fits = absurd x
    server_fine (packet.Report epoch total rows) x fits = absurd x
    server_fine (packet.Void client seq version server named key) x fits = absurd x

  -- ---- switches

  module _ (a : ℕ) (within : a < w.rack.switches) where
    abbrev sw : Switch
    sw = switch_of w a

    by_mode :
        (p : Packet) → out_of_place sw p ≡ false
        → ((md : switch.Mode) → sw.mode ≡ md → SwitchFine (in_mode md sw p pick))
        → SwitchFine (switch_step sw p pick)
    by_mode p e h = subst SwitchFine (sym (stepped sw p pick false e)) (h sw.mode refl)

    placed_at : (p : Packet) → switch.switch_takes w.rack p ≡ true →
        switch.is_misplaced sw p ≡ false
        → out_of_place sw p ≡ false
    placed_at p e f = in_place keys w s m pick a within p e f

    what_taken : (k : What) → WhatInRack w.rack k → switch.what_in_rack w.rack k ≡ true
    what_taken (packet.Promote key) y = refl
    what_taken (packet.Demote key) y = refl
    what_taken (packet.Copy target key) y = lt-ltb target w.rack.servers y
    what_taken (packet.FenceKey key) y = refl
    what_taken packet.Clear y = refl
    what_taken (packet.Seal target epoch) y = lt-ltb target w.rack.switches y

    seal_placed :
        (number target epoch : ℕ)
        → (Refused s (law.Switch a) (law.Command number (law.Seal target epoch)) → ⊥) → (b : Bool)
        → bad_seal keys w s m pick a within number target epoch ≡ b
        → bad_seal keys w s m pick a within number target epoch ≡ false
    seal_placed number target epoch fits false e = e
    seal_placed number target epoch fits true e =
        let f = m.switches a in
        let p =
        and_parts (switch.is_active sw.mode && number == sw.last + 1)
        (target == sw.id || not (epoch == sw.epoch + 1)) e in
        let q = and_parts (switch.is_active sw.mode) (number == sw.last + 1) p.0 in
        absurd
        (fits (
          f.mode_is ∙ active_is sw.mode q.0,
          eqb-true number (sw.last + 1) q.1 ∙ ap (λ l. l + 1) (sym f.core_is.last_is),
          by_case (or_cases (target == sw.id) (not (epoch == sw.epoch + 1)) p.1),
        ))
      where
        active_is : (md : switch.Mode) → switch.is_active md ≡ true → mode_code md ≡ system.Active
        active_is switch.Active x = refl
        active_is switch.Idle x = absurd (cc)
        active_is (switch.Sealed t) x = absurd (cc)

        by_case :
            ((target == sw.id) ≡ true) ⊎ (not (epoch == sw.epoch + 1) ≡ true)
            → (target ≡ a) ⊎ (epoch ≢ s.epochs a + 1)
        by_case (inl y) = inl (eqb-true target sw.id y ∙ (m.switches a).id_is)
        by_case (inr y) =
            inr
            (λ z.
            let same : (epoch == sw.epoch + 1) ≡ true =
            eq-eqb epoch (sw.epoch + 1) (z ∙ ap (λ x. x + 1) (m.switches a).epoch_is) in
            let x : false ≡ true = sym (ap not same) ∙ y in cc)

    command_placed :
        (number : ℕ) (what : What)
        → (Refused s (law.Switch a) (law.Command number (what_code what)) → ⊥)
        → switch.is_misplaced sw (packet.Command number what) ≡ false
    command_placed number (packet.Promote key) fits = refl
    command_placed number (packet.Demote key) fits = refl
    command_placed number (packet.Copy target key) fits = refl
    command_placed number (packet.FenceKey key) fits = refl
    command_placed number packet.Clear fits = refl
    command_placed number (packet.Seal target epoch) fits =
        seal_placed number target epoch fits (bad_seal keys w s m pick a within number target epoch)
        refl

    pub switch_fine :
        (p : Packet) → IsSent w.rack (node.Switch a) p
        → (Refused s (law.Switch a) (packet_code p) → ⊥) → (IsPart p → ⊥)
        → SwitchFine (switch_step sw p pick)
    switch_fine (packet.Read client seq key) x fits plain =
        by_mode (packet.Read client seq key)
        (placed_at (packet.Read client seq key) (lt-ltb client w.rack.clients x.1) refl) mode
      where
        mode : (md : switch.Mode) → sw.mode ≡ md
            → SwitchFine (in_mode md sw (packet.Read client seq key) pick)
        mode switch.Active e = read_fine (read_request (core_of sw) key pick) sw client seq key
        mode switch.Idle e = λ id. (refl, refl)
        mode (switch.Sealed target) e = λ id. (refl, refl)
    switch_fine (packet.Write client seq key content) x fits plain =
        by_mode (packet.Write client seq key content)
        (placed_at (packet.Write client seq key content) (lt-ltb client w.rack.clients x.1) refl)
        mode
      where
        mode : (md : switch.Mode) → sw.mode ≡ md
            → SwitchFine (in_mode md sw (packet.Write client seq key content) pick)
        mode switch.Active e =
            let r = write_request (core_of sw) key client seq pick in
            forward_fine r.0 r.1 sw client seq key content
        mode switch.Idle e = λ id. (refl, refl)
        mode (switch.Sealed target) e = λ id. (refl, refl)
    switch_fine (packet.ReadReply client seq version server named key content) x fits plain =
        by_mode (packet.ReadReply client seq version server named key content)
        (placed_at (packet.ReadReply client seq version server named key content)
        (family w.rack client server named x.1 x.2 x.3) refl)
        mode
      where
        mode :
            (md : switch.Mode) → sw.mode ≡ md
            → SwitchFine
            (in_mode md sw (packet.ReadReply client seq version server named key content) pick)
        mode switch.Active e = λ id. (refl, refl)
        mode switch.Idle e = λ id. (refl, refl)
        mode (switch.Sealed target) e = λ id. (refl, refl)
    switch_fine (packet.WriteReply client seq version server named key) x fits plain =
        by_mode (packet.WriteReply client seq version server named key)
        (placed_at (packet.WriteReply client seq version server named key)
        (family w.rack client server named x.1 x.2 x.3) refl)
        mode
      where
        mode :
            (md : switch.Mode) → sw.mode ≡ md
            → SwitchFine
            (in_mode md sw (packet.WriteReply client seq version server named key) pick)
        mode switch.Active e = λ id. (refl, refl)
        mode switch.Idle e = λ id. (refl, refl)
        mode (switch.Sealed target) e = λ id. (refl, refl)
    switch_fine (packet.Held server version key) x fits plain =
        by_mode (packet.Held server version key)
        (placed_at (packet.Held server version key) (lt-ltb server w.rack.servers x.1) refl) mode
      where
        mode : (md : switch.Mode) → sw.mode ≡ md
            → SwitchFine (in_mode md sw (packet.Held server version key) pick)
        mode switch.Active e = λ id. (refl, refl)
        mode switch.Idle e = λ id. (refl, refl)
        mode (switch.Sealed target) e = λ id. (refl, refl)
    switch_fine (packet.Void client seq version server named key) x fits plain =
        by_mode (packet.Void client seq version server named key)
        (placed_at (packet.Void client seq version server named key)
        (family w.rack client server named x.1 x.2 x.3) refl)
        mode
      where
        mode :
            (md : switch.Mode) → sw.mode ≡ md
            → SwitchFine (in_mode md sw (packet.Void client seq version server named key) pick)
        mode switch.Active e =
            let r = on_void (core_of sw) client seq version in
            void_fine r.0 r.1 sw client seq version
        mode switch.Idle e = λ id. (refl, refl)
        mode (switch.Sealed target) e = λ id. (refl, refl)
    switch_fine (packet.Command number what) x fits plain =
        by_mode (packet.Command number what)
        (placed_at (packet.Command number what) (what_taken what x.3)
        (command_placed number what fits))
        mode
      where
        mode : (md : switch.Mode) → sw.mode ≡ md
            → SwitchFine (in_mode md sw (packet.Command number what) pick)
        mode switch.Active e = command_fine sw number what
        mode switch.Idle e = λ id. (refl, refl)
        mode (switch.Sealed target) e = again_fine sw target number (number == sw.last)
    switch_fine packet.Survey x fits plain =
        by_mode packet.Survey (placed_at packet.Survey refl refl) mode
      where
        mode : (md : switch.Mode) → sw.mode ≡ md → SwitchFine (in_mode md sw packet.Survey pick)
        mode switch.Active e = λ id. (refl, refl)
        mode switch.Idle e = λ id. (refl, refl)
        mode (switch.Sealed target) e = λ id. (refl, refl)
    switch_fine (packet.Part epoch index count bytes) x fits plain = absurd (plain tt)
    switch_fine (packet.ToServerRead client seq server named key) x fits plain = absurd x
    switch_fine (packet.ToServerWrite client seq version server named key content) x fits plain =
        absurd x
    switch_fine (packet.CommandAck number o) x fits plain = absurd x
    switch_fine (packet.CopyOrder named server target key) x fits plain = absurd x
    switch_fine (packet.CopyData named server version key content) x fits plain = absurd x
    switch_fine (packet.Announce epoch named) x fits plain = absurd x
    switch_fine (packet.Report epoch total rows) x fits plain = absurd x
    switch_fine (packet.Fence named server version key) x fits plain = absurd x

  -- ---- the controller

  abbrev ControllerFine : Step Controller (Node × Packet) ControlDid → Type 0
  ControllerFine step = IsFine (said.Controller step.did)

  pub acknowledgement_fine :
      (number : ℕ) (o : Outcome)
      → (Refused s law.Controller (law.Ack number (outcome_code o)) → ⊥)
      → ControllerFine
      (acknowledged w.controller.pending w.controller.rack w.controller number o)
  acknowledgement_fine number o fits = by_pending c.pending refl
    where
      c : Controller
      c = w.controller

      by_tests :
          (k : Command) → c.pending ≡ Some k → (b1 : Bool) → (number == c.last) ≡ b1
          → (b2 : Bool) → is_strange c.rack c k o ≡ b2
          → ControllerFine
          (cond (not b1) (refuse c control_did.Ignored)
          (cond b2 (refuse c control_did.OutOfPlace) (control.takes c.rack c k o)))
      by_tests k e false e1 b2 e2 = (refl, refl)
      by_tests k e true e1 false e2 = (refl, refl)
      by_tests k e true e1 true e2 =
          let f = m.controller in
          let n = eqb-true number c.last e1 in
          let some : s.command ≡ Some (what_code (what_of c.epoch k)) =
          f.pending_is ∙ ap (option_map (λ j. what_code (what_of c.epoch j))) e in
          absurd
          (fits
          (subst (AckRefused s number (outcome_code o)) (sym some) (
            n ∙ sym f.number_is,
            by_case n
                (or_cases (not (belongs c.last (what_of c.epoch k) o))
                (is_listed o && nat_le c.rack.listed (length c.known)) e2),
          )))
        where
          by_case :
              number ≡ c.last
              → (not (belongs c.last (what_of c.epoch k) o) ≡ true)
              ⊎ ((is_listed o && nat_le c.rack.listed (length c.known)) ≡ true)
              → (system.belongs number (what_code (what_of c.epoch k)) (outcome_code o) ≡ false)
              ⊎ (system.overfull s.rack (outcome_code o) s.known ≡ true)
          by_case n (inl y) =
              inl
              (same_belongs number c.epoch k o ∙ ap (λ x. belongs x (what_of c.epoch k) o) n
              ∙ untrue (belongs c.last (what_of c.epoch k) o) y)
            where
              untrue : (b : Bool) → not b ≡ true → b ≡ false
              untrue false x = refl
              untrue true x = absurd (cc)
          by_case n (inr y) =
              let f = m.controller in
              inr
              (overfull_is s.rack w.rack.listed s.known (length c.known) o
              (ap (λ (r : core.Rack). r.room) m.rack)
              (ap length f.known_is ∙ length-map c.known number_of) f.room
              ∙ ap (λ (r : Rack). is_listed o && nat_le r.listed (length c.known)) (sym f.rack_is)
              ∙ y)

      by_pending :
          (p : Option Command) → c.pending ≡ p → ControllerFine (acknowledged p c.rack c number o)
      by_pending None e = (refl, refl)
      by_pending (Some k) e =
          by_tests k e (number == c.last) refl (is_strange c.rack c k o) refl
