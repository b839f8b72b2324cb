-- A switch that is handed a command, in both machines.
use Rattle.std.proofs.Common.{◌≡◌, ◌<◌, ◌≤◌, ◌+◌, ◌==◌, ◌&&◌, ◌||◌, ℕ, Bool, true, false, not, List}
use Rattle.std.proofs.Common.{[], ◌++◌}
use Rattle.std.proofs.Common.{cond, nat_lt, refl, sym, ap, ◌∙◌, subst}
use Rattle.std.proofs.lemmas.Bool.{and_parts}
use Rattle.std.proofs.Common.{eq-eqb}
use Rattle.peg_model.specs.Words.{last_number}
use Rattle.peg_model.specs.Packet as packet
use Rattle.peg_model.specs.Packet.{What}
use Rattle.peg_model.specs.Switch as switch
use Rattle.peg_model.specs.Switch.{Switch, SwitchStep, carry_out, is_misplaced, switch_step}
use Rattle.peg_model.specs.Switch.{out_of_place}
use Rattle.peg_model.specs.World.{World, switch_of, with_switch, switch_stepped}
use Rattle.peg_law.specs.Codes.{what_code}
use Rattle.peg_law.specs.Mirrors.{Mirrors, SwitchFits, WhatInRack, mode_code}
use Rattle.peg_law.proofs.SwitchSteps.{switch_idle}
use Rattle.peg_law.proofs.SwitchHanded.{stepped, command_handed}
use Rattle.peg_law.proofs.Sealed.{sealed_now, sent_again}
use Rattle.peg_protocol.specs.Packet as law
use Rattle.peg_protocol.specs.System as system
use Rattle.peg_protocol.specs.System.{System}
use Rattle.peg_protocol.specs.Told.{InRange}

module _ (keys : List (List ℕ)) (w : World) (s : System) (m : Mirrors keys w s) (pick a : ℕ)
    (within : a < w.rack.switches) where
  abbrev sw : Switch
  sw = switch_of w a

  abbrev Handed : ℕ → What → Type 0
  Handed number what =
      Mirrors keys
      (switch_stepped w a (packet.Command number what)
      (switch_step sw (packet.Command number what) pick)).0
      (system.takes s pick (law.Switch a) (law.Command number (what_code what)))

  abbrev Ranges : Type 0
  Ranges = (b : ℕ) → s.modes b ≡ system.Active → InRange s.issued s.rack (s.cores b)

  -- a seal for this switch itself, or for another epoch than the next
  abbrev pub bad_seal : ℕ → ℕ → ℕ → Bool
  bad_seal number target epoch =
      switch.is_active sw.mode && number == sw.last + 1
      && (target == sw.id || not (epoch == sw.epoch + 1))

  good : (b c : Bool) → (b || not c) ≡ false → (b ≡ false) × (c ≡ true)
  good false true e = (refl, refl)
  good false false e = absurd (cc)
  good true c e = absurd (cc)

  seal_is :
      (number target epoch : ℕ) → bad_seal number target epoch ≡ false
      → number ≡ sw.last + 1 → sw.mode ≡ switch.Active → Ranges → target < w.rack.switches
      → 1 ≤ number → number ≤ last_number
      → Mirrors keys
      (switch_stepped w a (packet.Command number (packet.Seal target epoch))
      (carry_out sw number (packet.Seal target epoch))).0
      (system.executes s a number (law.Seal target epoch))
  seal_is number target epoch placed next active ranges in_rack some few =
      let f = m.switches a in
      let e : (target == sw.id || not (epoch == sw.epoch + 1)) ≡ false =
      sym
      (ap
      (λ md.
      switch.is_active md && number == sw.last + 1
      && (target == sw.id || not (epoch == sw.epoch + 1)))
      active
      ∙ ap (λ b. b && (target == sw.id || not (epoch == sw.epoch + 1)))
      (eq-eqb number (sw.last + 1) next))
      ∙ placed in
      let g = good (target == sw.id) (epoch == sw.epoch + 1) e in
      let test : (not (target == a) && epoch == s.epochs a + 1) ≡ true =
      ap (λ i. not (target == i) && epoch == s.epochs a + 1) (sym f.id_is)
      ∙ ap (λ b. not b && epoch == s.epochs a + 1) g.0
      ∙ ap (λ x. epoch == x + 1) f.epoch_is ∙ g.1 in
      subst
      (λ b.
      Mirrors keys
      (switch_stepped w a (packet.Command number (packet.Seal target epoch))
      (carry_out sw number (packet.Seal target epoch))).0
      (cond b (system.seals s a target number) s))
      (sym test)
      (sealed_now keys w s m a within number target epoch active
      (ranges a (f.mode_is ∙ ap mode_code active)) in_rack some few)

  -- what both machines refuse
  refused :
      (number target epoch : ℕ) → bad_seal number target epoch ≡ true → target < w.rack.switches
      → Handed number (packet.Seal target epoch)
  refused number target epoch bad in_rack =
      let out : out_of_place sw (packet.Command number (packet.Seal target epoch)) ≡ true =
      ap (λ b. not (nat_lt target sw.rack.switches) || b) bad
      ∙ or_true (not (nat_lt target sw.rack.switches)) in
      subst
      (λ (x : SwitchStep).
      Mirrors keys (switch_stepped w a (packet.Command number (packet.Seal target epoch)) x).0
      (system.takes s pick (law.Switch a) (law.Command number (law.Seal target epoch))))
      (sym (stepped sw (packet.Command number (packet.Seal target epoch)) pick true out))
      (subst
      (Mirrors keys (record (with_switch w sw) { packets = w.packets ++ [] }))
      (sym same) (switch_idle keys w s m a within))
    where
      or_true : (b : Bool) → (b || true) ≡ true
      or_true true = refl
      or_true false = refl

      f : SwitchFits w.rack a w.packets sw (s.modes a) (s.epochs a) (s.cores a)
          (s.outcomes a) (s.gathered a)
      f = m.switches a

      by_mode :
          (mode : switch.Mode) → sw.mode ≡ mode
          → system.switch_takes s a (mode_code mode) pick
          (law.Command number (law.Seal target epoch)) ≡ s
      by_mode switch.Idle e =
          absurd (let x : false ≡ true =
          sym (ap (λ md. switch.is_active md && number == sw.last + 1
          && (target == sw.id || not (epoch == sw.epoch + 1))) e) ∙ bad in cc)
      by_mode (switch.Sealed t) e =
          absurd (let x : false ≡ true =
          sym (ap (λ md. switch.is_active md && number == sw.last + 1
          && (target == sw.id || not (epoch == sw.epoch + 1))) e) ∙ bad in cc)
      by_mode switch.Active e =
          let p =
          and_parts (number == sw.last + 1) (target == sw.id || not (epoch == sw.epoch + 1))
          (sym (ap (λ md. switch.is_active md && number == sw.last + 1
          && (target == sw.id || not (epoch == sw.epoch + 1))) e) ∙ bad) in
          let test : (number == (s.cores a).last + 1) ≡ true =
          ap (λ l. number == l + 1) f.core_is.last_is ∙ p.0 in
          let none : (not (target == a) && epoch == s.epochs a + 1) ≡ false =
          ap (λ i. not (target == i) && epoch == s.epochs a + 1) (sym f.id_is)
          ∙ ap (λ x. not (target == sw.id) && epoch == x + 1) f.epoch_is
          ∙ turned (target == sw.id) (epoch == sw.epoch + 1) p.1 in
          ap
          (λ b.
          cond b
          (cond (not (target == a) && epoch == s.epochs a + 1) (system.seals s a target number) s)
          (cond (number == (s.cores a).last)
          (system.post s (law.item law.Controller (law.Ack number (s.outcomes a)))) s))
          test
          ∙ ap (λ b. cond b (system.seals s a target number) s) none
        where
          turned : (b c : Bool) → (b || not c) ≡ true → (not b && c) ≡ false
          turned true c x = refl
          turned false true x = absurd (cc)
          turned false false x = refl

      same : system.takes s pick (law.Switch a) (law.Command number (law.Seal target epoch)) ≡ s
      same =
          ap
          (λ md. system.switch_takes s a md pick (law.Command number (law.Seal target epoch)))
          f.mode_is
          ∙ by_mode sw.mode refl

  by_place :
      (number : ℕ) (what : What) → 1 ≤ number → number ≤ last_number → WhatInRack w.rack what
      → Ranges → is_misplaced sw (packet.Command number what) ≡ false
      → ((target epoch : ℕ) → what ≡ packet.Seal target epoch
      → bad_seal number target epoch ≡ false)
      → Handed number what
  by_place number what some few x ranges placed sealing =
      command_handed keys w s m pick a within number what some few x placed
      (λ target epoch e next active.
      subst
      (λ k.
      Mirrors keys
      (switch_stepped w a (packet.Command number k) (carry_out sw number k)).0
      (system.executes s a number (what_code k)))
      (sym e)
      (seal_is number target epoch (sealing target epoch e) next active ranges
      (subst (WhatInRack w.rack) e x) some few))
      (λ target e. sent_again keys w s m a within number target what e)

  pub commanded :
      (number : ℕ) (what : What) → 1 ≤ number → number ≤ last_number → WhatInRack w.rack what
      → Ranges → Handed number what
  commanded number (packet.Promote key) some few x ranges =
      by_place number (packet.Promote key) some few x ranges refl (λ t e f. absurd (cc))
  commanded number (packet.Demote key) some few x ranges =
      by_place number (packet.Demote key) some few x ranges refl (λ t e f. absurd (cc))
  commanded number (packet.Copy target key) some few x ranges =
      by_place number (packet.Copy target key) some few x ranges refl (λ t e f. absurd (cc))
  commanded number (packet.FenceKey key) some few x ranges =
      by_place number (packet.FenceKey key) some few x ranges refl (λ t e f. absurd (cc))
  commanded number packet.Clear some few x ranges =
      by_place number packet.Clear some few x ranges refl (λ t e f. absurd (cc))
  commanded number (packet.Seal target epoch) some few x ranges =
      by_test (bad_seal number target epoch) refl
    where
      by_test :
          (b : Bool) → bad_seal number target epoch ≡ b → Handed number (packet.Seal target epoch)
      by_test true e = refused number target epoch e x
      by_test false e =
          by_place number (packet.Seal target epoch) some few x ranges e
          (λ t e' f.
          let same : target ≡ t = cc in
          let also : epoch ≡ e' = cc in
          subst (λ y. bad_seal number y e' ≡ false) same
          (subst (λ y. bad_seal number target y ≡ false) also e))
