-- A switch takes a part, or sends its acknowledgement again, in both machines.
use Rattle.std.proofs.Common.{◌≡◌, ◌<◌, ◌≤◌, ◌==◌, ◌&&◌, ◌||◌, ℕ, Bool, true, false, not, List, []}
use Rattle.std.proofs.Common.{◌++◌}
use Rattle.std.proofs.Common.{cond, refl, sym, ap, ◌∙◌, subst, nat_lt, nat_le, Contains}
use Rattle.std.proofs.Common.{arith}
use Rattle.std.proofs.lemmas.Bool.Decides.{nat_tests}
use Rattle.peg_name.specs.declared.Node.TheVariants as node
use Rattle.peg_event.specs.declared.SwitchDid.TheVariants as did
use Rattle.peg_model.specs.Words.{refuse}
use Rattle.peg_model.specs.Packet as packet
use Rattle.peg_model.specs.Handover.{Collected, state_of, bytes_of, begun, with_part, has_part}
use Rattle.peg_model.specs.Handover.{is_whole, held_count, fits}
use Rattle.peg_model.specs.Switch as switch
use Rattle.peg_model.specs.Switch.{Switch, SwitchStep, on_part, collects, activates, is_old}
use Rattle.peg_model.specs.Switch.{switch_step, in_mode, repeats, out_of_place, kept_of}
use Rattle.peg_model.specs.World.{World, switch_of, with_switch, switch_stepped}
use Rattle.peg_law.specs.Mirrors.{Mirrors, PartFits, mode_code}
use Rattle.peg_law.proofs.SwitchSteps.{switch_idle}
use Rattle.peg_law.proofs.SwitchHanded.{stepped, kept_again}
use Rattle.peg_law.proofs.Gathering.{ReadsStates, OneState, part_fits, repeated, collected_more}
use Rattle.peg_law.proofs.Gathering.{activated, whole_state, all_is}
use Rattle.peg_protocol.specs.Packet as law
use Rattle.peg_protocol.specs.Core.{at_one}
use Rattle.peg_protocol.specs.System as system
use Rattle.peg_protocol.specs.System.{System}

module _ (keys : List (List ℕ)) (w : World) (s : System) (m : Mirrors keys w s) (pick a : ℕ)
    (within : a < w.rack.switches) (reads : ReadsStates) (one : OneState s)
    (epoch index count : ℕ) (bytes : List ℕ) (q : law.Packet)
    (p : PartFits w.rack epoch index count bytes q)
    (in_book : Contains w.packets (node.Switch a, packet.Part epoch index count bytes))
    (in_law : Contains s.sent (law.item (law.Switch a) q)) where
  abbrev sw : Switch
  sw = switch_of w a

  abbrev part : packet.Packet
  part = packet.Part epoch index count bytes

  abbrev told : law.Packet
  told = law.Part epoch index count p.state

  abbrev had : Collected
  had = begun sw.collected epoch count

  abbrev now : Collected
  now = with_part had index bytes

  -- the switch with this part besides
  abbrev again : System
  again =
      record s {
        gathered =
            at_one s.gathered a
            (record { epoch = epoch; has = system.gathers (s.gathered a) epoch index });
      }

  -- ---- an idle or sealed switch

  old_is :
      (nat_le epoch (s.epochs a) || nat_lt epoch (s.gathered a).epoch) ≡ is_old sw epoch
  old_is =
      let f = m.switches a in
      ap (λ e. nat_le epoch e || nat_lt epoch (s.gathered a).epoch) f.epoch_is
      ∙ ap (λ e. nat_le epoch sw.epoch || nat_lt epoch e) f.gathered_is.epoch_is

  pub not_old :
      (e c : ℕ) → (nat_le epoch e || nat_lt epoch c) ≡ false → (e < epoch) × (c ≤ epoch)
  not_old e c = grind (arith, nat_tests)

  taken :
      (t : Bool) → is_old sw epoch ≡ t
      → Mirrors keys (switch_stepped w a part (on_part sw epoch index count bytes)).0
      (system.takes_part s a epoch index count p.state)
  taken true t =
      subst
      (λ x.
      Mirrors keys (switch_stepped w a part (on_part sw epoch index count bytes)).0
      (cond x s
      (cond (system.all_below (system.gathers (s.gathered a) epoch index) count)
      (system.post
      (record s {
        modes = at_one s.modes a system.Active;
        epochs = at_one s.epochs a epoch;
        cores = at_one s.cores a p.state;
        outcomes = at_one s.outcomes a (law.Activated epoch);
        gathered = at_one s.gathered a (record { epoch = 0; has = λ j. false });
      })
      (law.item law.Controller (law.Ack p.state.last (law.Activated epoch))))
      again)))
      (sym (old_is ∙ t))
      (subst
      (λ x.
      Mirrors keys
      (switch_stepped w a part
      (cond x (refuse sw (did.OldPart epoch))
      (cond (has_part had index) (refuse sw (did.HasPart index)) (collects now sw epoch count)))).0
      s)
      (sym t) (switch_idle keys w s m a within))
  taken false t =
      let x = not_old sw.epoch sw.collected.epoch t in
      subst
      (λ y.
      Mirrors keys (switch_stepped w a part (on_part sw epoch index count bytes)).0
      (cond y s
      (cond (system.all_below (system.gathers (s.gathered a) epoch index) count)
      (system.post
      (record s {
        modes = at_one s.modes a system.Active;
        epochs = at_one s.epochs a epoch;
        cores = at_one s.cores a p.state;
        outcomes = at_one s.outcomes a (law.Activated epoch);
        gathered = at_one s.gathered a (record { epoch = 0; has = λ j. false });
      })
      (law.item law.Controller (law.Ack p.state.last (law.Activated epoch))))
      again)))
      (sym (old_is ∙ t))
      (subst
      (λ y.
      Mirrors keys
      (switch_stepped w a part
      (cond y (refuse sw (did.OldPart epoch))
      (cond (has_part had index) (refuse sw (did.HasPart index)) (collects now sw epoch count)))).0
      (cond (system.all_below (system.gathers (s.gathered a) epoch index) count)
      (system.post
      (record s {
        modes = at_one s.modes a system.Active;
        epochs = at_one s.epochs a epoch;
        cores = at_one s.cores a p.state;
        outcomes = at_one s.outcomes a (law.Activated epoch);
        gathered = at_one s.gathered a (record { epoch = 0; has = λ j. false });
      })
      (law.item law.Controller (law.Ack p.state.last (law.Activated epoch))))
      again))
      (sym t)
      (subst
      (λ y.
      Mirrors keys
      (switch_stepped w a part
      (cond (has_part had index) (refuse sw (did.HasPart index)) (collects now sw epoch count))).0
      (cond y
      (system.post
      (record s {
        modes = at_one s.modes a system.Active;
        epochs = at_one s.epochs a epoch;
        cores = at_one s.cores a p.state;
        outcomes = at_one s.outcomes a (law.Activated epoch);
        gathered = at_one s.gathered a (record { epoch = 0; has = λ j. false });
      })
      (law.item law.Controller (law.Ack p.state.last (law.Activated epoch))))
      again))
      (sym
      (all_is keys w s m pick a within reads one epoch index count bytes q p in_book in_law x.0
      x.1))
      (by_has (has_part had index) refl)))
    where
      above : sw.epoch < epoch
      above = (not_old sw.epoch sw.collected.epoch t).0

      most : sw.collected.epoch ≤ epoch
      most = (not_old sw.epoch sw.collected.epoch t).1

      s1 : System
      s1 =
          system.post
          (record s {
            modes = at_one s.modes a system.Active;
            epochs = at_one s.epochs a epoch;
            cores = at_one s.cores a p.state;
            outcomes = at_one s.outcomes a (law.Activated epoch);
            gathered = at_one s.gathered a (record { epoch = 0; has = λ j. false });
          })
          (law.item law.Controller (law.Ack p.state.last (law.Activated epoch)))

      s2 : System
      s2 = again

      by_whole :
          (y : Bool) → is_whole now ≡ y
          → Mirrors keys
          (switch_stepped w a part
          (cond y (activates (state_of sw.rack (bytes_of now)) sw epoch)
          (record {
            state = record sw { collected = now };
            sent = [];
            did = did.Collected (held_count now) count;
          }))).0
          (cond y s1 s2)
      by_whole true e =
          subst
          (λ st. Mirrors keys (switch_stepped w a part (activates st sw epoch)).0 s1)
          (sym
          (whole_state keys w s m pick a within reads one epoch index count bytes q p in_book
          in_law above most e))
          (activated keys w s m pick a within reads one epoch index count bytes q p in_book in_law
          above most)
      by_whole false e =
          collected_more keys w s m pick a within reads one epoch index count bytes q p in_book
          in_law above most e

      by_has :
          (h : Bool) → has_part had index ≡ h
          → Mirrors keys
          (switch_stepped w a part
          (cond h (refuse sw (did.HasPart index)) (collects now sw epoch count))).0
          (cond (is_whole now) s1 s2)
      by_has true h =
          let r =
          repeated keys w s m pick a within reads one epoch index count bytes q p in_book in_law
          above most h in
          subst
          (λ y.
          Mirrors keys (record (with_switch w sw) { packets = w.packets ++ [] }) (cond y s1 s2))
          (sym r.0) r.1
      by_has false h = by_whole (is_whole now) refl

  pub placed :
      switch.is_active sw.mode ≡ false → (t : Bool) → is_old sw epoch ≡ t →
      out_of_place sw part ≡ false
  placed inactive true t =
      ap
      (λ b.
      cond b (nat_lt sw.epoch epoch || (epoch == sw.epoch && sw.last == 0))
      (not (is_old sw epoch) && not (fits sw.rack had index count bytes)))
      inactive
      ∙ ap (λ b. not b && not (fits sw.rack had index count bytes)) t
  placed inactive false t =
      let x = not_old sw.epoch sw.collected.epoch t in
      ap
      (λ b.
      cond b (nat_lt sw.epoch epoch || (epoch == sw.epoch && sw.last == 0))
      (not (is_old sw epoch) && not (fits sw.rack had index count bytes)))
      inactive
      ∙ ap (λ b. not b && not (fits sw.rack had index count bytes)) t
      ∙ ap not
      (part_fits keys w s m pick a within reads one epoch index count bytes q p in_book in_law x.0
      x.1)

  -- ---- an active switch

  active_tests :
      (e l : ℕ)
      → ((nat_lt e epoch || (epoch == e && l == 0)) ≡ true → (epoch == e && nat_lt 0 l) ≡ false)
      × ((nat_lt e epoch || (epoch == e && l == 0)) ≡ false
      → (epoch == e && nat_lt 0 l) ≡ (epoch == e))
  active_tests e l = grind (arith, nat_tests)

  some_last :
      (e l : ℕ) → (nat_lt e epoch || (epoch == e && l == 0)) ≡ false → (epoch == e) ≡ true → 1 ≤ l
  some_last e l = grind (arith, nat_tests)

  abbrev Handed : Type 0
  Handed =
      Mirrors keys (switch_stepped w a part (switch_step sw part pick)).0
      (system.takes s pick (law.Switch a) told)

  at_active : sw.mode ≡ switch.Active → Handed
  at_active active =
      subst
      (λ mode.
      Mirrors keys (switch_stepped w a part (switch_step sw part pick)).0
      (system.switch_takes s a mode pick told))
      (sym ((m.switches a).mode_is ∙ ap mode_code active))
      (subst
      (λ x.
      Mirrors keys (switch_stepped w a part (switch_step sw part pick)).0
      (cond x
      (system.post s (law.item law.Controller (law.Ack (s.cores a).last (s.outcomes a)))) s))
      (sym test) (by_place (nat_lt sw.epoch epoch || (epoch == sw.epoch && sw.last == 0)) refl))
    where
      test :
          (epoch == s.epochs a && nat_lt 0 (s.cores a).last)
          ≡ (epoch == sw.epoch && nat_lt 0 sw.last)
      test =
          ap (λ e. epoch == e && nat_lt 0 (s.cores a).last) (m.switches a).epoch_is
          ∙ ap (λ l. epoch == sw.epoch && nat_lt 0 l) (m.switches a).core_is.last_is

      step_is :
          (b : Bool) → (nat_lt sw.epoch epoch || (epoch == sw.epoch && sw.last == 0)) ≡ b
          → switch_step sw part pick
          ≡ cond b (refuse sw did.OutOfPlace) (in_mode sw.mode sw part pick)
      step_is b e =
          stepped sw part pick b
          (ap
          (λ md.
          cond (switch.is_active md) (nat_lt sw.epoch epoch || (epoch == sw.epoch && sw.last == 0))
          (not (is_old sw epoch) && not (fits sw.rack had index count bytes)))
          active
          ∙ e)

      by_place :
          (b : Bool) → (nat_lt sw.epoch epoch || (epoch == sw.epoch && sw.last == 0)) ≡ b
          → Mirrors keys (switch_stepped w a part (switch_step sw part pick)).0
          (cond (epoch == sw.epoch && nat_lt 0 sw.last)
          (system.post s (law.item law.Controller (law.Ack (s.cores a).last (s.outcomes a)))) s)
      by_place true e =
          subst
          (λ x.
          Mirrors keys (switch_stepped w a part (switch_step sw part pick)).0
          (cond x
          (system.post s (law.item law.Controller (law.Ack (s.cores a).last (s.outcomes a)))) s))
          (sym ((active_tests sw.epoch sw.last).0 e))
          (subst (λ (x : SwitchStep). Mirrors keys (switch_stepped w a part x).0 s)
          (sym (step_is true e)) (switch_idle keys w s m a within))
      by_place false e =
          subst
          (λ x.
          Mirrors keys (switch_stepped w a part (switch_step sw part pick)).0
          (cond x
          (system.post s (law.item law.Controller (law.Ack (s.cores a).last (s.outcomes a)))) s))
          (sym ((active_tests sw.epoch sw.last).1 e))
          (subst
          (λ (x : SwitchStep).
          Mirrors keys (switch_stepped w a part x).0
          (cond (epoch == sw.epoch)
          (system.post s (law.item law.Controller (law.Ack (s.cores a).last (s.outcomes a)))) s))
          (sym (step_is false e ∙ ap (λ md. in_mode md sw part pick) active))
          (by_epoch (epoch == sw.epoch) refl))
        where
          by_epoch :
              (t : Bool) → (epoch == sw.epoch) ≡ t
              → Mirrors keys
              (switch_stepped w a part
              (cond t (repeats sw) (refuse sw (did.OldPart epoch)))).0
              (cond t
              (system.post s (law.item law.Controller (law.Ack (s.cores a).last (s.outcomes a))))
              s)
          by_epoch true t =
              kept_again keys w s m pick a within part active (some_last sw.epoch sw.last e t)
              (λ x. refl)
          by_epoch false t = switch_idle keys w s m a within

  at_inactive :
      (mode : switch.Mode) → sw.mode ≡ mode → switch.is_active mode ≡ false
      → in_mode mode sw part pick ≡ on_part sw epoch index count bytes
      → system.switch_takes s a (mode_code mode) pick told
      ≡ system.takes_part s a epoch index count p.state
      → Handed
  at_inactive mode e inactive book ours =
      let place = placed (ap switch.is_active e ∙ inactive) (is_old sw epoch) refl in
      subst
      (λ (x : SwitchStep).
      Mirrors keys (switch_stepped w a part x).0 (system.takes s pick (law.Switch a) told))
      (sym
      (stepped sw part pick false place ∙ ap (λ md. in_mode md sw part pick) e ∙ book))
      (subst (Mirrors keys (switch_stepped w a part (on_part sw epoch index count bytes)).0)
      (sym
      (ap (λ md. system.switch_takes s a md pick told) ((m.switches a).mode_is ∙ ap mode_code e)
      ∙ ours))
      (taken (is_old sw epoch) refl))

  by_mode : (mode : switch.Mode) → sw.mode ≡ mode → Handed
  by_mode switch.Active e = at_active e
  by_mode switch.Idle e = at_inactive switch.Idle e refl refl refl
  by_mode (switch.Sealed target) e = at_inactive (switch.Sealed target) e refl refl refl

  pub part_handed :
      Mirrors keys (switch_stepped w a part (switch_step sw part pick)).0
      (system.takes s pick (law.Switch a) q)
  part_handed =
      subst
      (λ x.
      Mirrors keys (switch_stepped w a part (switch_step sw part pick)).0
      (system.takes s pick (law.Switch a) x))
      (sym p.is) (by_mode sw.mode refl)
