-- No part that a switch sent is ever out of place where it comes.
use Rattle.std.proofs.Common.{◌≡◌, ◌<◌, ◌==◌, ◌&&◌, ◌||◌, ◌⊎◌, inl, inr, ℕ, Bool}
use Rattle.std.proofs.Common.{true, false, not, List, []}
use Rattle.std.proofs.Common.{cond, refl, sym, ap, ◌∙◌, subst, nat_lt}
use Rattle.std.proofs.Common.{Contains}
use Rattle.std.proofs.Common.{arith, eqb-true, ltb-true}
use Rattle.std.proofs.lemmas.Bool.{and_parts, or_cases}
use Rattle.peg_name.specs.declared.Node.TheVariants as node
use Rattle.peg_event.specs.declared.SwitchDid.TheVariants as did
use Rattle.peg_model.specs.Words.{refuse}
use Rattle.peg_model.specs.Packet as packet
use Rattle.peg_model.specs.Handover.{Collected, begun, with_part, has_part, is_whole, held_count}
use Rattle.peg_model.specs.Handover.{bytes_of, state_of, fits}
use Rattle.peg_model.specs.Switch as switch
use Rattle.peg_model.specs.Switch.{Switch, SwitchStep, in_mode, switch_step, on_part, is_old}
use Rattle.peg_model.specs.Switch.{activates, collects, repeats}
use Rattle.peg_model.specs.World.{World, switch_of}
use Rattle.peg_law.specs.Mirrors.{Mirrors, PartFits, mode_code}
use Rattle.peg_law.proofs.SwitchHanded.{stepped}
use Rattle.peg_law.proofs.Gathering.{ReadsStates, OneState, whole_state}
use Rattle.peg_law.proofs.Taking.{placed, not_old}
use Rattle.peg_law.proofs.Said.{SwitchFine}
use Rattle.peg_protocol.specs.Packet as law
use Rattle.peg_protocol.specs.OutOfPlace.{Refused}
use Rattle.peg_protocol.specs.System.{System}

module _ (keys : List (List ℕ)) (w : World) (s : System) (m : Mirrors keys w s) (pick a : ℕ)
    (within : a < w.rack.switches) (reads : ReadsStates) (one : OneState s)
    (epoch index count : ℕ) (bytes : List ℕ) (q : law.Packet)
    (p : PartFits w.rack epoch index count bytes q)
    (in_book : Contains w.packets (node.Switch a, packet.Part epoch index count bytes))
    (in_law : Contains s.sent (law.item (law.Switch a) q))
    (takes : Refused s (law.Switch a) (law.Part epoch index count p.state) → ⊥) where
  abbrev sw : Switch
  sw = switch_of w a

  abbrev part : packet.Packet
  part = packet.Part epoch index count bytes

  abbrev had : Collected
  had = begun sw.collected epoch count

  abbrev now : Collected
  now = with_part had index bytes

  on_part_fine : (t : Bool) → is_old sw epoch ≡ t → SwitchFine (on_part sw epoch index count bytes)
  on_part_fine true t =
      subst
      (λ b.
      SwitchFine
      (cond b (refuse sw (did.OldPart epoch))
      (cond (has_part had index) (refuse sw (did.HasPart index)) (collects now sw epoch count))))
      (sym t) (λ id. (refl, refl))
  on_part_fine false t =
      subst
      (λ b.
      SwitchFine
      (cond b (refuse sw (did.OldPart epoch))
      (cond (has_part had index) (refuse sw (did.HasPart index)) (collects now sw epoch count))))
      (sym t) (by_has (has_part had index))
    where
      by_whole :
          (y : Bool) → is_whole now ≡ y
          → SwitchFine
          (cond y (activates (state_of sw.rack (bytes_of now)) sw epoch)
          (record {
            state = record sw { collected = now };
            sent = [];
            did = did.Collected (held_count now) count;
          }))
      by_whole true e =
          let x =
          not_old keys w s m pick a within reads one epoch index count bytes q p in_book in_law
          sw.epoch sw.collected.epoch t in
          subst (λ st. SwitchFine (activates st sw epoch))
          (sym
          (whole_state keys w s m pick a within reads one epoch index count bytes q p in_book
          in_law x.0 x.1 e))
          (λ id. (refl, refl))
      by_whole false e = λ id. (refl, refl)

      by_has :
          (h : Bool)
          → SwitchFine (cond h (refuse sw (did.HasPart index)) (collects now sw epoch count))
      by_has true = λ id. (refl, refl)
      by_has false = by_whole (is_whole now) refl

  at_inactive :
      (mode : switch.Mode) → sw.mode ≡ mode → switch.is_active mode ≡ false
      → in_mode mode sw part pick ≡ on_part sw epoch index count bytes
      → SwitchFine (switch_step sw part pick)
  at_inactive mode e inactive book =
      let place =
      placed keys w s m pick a within reads one epoch index count bytes q p in_book in_law
      (ap switch.is_active e ∙ inactive) (is_old sw epoch) refl in
      subst SwitchFine
      (sym (stepped sw part pick false place ∙ ap (λ md. in_mode md sw part pick) e ∙ book))
      (on_part_fine (is_old sw epoch) refl)

  at_active : sw.mode ≡ switch.Active → SwitchFine (switch_step sw part pick)
  at_active active =
      by_place (nat_lt sw.epoch epoch || (epoch == sw.epoch && sw.last == 0)) refl
    where
      by_place :
          (b : Bool) → (nat_lt sw.epoch epoch || (epoch == sw.epoch && sw.last == 0)) ≡ b
          → SwitchFine (switch_step sw part pick)
      by_place true e =
          let f = m.switches a in
          absurd
          (takes (
            f.mode_is ∙ ap mode_code active,
            by_case
                (or_cases (nat_lt sw.epoch epoch) (epoch == sw.epoch && sw.last == 0) e),
          ))
        where
          by_case :
              (nat_lt sw.epoch epoch ≡ true) ⊎ ((epoch == sw.epoch && sw.last == 0) ≡ true)
              → (s.epochs a < epoch) ⊎ ((epoch ≡ s.epochs a) × ((s.cores a).last ≡ 0))
          by_case (inl y) =
              let l = ltb-true sw.epoch epoch y in
              let x = (m.switches a).epoch_is in inl (omega (arith, l, x))
          by_case (inr y) =
              let r = and_parts (epoch == sw.epoch) (sw.last == 0) y in
              inr (
                eqb-true epoch sw.epoch r.0 ∙ sym (m.switches a).epoch_is,
                (m.switches a).core_is.last_is ∙ eqb-true sw.last 0 r.1,
              )
      by_place false e =
          subst SwitchFine
          (sym
          (stepped sw part pick false
          (ap
          (λ md.
          cond (switch.is_active md) (nat_lt sw.epoch epoch || (epoch == sw.epoch && sw.last == 0))
          (not (is_old sw epoch) && not (fits sw.rack had index count bytes)))
          active
          ∙ e)
          ∙ ap (λ md. in_mode md sw part pick) active))
          (by_epoch (epoch == sw.epoch))
        where
          by_epoch :
              (t : Bool) → SwitchFine (cond t (repeats sw) (refuse sw (did.OldPart epoch)))
          by_epoch true = λ id. (refl, refl)
          by_epoch false = λ id. (refl, refl)

  by_mode : (mode : switch.Mode) → sw.mode ≡ mode → SwitchFine (switch_step sw part pick)
  by_mode switch.Active e = at_active e
  by_mode switch.Idle e = at_inactive switch.Idle e refl refl
  by_mode (switch.Sealed target) e = at_inactive (switch.Sealed target) e refl refl

  pub part_fine : SwitchFine (switch_step sw part pick)
  part_fine = by_mode sw.mode refl
