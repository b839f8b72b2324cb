-- The laws of the whole machine follow from the facts that every event keeps.
use Rattle.std.proofs.Common.{Contains, subst₂, subst, true, false, Option, Some, is_some, ◌≡◌, ℕ}
use Rattle.std.proofs.Common.{◌+◌, ◌≤◌, inl, inr, arith, ap, sym, ◌∙◌}
use Rattle.std.proofs.lemmas.List.Elements.{All-contains, All-from_recursion}
use Rattle.peg_protocol.specs.Packet.{Packet, Node, item, What, Promote, Demote, Copy, Seal}
use Rattle.peg_protocol.specs.Packet.{FenceKey, Clear, Outcome, Activated, Command, Ack, Part}
use Rattle.peg_protocol.specs.Packet.{Switch, Controller}
use Rattle.peg_protocol.specs.Core.{Core}
use Rattle.peg_protocol.specs.System.{System, Mode, Active, Sealed, Idle, ground, belongs}
use Rattle.peg_protocol.specs.Handover.{PartWasSent, IsSealed, HandoverLaw}
use Rattle.peg_protocol.specs.RackLaw.{RackLaw}
use Rattle.peg_protocol.proofs.Placed.{PartFits, ItemFits, ModeFits, active_holds, epochs_most}
use Rattle.peg_protocol.proofs.Facts.{AnswerOk, view}
use Rattle.peg_protocol.proofs.Whole.{Whole, Ruled}
use Rattle.peg_protocol.proofs.Holds.{law, acts_once}
use Rattle.peg_protocol.specs.ControllerLaw.{ControllerLaw, pending_speaks_of}
use Rattle.peg_protocol.proofs.Keys.{known_other}
use Rattle.std.proofs.lemmas.Option.{same_Some}
use Rattle.peg_protocol.proofs.Controlled.{Quiet, Waiting, Done, Sealing, Moved, NotSeal, SealFits}
use Rattle.peg_protocol.proofs.Controlled.{OrderFits, OrderOk, pending_is}

module _ (s : System) (h : Whole s) where
  pub fits : (b epoch i n : ℕ) (core : Core) → PartWasSent s b epoch i n core →
      PartFits (IsSealed (s.modes h.holder)) (s.epochs h.holder) s.epochs h.states h.targets b epoch
      core
  fits b epoch i n core came =
      All-contains
      (ItemFits (IsSealed (s.modes h.holder)) (s.epochs h.holder) s.epochs h.states h.targets)
      s.sent (item (Switch b) (Part epoch i n core))
      (All-from_recursion
      (ItemFits (IsSealed (s.modes h.holder)) (s.epochs h.holder) s.epochs h.states h.targets)
      s.sent h.placed.parts) came

  sealed_state : (m : Mode) → IsSealed m →
      ModeFits s.epochs (s.cores h.holder) h.states h.targets h.holder h.holder m →
      s.cores h.holder ≡ h.states (s.epochs h.holder + 1)
  sealed_state Idle x f = absurd x
  sealed_state Active x f = absurd x
  sealed_state (Sealed t) x f = f.state

  pub handover_law : HandoverLaw s h.holder
  handover_law = record {
    holds = h.placed.holds;
    active = λ b e. active_holds s.modes s.epochs s.cores s.gathered s.sent h.holder h.states
        h.targets h.placed b e;
    others = h.placed.others;
    one_state = λ b b' epoch i i' n n' core core' x x'.
        let f = fits b epoch i n core x in
        let f' = fits b' epoch i' n' core' x' in
        (f.target ∙ sym f'.target, f.state ∙ sym f'.state);
    old = λ b epoch i n core x l. elim (fits b epoch i n core x).time
        [ inl y ↦ y | inr y ↦ absurd (omega (arith, l, y.1)) ];
    new = λ b epoch i n core x.
        let f = fits b epoch i n core x in
        elim f.time [
          | inl y ↦ inl
              (omega (
                arith,
                y,
                epochs_most s.modes s.epochs s.cores s.gathered s.sent h.holder
                    h.states h.targets h.placed b,
              ))
          | inr y ↦ inr (
            y.0,
            y.1,
            f.state ∙ ap h.states y.1
                ∙ sym (sealed_state (s.modes h.holder) y.0 (h.placed.mode h.holder)),
          )
        ];
    gathered = h.placed.has;
  }

  r : Ruled s h.holder
  r = h.controlled

  pub ordered : (to : Node) (p : Packet) → Contains s.sent (item to p) →
      OrderFits h.controlled.commands h.controlled.results s.number h.controlled.limit to p
  ordered to p x =
      All-contains (OrderOk h.controlled.commands h.controlled.results s.number h.controlled.limit)
      s.sent (item to p)
      (All-from_recursion
      (OrderOk h.controlled.commands h.controlled.results s.number h.controlled.limit) s.sent
      h.controlled.items) x

  limit_most : h.controlled.limit ≤ (s.cores h.holder).last + 1
  limit_most = elim h.controlled.phase [
    | Quiet p1 p2 p3 p4 p5 p6 p7 ↦ omega (arith, p6)
    | Waiting p1 p2 p3 p4 p5 p6 p7 p8 ↦ omega (arith, p6)
    | Done p1 p2 p3 p4 p5 p6 p7 p8 p9 ↦ omega (arith, p6)
    | Sealing t p1 p2 p3 p4 p5 p6 p7 p8 p9 ↦ omega (arith, p8)
    | Moved p1 p2 p3 p4 p5 p6 p7 ↦ omega (arith, p6)
  ]

  seal_fits : (t e : ℕ) (w : What) → w ≡ Seal t e → SealFits s.switch s.epoch w → e ≡ s.epoch + 1
  seal_fits t e w is f = (subst (SealFits s.switch s.epoch) is f).1

  not_a_seal : (n e : ℕ) (w : What) → NotSeal w → belongs n w (Activated e) ≡ true → ⊥
  not_a_seal n e (Promote k) x b = cc
  not_a_seal n e (Demote k) x b = cc
  not_a_seal n e (Copy t k) x b = cc
  not_a_seal n e (FenceKey k) x b = cc
  not_a_seal n e Clear x b = cc
  not_a_seal n e (Seal t f) x b = x

  controller_law : ControllerLaw s h.holder
  controller_law = record {
    one_command = λ a b n what what' x x'. (ordered (Switch a) (Command n what) x).2
        ∙ sym (ordered (Switch b) (Command n what') x').2;
    one_outcome = λ n o o' x x'. (ordered Controller (Ack n o) x).1
        ∙ sym (ordered Controller (Ack n o') x').1;
    can_belong = λ a n what o x y.
        let c = ordered (Switch a) (Command n what) x in
        let d = ordered Controller (Ack n o) y in
        subst₂ (λ (w : What) (q : Outcome). belongs n w q ≡ true) (sym c.2) (sym d.1)
        (h.controlled.fits n c.0 (omega (arith, d.0, limit_most)));
    pending = λ a what what' is x. (ordered (Switch a) (Command s.number what') x).2
        ∙ sym (pending_is s.rack.keys s.number s.command s.switch s.epoch s.known s.sent h.holder
        (s.modes h.holder) (s.epochs h.holder) (s.outcomes h.holder) (s.cores h.holder).last
        (s.cores h.holder).entries h.controlled what is);
    last = elim h.controlled.phase [
      | Quiet p1 p2 p3 p4 p5 p6 p7 ↦ inl p2
      | Waiting p1 p2 p3 p4 p5 p6 p7 p8 ↦ inr (p2, ap is_some p1)
      | Done p1 p2 p3 p4 p5 p6 p7 p8 p9 ↦ inl p2
      | Sealing t p1 p2 p3 p4 p5 p6 p7 p8 p9 ↦ inl p4
      | Moved p1 p2 p3 p4 p5 p6 p7 ↦ inl p3
    ];
    seal_epoch = λ t e is. elim h.controlled.phase [
      | Quiet p1 p2 p3 p4 p5 p6 p7 ↦ absurd (cc)
      | Waiting p1 p2 p3 p4 p5 p6 p7 p8 ↦ seal_fits t e (h.controlled.commands s.number)
          (same_Some (h.controlled.commands s.number) (Seal t e) (sym p1 ∙ is)) p8
      | Done p1 p2 p3 p4 p5 p6 p7 p8 p9 ↦ absurd
          (subst NotSeal (same_Some (h.controlled.commands s.number) (Seal t e) (sym p1 ∙ is)) p8)
      | Sealing u p1 p2 p3 p4 p5 p6 p7 p8 p9 ↦ let x : Seal u (s.epochs h.holder + 1) ≡ Seal t e =
          same_Some (Seal u (s.epochs h.holder + 1)) (Seal t e) (sym p1 ∙ is) in
          let y : s.epochs h.holder + 1 ≡ e = cc in omega (arith, y, p6)
      | Moved p1 p2 p3 p4 p5 p6 p7 ↦ let x : Seal h.holder (s.epochs h.holder) ≡ Seal t e =
          same_Some (Seal h.holder (s.epochs h.holder)) (Seal t e) (sym p1 ∙ is) in
          let y : s.epochs h.holder ≡ e = cc in omega (arith, y, p4)
    ];
    sealed = λ t is. elim h.controlled.phase [
      | Quiet p1 p2 p3 p4 p5 p6 p7 ↦ absurd (let x : Active ≡ Sealed t = sym p5 ∙ is in cc)
      | Waiting p1 p2 p3 p4 p5 p6 p7 p8 ↦ absurd (let x : Active ≡ Sealed t = sym p5 ∙ is in cc)
      | Done p1 p2 p3 p4 p5 p6 p7 p8 p9 ↦ absurd (let x : Active ≡ Sealed t = sym p5 ∙ is in cc)
      | Sealing u p1 p2 p3 p4 p5 p6 p7 p8 p9 ↦ let x : Sealed u ≡ Sealed t = sym p7 ∙ is in
          let y : u ≡ t = cc in p1 ∙ ap (λ v. Some (Seal v (s.epochs h.holder + 1))) y
      | Moved p1 p2 p3 p4 p5 p6 p7 ↦ absurd (let x : Active ≡ Sealed t = sym p5 ∙ is in cc)
    ];
    place = elim h.controlled.phase [
      | Quiet p1 p2 p3 p4 p5 p6 p7 ↦ inl (p3, p4)
      | Waiting p1 p2 p3 p4 p5 p6 p7 p8 ↦ inl (p3, p4)
      | Done p1 p2 p3 p4 p5 p6 p7 p8 p9 ↦ inl (p3, p4)
      | Sealing t p1 p2 p3 p4 p5 p6 p7 p8 p9 ↦ inl (p5, p6)
      | Moved p1 p2 p3 p4 p5 p6 p7 ↦ inr p1
    ];
    activated = λ e some x.
        let d = ordered Controller (Ack s.number (Activated e)) x in
        elim h.controlled.phase [
          | Quiet p1 p2 p3 p4 p5 p6 p7 ↦ absurd
              (let y = ap is_some p1 in let z : false ≡ true = sym y ∙ some in cc)
          | Waiting p1 p2 p3 p4 p5 p6 p7 p8 ↦ absurd (omega (arith, d.0, p2, p6))
          | Done p1 p2 p3 p4 p5 p6 p7 p8 p9 ↦
              absurd (not_a_seal s.number e (h.controlled.commands s.number) p8
              (subst (λ (q : Outcome). belongs s.number (h.controlled.commands s.number) q ≡ true)
              (sym d.1)
              (h.controlled.fits s.number
              (h.controlled.started (h.controlled.commands s.number) p1)
              (omega (arith, p2)))))
          | Sealing t p1 p2 p3 p4 p5 p6 p7 p8 p9 ↦ absurd (omega (arith, d.0, p4, p8))
          | Moved p1 p2 p3 p4 p5 p6 p7 ↦ p1
        ];
    known = λ k out. elim h.controlled.phase [
      | Quiet p1 p2 p3 p4 p5 p6 p7 ↦ p7 k
      | Waiting p1 p2 p3 p4 p5 p6 p7 p8 ↦ p7 k
      | Done p1 p2 p3 p4 p5 p6 p7 p8 p9 ↦
          sym (known_other (h.controlled.commands s.number) (h.controlled.results s.number) s.known
          k (subst (λ (c : Option What). pending_speaks_of c k ≡ false) p1 out)) ∙ p7 k
      | Sealing t p1 p2 p3 p4 p5 p6 p7 p8 p9 ↦ p9 k
      | Moved p1 p2 p3 p4 p5 p6 p7 ↦ p7 k
    ];
  }

  pub rack_law : RackLaw s
  rack_law = record {
    holder = h.holder;
    handover = handover_law;
    controller = controller_law;
    law = law (ground s (s.cores h.holder)) h.g h.kept;
    acts_once = acts_once (ground s (s.cores h.holder)) h.g h.kept;
    tags = λ c n a l m e.
        (subst (AnswerOk s.rack.home (view (ground s (s.cores h.holder)) h.g) s.place s.sent c n) e
        (h.kept.history.each c n l m)).tag;
  }
