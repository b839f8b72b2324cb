-- An operation with a full round is answered.
use Rattle.std.proofs.Common.{◌≡◌, ℕ, zero, suc, length, ◌+◌, ◌≤◌, ◌⊎◌, ◌==◌, ◌&&◌, inl, inr, Bool}
use Rattle.std.proofs.Common.{true, List, [], ◌∷◌, ◌++◌, Option, Some, None, arith, ap, sym, refl}
use Rattle.std.proofs.Common.{◌∙◌, subst, eq-eqb, slice_get}
use Rattle.std.proofs.lemmas.Bool.{cond-true, and_from}
use Rattle.std.proofs.lemmas.Option.{same_Some}
use Rattle.peg_protocol.specs.Packet.{Packet, Item, item, ToServerRead, ToServerWrite, ReadReply}
use Rattle.peg_protocol.specs.Packet.{WriteReply, Void, Client, Switch, Server}
use Rattle.peg_protocol.specs.Core.{Stamp, New, Same as Again, Stale, Exhausted, stamp, entry_of}
use Rattle.peg_protocol.specs.Core.{read_server, write_server}
use Rattle.peg_protocol.specs.Machine.{Act, Reads, Writes, Answer, WriteDid, Takes, Keeps, Voids}
use Rattle.peg_protocol.specs.Machine.{Bars, write_did, request, answered, is_read, is_write}
use Rattle.peg_protocol.specs.Machine.{origin_of}
use Rattle.peg_protocol.specs.System
use Rattle.peg_protocol.specs.System.{System, Mode, Active, Event, Deliver, ground, back}
use Rattle.peg_protocol.specs.FullRound.{delivers, Round, IsReply, FullRound}
use Rattle.peg_protocol.proofs.Facts.{ItemOk, view}
use Rattle.peg_protocol.proofs.Passed.{item_at}
use Rattle.peg_protocol.proofs.Servers.{at_two_same}
use Rattle.peg_protocol.proofs.Whole.{Whole, run_whole}
use Rattle.peg_protocol.proofs.Constant.{run_stays}

-- nothing was sent, or the first packet that was sent is so
abbrev Sends : (Item → Type 0) → System → System → Type 0
Sends P s u = (length u.sent ≤ length s.sent)
    ⊎ ((x : Item) × (rest : List Item) × (u.sent ≡ s.sent ++ x ∷ rest) × P x)

data Second (c n : ℕ) (i : Item) : Type 0 where
  Asks : (t a k : ℕ) → i ≡ item (Server t) (ToServerRead c n a k) → Second c n i
  Tells : (t u a k : ℕ) (x : Option ℕ) → i ≡ item (Server t) (ToServerWrite c n u a k x) →
      Second c n i

data Third (c n : ℕ) (i : Item) : Type 0 where
  HasRead : (a u t b k : ℕ) (o : Option ℕ) → i ≡ item (Switch a) (ReadReply c n u t b k o) →
      Third c n i
  HasWritten : (a u t b k : ℕ) → i ≡ item (Switch a) (WriteReply c n u t b k) → Third c n i
  HasVoided : (a u t b k : ℕ) → i ≡ item (Switch a) (Void c n u t b k) → Third c n i

data Fourth (c n : ℕ) (i : Item) : Type 0 where
  SaysRead : (u t b k : ℕ) (o : Option ℕ) → i ≡ item (Client c) (ReadReply c n u t b k o) →
      Fourth c n i
  SaysWritten : (u t b k : ℕ) → i ≡ item (Client c) (WriteReply c n u t b k) → Fourth c n i

by_stamp : (s : System) (a c n k : ℕ) (x : Option ℕ) (pick : ℕ) (st : Stamp) →
    Sends (Second c n) s (System.writes_by s a c n k x pick st)
by_stamp s a c n k x pick (New u) =
    inr (
      item (Server (write_server s.rack k u pick (entry_of k (s.cores a).entries)))
          (ToServerWrite c n u a k x),
      [],
      refl,
      Tells (write_server s.rack k u pick (entry_of k (s.cores a).entries)) u a k x refl,
    )
by_stamp s a c n k x pick (Again u) =
    inr (
      item (Server (write_server s.rack k u pick (entry_of k (s.cores a).entries)))
          (ToServerWrite c n u a k x),
      [],
      refl,
      Tells (write_server s.rack k u pick (entry_of k (s.cores a).entries)) u a k x refl,
    )
by_stamp s a c n k x pick Stale = inl (omega arith)
by_stamp s a c n k x pick Exhausted = inl (omega arith)

-- the request at an active switch
first_step : (s : System) (a c n k pick : ℕ) (act : Act) →
    Sends (Second c n) s (System.active_takes s a pick (request c n k act))
first_step s a c n k pick Reads =
    inr (
      item (Server (read_server s.rack k pick (entry_of k (s.cores a).entries)))
          (ToServerRead c n a k),
      [],
      refl,
      Asks (read_server s.rack k pick (entry_of k (s.cores a).entries)) a k refl,
    )
first_step s a c n k pick (Writes x) = by_stamp s a c n k x pick (stamp (s.cores a) c n)

by_did : (s : System) (t c n u a k : ℕ) (x : Option ℕ) (d : WriteDid) →
    Sends (Third c n) s (System.writes_at s t c n u a k x d)
by_did s t c n u a k x Takes =
    inr (item (Switch a) (WriteReply c n u t a k), [], refl, HasWritten a u t a k refl)
by_did s t c n u a k x Keeps =
    inr (item (Switch a) (WriteReply c n u t a k), [], refl, HasWritten a u t a k refl)
by_did s t c n u a k x Voids =
    inr (item (Switch a) (Void c n u t a k), [], refl, HasVoided a u t a k refl)
by_did s t c n u a k x Bars = inl (omega arith)

second_step : (s : System) (c n pick : ℕ) (i : Item) → Second c n i →
    Sends (Third c n) s (System.takes s pick i.to i.packet)
second_step s c n pick i (Asks t a k e) =
    subst (λ (y : Item). Sends (Third c n) s (System.takes s pick y.to y.packet)) (sym e)
    (inr (
      item (Switch a) (ReadReply c n (s.held t k).version t a k (s.held t k).content),
      [],
      refl,
      HasRead a (s.held t k).version t a k (s.held t k).content refl,
    ))
second_step s c n pick i (Tells t u a k x e) =
    subst (λ (y : Item). Sends (Third c n) s (System.takes s pick y.to y.packet)) (sym e)
    (by_did s t c n u a k x (write_did (s.held t k).version (s.guards t k) u))

-- a reply at an active switch
third_step : (s : System) (c n pick : ℕ) (i : Item) → Third c n i → IsReply i.packet → (a : ℕ) →
    Sends (Fourth c n) s (System.active_takes s a pick i.packet)
third_step s c n pick i (HasRead b u t w k o e) r a =
    subst (λ (y : Item). Sends (Fourth c n) s (System.active_takes s a pick y.packet)) (sym e)
    (inr (item (Client c) (ReadReply c n u t w k o), [], refl, SaysRead u t w k o refl))
third_step s c n pick i (HasWritten b u t w k e) r a =
    subst (λ (y : Item). Sends (Fourth c n) s (System.active_takes s a pick y.packet)) (sym e)
    (inr (item (Client c) (WriteReply c n u t w k), [], refl, SaysWritten u t w k refl))
third_step s c n pick i (HasVoided b u t w k e) r a =
    absurd (subst (λ (y : Item). IsReply y.packet) e r)

-- the first packet that was sent has the place after those before
at_first : (is more : List Item) (x : Item) → slice_get (is ++ x ∷ more) (length is) ≡ Some x
at_first [] more x = refl
at_first (i ∷ is) more x = at_first is more x

stays_at : (is more : List Item) (n : ℕ) (x : Item) → slice_get is n ≡ Some x →
    slice_get (is ++ more) n ≡ Some x
stays_at [] more n x e = absurd (cc)
stays_at (i ∷ is) more zero x e = e
stays_at (i ∷ is) more (suc n) x e = stays_at is more n x e

module _ (P : Item → Type 0) (s t : System) (i j : ℕ) (r : Round s t i j)
    (sends : Sends P s (delivers s i r.pick)) where
  sent_at : (x : Item) × (slice_get t.sent j ≡ Some x) × P x
  sent_at = elim sends [
    | inl none ↦ absurd (omega (arith, none, r.first, r.some))
    | inr y ↦
        let u = delivers s i r.pick in
        let now : slice_get u.sent j ≡ Some y.0 =
        subst (λ (m : ℕ). slice_get u.sent m ≡ Some y.0) (sym r.first)
        (subst (λ (is : List Item). slice_get is (length s.sent) ≡ Some y.0) (sym y.2)
        (at_first s.sent y.1 y.0)) in
        let g = run_stays r.between u in
        let later : slice_get (System.run r.between u).sent j ≡ Some y.0 =
        subst (λ (is : List Item). slice_get is j ≡ Some y.0) (sym g.sent)
        (stays_at u.sent g.more j y.0 now) in
        (y.0, subst (λ (v : System). slice_get v.sent j ≡ Some y.0) (sym r.later) later, y.3)
  ]

  pub whole_later : Whole s → Whole t
  whole_later h = subst Whole (sym r.later)
      (run_whole (delivers s i r.pick) r.between (run_whole s (Deliver i r.pick ∷ []) h))

abbrev tick : System → System
tick s = record s { place = s.place + 1 }

-- what is delivered
delivered : (s : System) (i pick : ℕ) (x : Item) → slice_get s.sent i ≡ Some x →
    delivers s i pick ≡ System.takes (tick s) pick x.to x.packet
delivered s i pick x e = ap (System.deliver (tick s) pick) e

at_switch : (s : System) (i pick a : ℕ) (p : Packet) →
    slice_get s.sent i ≡ Some (item (Switch a) p) → s.modes a ≡ Active →
    delivers s i pick ≡ System.active_takes (tick s) a pick p
at_switch s i pick a p e on =
    delivered s i pick (item (Switch a) p) e ∙ ap (λ m. System.switch_takes (tick s) a m pick p) on

-- the reply comes to the client that waits for it
module _ (t : System) (h : Whole t) (c n : ℕ) (pending : t.pending c ≡ true) (last : n ≡ t.issued c)
  where
    taken : (k u : ℕ) (kind : Act → Bool) (o : Option ℕ) → (t.plans c n).key ≡ k →
        kind (t.plans c n).act ≡ true
        → (System.takes_reply (tick t) c c n k u kind o).answers c n
        ≡ Some (record {
          place = t.place + 1;
          version = u;
          content = o;
          tag =
              origin_of t.fences (t.plans c n).key u;
        })
    taken k u kind o key fits =
        let a : Answer = record {
          place = t.place + 1;
          version = u;
          content = o;
          tag =
              origin_of t.fences (t.plans c n).key u;
        } in
        let b4 : ((t.plans c n).key == k && kind (t.plans c n).act) ≡ true =
        and_from ((t.plans c n).key == k) (kind (t.plans c n).act)
        (eq-eqb (t.plans c n).key k key) fits in
        let b3 : (n == t.issued c && ((t.plans c n).key == k && kind (t.plans c n).act)) ≡ true =
        and_from (n == t.issued c) ((t.plans c n).key == k && kind (t.plans c n).act)
        (eq-eqb n (t.issued c) last) b4 in
        let b2 : (c == c && (n == t.issued c && ((t.plans c n).key == k && kind (t.plans c n).act)))
        ≡ true = and_from (c == c)
        (n == t.issued c && ((t.plans c n).key == k && kind (t.plans c n).act))
        (eq-eqb c c refl) b3 in
        let b1 = and_from (t.pending c)
        (c == c && (n == t.issued c && ((t.plans c n).key == k && kind (t.plans c n).act)))
        pending b2 in
        let done = back (tick t) (answered (ground (tick t) (t.cores 0)) c n u o) in
        ap (λ (s : System). s.answers c n)
        (cond-true
        (t.pending c &&
        (c == c &&
        (n == t.issued c && ((t.plans c n).key == k && kind (t.plans c n).act)))) done
        (tick t) b1) ∙ at_two_same t.answers c n (Some a)

    fourth_step : (j pick : ℕ) (i : Item) → slice_get t.sent j ≡ Some i → Fourth c n i →
        (a : Answer) × ((delivers t j pick).answers c n ≡ Some a) × (a.place ≡ t.place + 1)
    fourth_step j pick i e (SaysRead u s b k o is) =
        let v = view (ground t (t.cores h.holder)) h.g in
        let at : slice_get t.sent j ≡ Some (item (Client c) (ReadReply c n u s b k o)) =
        e ∙ ap (λ x. Some x) is in
        let ok = item_at (ItemOk t.rack.home v) t.sent j (item (Client c) (ReadReply c n u s b k o))
        at h.kept.items in (
          record {
            place = t.place + 1;
            version = u;
            content = o;
            tag =
                origin_of t.fences (t.plans c n).key u;
          },
          ap (λ (x : System). x.answers c n)
              (delivered t j pick (item (Client c) (ReadReply c n u s b k o)) at)
              ∙ taken k u is_read o ok.op.issued.key (ap is_read ok.op.act),
          refl,
        )
    fourth_step j pick i e (SaysWritten u s b k is) =
        let v = view (ground t (t.cores h.holder)) h.g in
        let at : slice_get t.sent j ≡ Some (item (Client c) (WriteReply c n u s b k)) =
        e ∙ ap (λ x. Some x) is in
        let ok = item_at (ItemOk t.rack.home v) t.sent j (item (Client c) (WriteReply c n u s b k))
        at
        h.kept.items in (
          record {
            place = t.place + 1;
            version = u;
            content = None;
            tag =
                origin_of t.fences (t.plans c n).key u;
          },
          ap (λ (x : System). x.answers c n)
              (delivered t j pick (item (Client c) (WriteReply c n u s b k)) at)
              ∙ taken k u is_write None ok.op.1.issued.key (ap is_write ok.op.1.act),
          refl,
        )

pub full_round : (s s' s'' t : System) (c n i i' i'' j pick : ℕ) → Whole s →
    FullRound s s' s'' t c n i i' i'' j
    → (a : Answer) × ((delivers t j pick).answers c n ≡ Some a) × (a.place ≡ t.place + 1)
full_round s s' s'' t c n i i' i'' j pick h f =
    let one : Sends (Second c n) s (delivers s i f.one.pick) =
    subst (Sends (Second c n) s)
    (sym (at_switch s i f.one.pick f.switch (request c n f.key f.act) f.asked f.active))
    (first_step (tick s) f.switch c n f.key f.one.pick f.act) in
    let x = sent_at (Second c n) s s' i i' f.one one in
    let two : Sends (Third c n) s' (delivers s' i' f.two.pick) =
    subst (Sends (Third c n) s') (sym (delivered s' i' f.two.pick x.0 x.1))
    (second_step (tick s') c n f.two.pick x.0 x.2) in
    let y = sent_at (Third c n) s' s'' i' i'' f.two two in
    let same : y.0 ≡ item (Switch f.back) f.reply =
    same_Some y.0 (item (Switch f.back) f.reply) (sym y.1 ∙ f.came) in
    let third : Third c n (item (Switch f.back) f.reply) = subst (Third c n) same y.2 in
    let three : Sends (Fourth c n) s'' (delivers s'' i'' f.three.pick) =
    subst (Sends (Fourth c n) s'')
    (sym (at_switch s'' i'' f.three.pick f.back f.reply f.came f.back_active))
    (third_step (tick s'') c n f.three.pick (item (Switch f.back) f.reply) third f.is_reply
    f.back) in
    let z = sent_at (Fourth c n) s'' t i'' j f.three three in
    let w' = whole_later (Second c n) s s' i i' f.one one h in
    let w'' = whole_later (Third c n) s' s'' i' i'' f.two two w' in
    let w = whole_later (Fourth c n) s'' t i'' j f.three three w'' in
    fourth_step t w c n f.pending f.last j pick z.0 z.1 z.2
