-- What the switch forwards.
use Rattle.std.proofs.Common.{◌≡◌, ◌≢◌, ℕ, zero, suc, length, ◌%◌, ◌+◌, ◌<◌, ◌≤◌, ◌⊎◌, ◌==◌, ◌&&◌}
use Rattle.std.proofs.Common.{◌||◌, nat_lt, is_none, inl, inr, Bool, true, false, cond, List, []}
use Rattle.std.proofs.Common.{◌∷◌, ◌++◌, Contains, get_or, Option, Some, None, arith, ap, sym, refl}
use Rattle.std.proofs.Common.{◌∙◌, subst, subst₂, eqb-true, eq-eqb, ltb-true, slice_index}
use Rattle.std.proofs.lemmas.Bool.{cond_both, and_parts, or_cases, or_parts, or_left, or_right}
use Rattle.std.proofs.lemmas.Bool.{ne_eqb, cases_eq}
use Rattle.std.specs.List.{AllByRecursion, list_any}
use Rattle.peg_protocol.specs.Packet.{Packet, Node, Item, item, ToServerRead, ToServerWrite}
use Rattle.peg_protocol.specs.Packet.{ReadReply, WriteReply, Held, Void, Client, Switch, Server}
use Rattle.peg_protocol.specs.Core.{Entry, Core, Row, read_server, write_server, Stamp, New}
use Rattle.peg_protocol.specs.Core.{Same as Again, Stale, Exhausted, stamp, top, at_one, voided_row}
use Rattle.peg_protocol.specs.Core.{open_row}
use Rattle.peg_protocol.specs.Machine.{World, Applied, Id, entry, notes, id, send, forward_read}
use Rattle.peg_protocol.specs.Machine.{forward_write, stamped, write_by}
use Rattle.peg_protocol.specs.Law.{passed, AtMostBase, stamps_as, stamped_in, voids, voided_in}
use Rattle.peg_protocol.specs.Law.{writes_as, before_write}
use Rattle.peg_protocol.proofs.Facts.{View, PacketOk, Ok, Outside, Dead, FenceOk, RowAt, RowOk}
use Rattle.peg_protocol.proofs.Facts.{Owned, Traced, Reading, Given, Writing, BelowMark, UnderMark}
use Rattle.peg_protocol.proofs.Facts.{Covers, SettledBy, ItemOk, IsEntryOk, EntryOk, Version}
use Rattle.peg_protocol.proofs.Facts.{Stamps, Ghost, view, Kept}
use Rattle.peg_protocol.proofs.Keep.{Later, PacketOk-later, Same, Writing-later, Given-later}
use Rattle.peg_protocol.proofs.Keep.{RowOk-later, given_issued, fences_later, pair_later}
use Rattle.peg_protocol.proofs.Keep.{items_later, items_push, EntryOk-later, Kept-send}
use Rattle.peg_protocol.proofs.Keep.{History-same, Traced-push, any-last, passed-push, before-push}
use Rattle.peg_protocol.proofs.Sorting.{all_weaker}
use Rattle.peg_protocol.proofs.Directory.{all_at}
use Rattle.peg_protocol.proofs.Servers.{at_one_both, at_two_both, at_two_same, at_one_same}
use Rattle.peg_protocol.proofs.Servers.{at_one_at, at_two_off}
use Rattle.peg_protocol.proofs.Notes.{note_by}
use Rattle.peg_protocol.proofs.Passed.{passed_most, passed_below}

-- a reply is noted and passed on to its client
pub Kept-read_reply : (w : World) (g : Ghost) (sw c n u s k : ℕ) (o : Option ℕ) →
    ItemOk w.rack.home (view w g) (item (Switch sw) (ReadReply c n u s sw k o)) → Kept w g
    → Kept (send (notes w s u k) (item (Client c) (ReadReply c n u s sw k o))) g
Kept-read_reply w g sw c n u s k o i h =
    let p = note_by w g s k u (entry w k) refl i.report h in
    let j = PacketOk-later w.rack.home (view w g) (view (notes w s u k) g) p.1 (Switch sw)
    (ReadReply c n u s sw k o) i in
    Kept-send (notes w s u k) g (item (Client c) (ReadReply c n u s sw k o)) p.0
    (record { op = j.op; reaches = j.reaches; pair = j.pair; report = j.report; settled = p.2 })

pub Kept-write_reply : (w : World) (g : Ghost) (sw c n u s k : ℕ) →
    ItemOk w.rack.home (view w g) (item (Switch sw) (WriteReply c n u s sw k)) → Kept w g
    → Kept (send (notes w s u k) (item (Client c) (WriteReply c n u s sw k))) g
Kept-write_reply w g sw c n u s k i h =
    let p = note_by w g s k u (entry w k) refl i.report h in
    let j = PacketOk-later w.rack.home (view w g) (view (notes w s u k) g) p.1 (Switch sw)
    (WriteReply c n u s sw k) i in
    Kept-send (notes w s u k) g (item (Client c) (WriteReply c n u s sw k)) p.0
    (record { op = j.op; given = j.given; report = j.report; settled = p.2 })

pub Kept-held : (w : World) (g : Ghost) (sw u s k : ℕ) →
    ItemOk w.rack.home (view w g) (item (Switch sw) (Held s u k)) → Kept w g →
    Kept (notes w s u k) g
Kept-held w g sw u s k i h = (note_by w g s k u (entry w k) refl i.report h).0

-- where a read is sent, each version that a client was sent for the key is held
read_reaches : (w : World) (g : Ghost) (k pick : ℕ) (o : Option Entry) → entry w k ≡ o → Kept w g →
    passed k w.sent ≤ (w.held (read_server w.rack k pick o) k).version
read_reaches w g k pick None is h =
    passed_most w.rack.home (view w g) k (w.held (w.rack.home k) k).version
    (λ s u r t. elim
    (subst (λ (x : Option Entry). Covers (w.held (w.rack.home k) k).version x u) is r.ok.0)
    [ inl l ↦ l | inr o ↦ absurd o ])
    w.sent h.items
read_reaches w g k pick (Some e) is h =
    let home = w.rack.home in
    let a = view w g in
    let ok : IsEntryOk home a k e =
    subst (λ (x : Option Entry). EntryOk home a k x) is (h.entries k) in
    let i = pick % length e.holders in
    let l : i < length e.holders = omega (arith, ok.some) in
    let s = slice_index e.holders i in
    let settles : (v : ℕ) → SettledBy (a.dir k) v → v ≤ e.completed =
    λ v t. subst (λ (x : Option Entry). SettledBy x v) is t in
    elim ok.holding [
      | inl all ↦
          let m : e.completed ≤ (w.held s k).version =
          all_at (λ t. e.completed ≤ (w.held t k).version) e.holders i l all in
          passed_most home a k (w.held s k).version (λ t u r d. omega (arith, settles u d, m))
          w.sent h.items
      | inr first ↦
          let at : s ≡ home k =
          all_at (λ t. t ≡ home k) e.holders i l
          (subst (AllByRecursion (λ t. t ≡ home k)) (sym first.1) (refl, tt)) in
          subst (λ (t : ℕ). passed k w.sent ≤ (w.held t k).version) (sym at)
          (passed_most home a k (w.held (home k) k).version
          (λ t u r d. elim
          (subst (λ (x : Option Entry). Covers (w.held (home k) k).version x u) is r.ok.0)
          [ inl m ↦ m | inr o ↦ absurd (omega (arith, settles u d, o.0, first.0)) ])
          w.sent h.items)
    ]

pub Kept-forward_read : (w : World) (g : Ghost) (sw c n k pick : ℕ) → Reading (view w g) c n k →
    Kept w g → Kept (forward_read w sw c n k pick) g
Kept-forward_read w g sw c n k pick r h =
    let s = read_server w.rack k pick (entry w k) in
    let under : g.bound c n ≤ passed k w.sent =
    subst (λ (j : ℕ). g.bound c n ≤ passed j w.sent) r.issued.key
    (h.history.under c n r.issued.least r.issued.most) in
    Kept-send w g (item (Server s) (ToServerRead c n sw k)) h
    (record { op = r; reaches = omega (arith, under, read_reaches w g k pick (entry w k) refl h) })

-- the Fences of a listed key that were applied are at most its base
pub fences_base : (home : ℕ → ℕ) (a : View) (k : ℕ) (e : Entry) → a.dir k ≡ Some e →
    (fs : List Applied) → AllByRecursion (FenceOk home a) fs →
    AllByRecursion (λ g. g.key ≡ k → g.version ≤ e.base) fs
fences_base home a k e is [] h = tt
fences_base home a k e is (f ∷ fs) h = (
  λ z. subst (λ (o : Option Entry). AtMostBase o f.version) is
      (subst (λ (j : ℕ). AtMostBase (a.dir j) f.version) z h.0.fence.due.most),
  fences_base home a k e is fs h.1,
)

-- a write goes home, or its version is above the base of a listed key that has no mark
write_reaches : (w : World) (g : Ghost) (k u pick : ℕ) (o : Option Entry) → entry w k ≡ o → Kept w g
    → (write_server w.rack k u pick o ≡ w.rack.home k)
    ⊎ (Ok w.rack.home (view w g) k u × UnderMark (entry w k) u)
write_reaches w g k u pick None is h = inl refl
write_reaches w g k u pick (Some e) is h =
    cond_both (is_none e.mark && (nat_lt e.base u && nat_lt e.completed u)) (pick % w.rack.servers)
    (w.rack.home k)
    (λ s. (s ≡ w.rack.home k) ⊎ (Ok w.rack.home (view w g) k u × UnderMark (entry w k) u))
    (λ y. let p = and_parts (is_none e.mark) (nat_lt e.base u && nat_lt e.completed u) y in
    let q = and_parts (nat_lt e.base u) (nat_lt e.completed u) p.1 in
    let l : e.base < u = ltb-true e.base u q.0 in
    inr (
      (
        subst (λ (x : Option Entry). Covers (w.held (w.rack.home k) k).version x u) (sym is)
            (inr (l, unmarked e.mark p.0)),
        all_weaker (λ f. f.key ≡ k → f.version ≤ e.base) (Outside k u)
            (λ f z d. inr (omega (arith, z d, l))) w.fences
            (fences_base w.rack.home (view w g) k e is w.fences h.fences),
      ),
      subst (λ (x : Option Entry). UnderMark x u) (sym is) (unmarked e.mark p.0),
    ))
    (λ n. inl refl)
  where
    unmarked : (m : Option ℕ) → is_none m ≡ true → BelowMark m u
    unmarked None y = tt
    unmarked (Some m) y = absurd (cc)

pub Kept-forward_write : (w : World) (g : Ghost) (sw c n u k : ℕ) (x : Option ℕ) (pick : ℕ) →
    Writing (view w g) c n k x → Given (view w g) c n u → Kept w g
    → Kept (forward_write w sw c n k x u pick) g
Kept-forward_write w g sw c n u k x pick wr gi h =
    let s = write_server w.rack k u pick (entry w k) in
    Kept-send w g (item (Server s) (ToServerWrite c n u sw k x)) h
    (record { op = wr; given = gi; ok = write_reaches w g k u pick (entry w k) refl h })

-- what a stamp says
abbrev pub IsFree : Row → ℕ → Type 0
IsFree r n = (r.seq < n) ⊎ ((n ≡ r.seq) × (r.version ≡ 0))

abbrev pub StampIs : Core → ℕ → ℕ → Stamp → Type 0
StampIs core c n (New u) = IsFree (core.rows c) n × (u ≡ core.next)
StampIs core c n (Again u) =
    (n ≡ (core.rows c).seq) × (u ≡ (core.rows c).version) × ((core.rows c).version ≢ 0)
StampIs core c n Stale = Unit {0}
StampIs core c n Exhausted = Unit {0}

pub stamp_is : (core : Core) (c n : ℕ) → StampIs core c n (stamp core c n)
stamp_is core c n =
    let r = core.rows c in
    let free = nat_lt r.seq n || (n == r.seq && r.version == 0) in
    cond_both free (cond (core.next == top) Exhausted (New core.next))
    (cond (n == r.seq) (Again r.version) Stale) (StampIs core c n)
    (λ y. cond_both (core.next == top) Exhausted (New core.next) (StampIs core c n) (λ z. tt)
    (λ z. (
      elim (or_cases (nat_lt r.seq n) (n == r.seq && r.version == 0) y) [
        | inl l ↦ inl (ltb-true r.seq n l)
        | inr e ↦ let p = and_parts (n == r.seq) (r.version == 0) e in
            inr (eqb-true n r.seq p.0, eqb-true r.version 0 p.1)
      ],
      refl,
    )))
    (λ f. cond_both (n == r.seq) (Again r.version) Stale (StampIs core c n)
    (λ z. (
      eqb-true n r.seq z,
      refl,
      λ e. let t : (r.version == 0) ≡ true = eq-eqb r.version 0 e in
          let q = (or_parts (nat_lt r.seq n) (n == r.seq && r.version == 0) f).1 in
          let both : (n == r.seq && r.version == 0) ≡ true = rw (z, t) refl in cc,
    ))
    (λ z. tt))

-- a new stamp, and the packet that carries it
abbrev pub gives : World → Ghost → ℕ → ℕ → Ghost
gives w g c n = record g { who = at_one g.who w.core.next (id c n) }

-- nothing with the next version was sent
no_write_at : (home : ℕ → ℕ) (v : View) (to : Node) (p : Packet) → PacketOk home v to p →
    writes_as v.next p ≡ false
no_write_at home v to (ToServerWrite c n u a k x) h =
    ne_eqb u v.next (λ e. let l = h.given.most in omega (arith, l, e))
no_write_at home v to p h = refl

before_new : (home : ℕ → ℕ) (v : View) (is : List Item) (i : Item) →
    AllByRecursion (ItemOk home v) is → writes_as v.next i.packet ≡ true →
    before_write v.next (is ++ i ∷ []) ≡ is
before_new home v [] i h t = rw t refl
before_new home v (j ∷ is) i h t =
    let f = no_write_at home v j.to j.packet h.0 in
    rw f (ap (λ l. j ∷ l) (before_new home v is i h.1 t))

any_before : (p : Item → Bool) (u : ℕ) (is : List Item) → list_any p (before_write u is) ≡ true →
    list_any p is ≡ true
any_before p u [] h = h
any_before p u (j ∷ is) h =
    cond_both (writes_as u j.packet) [] (j ∷ before_write u is)
    (λ l. list_any p l ≡ true → list_any p (j ∷ is) ≡ true)
    (λ y t. absurd (cc))
    (λ f t. elim (or_cases (p j) (list_any p (before_write u is)) t) [
      | inl a ↦ or_left (p j) (list_any p is) a
      | inr b ↦ or_right (p j) (list_any p is) (any_before p u is b)
    ]) h

module _ (w : World) (g : Ghost) (sw c n k : ℕ) (x : Option ℕ) (pick : ℕ)
    (wr : Writing (view w g) c n k x) (h : Kept w g) (free : IsFree (w.core.rows c) n) where
  abbrev row_new : Row
  row_new = record { seq = n; version = w.core.next }

  abbrev packet : Item
  packet = item (Server (write_server w.rack k w.core.next pick (entry w k)))
      (ToServerWrite c n w.core.next sw k x)

  abbrev after : World
  after = stamped w c n

  stamped_later : Later w.rack.home (view w g) (view after (gives w g c n))
  stamped_later = record {
    first = refl;
    next = omega arith;
    who = λ u m. at_one_both g.who w.core.next (id c n) u (λ i. i ≡ g.who u)
        (λ e. absurd (omega (arith, e, m))) (λ ne. refl);
    issued = λ c. omega arith;
    plans = λ c n h. refl;
    bound = λ c n h. refl;
    held = λ s k. omega arith;
    ok = λ k u m h. h;
    under = λ k u m h. h;
    settled = λ k u m h. h;
    origin = λ k u o h. refl;
    dead = λ k u h. h;
    due = λ k f m h. record { alive = h.alive; due = h.due; most = h.most };
  }

  stamped_same : Same w.rack.home (view w g) (view after (gives w g c n))
  stamped_same = record { later = stamped_later; issued = λ c. omega arith }

  stamped_given : Given (view after (gives w g c n)) c n w.core.next
  stamped_given = record {
    least = h.versions.most;
    most = omega arith;
    who = at_one_same g.who w.core.next (id c n);
    some = wr.issued.least;
  }

  seq_most : (w.core.rows c).seq ≤ n
  seq_most = elim free [ inl l ↦ omega (arith, l) | inr e ↦ omega (arith, e.0) ]

  -- an open row: its version was voided
  opened : (n ≡ (w.core.rows c).seq) × ((w.core.rows c).version ≡ 0) →
      Given (view w g) c n (w.stamps c n) × Dead w.fences (w.plans c n).key (w.stamps c n)
  opened e = subst
      (λ (m : ℕ). Given (view w g) c m (w.stamps c m)
      × Dead w.fences (w.plans c m).key (w.stamps c m)) (sym e.0) (elim (h.versions.row c) [
        | inl z ↦ absurd (omega (arith, z.0, e.0, wr.issued.least))
        | inr y ↦ (
          y.0,
          elim y.1
              [ inl q ↦ absurd (omega (arith, q, e.1, y.0.least, h.versions.least)) | inr d ↦ d.1 ],
        )
      ])

  old_version : (d m u : ℕ) → u < w.core.next → Version (view w g) w.core.rows w.stamps d m u
      → Version (view after (gives w g c n)) after.core.rows after.stamps d m u
  old_version d m u lt v = record {
    most = v.most;
    act = v.act;
    above = v.above;
    last = at_two_both w.stamps c n w.core.next d m (λ y. u ≤ y) (λ e1 e2. omega (arith, lt))
        (λ ne. v.last);
    stamp = at_two_both w.stamps c n w.core.next d m
        (λ y. (y ≡ u) ⊎ Dead w.fences (w.plans d m).key u)
        (λ e1 e2. inr (elim v.stamp [
          | inr z ↦ z
          | inl e ↦
              let seq : m ≤ (w.core.rows c).seq =
              subst (λ (i : ℕ). m ≤ (w.core.rows i).seq) e1 v.seq in
              elim free [
                | inl l ↦ absurd (omega (arith, l, seq, e2))
                | inr o ↦
                    let same : w.stamps c n ≡ u =
                    sym (ap (λ i. w.stamps i m) e1 ∙ ap (w.stamps c) e2) ∙ e in
                    subst₂ (λ (i j : ℕ). Dead w.fences (w.plans i j).key u) (sym e1) (sym e2)
                    (subst (λ (y : ℕ). Dead w.fences (w.plans c n).key y) same (opened o).1)
              ]
        ]))
        (λ ne. v.stamp);
    seq = at_one_both w.core.rows c row_new d (λ r. m ≤ r.seq)
        (λ e. let s : m ≤ (w.core.rows c).seq =
        subst (λ (i : ℕ). m ≤ (w.core.rows i).seq) e v.seq in omega (arith, s, seq_most))
        (λ ne. v.seq);
  }

  stamped_versions : Stamps (view after (gives w g c n)) after.core.rows after.stamps
  stamped_versions = record {
    least = h.versions.least;
    most = omega (arith, h.versions.most);
    each = λ u l m.
        at_one_both g.who w.core.next (id c n) u
        (λ i. 1 ≤ i.seq → Version (view after (gives w g c n)) after.core.rows after.stamps
        i.client i.seq u)
        (λ e t. record {
          most = wr.issued.most;
          act = (x, wr.act);
          above =
              let b = h.history.under c n wr.issued.least wr.issued.most in
              let p = passed_below w.rack.home (view w g) (w.plans c n).key
              (omega (arith, h.versions.least, h.versions.most)) w.sent h.items in
              omega (arith, b, p, e);
          last = let q : after.stamps c n ≡ w.core.next = at_two_same w.stamps c n w.core.next in
              omega (arith, q, e);
          stamp = inl (at_two_same w.stamps c n w.core.next ∙ sym e);
          seq = subst (λ (r : Row). n ≤ r.seq) (sym (at_one_same w.core.rows c row_new))
              (omega arith);
        })
        (λ ne t. let lt : u < w.core.next = omega (arith, m, ne) in
        old_version (g.who u).client (g.who u).seq u lt (h.versions.each u l lt t));
    row = λ d. at_one_both w.core.rows c row_new d
        (λ r. RowOk (view after (gives w g c n)) after.stamps d r)
        (λ e. subst (λ (i : ℕ). RowOk (view after (gives w g c n)) after.stamps i row_new) (sym e)
        (subst (RowAt (view after (gives w g c n)) c row_new)
        (sym (at_two_same w.stamps c n w.core.next)) (inr (stamped_given, inl refl))))
        (λ ne. subst (RowAt (view after (gives w g c n)) d (w.core.rows d))
        (sym (at_two_off w.stamps c n w.core.next d (w.core.rows d).seq (λ e1 e2. ne e1)))
        (RowOk-later w.rack.home (view w g) (view after (gives w g c n)) stamped_later w.stamps d
        (w.core.rows d) (given_issued (view w g) w.core.rows w.stamps h.versions d)
        (h.versions.row d)));
    stamp = λ d m. at_two_both w.stamps c n w.core.next d m
        (λ u. (u ≡ 0) ⊎ Given (view after (gives w g c n)) d m u)
        (λ e1 e2. inr
        (subst₂ (λ (i j : ℕ). Given (view after (gives w g c n)) i j w.core.next) (sym e1)
        (sym e2) stamped_given))
        (λ ne. elim (h.versions.stamp d m) [
          | inl z ↦ inl z
          | inr y ↦ inr
              (Given-later w.rack.home (view w g) (view after (gives w g c n)) stamped_later d m
              (w.stamps d m) y)
        ]);
  }

  -- the operation's last version was voided, before this one is sent
  last_voided : (u : ℕ) → w.rack.first ≤ u → u < w.core.next → g.who u ≡ id c n →
      voided_in u w.sent ≡ true
  last_voided u l m e =
      let gi : Given (view w g) c n u =
      record { least = l; most = m; who = e; some = wr.issued.least } in
      let v : Version (view w g) w.core.rows w.stamps c n u =
      subst (λ (j : Id). 1 ≤ j.seq → Version (view w g) w.core.rows w.stamps j.client j.seq u) e
      (h.versions.each u l m) wr.issued.least in
      elim free [
        | inl z ↦ absurd (omega (arith, v.seq, z))
        | inr o ↦
            elim (cases_eq u (w.stamps c n)) [
              | inl same ↦
                  subst (λ (y : ℕ). voided_in y w.sent ≡ true) (sym same)
                  (subst (λ (q : ℕ). voided_in (w.stamps c q) w.sent ≡ true) (sym o.0)
                  (h.traced.open_row c (omega (arith, o.0, wr.issued.least)) o.1))
              | inr ne ↦
                  let s = (opened o).0 in
                  any_before (λ j. voids u j.packet) (w.stamps c n) w.sent
                  (h.traced.again u (w.stamps c n) l (omega (arith, v.last, ne)) s.most
                  (e ∙ sym s.who) (subst (λ (j : Id). 1 ≤ j.seq) (sym e) wr.issued.least))
            ]
      ]

  stamped_traced : Traced w.rack.first (w.core.next + 1) (gives w g c n).who after.core.rows
      after.stamps w.promoted (w.sent ++ packet ∷ [])
  stamped_traced =
      let t = Traced-push w.rack.first w.core.next g.who w.core.rows w.stamps w.promoted w.sent
      packet h.traced in
      let next_same : (w.core.next == w.core.next) ≡ true = eq-eqb w.core.next w.core.next refl in
      record {
        none = λ u l. h.traced.none u (omega (arith, l));
        each = λ u l m. at_one_both g.who w.core.next (id c n) u
            (λ i. Owned i w.promoted (w.sent ++ packet ∷ []) u)
            (λ e. record {
              promotion = λ z. absurd (omega (arith, z, wr.issued.least));
              write = λ z. (
                h.traced.none u (omega (arith, e)),
                subst (λ (y : ℕ). stamped_in c n y (w.sent ++ packet ∷ []) ≡ true) (sym e)
                    (any-last (λ j. stamps_as c n w.core.next j.packet) w.sent packet
                    (rw (eq-eqb c c refl, eq-eqb n n refl, next_same) refl)),
              );
            })
            (λ ne. t.each u l (omega (arith, m, ne)));
        open_row = λ d. at_one_both w.core.rows c row_new d
            (λ r. 1 ≤ r.seq → r.version ≡ 0 →
            voided_in (after.stamps d r.seq) (w.sent ++ packet ∷ []) ≡ true)
            (λ e l z. absurd (omega (arith, z, h.versions.least, h.versions.most)))
            (λ ne l z. subst (λ (y : ℕ). voided_in y (w.sent ++ packet ∷ []) ≡ true)
            (sym (at_two_off w.stamps c n w.core.next d (w.core.rows d).seq (λ e1 e2. ne e1)))
            (t.open_row d l z));
        again = λ u v l m q e some.
            let lu : u < w.core.next = omega (arith, m, q) in
            let eu : (gives w g c n).who u ≡ g.who u = stamped_later.who u lu in
            elim (cases_eq v w.core.next) [
              | inl ev ↦
                  let i : g.who u ≡ id c n =
                  sym eu ∙ e ∙ at_one_at g.who w.core.next (id c n) v ev in
                  subst (λ (y : ℕ). voided_in u (before_write y (w.sent ++ packet ∷ [])) ≡ true)
                  (sym ev)
                  (subst (λ (is : List Item). voided_in u is ≡ true)
                  (sym (before_new w.rack.home (view w g) w.sent packet h.items next_same))
                  (last_voided u l lu i))
              | inr nv ↦
                  let lv : v < w.core.next = omega (arith, q, nv) in
                  t.again u v l m lv (sym eu ∙ e ∙ stamped_later.who v lv)
                  (subst (λ (j : Id). 1 ≤ j.seq) eu some)
            ];
      }

  pub Kept-stamped : Kept (forward_write after sw c n k x w.core.next pick) (gives w g c n)
  Kept-stamped =
      let home = w.rack.home in
      let a = view w g in
      let b = view after (gives w g c n) in
      let l = stamped_later in
      record {
        names = h.names;
        versions = stamped_versions;
        held = λ t j. let p =
            pair_later home a b l j (a.held t j) ((h.held t j).pair, (h.held t j).ok) in
            record { pair = p.0; ok = p.1 };
        entries = λ j. EntryOk-later home a b l j (a.dir j) (h.entries j);
        items = items_push (ItemOk home b) w.sent packet (items_later home a b l w.sent h.items)
            (record {
              op = Writing-later home a b l c n k x wr;
              given = stamped_given;
              ok =
                  write_reaches w g k w.core.next pick (entry w k) refl h;
            });
        history = History-same home a b stamped_same w.place w.place w.sent (w.sent ++ packet ∷ [])
            (omega arith)
            (λ k. omega (arith, passed-push k w.sent packet))
            (λ c n t. before-push c n w.sent packet t) w.pending w.pending w.answers (λ c p. p)
            h.history;
        traced = stamped_traced;
        fences = fences_later home a b l w.fences h.fences;
        nested = h.nested;
        guard = h.guard;
        room = h.room;
      }

pub write_by_kept : (w : World) (g : Ghost) (sw c n k : ℕ) (x : Option ℕ) (pick : ℕ) (s : Stamp) →
    StampIs w.core c n s → Writing (view w g) c n k x → Kept w g
    → (g' : Ghost) × Kept (write_by w sw c n k x pick s) g'
write_by_kept w g sw c n k x pick Stale is wr h = (g, h)
write_by_kept w g sw c n k x pick Exhausted is wr h = (g, h)
write_by_kept w g sw c n k x pick (Again u) is wr h =
    let gi : Given (view w g) c n u = elim (h.versions.row c) [
      | inl z ↦ absurd (omega (arith, z.0, is.0, wr.issued.least))
      | inr y ↦ elim y.1 [
        | inl e ↦ subst₂ (λ (i j : ℕ). Given (view w g) c i j) (sym is.0) (sym (is.1 ∙ e)) y.0
        | inr d ↦ absurd (is.2 d.0)
      ]
    ] in
    (g, Kept-forward_write w g sw c n u k x pick wr gi h)
write_by_kept w g sw c n k x pick (New u) is wr h = (
  gives w g c n,
  subst
      (λ (v : ℕ). Kept (forward_write (stamped w c n) sw c n k x v pick) (gives w g c n))
      (sym is.1) (Kept-stamped w g sw c n k x pick wr h is.0),
)

pub Kept-write : (w : World) (g : Ghost) (sw c n k : ℕ) (x : Option ℕ) (pick : ℕ) →
    Writing (view w g) c n k x → Kept w g
    → (g' : Ghost) × Kept (write_by w sw c n k x pick (stamp w.core c n)) g'
Kept-write w g sw c n k x pick wr h =
    write_by_kept w g sw c n k x pick (stamp w.core c n) (stamp_is w.core c n) wr h

-- a Void comes: the row of its version is opened
any_at : (p : Item → Bool) (is : List Item) (i : Item) → Contains is i → p i ≡ true →
    list_any p is ≡ true
any_at p is i h t = go is h.0 h.1 h.2
  where
    go : (is : List Item) (n : ℕ) → n < length is → get_or is n i ≡ i → list_any p is ≡ true
    go [] n l e = absurd (omega (arith, l))
    go (j ∷ is) zero l e = or_left (p j) (list_any p is) (ap p e ∙ t)
    go (j ∷ is) (suc n) l e = or_right (p j) (list_any p is) (go is n (omega (arith, l)) e)

pub Kept-open : (w : World) (g : Ghost) (to : Node) (c n u s a k : ℕ) →
    ItemOk w.rack.home (view w g) (item to (Void c n u s a k)) →
    Contains w.sent (item to (Void c n u s a k)) → Kept w g
    → Kept (record w { core = open_row w.core c n u }) g
Kept-open w g to c n u s a k i came h =
    let r = w.core.rows c in
    let rows' = at_one w.core.rows c (voided_row r n u) in
    let v = view w g in
    let opened : Row = record { seq = n; version = 0 } in
    let seq_same : (voided_row r n u).seq ≡ r.seq =
    cond_both (r.seq == n && r.version == u) opened r (λ q. q.seq ≡ r.seq)
    (λ y. let p = and_parts (r.seq == n) (r.version == u) y in sym (eqb-true r.seq n p.0))
    (λ z. refl) in
    record {
      names = h.names;
      versions = record {
        least = h.versions.least;
        most = h.versions.most;
        each = λ x l m t.
            let o = h.versions.each x l m t in
            record {
              most = o.most;
              act = o.act;
              above = o.above;
              last = o.last;
              stamp = o.stamp;
              seq = at_one_both w.core.rows c (voided_row r n u) (g.who x).client
                  (λ q. (g.who x).seq ≤ q.seq)
                  (λ e. let old : (g.who x).seq ≤ r.seq =
                  subst (λ (d : ℕ). (g.who x).seq ≤ (w.core.rows d).seq) e o.seq in
                  omega (arith, old, seq_same))
                  (λ ne. o.seq);
            };
        row = λ d. at_one_both w.core.rows c (voided_row r n u) d (RowOk v w.stamps d)
            (λ e. subst (λ (j : ℕ). RowOk v w.stamps j (voided_row r n u)) (sym e)
            (cond_both (r.seq == n && r.version == u) opened r (RowOk v w.stamps c)
            (λ y.
            let p = and_parts (r.seq == n) (r.version == u) y in
            let e1 : r.seq ≡ n = eqb-true r.seq n p.0 in
            let e2 : r.version ≡ u = eqb-true r.version u p.1 in
            elim (h.versions.row c) [
              | inl z ↦ absurd (omega (arith, z.0, e1, i.given.some))
              | inr q ↦ elim q.1 [
                | inr d ↦ absurd (omega (arith, d.0, e2, i.given.least, h.versions.least))
                | inl same ↦
                    let at : u ≡ w.stamps c n = sym e2 ∙ same ∙ ap (w.stamps c) e1 in
                    inr (
                      subst (λ (y : ℕ). Given v c n y) at i.given,
                      inr (
                        refl,
                        subst₂ (λ (key y : ℕ). Dead w.fences key y) (sym i.op.1.issued.key)
                            at i.dead,
                      ),
                    )
              ]
            ])
            (λ z. h.versions.row c)))
            (λ ne. h.versions.row d);
        stamp = h.versions.stamp;
      };
      held = h.held;
      entries = h.entries;
      items = h.items;
      history = h.history;
      traced = record {
        none = h.traced.none;
        each = h.traced.each;
        open_row = λ d. at_one_both w.core.rows c (voided_row r n u) d
            (λ q. 1 ≤ q.seq → q.version ≡ 0 → voided_in (w.stamps d q.seq) w.sent ≡ true)
            (λ e. subst
            (λ (j : ℕ). 1 ≤ (voided_row r n u).seq → (voided_row r n u).version ≡ 0 →
            voided_in (w.stamps j (voided_row r n u).seq) w.sent ≡ true) (sym e)
            (cond_both (r.seq == n && r.version == u) opened r
            (λ q. 1 ≤ q.seq → q.version ≡ 0 → voided_in (w.stamps c q.seq) w.sent ≡ true)
            (λ y l z.
            let p = and_parts (r.seq == n) (r.version == u) y in
            let e1 : r.seq ≡ n = eqb-true r.seq n p.0 in
            let e2 : r.version ≡ u = eqb-true r.version u p.1 in
            elim (h.versions.row c) [
              | inl z ↦ absurd (omega (arith, z.0, e1, i.given.some))
              | inr q ↦ elim q.1 [
                | inr d ↦ absurd (omega (arith, d.0, e2, i.given.least, h.versions.least))
                | inl same ↦
                    let at : u ≡ w.stamps c n = sym e2 ∙ same ∙ ap (w.stamps c) e1 in
                    subst (λ (y : ℕ). voided_in y w.sent ≡ true) at
                    (any_at (λ j. voids u j.packet) w.sent (item to (Void c n u s a k)) came
                    (eq-eqb u u refl))
              ]
            ])
            (λ z. h.traced.open_row c)))
            (λ ne. h.traced.open_row d);
        again = h.traced.again;
      };
      fences = h.fences;
      nested = h.nested;
      guard = h.guard;
      room = h.room;
    }
