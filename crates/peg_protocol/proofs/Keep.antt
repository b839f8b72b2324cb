-- A step that only adds: what was known of a packet, a pair or a version stays known.
use Rattle.std.proofs.Common.{append-nil, append_assoc, ◌==◌, ◌&&◌, ◌||◌, cond, ◌≡◌, ℕ, max, ◌<◌}
use Rattle.std.proofs.Common.{◌≤◌, ◌⊎◌, inl, inr, Bool, true, false, List, [], ◌∷◌, Option, Some}
use Rattle.std.proofs.Common.{None, ◌++◌, arith, ap, sym, refl, ◌∙◌, subst}
use Rattle.std.proofs.lemmas.Bool.{cond_both, and_parts, or_right, false_from_ne_true}
use Rattle.std.specs.List.{AllByRecursion, list_any}
use Rattle.peg_protocol.specs.Packet.{Packet, Node, Item, Read, Write, ToServerRead, ToServerWrite}
use Rattle.peg_protocol.specs.Packet.{ReadReply, WriteReply, CopyOrder, CopyData, Held, Fence, Void}
use Rattle.peg_protocol.specs.Packet.{Command, Ack, Part, Announce, Other, Client, Switch, Server}
use Rattle.peg_protocol.specs.Packet.{Controller}
use Rattle.peg_protocol.specs.Core.{Row, Entry}
use Rattle.peg_protocol.specs.Machine.{Act, Reads, Writes, Plan, Answer, Pair, Guard, Applied}
use Rattle.peg_protocol.specs.Machine.{origin_of, Id, World, send}
use Rattle.peg_protocol.specs.Law.{asks, before, passed, reply_version, stamps_as, stamped_in}
use Rattle.peg_protocol.specs.Law.{voids, voided_in, writes_as, before_write}
use Rattle.peg_protocol.proofs.Facts.{RoomLeft, Dead, Nested, IsPromotion, ContentIs, IsDue}
use Rattle.peg_protocol.proofs.Facts.{IsFence, FenceOk, GuardOk, RowOk, Traced, View, Issued}
use Rattle.peg_protocol.proofs.Facts.{Reading, Writing, Given, PairIs, UnderMark, SettledBy}
use Rattle.peg_protocol.proofs.Facts.{OnServer, OnClient, Ok, Report, PacketOk, ItemOk, HeldOk}
use Rattle.peg_protocol.proofs.Facts.{MarkOk, EntryOk, Version, Stamps, AnswerFits, AnswerOk}
use Rattle.peg_protocol.proofs.Facts.{History, Keeps, asked, LogOk, Ghost, view, Kept}

pub record Later (home : ℕ → ℕ) (a b : View) : Type 0 where
  pub first : b.first ≡ a.first
  pub next : a.next ≤ b.next
  pub who : (u : ℕ) → u < a.next → b.who u ≡ a.who u
  pub issued : (c : ℕ) → a.issued c ≤ b.issued c
  pub plans : (c n : ℕ) → n ≤ a.issued c → b.plans c n ≡ a.plans c n
  pub bound : (c n : ℕ) → n ≤ a.issued c → b.bound c n ≡ a.bound c n
  pub held : (s k : ℕ) → (a.held s k).version ≤ (b.held s k).version
  pub ok : (k u : ℕ) → u < a.next → Ok home a k u → Ok home b k u
  pub under : (k u : ℕ) → u < a.next → UnderMark (a.dir k) u → UnderMark (b.dir k) u
  pub settled : (k u : ℕ) → u < a.next → SettledBy (a.dir k) u → SettledBy (b.dir k) u
  pub origin : (k u : ℕ) (o : Option ℕ) → PairIs a k u o →
      origin_of b.fences k u ≡ origin_of a.fences k u
  pub dead : (k u : ℕ) → Dead a.fences k u → Dead b.fences k u
  pub due : (k f : ℕ) → f < a.next → IsDue home a k f → IsDue home b k f

module _ (home : ℕ → ℕ) (a b : View) (l : Later home a b) where
  pub Issued-later : (c n k : ℕ) → Issued a c n k → Issued b c n k
  Issued-later c n k h =
      record {
        least = h.least;
        most = omega (arith, l.issued c);
        key =
            ap (λ p. p.key) (l.plans c n h.most) ∙ h.key;
      }

  pub Reading-later : (c n k : ℕ) → Reading a c n k → Reading b c n k
  Reading-later c n k h =
      record {
        issued = Issued-later c n k h.issued;
        act =
            ap (λ p. p.act) (l.plans c n h.issued.most) ∙ h.act;
      }

  pub Writing-later : (c n k : ℕ) (x : Option ℕ) → Writing a c n k x → Writing b c n k x
  Writing-later c n k x h =
      record {
        issued = Issued-later c n k h.issued;
        act =
            ap (λ p. p.act) (l.plans c n h.issued.most) ∙ h.act;
      }

  pub Given-later : (c n u : ℕ) → Given a c n u → Given b c n u
  Given-later c n u h =
      record {
        least = omega (arith, l.first, h.least);
        most = omega (arith, l.next, h.most);
        who =
            l.who u h.most ∙ h.who;
        some = h.some;
      }

  pub content_later : (k o : ℕ) (c : Option ℕ) → ContentIs a k o c → ContentIs b k o c
  content_later k o x h = elim h [
    | inl z ↦ inl z
    | inr h ↦ inr (
      omega (arith, l.first, h.0),
      omega (arith, l.next, h.1),
      subst (λ (i : Id). Writing b i.client i.seq k x) (sym (l.who o h.1))
          (Writing-later (a.who o).client (a.who o).seq k x h.2),
    )
  ]

  pub PairIs-later : (k u : ℕ) (o : Option ℕ) → PairIs a k u o → PairIs b k u o
  PairIs-later k u o h = record {
    most = omega (arith, h.most, l.next);
    content = subst (λ (v : ℕ). ContentIs b k v o) (sym (l.origin k u o h))
        (content_later k (origin_of a.fences k u) o h.content);
  }

  pub IsPromotion-later : (k f : ℕ) → IsPromotion a k f → IsPromotion b k f
  IsPromotion-later k f h = elim h [
    | inl e ↦ inl (e ∙ sym l.first)
    | inr p ↦ inr (omega (arith, p.0, l.first), omega (arith, p.1, l.next), l.who f p.1 ∙ p.2)
  ]

  pub IsFence-later : (k f : ℕ) → IsFence home a k f → IsFence home b k f
  IsFence-later k f h =
      record {
        least = h.least;
        most = omega (arith, h.most, l.next);
        is =
            IsPromotion-later k f h.is;
        due = l.due k f h.most h.due;
      }

  pub fences_later : (fs : List Applied) → AllByRecursion (FenceOk home a) fs →
      AllByRecursion (FenceOk home b) fs
  fences_later [] h = h
  fences_later (f ∷ fs) h = (
    record {
      held = omega (arith, h.0.held, l.held (home f.key) f.key);
      fence =
          IsFence-later f.key f.version h.0.fence;
    },
    fences_later fs h.1,
  )

  pub Report-later : (s k u : ℕ) → Report home a s k u → Report home b s k u
  Report-later s k u h =
      record {
        most = omega (arith, l.next, h.most);
        held = omega (arith, h.held, l.held s k);
        ok =
            l.ok k u h.most h.ok;
      }

  reaches_later : (c n k : ℕ) (to : Node) → n ≤ a.issued c →
      OnServer to (λ s. a.bound c n ≤ (a.held s k).version) →
      OnServer to (λ s. b.bound c n ≤ (b.held s k).version)
  reaches_later c n k (Client d) m h = h
  reaches_later c n k (Switch i) m h = h
  reaches_later c n k Controller m h = h
  reaches_later c n k (Server s) m h = omega (arith, l.bound c n m, l.held s k, h)

  sent_later : (u k : ℕ) (to : Node) → u < a.next →
      OnServer to (λ s. (s ≡ home k) ⊎ (Ok home a k u × UnderMark (a.dir k) u)) →
      OnServer to (λ s. (s ≡ home k) ⊎ (Ok home b k u × UnderMark (b.dir k) u))
  sent_later u k (Client d) m h = h
  sent_later u k (Switch i) m h = h
  sent_later u k Controller m h = h
  sent_later u k (Server s) m h =
      elim h [ inl e ↦ inl e | inr o ↦ inr (l.ok k u m o.0, l.under k u m o.1) ]

  settled_later : (u k : ℕ) (to : Node) → u < a.next → OnClient to (SettledBy (a.dir k) u) →
      OnClient to (SettledBy (b.dir k) u)
  settled_later u k (Client d) m h = l.settled k u m h
  settled_later u k (Switch i) m h = h
  settled_later u k Controller m h = h
  settled_later u k (Server s) m h = h

  pub PacketOk-later : (to : Node) (p : Packet) → PacketOk home a to p → PacketOk home b to p
  PacketOk-later to (Read c n k) h = Reading-later c n k h
  PacketOk-later to (Write c n k x) h = Writing-later c n k x h
  PacketOk-later to (ToServerRead c n from k) h =
      record {
        op = Reading-later c n k h.op;
        reaches =
            reaches_later c n k to h.op.issued.most h.reaches;
      }
  PacketOk-later to (ToServerWrite c n u from k x) h =
      record {
        op = Writing-later c n k x h.op;
        given = Given-later c n u h.given;
        ok =
            sent_later u k to h.given.most h.ok;
      }
  PacketOk-later to (ReadReply c n u s from k o) h = record {
    op = Reading-later c n k h.op;
    reaches = omega (arith, l.bound c n h.op.issued.most, h.reaches);
    pair = PairIs-later k u o h.pair;
    report = Report-later s k u h.report;
    settled = settled_later u k to h.report.most h.settled;
  }
  PacketOk-later to (WriteReply c n u s from k) h = record {
    op = (h.op.0, Writing-later c n k h.op.0 h.op.1);
    given = Given-later c n u h.given;
    report = Report-later s k u h.report;
    settled = settled_later u k to h.report.most h.settled;
  }
  PacketOk-later to (CopyOrder from target k) h = h
  PacketOk-later to (CopyData u from k x) h =
      record { pair = PairIs-later k u x h.pair; ok = l.ok k u h.pair.most h.ok }
  PacketOk-later to (Held s u k) h = record {
    report = Report-later s k u h.report;
    of = elim h.of
        [ inl p ↦ inl (IsPromotion-later k u p) | inr p ↦ inr (p.0, PairIs-later k u p.0 p.1) ];
  }
  PacketOk-later to (Fence f from k) h = record { fence = IsFence-later k f h.fence; at = h.at }
  PacketOk-later to (Void c n u s from k) h =
      record {
        op = (h.op.0, Writing-later c n k h.op.0 h.op.1);
        given = Given-later c n u h.given;
        dead = l.dead k u h.dead;
      }
  PacketOk-later to (Command number what) h = h
  PacketOk-later to (Ack number outcome) h = h
  PacketOk-later to (Part epoch index count core) h = h
  PacketOk-later to (Announce epoch switch) h = h
  PacketOk-later to Other h = h

  -- of a pair p that a server holds
  pub pair_later : (k : ℕ) (p : Pair) → PairIs a k p.version p.content × Ok home a k p.version →
      PairIs b k p.version p.content × Ok home b k p.version
  pair_later k p h = (PairIs-later k p.version p.content h.0, l.ok k p.version h.0.most h.1)

  pub items_later : (is : List Item) → AllByRecursion (ItemOk home a) is →
      AllByRecursion (ItemOk home b) is
  items_later [] h = h
  items_later (i ∷ is) h = (PacketOk-later i.to i.packet h.0, items_later is h.1)

pub items_push : (P : Item → Type 0) (is : List Item) (i : Item) → AllByRecursion P is → P i →
    AllByRecursion P (is ++ i ∷ [])
items_push P [] i h k = (k, h)
items_push P (j ∷ is) i h k = (h.0, items_push P is i h.1 k)

-- what an entry needs of the rest
module _ (home : ℕ → ℕ) (a b : View) (l : Later home a b) where
  holders_later : (n : ℕ) (k : ℕ) (ss : List ℕ) →
      AllByRecursion (λ s. n ≤ (a.held s k).version) ss →
      AllByRecursion (λ s. n ≤ (b.held s k).version) ss
  holders_later n k [] h = h
  holders_later n k (s ∷ ss) h = (omega (arith, h.0, l.held s k), holders_later n k ss h.1)

  mark_later : (base : ℕ) (m : Option ℕ) → MarkOk a.next base m → MarkOk b.next base m
  mark_later base None h = h
  mark_later base (Some m) h = (h.0, omega (arith, h.1, l.next))

  pub EntryOk-later : (k : ℕ) (o : Option Entry) → EntryOk home a k o → EntryOk home b k o
  EntryOk-later k None h = h
  EntryOk-later k (Some e) h = record {
    key = h.key;
    base = h.base;
    most = omega (arith, h.most, l.next);
    is = IsPromotion-later home a b l k e.base h.is;
    mark = mark_later e.base e.mark h.mark;
    some = h.some;
    holding = elim h.holding
        [ inl all ↦ inl (holders_later e.completed k e.holders all) | inr first ↦ inr first ];
  }

module _ (home : ℕ → ℕ) (a b : View) (l : Later home a b) where
  pub Version-later : (rows : ℕ → Row) (stamps : ℕ → ℕ → ℕ) (c n u : ℕ) →
      Version a rows stamps c n u → Version b rows stamps c n u
  Version-later rows stamps c n u h = record {
    most = omega (arith, h.most, l.issued c);
    act = (h.act.0, ap (λ p. p.act) (l.plans c n h.most) ∙ h.act.1);
    above = omega (arith, l.bound c n h.most, h.above);
    last = h.last;
    stamp = elim h.stamp [
      | inl e ↦ inl e
      | inr d ↦ inr
          (subst (λ (p : Plan). Dead b.fences p.key u) (sym (l.plans c n h.most))
          (l.dead (a.plans c n).key u d))
    ];
    seq = h.seq;
  }

  pub RowOk-later : (stamps : ℕ → ℕ → ℕ) (c : ℕ) (r : Row) →
      ((n u : ℕ) → Given a c n u → n ≤ a.issued c) → RowOk a stamps c r → RowOk b stamps c r
  RowOk-later stamps c r most h = elim h [
    | inl z ↦ inl z
    | inr y ↦ inr (
      Given-later home a b l c r.seq (stamps c r.seq) y.0,
      elim y.1 [
        | inl e ↦ inl e
        | inr d ↦ inr (
          d.0,
          subst (λ (p : Plan). Dead b.fences p.key (stamps c r.seq))
              (sym (l.plans c r.seq (most r.seq (stamps c r.seq) y.0)))
              (l.dead (a.plans c r.seq).key (stamps c r.seq) d.1),
        )
      ],
    )
  ]

  AnswerFits-later : (c n : ℕ) (r : Answer) (act : Act) → n ≤ a.issued c → AnswerFits a c n r act →
      AnswerFits b c n r act
  AnswerFits-later c n r Reads m h = (
    omega (arith, h.0, l.bound c n m),
    subst (λ (p : Plan). PairIs b p.key r.version r.content) (sym (l.plans c n m))
        (PairIs-later home a b l (a.plans c n).key r.version r.content h.1),
  )
  AnswerFits-later c n r (Writes x) m h = Given-later home a b l c n r.version h

  pub AnswerOk-later : (place place' : ℕ) (sent sent' : List Item) → place ≤ place' →
      ((k : ℕ) → passed k sent ≤ passed k sent')
      → (c n : ℕ) (o : Option Answer) → n ≤ a.issued c → AnswerOk home a place sent c n o →
      AnswerOk home b place' sent' c n o
  AnswerOk-later place place' sent sent' older longer c n None m h = h
  AnswerOk-later place place' sent sent' older longer c n (Some r) m h =
      let e = l.plans c n m in
      subst (λ (p : Plan). record {
        later : p.issue < r.place;
        past : r.place ≤ place';
        passed : r.version ≤ passed p.key sent';
        most : r.version < b.next;
        ok : Ok home b p.key r.version;
        seen : (o : Option ℕ) × PairIs b p.key r.version o;
        tag : r.tag ≡ origin_of b.fences p.key r.version;
        fits : AnswerFits b c n r p.act;
      }) (sym e)
      (record {
        later = h.later;
        past = omega (arith, h.past, older);
        passed =
            omega (arith, h.passed, longer (a.plans c n).key);
        most = omega (arith, h.most, l.next);
        ok = l.ok (a.plans c n).key r.version h.most h.ok;
        seen =
            (h.seen.0, PairIs-later home a b l (a.plans c n).key r.version h.seen.0 h.seen.1);
        tag = h.tag ∙ sym (l.origin (a.plans c n).key r.version h.seen.0 h.seen.1);
        fits = AnswerFits-later c n r (a.plans c n).act m h.fits;
      })

-- nothing was issued
pub record Same (home : ℕ → ℕ) (a b : View) : Type 0 where
  pub later : Later home a b
  pub issued : (c : ℕ) → b.issued c ≤ a.issued c

pub ids_later : (f g : ℕ → ℕ) → ((c : ℕ) → f c ≤ g c) → (log : List Id) →
    AllByRecursion (λ i. (1 ≤ i.seq) × (i.seq ≤ f i.client)) log →
    AllByRecursion (λ i. (1 ≤ i.seq) × (i.seq ≤ g i.client)) log
ids_later f g up [] h = h
ids_later f g up (i ∷ is) h = ((h.0.0, omega (arith, h.0.1, up i.client)), ids_later f g up is h.1)

-- an operation that was given a version was issued
pub given_issued : (a : View) (rows : ℕ → Row) (stamps : ℕ → ℕ → ℕ) → Stamps a rows stamps →
    (c n u : ℕ) → Given a c n u → n ≤ a.issued c
given_issued a rows stamps h c n u i =
    (subst (λ (j : Id). 1 ≤ j.seq → Version a rows stamps j.client j.seq u) i.who
    (h.each u i.least i.most) i.some).most

module _ (home : ℕ → ℕ) (a b : View) (s : Same home a b) where
  Stamps-same : (rows : ℕ → Row) (stamps : ℕ → ℕ → ℕ) → b.next ≤ a.next → Stamps a rows stamps →
      Stamps b rows stamps
  Stamps-same rows stamps next h = record {
    least = omega (arith, h.least, s.later.first);
    most = omega (arith, h.most, s.later.first, s.later.next);
    each = λ u l m.
        let lo : a.first ≤ u = omega (arith, l, s.later.first) in
        let hi : u < a.next = omega (arith, m, next) in
        subst (λ (i : Id). 1 ≤ i.seq → Version b rows stamps i.client i.seq u)
        (sym (s.later.who u hi))
        (λ t. Version-later home a b s.later rows stamps (a.who u).client (a.who u).seq u
        (h.each u lo hi t));
    row = λ c. RowOk-later home a b s.later stamps c (rows c) (given_issued a rows stamps h c)
        (h.row c);
    stamp = λ c n. elim (h.stamp c n)
        [ inl z ↦ inl z | inr g ↦ inr (Given-later home a b s.later c n (stamps c n) g) ];
  }

  module _ (place place' : ℕ) (sent sent' : List Item) (older : place ≤ place')
      (longer : (k : ℕ) → passed k sent ≤ passed k sent')
      (front : (c n : ℕ) → asked c n sent ≡ true →
      (asked c n sent' ≡ true) × (before c n sent' ≡ before c n sent)) where
    pub History-same : (pending pending' : ℕ → Bool) (answers : ℕ → ℕ → Option Answer) →
        ((c : ℕ) → pending' c ≡ true → pending c ≡ true)
        → History home a place sent pending answers → History home b place' sent' pending' answers
    History-same pending pending' answers fewer h = record {
      past = λ c n l m.
          let m' : n ≤ a.issued c = omega (arith, m, s.issued c) in
          subst (λ (p : Plan). p.issue ≤ place') (sym (s.later.plans c n m'))
          (omega (arith, h.past c n l m', older));
      each = λ c n l m. let m' : n ≤ a.issued c = omega (arith, m, s.issued c) in
          AnswerOk-later home a b s.later place place' sent sent' older longer c n (answers c n) m'
          (h.each c n l m');
      under = λ c n l m.
          let m' : n ≤ a.issued c = omega (arith, m, s.issued c) in
          subst (λ (p : Plan). b.bound c n ≤ passed p.key sent') (sym (s.later.plans c n m'))
          (omega (arith, h.under c n l m', s.later.bound c n m', longer (a.plans c n).key));
      since = λ c n l m.
          let m' : n ≤ a.issued c = omega (arith, m, s.issued c) in
          let q = h.since c n l m' in
          let f = front c n q.0 in (
            f.0,
            s.later.bound c n m' ∙ q.1
                ∙ ap (λ (is : List Item). passed (a.plans c n).key is) (sym f.1)
                ∙ ap (λ (p : Plan). passed p.key (before c n sent')) (sym (s.later.plans c n m')),
          );
      order = λ c n d m r l1 m1 l2 m2 key is before.
          let n1 : n ≤ a.issued c = omega (arith, m1, s.issued c) in
          let n2 : m ≤ a.issued d = omega (arith, m2, s.issued d) in
          let e1 = s.later.plans c n n1 in
          let e2 = s.later.plans d m n2 in
          let key' : (a.plans d m).key ≡ (a.plans c n).key =
          sym (ap (λ p. p.key) e2) ∙ key ∙ ap (λ p. p.key) e1 in
          let before' : r.place < (a.plans c n).issue =
          subst (λ (p : Plan). r.place < p.issue) e1 before in
          omega (arith, h.order c n d m r l1 n1 l2 n2 key' is before', s.later.bound c n n1);
      waits = λ c p.
          let e : b.issued c ≡ a.issued c = omega (arith, s.issued c, s.later.issued c) in
          let w = h.waits c (fewer c p) in
          (omega (arith, w.0, e), subst (λ (n : ℕ). answers c n ≡ None) (sym e) w.1);
    }

    LogOk-same : (log : List Id) → LogOk a.issued log → LogOk b.issued log
    LogOk-same log h = record {
      each = ids_later a.issued b.issued s.later.issued log h.each;
      all =
          λ c n l m. h.all c n l (omega (arith, m, s.issued c));
    }

    pub Keeps-same : (rows : ℕ → Row) (stamps : ℕ → ℕ → ℕ) (promoted : List ℕ)
        (guards guards' : ℕ → ℕ → Guard) (pending pending' : ℕ → Bool)
        (answers : ℕ → ℕ → Option Answer)
        → b.next ≤ a.next
        → ((c : ℕ) → pending' c ≡ true → pending c ≡ true)
        → ((t k : ℕ) → HeldOk home b t k) → ((k : ℕ) → EntryOk home b k (b.dir k)) →
        AllByRecursion (ItemOk home b) sent'
        → Traced b.first b.next b.who rows stamps promoted sent' →
        AllByRecursion (FenceOk home b) b.fences → Nested b.fences →
        ((t k : ℕ) → GuardOk home b.fences t k (guards' t k) (b.held t k).version)
        → (fits fits' : Type 0) → fits' → (log : List Id) →
        Keeps home a rows stamps promoted guards sent place pending answers log fits →
        Keeps home b rows stamps promoted guards' sent' place' pending' answers log fits'
    Keeps-same rows stamps promoted guards guards' pending pending' answers next fewer held entries
        items traced fences nested guard fits fits' room log h = record {
          names = LogOk-same log h.names;
          versions = Stamps-same rows stamps next h.versions;
          held = held;
          entries = entries;
          items = items;
          history = History-same pending pending' answers fewer h.history;
          traced = traced;
          fences = fences;
          nested = nested;
          guard = guard;
          room = room;
        }

pub passed-push : (k : ℕ) (is : List Item) (i : Item) →
    passed k (is ++ i ∷ []) ≡ max (passed k is) (reply_version k i.to i.packet)
passed-push k [] i = omega arith
passed-push k (j ∷ is) i = let ih = passed-push k is i in omega (arith, ih)

-- the first request of an operation stays where it is
pub before-push : (c n : ℕ) (is : List Item) (i : Item) → asked c n is ≡ true →
    (asked c n (is ++ i ∷ []) ≡ true) × (before c n (is ++ i ∷ []) ≡ before c n is)
before-push c n [] i h = absurd (cc)
before-push c n (j ∷ is) i h =
    let go : (b : Bool) → (b || asked c n is) ≡ true
    → ((b || asked c n (is ++ i ∷ [])) ≡ true)
    × (cond b [] (j ∷ before c n (is ++ i ∷ [])) ≡ cond b [] (j ∷ before c n is)) =
    λ b. elim b as (λ v. (v || asked c n is) ≡ true
    → ((v || asked c n (is ++ i ∷ [])) ≡ true)
    × (cond v [] (j ∷ before c n (is ++ i ∷ [])) ≡ cond v [] (j ∷ before c n is))) [
      | true ↦ λ t. (refl, refl)
      | false ↦ λ t. let ih = before-push c n is i t in
          (ih.0, ap (λ l. j ∷ l) ih.1)
    ] in
    go (asks c n j.packet) h

pub Later-refl : (home : ℕ → ℕ) (a : View) → Later home a a
Later-refl home a = record {
  first = refl;
  next = omega arith;
  who = λ u h. refl;
  issued = λ c. omega arith;
  plans = λ c n h. refl;
  bound = λ c n h. refl;
  held = λ s k. omega arith;
  ok = λ k u m h. h;
  under = λ k u m h. h;
  settled = λ k u m h. h;
  origin = λ k u o h. refl;
  dead = λ k u h. h;
  due = λ k f m h. h;
}

pub Same-refl : (home : ℕ → ℕ) (a : View) → Same home a a
Same-refl home a = record { later = Later-refl home a; issued = λ c. omega arith }

-- a search in a list of packets that grows
pub any-push : (p : Item → Bool) (is : List Item) (i : Item) → list_any p is ≡ true →
    list_any p (is ++ i ∷ []) ≡ true
any-push p [] i h = absurd (cc)
any-push p (j ∷ is) i h =
    let go : (b : Bool) → (b || list_any p is) ≡ true → (b || list_any p (is ++ i ∷ [])) ≡ true =
    λ b. elim b as (λ v. (v || list_any p is) ≡ true → (v || list_any p (is ++ i ∷ [])) ≡ true)
    [ true ↦ λ t. refl | false ↦ λ t. any-push p is i t ] in
    go (p j) h

pub any-last : (p : Item → Bool) (is : List Item) (i : Item) → p i ≡ true →
    list_any p (is ++ i ∷ []) ≡ true
any-last p [] i h = rw h refl
any-last p (j ∷ is) i h = or_right (p j) (list_any p (is ++ i ∷ [])) (any-last p is i h)

writes_from_stamps : (c n u : ℕ) (p : Packet) → stamps_as c n u p ≡ true → writes_as u p ≡ true
writes_from_stamps c n u (ToServerWrite d m v a k x) h =
    (and_parts (m == n) (v == u) (and_parts (d == c) (m == n && v == u) h).1).1
writes_from_stamps c n u (Read d m k) h = absurd (cc)
writes_from_stamps c n u (Write d m k x) h = absurd (cc)
writes_from_stamps c n u (ToServerRead d m a k) h = absurd (cc)
writes_from_stamps c n u (ReadReply d m v s a k o) h = absurd (cc)
writes_from_stamps c n u (WriteReply d m v s a k) h = absurd (cc)
writes_from_stamps c n u (CopyOrder a t k) h = absurd (cc)
writes_from_stamps c n u (CopyData v a k x) h = absurd (cc)
writes_from_stamps c n u (Held s v k) h = absurd (cc)
writes_from_stamps c n u (Fence f a k) h = absurd (cc)
writes_from_stamps c n u (Void d m v s a k) h = absurd (cc)
writes_from_stamps c n u (Command number what) h = absurd (cc)
writes_from_stamps c n u (Ack number o) h = absurd (cc)
writes_from_stamps c n u (Part e i l core) h = absurd (cc)
writes_from_stamps c n u (Announce e s) h = absurd (cc)
writes_from_stamps c n u Other h = absurd (cc)

-- the first write with a version stays where it is
pub before_write-push : (c n u : ℕ) (is : List Item) (i : Item) → stamped_in c n u is ≡ true →
    before_write u (is ++ i ∷ []) ≡ before_write u is
before_write-push c n u [] i h = absurd (cc)
before_write-push c n u (j ∷ is) i h =
    cond_both (writes_as u j.packet) [] (j ∷ before_write u (is ++ i ∷ []))
    (λ l. l ≡ cond (writes_as u j.packet) [] (j ∷ before_write u is))
    (λ y. rw y refl)
    (λ f.
    let no : stamps_as c n u j.packet ≡ false =
    false_from_ne_true (stamps_as c n u j.packet)
    (λ t. let w = writes_from_stamps c n u j.packet t in cc) in
    let rest : stamped_in c n u is ≡ true = (rw no at h) in
    rw f (ap (λ l. j ∷ l) (before_write-push c n u is i rest)))

-- a packet more tells no less of versions
pub Traced-push : (first next : ℕ) (who : ℕ → Id) (rows : ℕ → Row) (stamps : ℕ → ℕ → ℕ)
    (promoted : List ℕ) (sent : List Item) (i : Item)
    → Traced first next who rows stamps promoted sent →
    Traced first next who rows stamps promoted (sent ++ i ∷ [])
Traced-push first next who rows stamps promoted sent i h = record {
  none = h.none;
  each = λ u l m.
      let o = h.each u l m in
      record {
        promotion = o.promotion;
        write =
            λ t. (
              (o.write t).0,
              any-push (λ j. stamps_as (who u).client (who u).seq u j.packet) sent
                  i (o.write t).1,
            );
      };
  open_row = λ c l e. any-push (λ j. voids (stamps c (rows c).seq) j.packet) sent i
      (h.open_row c l e);
  again = λ u v l m n e t.
      let o = (h.each v (omega (arith, l, m)) n).write (subst (λ (x : Id). 1 ≤ x.seq) e t) in
      subst (λ (is : List Item). voided_in u is ≡ true)
      (sym (before_write-push (who v).client (who v).seq v sent i o.1)) (h.again u v l m n e t);
}

-- a packet more
pub Kept-send : (w : World) (g : Ghost) (i : Item) → Kept w g → ItemOk w.rack.home (view w g) i →
    Kept (send w i) g
Kept-send w g i h ok =
    Keeps-same w.rack.home (view w g) (view w g) (Same-refl w.rack.home (view w g)) w.place w.place
    w.sent (w.sent ++ i ∷ []) (omega arith)
    (λ k. omega (arith, passed-push k w.sent i)) (λ c n t. before-push c n w.sent i t) w.core.rows
    w.stamps w.promoted w.guards w.guards w.pending w.pending w.answers (omega arith) (λ c p. p)
    h.held h.entries
    (items_push (ItemOk w.rack.home (view w g)) w.sent i h.items ok)
    (Traced-push w.rack.first w.core.next g.who w.core.rows w.stamps w.promoted w.sent i h.traced)
    h.fences h.nested h.guard (RoomLeft w) (RoomLeft w) h.room w.log h

-- a line more, and fewer clients that wait
pub Kept-quiet : (w : World) (g : Ghost) (place : ℕ) (pending : ℕ → Bool) → w.place ≤ place →
    ((c : ℕ) → pending c ≡ true → w.pending c ≡ true)
    → Kept w g → Kept (record w { place = place; pending = pending }) g
Kept-quiet w g place pending older fewer h =
    Keeps-same w.rack.home (view w g) (view w g) (Same-refl w.rack.home (view w g)) w.place place
    w.sent w.sent older
    (λ k. omega arith) (λ c n t. (t, refl)) w.core.rows w.stamps w.promoted w.guards w.guards
    w.pending pending w.answers (omega arith) fewer h.held h.entries h.items h.traced h.fences
    h.nested h.guard (RoomLeft w) (RoomLeft w) h.room w.log h

-- packets more
pub Kept-send_all : (w : World) (g : Ghost) (is : List Item) →
    AllByRecursion (ItemOk w.rack.home (view w g)) is → Kept w g →
    Kept (record w { sent = w.sent ++ is }) g
Kept-send_all w g [] ok h =
    subst (λ (l : List Item). Kept (record w { sent = l }) g) (sym (append-nil w.sent)) h
Kept-send_all w g (i ∷ is) ok h =
    subst (λ (l : List Item). Kept (record w { sent = l }) g) (append_assoc w.sent (i ∷ []) is)
    (Kept-send_all (send w i) g is ok.1 (Kept-send w g i h ok.0))
