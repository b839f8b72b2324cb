-- The law follows from the facts that every step keeps.
use Rattle.std.proofs.Common.{◌≡◌, ◌≢◌, ℕ, suc, pred, max, ◌<◌, ◌≤◌, ◌⊎◌, ◌==◌, ◌&&◌, inl, inr}
use Rattle.std.proofs.Common.{true, List, [], ◌∷◌, Contains, Option, Some, None, arith, ap, sym}
use Rattle.std.proofs.Common.{refl, ◌∙◌, subst, subst₂, eqb-true}
use Rattle.std.proofs.lemmas.Bool.{cases_lt, and_parts, or_cases}
use Rattle.std.proofs.lemmas.List.Elements.{All-from_recursion, All-contains, recursion_from_All}
use Rattle.std.proofs.lemmas.List.Elements.{All-contains_itself}
use Rattle.std.specs.List.{AllByRecursion}
use Rattle.std.proofs.lemmas.Option.{same_Some}
use Rattle.peg_protocol.specs.Packet.{Packet, Node, Item, item, Read, Write, ToServerRead}
use Rattle.peg_protocol.specs.Packet.{ToServerWrite, ReadReply, WriteReply, CopyOrder, CopyData}
use Rattle.peg_protocol.specs.Packet.{Held, Fence, Void, Command, Ack, Part, Announce, Other}
use Rattle.peg_protocol.specs.Packet.{Server}
use Rattle.peg_protocol.specs.Core.{Entry}
use Rattle.peg_protocol.specs.Machine.{World, Applied, origin_of, entry, id, Id, Writes}
use Rattle.peg_protocol.specs.Law.{WasSent, version_at, passed, version_in, stamps_as, stamped_in}
use Rattle.peg_protocol.specs.Law.{PairIs as StatedPair, BelowNext, IsGiven, RowIs, Versions}
use Rattle.peg_protocol.specs.Law.{Reported, By_read, By_write, By_copy, Elsewhere, Is_held}
use Rattle.peg_protocol.specs.Law.{Is_sent, Is_copied, MarkLaw, KeyLaw, Between, NothingBetween}
use Rattle.peg_protocol.specs.Law.{FenceLaw, Law, ActsOnce}
use Rattle.peg_protocol.proofs.Facts.{AnyOf, Outside, Inside, Alive, Owned, ContentIs, Writing}
use Rattle.peg_protocol.proofs.Facts.{Given, PairIs, BelowMark, UnderMark, Covers, SettledBy, Ok}
use Rattle.peg_protocol.proofs.Facts.{Report, PacketOk, ItemOk, MarkOk, IsEntryOk, EntryOk, Version}
use Rattle.peg_protocol.proofs.Facts.{Ghost, view, Kept}
use Rattle.peg_protocol.proofs.Servers.{pair_of_write, no_fence, not_promotion}
use Rattle.peg_protocol.proofs.Sorting.{all_weaker}
use Rattle.peg_protocol.proofs.Fences.{origin_same, not_both}
use Rattle.peg_protocol.proofs.Passed.{passed_most}

-- one that is told of is in the list
any_contained : (P : Applied → Type 0) (fs : List Applied) → AnyOf P fs →
    (f : Applied) × Contains fs f × P f
any_contained P [] a = absurd a
any_contained P (f ∷ fs) a = elim a [
  | inl p ↦ (f, (0, omega arith, refl), p)
  | inr b ↦ let x = any_contained P fs b in (x.0, (suc x.1.0, omega (arith, x.1.1), x.1.2), x.2)
]

module _ (w : World) (g : Ghost) (h : Kept w g) where
  -- what is known of a packet that was sent
  sent_ok : (to : Node) (p : Packet) → WasSent w to p → PacketOk w.rack.home (view w g) to p
  sent_ok to p s = All-contains (ItemOk w.rack.home (view w g)) w.sent (item to p)
      (All-from_recursion (ItemOk w.rack.home (view w g)) w.sent h.items) s

  some_next : 1 ≤ w.core.next
  some_next = omega (arith, h.versions.least, h.versions.most)

  -- a version that was given is stamped for its operation
  pub given_version : (c n u : ℕ) → Given (view w g) c n u →
      Version (view w g) w.core.rows w.stamps c n u
  given_version c n u i =
      subst (λ (j : Id). 1 ≤ j.seq → Version (view w g) w.core.rows w.stamps j.client j.seq u) i.who
      (h.versions.each u i.least i.most) i.some

  same_write : (c n d m u : ℕ) → Given (view w g) c n u → Given (view w g) d m u → (c ≡ d) × (n ≡ m)
  same_write c n d m u a b = let e : id c n ≡ id d m = sym a.who ∙ b.who in
      (ap (λ (i : Id). i.client) e, ap (λ (i : Id). i.seq) e)

  -- a write with a version was sent where that version was given to a write
  given_stamped : (c n u : ℕ) → Given (view w g) c n u → stamped_in c n u w.sent ≡ true
  given_stamped c n u i =
      let o : Owned (id c n) w.promoted w.sent u =
      subst (λ (j : Id). Owned j w.promoted w.sent u) i.who (h.traced.each u i.least i.most) in
      (o.write i.some).1

  stamped_by : (c n u : ℕ) (to : Node) (p : Packet) → PacketOk w.rack.home (view w g) to p →
      stamps_as c n u p ≡ true → Given (view w g) c n u
  stamped_by c n u to (ToServerWrite d m v sw k x) i t =
      let p = and_parts (d == c) (m == n && v == u) t in
      let q = and_parts (m == n) (v == u) p.1 in
      let e1 : d ≡ c = eqb-true d c p.0 in
      let e2 : m ≡ n = eqb-true m n q.0 in
      let e3 : v ≡ u = eqb-true v u q.1 in
      subst (λ (y : ℕ). Given (view w g) c n y) e3
      (subst₂ (λ (a b : ℕ). Given (view w g) a b v) e1 e2 i.given)
  stamped_by c n u to (Read d m k) i t = absurd (cc)
  stamped_by c n u to (Write d m k x) i t = absurd (cc)
  stamped_by c n u to (ToServerRead d m a k) i t = absurd (cc)
  stamped_by c n u to (ReadReply d m v s a k o) i t = absurd (cc)
  stamped_by c n u to (WriteReply d m v s a k) i t = absurd (cc)
  stamped_by c n u to (CopyOrder a d k) i t = absurd (cc)
  stamped_by c n u to (CopyData v a k x) i t = absurd (cc)
  stamped_by c n u to (Held s v k) i t = absurd (cc)
  stamped_by c n u to (Fence f a k) i t = absurd (cc)
  stamped_by c n u to (Void d m v s a k) i t = absurd (cc)
  stamped_by c n u to (Command number what) i t = absurd (cc)
  stamped_by c n u to (Ack number o) i t = absurd (cc)
  stamped_by c n u to (Part e j l core) i t = absurd (cc)
  stamped_by c n u to (Announce e d) i t = absurd (cc)
  stamped_by c n u to Other i t = absurd (cc)

  stamped_from : (c n u : ℕ) (is : List Item) → AllByRecursion (ItemOk w.rack.home (view w g)) is →
      stamped_in c n u is ≡ true → Given (view w g) c n u
  stamped_from c n u [] ok t = absurd (cc)
  stamped_from c n u (i ∷ is) ok t =
      elim (or_cases (stamps_as c n u i.packet) (stamped_in c n u is) t) [
        | inl y ↦ stamped_by c n u i.to i.packet ok.0 y
        | inr y ↦ stamped_from c n u is ok.1 y
      ]

  stated_given : (u : ℕ) → w.rack.first ≤ u → u < w.core.next → IsGiven w u
  stated_given u l m =
      let o = h.traced.each u l m in
      elim (cases_lt 0 (g.who u).seq) [
        | inl some ↦
            let gi : Given (view w g) (g.who u).client (g.who u).seq u =
            record { least = l; most = m; who = refl; some = some } in
            inl (
              record {
                client = (g.who u).client;
                seq = (g.who u).seq;
                was = (o.write some).1;
                one = λ d n t. same_write d n (g.who u).client (g.who u).seq u
                    (stamped_from d n u w.sent h.items t) gi;
              },
              (o.write some).0,
            )
        | inr none ↦
            let z : (g.who u).seq ≡ 0 = omega (arith, none) in
            inr (
              o.promotion z,
              λ c n t.
                  let i = stamped_from c n u w.sent h.items t in
                  let e : (g.who u).seq ≡ n = ap (λ (j : Id). j.seq) i.who in
                  absurd (omega (arith, z, e, i.some)),
            )
      ]

  stated_pair : (k u : ℕ) (o : Option ℕ) → PairIs (view w g) k u o → StatedPair w k u o
  stated_pair k u x p = elim p.content [
    | inl z ↦ inl z
    | inr q ↦
        let o = origin_of w.fences k u in
        let i = g.who o in
        inr (
          omega (arith, q.0, h.versions.least),
          record {
            client = i.client;
            seq = i.seq;
            least = q.2.issued.least;
            most = q.2.issued.most;
            key = q.2.issued.key;
            act = q.2.act;
            stamp = given_stamped i.client i.seq o
                (record { least = q.0; most = q.1; who = refl; some = q.2.issued.least });
          },
        )
  ]

  packet_below : (to : Node) (p : Packet) → PacketOk w.rack.home (view w g) to p →
      version_in p < w.core.next
  packet_below to (ToServerWrite c n u sw k x) i = i.given.most
  packet_below to (ReadReply c n u s sw k o) i = i.report.most
  packet_below to (WriteReply c n u s sw k) i = i.report.most
  packet_below to (CopyData u sw k x) i = i.pair.most
  packet_below to (Held s u k) i = i.report.most
  packet_below to (Fence f sw k) i = i.fence.most
  packet_below to (Void c n u s sw k) i = i.given.most
  packet_below to (CopyOrder sw t k) i = some_next
  packet_below to p i = some_next

  mark_below : (e : Entry) (o : Option ℕ) → MarkOk w.core.next e.base o → (m : ℕ) → o ≡ Some m →
      m ≤ w.core.next
  mark_below e None i m is = absurd (cc)
  mark_below e (Some l) i m is = let d : l ≡ m = same_Some l m is in omega (arith, i.1, d)

  entry_below : (k : ℕ) (o : Option Entry) → EntryOk w.rack.home (view w g) k o → BelowNext w o
  entry_below k None i = tt
  entry_below k (Some e) i =
      record {
        base = omega (arith, i.base, i.most);
        completed = i.most;
        mark =
            mark_below e e.mark i.mark;
      }

  pub stamped_given : (c n : ℕ) → 1 ≤ w.stamps c n → Given (view w g) c n (w.stamps c n)
  stamped_given c n l =
      elim (h.versions.stamp c n) [ inl z ↦ absurd (omega (arith, z, l)) | inr i ↦ i ]

  stated_row : (c : ℕ) →
      (((w.core.rows c).seq ≡ 0) × ((w.core.rows c).version ≡ 0) × ((n : ℕ) → w.stamps c n ≡ 0))
      ⊎ RowIs w c
  stated_row c = elim (h.versions.row c) [
    | inl z ↦ inl (
      z.0,
      z.1,
      λ n. elim (h.versions.stamp c n) [
        | inl y ↦ y
        | inr i ↦ let v = given_version c n (w.stamps c n) i in
            absurd (omega (arith, i.some, v.seq, z.0))
      ],
    )
    | inr y ↦
        let some : 1 ≤ w.stamps c (w.core.rows c).seq =
        omega (arith, y.0.least, h.versions.least) in
        inr (record {
          some = some;
          version = elim y.1
              [ inl e ↦ inl e | inr d ↦ inr (d.0, h.traced.open_row c y.0.some d.0) ];
          greatest = λ n l. (given_version c n (w.stamps c n) (stamped_given c n l)).seq;
        })
  ]

  -- the pair that a ToServerWrite carries
  sent_pair : (to : Node) (c n u sw k : ℕ) (x : Option ℕ) →
      WasSent w to (ToServerWrite c n u sw k x) → PairIs (view w g) k u x
  sent_pair to c n u sw k x i = let p = sent_ok to (ToServerWrite c n u sw k x) i in
      pair_of_write w.rack.home (view w g) c n u k x h.fences p.op p.given

  stated_versions : Versions w
  stated_versions = record {
    held = λ s k. (h.held s k).pair.most;
    sent = λ to p s. packet_below to p (sent_ok to p s);
    rows = λ c. elim (h.versions.row c) [
      | inl z ↦ omega (arith, z.1, some_next)
      | inr y ↦ elim y.1
          [ inl e ↦ omega (arith, e, y.0.most) | inr d ↦ omega (arith, d.0, some_next) ]
    ];
    entries = λ k. entry_below k (entry w k) (h.entries k);
    given = stated_given;
    held_pair = λ s k. stated_pair k (w.held s k).version (w.held s k).content (h.held s k).pair;
    read_pair = λ to c n u s sw k o i. stated_pair k u o
        (sent_ok to (ReadReply c n u s sw k o) i).pair;
    write_pair = λ to c n u sw k x i. stated_pair k u x (sent_pair to c n u sw k x i);
    copy_pair = λ to u sw k x i. stated_pair k u x (sent_ok to (CopyData u sw k x) i).pair;
    row = stated_row;
    last = λ c n l. given_stamped c n (w.stamps c n) (stamped_given c n l);
    lasts = λ to c n u sw k x i.
        (given_version c n u (sent_ok to (ToServerWrite c n u sw k x) i).given).last;
    one_write = λ c n d m l e.
        let i = stamped_given c n l in
        let j : Given (view w g) d m (w.stamps c n) =
        subst (λ (u : ℕ). Given (view w g) d m u) (sym e)
        (stamped_given d m (omega (arith, l, e))) in
        same_write c n d m (w.stamps c n) i j;
  }

  report_of : (s k u : ℕ) → Reported w s k u → Report w.rack.home (view w g) s k u
  report_of s k u (By_read to c n sw o i) = (sent_ok to (ReadReply c n u s sw k o) i).report
  report_of s k u (By_write to c n sw i) = (sent_ok to (WriteReply c n u s sw k) i).report
  report_of s k u (By_copy to i) = (sent_ok to (Held s u k) i).report

  elsewhere_ok : (k u : ℕ) → Elsewhere w k u → Ok w.rack.home (view w g) k u × (u < w.core.next)
  elsewhere_ok k u (Is_held s ne e) = (
    subst (Ok w.rack.home (view w g) k) e (h.held s k).ok,
    subst (λ (v : ℕ). v < w.core.next) e (stated_versions.held s k),
  )
  elsewhere_ok k u (Is_sent s c n sw x ne i) = let p =
      sent_ok (Server s) (ToServerWrite c n u sw k x) i in
      (elim p.ok [ inl e ↦ absurd (ne e) | inr o ↦ o.0 ], p.given.most)
  elsewhere_ok k u (Is_copied to sw x i) = let p = sent_ok to (CopyData u sw k x) i in
      (p.ok, p.pair.most)

  covered : (k u : ℕ) (o : Option Entry) → entry w k ≡ o → Ok w.rack.home (view w g) k u →
      Covers (version_at w (w.rack.home k) k) o u
  covered k u o is i = subst (λ (x : Option Entry). Covers (version_at w (w.rack.home k) k) x u) is
      i.0

  at_home : (u : ℕ) (n : ℕ) → Covers n None u → u ≤ n
  at_home u n c = elim c [ inl l ↦ l | inr o ↦ absurd o ]

  above_base : (u n : ℕ) (e : Entry) → Covers n (Some e) u → (e.base < u) ⊎ (u ≤ n)
  above_base u n e c = elim c [ inl l ↦ inr l | inr o ↦ inl o.0 ]

  below_mark : (u n m : ℕ) (e : Entry) (o : Option ℕ) → o ≡ Some m →
      (u ≤ n) ⊎ ((e.base < u) × BelowMark o u) → (u < m) ⊎ (u ≤ n)
  below_mark u n m e None is c = absurd (cc)
  below_mark u n m e (Some l) is c = let d : l ≡ m = same_Some l m is in
      elim c [ inl l ↦ inr l | inr o ↦ inl (omega (arith, o.1, d)) ]

  under_mark : (u m : ℕ) (o : Option ℕ) → o ≡ Some m → BelowMark o u → u < m
  under_mark u m None is b = absurd (cc)
  under_mark u m (Some l) is b = let d : l ≡ m = same_Some l m is in omega (arith, b, d)

  mark_law : (k : ℕ) (e : Entry) (o : Option ℕ) → entry w k ≡ Some e → e.mark ≡ o →
      IsEntryOk w.rack.home (view w g) k e → MarkLaw w k e o
  mark_law k e None is m ok = tt
  mark_law k e (Some m) is marked ok =
      let n = version_at w (w.rack.home k) k in
      let base : (e.base < m) × (m ≤ w.core.next) =
      subst (MarkOk w.core.next e.base) marked ok.mark in
      let most : passed k w.sent ≤ max (pred m) n =
      passed_most w.rack.home (view w g) k (max (pred m) n)
      (λ s u r t. elim (below_mark u n m e e.mark marked (covered k u (Some e) is r.ok))
      [ inl l ↦ omega (arith, l) | inr l ↦ omega (arith, l) ])
      w.sent h.items in
      record {
        base = base.0;
        elsewhere = λ u i. below_mark u n m e e.mark marked
            (covered k u (Some e) is (elsewhere_ok k u i).0);
        passed = elim (cases_lt (passed k w.sent) m)
            [ inl l ↦ inl l | inr l ↦ inr (omega (arith, l, most, base.0)) ];
        sent = λ s c n u sw x ne i. elim (sent_ok (Server s) (ToServerWrite c n u sw k x) i).ok [
          | inl e ↦ absurd (ne e)
          | inr o ↦ under_mark u m e.mark marked
              (subst (λ (x : Option Entry). UnderMark x u) is o.1)
        ];
      }

  key_law : (k : ℕ) (o : Option Entry) → entry w k ≡ o → KeyLaw w k o
  key_law k None is = record {
    elsewhere = λ u i. at_home u (version_at w (w.rack.home k) k)
        (covered k u None is (elsewhere_ok k u i).0);
    passed = passed_most w.rack.home (view w g) k (version_at w (w.rack.home k) k)
        (λ s u r t. at_home u (version_at w (w.rack.home k) k) (covered k u None is r.ok)) w.sent
        h.items;
  }
  key_law k (Some e) is =
      let n = version_at w (w.rack.home k) k in
      let ok : IsEntryOk w.rack.home (view w g) k e =
      subst (EntryOk w.rack.home (view w g) k) is (h.entries k) in
      let settled : (u : ℕ) → SettledBy (entry w k) u → u ≤ e.completed =
      λ u t. subst (λ (x : Option Entry). SettledBy x u) is t in
      record {
        base = ok.base;
        passed = passed_most w.rack.home (view w g) k e.completed (λ s u r t. settled u t) w.sent
            h.items;
        elsewhere = λ u i. above_base u n e (covered k u (Some e) is (elsewhere_ok k u i).0);
        reported = λ s u ne r. above_base u n e (covered k u (Some e) is (report_of s k u r).ok);
        holders = elim ok.holding [
          | inl all ↦ inl
              (λ s c. All-contains (λ t. e.completed ≤ version_at w t k) e.holders s
              (All-from_recursion (λ t. e.completed ≤ version_at w t k) e.holders all) c)
          | inr first ↦ inr (record {
            completed = first.0;
            holders = first.1;
            passed = passed_most w.rack.home (view w g) k n
                (λ s u r t. elim (above_base u n e (covered k u (Some e) is r.ok))
                [ inl l ↦ absurd (omega (arith, l, settled u t, first.0)) | inr l ↦ l ])
                w.sent h.items;
          })
        ];
        mark = mark_law k e e.mark is refl ok;
      }

  -- what is alive is outside each Fence that was applied
  outside : (k u : ℕ) (f : Applied) → Contains w.fences f → f.key ≡ k → Alive w.fences k u →
      Between f u → ⊥
  outside k u f c e al b =
      elim (All-contains (Outside k u) w.fences f (All-from_recursion (Outside k u) w.fences al) c
      e) [ inl l ↦ omega (arith, l, b.0) | inr l ↦ omega (arith, l, b.1) ]

  nothing_between : (k : ℕ) (f : Applied) → Contains w.fences f → f.key ≡ k → NothingBetween w k f
  nothing_between k f c e = record {
    held = λ s. outside k (version_at w s k) f c e (h.held s k).ok.1;
    write = λ s d n u sw x ne i. elim (sent_ok (Server s) (ToServerWrite d n u sw k x) i).ok
        [ inl at ↦ absurd (ne at) | inr o ↦ outside k u f c e o.0.1 ];
    copy = λ to u sw x i. outside k u f c e (sent_ok to (CopyData u sw k x) i).ok.1;
    reported = λ s u r. outside k u f c e (report_of s k u r).ok.1;
    fence = λ to u sw i. outside k u f c e (sent_ok to (Fence u sw k) i).fence.due.alive;
  }

  fence_law : (k : ℕ) → FenceLaw w k
  fence_law k = record {
    sent = λ to f sw i. (sent_ok to (Fence f sw k) i).fence.due.due;
    most = λ to f sw i. (sent_ok to (Fence f sw k) i).fence.due.most;
    guard = ((h.guard (w.rack.home k) k).at refl).is;
    low = ((h.guard (w.rack.home k) k).at refl).ordered;
    floor = ((h.guard (w.rack.home k) k).at refl).floor;
    others = λ s ne. (h.guard s k).off ne;
    applied = All-from_recursion (λ f. f.key ≡ k → NothingBetween w k f) w.fences
        (all_weaker (Contains w.fences) (λ f. f.key ≡ k → NothingBetween w k f) (nothing_between k)
        w.fences (recursion_from_All (Contains w.fences) w.fences
        (All-contains_itself w.fences)));
    voided = λ to c n u s sw i. let x =
        any_contained (Inside k u) w.fences (sent_ok to (Void c n u s sw k) i).dead in
        (x.0, x.1, x.2.0, (x.2.1, x.2.2));
  }

  pub law : Law w
  law = record {
    versions = stated_versions;
    reports = λ s k u r. (report_of s k u r).held;
    keys = λ k. key_law k (entry w k) refl;
    reads_sent = λ s c n sw k i.
        let p = sent_ok (Server s) (ToServerRead c n sw k) i in
        omega (arith, p.reaches, (h.history.since c n p.op.issued.least p.op.issued.most).1);
    reads_answered = λ to c n u s sw k o i.
        let p = sent_ok to (ReadReply c n u s sw k o) i in
        omega (arith, p.reaches, (h.history.since c n p.op.issued.least p.op.issued.most).1);
    stamps = λ to c n u sw k x i.
        let p = sent_ok to (ToServerWrite c n u sw k x) i in
        let v = given_version c n u p.given in
        omega (arith, v.above, (h.history.since c n p.op.issued.least p.op.issued.most).1);
    last_stamps = λ c n l.
        let i = stamped_given c n l in
        let v = given_version c n (w.stamps c n) i in
        omega (arith, v.above, (h.history.since c n i.some v.most).1);
    fences = fence_law;
  }

  -- the key of a version that was given to a write
  given_key : (c n d m u k j : ℕ) (x y : Option ℕ) → Given (view w g) c n u →
      Given (view w g) d m u → Writing (view w g) c n k x → Writing (view w g) d m j y →
      (k ≡ j) × (x ≡ y)
  given_key c n d m u k j x y gi gj a b =
      let e = same_write c n d m u gi gj in
      let q : (w.plans c n) ≡ (w.plans d m) = cc in (
        sym a.issued.key ∙ ap (λ r. r.key) q ∙ b.issued.key,
        same_Writes x y (sym a.act ∙ ap (λ r. r.act) q ∙ b.act),
      )
    where
      same_Writes : (x y : Option ℕ) → Writes x ≡ Writes y → x ≡ y
      same_Writes x y e = cc

  module _ (to : Node) (c n u s sw k : ℕ) (i : WasSent w to (Void c n u s sw k)) where
    void_given : Given (view w g) c n u
    void_given = (sent_ok to (Void c n u s sw k) i).given

    gone : (j : ℕ) → j ≡ k → Alive w.fences j u → ⊥
    gone j e al = not_both w.fences k u (subst (λ (b : ℕ). Alive w.fences b u) e al)
        (sent_ok to (Void c n u s sw k) i).dead

    not_seen : (j : ℕ) (o : Option ℕ) → ContentIs (view w g) j u o → Alive w.fences j u → ⊥
    not_seen j x p al = elim p [
      | inl e ↦ omega (arith, e.0, void_given.least, h.versions.least)
      | inr p ↦
          let op = (sent_ok to (Void c n u s sw k) i).op in
          let gj : Given (view w g) (g.who u).client (g.who u).seq u =
          record { least = p.0; most = p.1; who = refl; some = p.2.issued.least } in
          gone j (given_key (g.who u).client (g.who u).seq c n u j k x op.0 gj void_given p.2
          op.1).0 al
    ]

    not_in_pair : (j : ℕ) (o : Option ℕ) → PairIs (view w g) j u o → Alive w.fences j u → ⊥
    not_in_pair j o p =
        not_seen j o
        (subst (λ (y : ℕ). ContentIs (view w g) j y o)
        (origin_same w.fences j u
        (no_fence w.rack.home (view w g) c n u j void_given w.fences h.fences))
        p.content)

    not_held : (t j : ℕ) → version_at w t j ≢ u
    not_held t j e =
        let p = h.held t j in
        not_in_pair j (w.held t j).content
        (subst (λ (y : ℕ). PairIs (view w g) j y (w.held t j).content) e p.pair)
        (subst (λ (y : ℕ). Alive w.fences j y) e p.ok.1)

    not_reported : (t j : ℕ) → Reported w t j u → ⊥
    not_reported t j (By_read to' d m sw' o x) = let p =
        sent_ok to' (ReadReply d m u t sw' j o) x in not_in_pair j o p.pair p.report.ok.1
    not_reported t j (By_write to' d m sw' x) =
        let p = sent_ok to' (WriteReply d m u t sw' j) x in
        let op = (sent_ok to (Void c n u s sw k) i).op in
        gone j (given_key d m c n u j k p.op.0 op.0 p.given void_given p.op.1 op.1).0 p.report.ok.1
    not_reported t j (By_copy to' x) =
        let p = sent_ok to' (Held t u j) x in
        elim p.of [
          | inl q ↦ not_promotion w.rack.home (view w g) c n u j u void_given q refl
          | inr q ↦ not_in_pair j q.0 q.1 p.report.ok.1
        ]

  pub acts_once : ActsOnce w
  acts_once = record {
    given = stated_given;
    write = λ to to' c n u sw k c' n' sw' k' x x' i i'.
        let p = sent_ok to (ToServerWrite c n u sw k x) i in
        let p' = sent_ok to' (ToServerWrite c' n' u sw' k' x') i' in
        let e = same_write c n c' n' u p.given p'.given in
        let q = given_key c n c' n' u k k' x x' p.given p'.given p.op p'.op in
        (e.0, e.1, q.0, q.1);
    again = λ to to' c n u sw k u' sw' k' x x' i i' l.
        let p = sent_ok to (ToServerWrite c n u sw k x) i in
        let p' = sent_ok to' (ToServerWrite c n u' sw' k' x') i' in
        h.traced.again u u' p.given.least l p'.given.most (p.given.who ∙ sym p'.given.who)
        (subst (λ (j : Id). 1 ≤ j.seq) (sym p.given.who) p.given.some);
    held = not_held;
    reported = not_reported;
    copied = λ to to' c n u s sw k sw' j x i i'. let p = sent_ok to' (CopyData u sw' j x) i' in
        not_in_pair to c n u s sw k i j x p.pair p.ok.1;
  }
