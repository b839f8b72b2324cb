-- What servers do: a pair is taken, and every server's version only rises.
use Rattle.std.proofs.Common.{◌≡◌, ◌≢◌, ℕ, ◌<◌, ◌≤◌, ◌⊎◌, ◌==◌, ◌&&◌, nat_lt, nat_le, inl, inr}
use Rattle.std.proofs.Common.{true, cond, List, [], ◌∷◌, Option, Some, None, arith, ap, sym, refl}
use Rattle.std.proofs.Common.{◌∙◌, subst, subst₂, eqb-true, eq-eqb, ltb-true, ltb-false, leb-true}
use Rattle.std.proofs.lemmas.Bool.{cond_both, and_parts, cases_eq, leb-false}
use Rattle.std.specs.List.{AllByRecursion}
use Rattle.peg_protocol.specs.Packet.{item, ToServerRead, ToServerWrite, ReadReply, WriteReply}
use Rattle.peg_protocol.specs.Packet.{CopyData, Held, Void, Switch, Server}
use Rattle.peg_protocol.specs.Core.{at_one, at_two, Entry}
use Rattle.peg_protocol.specs.Machine.{Pair, Guard, Applied, origin_of, newer, World, apply, Id, id}
use Rattle.peg_protocol.specs.Machine.{send, WriteDid, Takes, Keeps, Voids, Bars, write_did}
use Rattle.peg_protocol.specs.Machine.{raised_to, guarded, applied_fence, fence}
use Rattle.peg_protocol.specs.Law.{HasBase}
use Rattle.peg_protocol.proofs.Facts.{RoomLeft, Outside, Alive, Covers, Loose, IsPromotion}
use Rattle.peg_protocol.proofs.Facts.{ContentIs, IsFence, FenceOk, GuardOk, View, Given, Writing}
use Rattle.peg_protocol.proofs.Facts.{PairIs, Ok, ItemOk, HeldOk, Ghost, view, Kept}
use Rattle.peg_protocol.proofs.Keep.{Later, Same, Writing-later, Given-later, Kept-send}
use Rattle.peg_protocol.proofs.Keep.{PairIs-later, IsPromotion-later, IsFence-later, content_later}
use Rattle.peg_protocol.proofs.Keep.{fences_later, pair_later, items_later, EntryOk-later}
use Rattle.peg_protocol.proofs.Keep.{Keeps-same}
use Rattle.peg_protocol.proofs.Sorting.{all_weaker}
use Rattle.peg_protocol.proofs.Fences.{origin_hit, origin_skip, origin_same, alive_high, alive_kept}
use Rattle.peg_protocol.proofs.Fences.{dead_voided, HomeGuard-fence, HomeGuard-up, HomeGuard-other}

pub at_one_both : {A : Type 0} (f : ℕ → A) (a : ℕ) (x : A) (b : ℕ) (P : A → Type 0) →
    (b ≡ a → P x) → ((b ≡ a → ⊥) → P (f b)) → P (at_one f a x b)
at_one_both f a x b P hit miss =
    cond_both (b == a) x (f b) P (λ y. hit (eqb-true b a y))
    (λ n. miss (λ e. let t : (b == a) ≡ true = eq-eqb b a e in cc))

pub at_two_both : {A : Type 0} (f : ℕ → ℕ → A) (a b : ℕ) (x : A) (c d : ℕ) (P : A → Type 0)
    → (c ≡ a → d ≡ b → P x) → ((c ≡ a → d ≡ b → ⊥) → P (f c d)) → P (at_two f a b x c d)
at_two_both f a b x c d P hit miss =
    cond_both (c == a && d == b) x (f c d) P
    (λ y. let t = and_parts (c == a) (d == b) y in hit (eqb-true c a t.0) (eqb-true d b t.1))
    (λ n. miss (λ e1 e2.
    let t1 : (c == a) ≡ true = eq-eqb c a e1 in
    let t2 : (d == b) ≡ true = eq-eqb d b e2 in
    let t : (c == a && d == b) ≡ true = rw (t1, t2) refl in cc))

pub at_two_cases : (a b c d : ℕ) → ((c ≡ a) × (d ≡ b)) ⊎ (c ≡ a → d ≡ b → ⊥)
at_two_cases a b c d = elim (cases_eq c a) [
  | inl e ↦ elim (cases_eq d b) [ inl f ↦ inl (e, f) | inr n ↦ inr (λ x y. n y) ]
  | inr n ↦ inr (λ x y. n x)
]

pub at_two_same : {A : Type 0} (f : ℕ → ℕ → A) (a b : ℕ) (x : A) → at_two f a b x a b ≡ x
at_two_same f a b x =
    at_two_both f a b x a b (λ y. y ≡ x) (λ e1 e2. refl) (λ n. absurd (n refl refl))

pub at_one_same : {A : Type 0} (f : ℕ → A) (a : ℕ) (x : A) → at_one f a x a ≡ x
at_one_same f a x = at_one_both f a x a (λ y. y ≡ x) (λ e. refl) (λ n. absurd (n refl))

pub at_two_at : {A : Type 0} (f : ℕ → ℕ → A) (a b : ℕ) (x : A) (c d : ℕ) → c ≡ a → d ≡ b →
    at_two f a b x c d ≡ x
at_two_at f a b x c d e1 e2 =
    at_two_both f a b x c d (λ y. y ≡ x) (λ z1 z2. refl) (λ n. absurd (n e1 e2))

pub at_two_off : {A : Type 0} (f : ℕ → ℕ → A) (a b : ℕ) (x : A) (c d : ℕ) → (c ≡ a → d ≡ b → ⊥) →
    at_two f a b x c d ≡ f c d
at_two_off f a b x c d n =
    at_two_both f a b x c d (λ y. y ≡ f c d) (λ z1 z2. absurd (n z1 z2)) (λ m. refl)

pub at_one_at : {A : Type 0} (f : ℕ → A) (a : ℕ) (x : A) (b : ℕ) → b ≡ a → at_one f a x b ≡ x
at_one_at f a x b e = at_one_both f a x b (λ y. y ≡ x) (λ z. refl) (λ n. absurd (n e))

pub at_one_off : {A : Type 0} (f : ℕ → A) (a : ℕ) (x : A) (b : ℕ) → (b ≡ a → ⊥) →
    at_one f a x b ≡ f b
at_one_off f a x b n = at_one_both f a x b (λ y. y ≡ f b) (λ z. absurd (n z)) (λ m. refl)

newer_version : (p : Pair) (u : ℕ) (x : Option ℕ) →
    (p.version ≤ (newer p u x).version) × (u ≤ (newer p u x).version)
newer_version p u x =
    cond_both (nat_lt p.version u) (record { version = u; content = x }) p
    (λ q. (p.version ≤ q.version) × (u ≤ q.version))
    (λ y. let l : p.version < u = ltb-true p.version u y in (omega arith, omega arith))
    (λ n. let l : u ≤ p.version = ltb-false p.version u n in (omega arith, l))

raises : (held : ℕ → ℕ → Pair) (s k u : ℕ) (x : Option ℕ) (t j : ℕ) →
    (held t j).version ≤ (at_two held s k (newer (held s k) u x) t j).version
raises held s k u x t j =
    at_two_both held s k (newer (held s k) u x) t j (λ q. (held t j).version ≤ q.version)
    (λ e1 e2. subst (λ (a : ℕ). (held a j).version ≤ (newer (held s k) u x).version) (sym e1)
    (subst (λ (b : ℕ). (held s b).version ≤ (newer (held s k) u x).version) (sym e2)
    (newer_version (held s k) u x).0))
    (λ n. omega arith)

pub reaches_new : (held : ℕ → ℕ → Pair) (s k u : ℕ) (x : Option ℕ) →
    u ≤ (at_two held s k (newer (held s k) u x) s k).version
reaches_new held s k u x =
    subst (λ (p : Pair). u ≤ p.version) (sym (at_two_same held s k (newer (held s k) u x)))
    (newer_version (held s k) u x).1

abbrev pub with_pair : View → ℕ → ℕ → ℕ → Option ℕ → View
with_pair a s k u x = record a { held = at_two a.held s k (newer (a.held s k) u x) }

module _ (home : ℕ → ℕ) (a : View) (s k u : ℕ) (x : Option ℕ) where
  taken_later : Later home a (with_pair a s k u x)
  taken_later = record {
    first = refl;
    next = omega arith;
    who = λ u h. refl;
    issued = λ c. omega arith;
    plans = λ c n h. refl;
    bound = λ c n h. refl;
    held = raises a.held s k u x;
    ok = λ j v m h. (
      elim h.0
          [ inl l ↦ inl (omega (arith, l, raises a.held s k u x (home j) j)) | inr o ↦ inr o ],
      h.1,
    );
    under = λ k u m h. h;
    settled = λ k u m h. h;
    origin = λ k u o h. refl;
    dead = λ k u h. h;
    due = λ j f m h. record {
      alive = h.alive;
      due =
          elim h.due [
            | inl l ↦ inl (omega (arith, l, raises a.held s k u x (home j) j))
            | inr o ↦ inr o
          ];
      most = h.most;
    };
  }

  taken_same : Same home a (with_pair a s k u x)
  taken_same = record { later = taken_later; issued = λ c. omega arith }

  -- a version that came to s in a write or a copy
  pub came_ok : (s ≡ home k) ⊎ Ok home a k u → u < a.next → Alive a.fences k u →
      Ok home (with_pair a s k u x) k u
  came_ok h m al = elim h [
    | inl e ↦ (
      inl (subst (λ (t : ℕ). u ≤ (at_two a.held s k (newer (a.held s k) u x) t k).version) e
          (reaches_new a.held s k u x)),
      al,
    )
    | inr o ↦ taken_later.ok k u m o
  ]

  pair_new : PairIs a k u x → (s ≡ home k) ⊎ Ok home a k u → Alive a.fences k u → (p : Pair) →
      PairIs a k p.version p.content × Ok home a k p.version
      → PairIs (with_pair a s k u x) k (newer p u x).version (newer p u x).content
      × Ok home (with_pair a s k u x) k (newer p u x).version
  pair_new is ok al p h =
      cond_both (nat_lt p.version u) (record { version = u; content = x }) p
      (λ q. PairIs (with_pair a s k u x) k q.version q.content
      × Ok home (with_pair a s k u x) k q.version)
      (λ y. (PairIs-later home a (with_pair a s k u x) taken_later k u x is, came_ok ok is.most al))
      (λ n. pair_later home a (with_pair a s k u x) taken_later k p h)

  taken_held : PairIs a k u x → (s ≡ home k) ⊎ Ok home a k u → Alive a.fences k u →
      ((t j : ℕ) → HeldOk home a t j) → (t j : ℕ) → HeldOk home (with_pair a s k u x) t j
  taken_held is ok al h t j =
      let b = with_pair a s k u x in
      let both : PairIs b j (b.held t j).version (b.held t j).content
      × Ok home b j (b.held t j).version =
      at_two_both a.held s k (newer (a.held s k) u x) t j
      (λ p. PairIs b j p.version p.content × Ok home b j p.version)
      (λ e1 e2. subst
      (λ (i : ℕ). PairIs b i (newer (a.held s k) u x).version (newer (a.held s k) u x).content
      × Ok home b i (newer (a.held s k) u x).version) (sym e2)
      (pair_new is ok al (a.held s k) ((h s k).pair, (h s k).ok)))
      (λ n. pair_later home a b taken_later j (a.held t j) ((h t j).pair, (h t j).ok)) in
      record { pair = both.0; ok = both.1 }

-- a server's version rises
pub guard_up : (home : ℕ → ℕ) (fs : List Applied) (s k : ℕ) (g : Guard) (n m : ℕ) → n ≤ m →
    GuardOk home fs s k g n → GuardOk home fs s k g m
guard_up home fs s k g n m l h =
    record { at = λ e. HomeGuard-up fs k g n m l (h.at e); off = h.off }

pub Kept-apply : (w : World) (g : Ghost) (s k u : ℕ) (x : Option ℕ) → PairIs (view w g) k u x →
    (s ≡ w.rack.home k) ⊎ Ok w.rack.home (view w g) k u → Alive w.fences k u → Kept w g →
    Kept (apply w s k u x) g
Kept-apply w g s k u x is ok al h =
    let home = w.rack.home in
    let a = view w g in
    let b = with_pair a s k u x in
    let l = taken_later home a s k u x in
    Keeps-same home a b (taken_same home a s k u x) w.place w.place w.sent w.sent (omega arith)
    (λ k. omega arith) (λ c n t. (t, refl)) w.core.rows w.stamps w.promoted w.guards w.guards
    w.pending w.pending w.answers (omega arith) (λ c p. p)
    (taken_held home a s k u x is ok al h.held)
    (λ j. EntryOk-later home a b l j (a.dir j) (h.entries j))
    (items_later home a b l w.sent h.items) h.traced (fences_later home a b l w.fences h.fences)
    h.nested
    (λ t j. guard_up home w.fences t j (w.guards t j) (w.held t j).version (b.held t j).version
    (l.held t j) (h.guard t j)) (RoomLeft w) (RoomLeft w) h.room w.log h

-- no Fence has a version that a write was given
pub not_promotion : (home : ℕ → ℕ) (a : View) (c n u k f : ℕ) → Given a c n u → IsPromotion a k f →
    f ≡ u → ⊥
not_promotion home a c n u k f i p is = elim p [
  | inl e ↦ absurd (omega (arith, e, is, i.least))
  | inr q ↦
      let e : id c n ≡ id k 0 = sym i.who ∙ ap a.who (sym is) ∙ q.2 in
      let z : n ≡ 0 = ap (λ (j : Id). j.seq) e in
      absurd (omega (arith, z, i.some))
]

pub no_fence : (home : ℕ → ℕ) (a : View) (c n u k : ℕ) → Given a c n u → (fs : List Applied) →
    AllByRecursion (FenceOk home a) fs → AllByRecursion (λ f. f.key ≡ k → f.version ≢ u) fs
no_fence home a c n u k i [] h = tt
no_fence home a c n u k i (f ∷ fs) h = (
  λ e is. not_promotion home a c n u f.key f.version i h.0.fence.is is,
  no_fence home a c n u k i fs h.1,
)

-- the pair that a write carries
pub pair_of_write : (home : ℕ → ℕ) (a : View) (c n u k : ℕ) (x : Option ℕ) →
    AllByRecursion (FenceOk home a) a.fences → Writing a c n k x → Given a c n u → PairIs a k u x
pair_of_write home a c n u k x fs w g = record {
  most = g.most;
  content = subst (λ (v : ℕ). ContentIs a k v x)
      (sym (origin_same a.fences k u (no_fence home a c n u k g a.fences fs)))
      (inr (g.least, g.most, subst (λ (i : Id). Writing a i.client i.seq k x) (sym g.who) w));
}

-- what a write does
abbrev pub DidIs : ℕ → Guard → ℕ → WriteDid → Type 0
DidIs held g u Takes = held < u
DidIs held g u Keeps = (u ≤ held) × (g.old < u) × ((u ≤ g.low) ⊎ (g.floor < u))
DidIs held g u Voids = (u ≤ held) × (g.low < u) × (u ≤ g.floor)
DidIs held g u Bars = Unit {0}

pub did_is : (held : ℕ) (g : Guard) (u : ℕ) → DidIs held g u (write_did held g u)
did_is held g u =
    cond_both (nat_lt held u) Takes
    (cond (nat_le u g.old) Bars
    (cond (nat_le u g.low) Keeps (cond (nat_le u g.floor) Voids Keeps))) (DidIs held g u)
    (λ y. ltb-true held u y)
    (λ n. let l : u ≤ held = ltb-false held u n in
    cond_both (nat_le u g.old) Bars
    (cond (nat_le u g.low) Keeps (cond (nat_le u g.floor) Voids Keeps)) (DidIs held g u)
    (λ y. tt)
    (λ m. let o : g.old < u = leb-false u g.old m in
    cond_both (nat_le u g.low) Keeps (cond (nat_le u g.floor) Voids Keeps) (DidIs held g u)
    (λ y. (l, o, inl (leb-true u g.low y)))
    (λ q. cond_both (nat_le u g.floor) Voids Keeps (DidIs held g u)
    (λ y. (l, leb-false u g.low q, leb-true u g.floor y))
    (λ z. (l, o, inr (leb-false u g.floor z))))))

-- a version that came in a write to s is alive, where s takes it or keeps what it has
alive_write : (home : ℕ → ℕ) (fs : List Applied) (s k u : ℕ) (g : Guard) (held : ℕ) →
    GuardOk home fs s k g held → (s ≡ home k) ⊎ Alive fs k u
    → (held < u) ⊎ ((g.old < u) × ((u ≤ g.low) ⊎ (g.floor < u))) → Alive fs k u
alive_write home fs s k u g held h from did = elim from [
  | inr al ↦ al
  | inl e ↦
      let q = h.at e in
      elim did [
        | inl l ↦ alive_high fs k g held q u (omega (arith, q.floor, l))
        | inr l ↦ elim l.1
            [ inl m ↦ alive_kept fs k g held q u l.0 m | inr m ↦ alive_high fs k g held q u m ]
      ]
]

module _ (w : World) (g : Ghost) (sw s c n u k : ℕ) (x : Option ℕ)
    (i : ItemOk w.rack.home (view w g) (item (Server s) (ToServerWrite c n u sw k x)))
    (h : Kept w g) where
  from_ok : (s ≡ w.rack.home k) ⊎ Ok w.rack.home (view w g) k u
  from_ok = elim i.ok [ inl e ↦ inl e | inr o ↦ inr o.0 ]

  from_alive : (s ≡ w.rack.home k) ⊎ Alive w.fences k u
  from_alive = elim i.ok [ inl e ↦ inl e | inr o ↦ inr o.0.1 ]

  pub Kept-write_takes : (w.held s k).version < u →
      Kept (send (apply w s k u x) (item (Switch sw) (WriteReply c n u s sw k))) g
  Kept-write_takes above =
      let home = w.rack.home in
      let a = view w g in
      let l = taken_later home a s k u x in
      let al = alive_write home w.fences s k u (w.guards s k) (w.held s k).version (h.guard s k)
      from_alive (inl above) in
      Kept-send (apply w s k u x) g (item (Switch sw) (WriteReply c n u s sw k))
      (Kept-apply w g s k u x (pair_of_write home a c n u k x h.fences i.op i.given) from_ok al h)
      (record {
        op = (x, Writing-later home a (with_pair a s k u x) l c n k x i.op);
        given = Given-later home a (with_pair a s k u x) l c n u i.given;
        report = record {
          most = i.given.most;
          held = reaches_new a.held s k u x;
          ok =
              came_ok home a s k u x from_ok i.given.most al;
        };
        settled = tt;
      })

  pub Kept-write_keeps : u ≤ (w.held s k).version → (w.guards s k).old < u →
      (u ≤ (w.guards s k).low) ⊎ ((w.guards s k).floor < u) →
      Kept (send w (item (Switch sw) (WriteReply c n u s sw k))) g
  Kept-write_keeps at o r =
      let home = w.rack.home in
      let a = view w g in
      let al = alive_write home w.fences s k u (w.guards s k) (w.held s k).version (h.guard s k)
      from_alive (inr (o, r)) in
      let ok : Ok home a k u =
      elim from_ok
      [ inl e ↦ (inl (subst (λ (t : ℕ). u ≤ (w.held t k).version) e at), al) | inr y ↦ y ]
      in
      Kept-send w g (item (Switch sw) (WriteReply c n u s sw k)) h
      (record {
        op = (x, i.op);
        given = i.given;
        report =
            record { most = i.given.most; held = at; ok = ok };
        settled = tt;
      })

  pub Kept-write_voids : (w.guards s k).low < u → u ≤ (w.guards s k).floor →
      Kept (send w (item (Switch sw) (Void c n u s sw k))) g
  Kept-write_voids l m =
      let home = w.rack.home in
      let a = view w g in
      Kept-send w g (item (Switch sw) (Void c n u s sw k)) h
      (record {
        op = (x, i.op);
        given = i.given;
        dead = elim (cases_eq s (home k)) [
          | inl e ↦ dead_voided w.fences k (w.guards s k) (w.held s k).version ((h.guard s k).at e)
              u (no_fence home a c n u k i.given w.fences h.fences) l m
          | inr ne ↦ absurd (omega (arith, ((h.guard s k).off ne).floor, l, m))
        ];
      })

pub Kept-copy_comes : (w : World) (g : Ghost) (sw s u k : ℕ) (x : Option ℕ) →
    ItemOk w.rack.home (view w g) (item (Server s) (CopyData u sw k x)) → Kept w g
    → Kept (send (apply w s k u x) (item (Switch sw) (Held s u k))) g
Kept-copy_comes w g sw s u k x i h =
    let home = w.rack.home in
    let a = view w g in
    let l = taken_later home a s k u x in
    Kept-send (apply w s k u x) g (item (Switch sw) (Held s u k))
    (Kept-apply w g s k u x i.pair (inr i.ok) i.ok.1 h)
    (record {
      report = record {
        most = i.pair.most;
        held = reaches_new a.held s k u x;
        ok =
            came_ok home a s k u x (inr i.ok) i.pair.most i.ok.1;
      };
      of = inr (x, PairIs-later home a (with_pair a s k u x) l k u x i.pair);
    })

pub Kept-read_comes : (w : World) (g : Ghost) (sw s c n k : ℕ) →
    ItemOk w.rack.home (view w g) (item (Server s) (ToServerRead c n sw k)) → Kept w g
    → Kept (send w
    (item (Switch sw) (ReadReply c n (w.held s k).version s sw k (w.held s k).content))) g
Kept-read_comes w g sw s c n k i h =
    let p = h.held s k in
    Kept-send w g
    (item (Switch sw) (ReadReply c n (w.held s k).version s sw k (w.held s k).content)) h
    (record {
      op = i.op;
      reaches = i.reaches;
      pair = p.pair;
      report = record { most = p.pair.most; held = omega arith; ok = p.ok };
      settled = tt;
    })

pub Kept-copy_from : (w : World) (g : Ghost) (sw target k : ℕ) (p : Pair) →
    PairIs (view w g) k p.version p.content → Ok w.rack.home (view w g) k p.version → Kept w g
    → Kept (send w (item (Server target) (CopyData p.version sw k p.content))) g
Kept-copy_from w g sw target k p is ok h =
    Kept-send w g (item (Server target) (CopyData p.version sw k p.content)) h
    (record { pair = is; ok = ok })

-- a Fence that was sent, and comes to its key's home
pub Kept-fence_kept : (w : World) (g : Ghost) (sw s k f : ℕ) → s ≡ w.rack.home k →
    f ≤ (w.held s k).version → IsFence w.rack.home (view w g) k f → Kept w g
    → Kept (send w (item (Switch sw) (Held s f k))) g
Kept-fence_kept w g sw s k f at l i h =
    Kept-send w g (item (Switch sw) (Held s f k)) h
    (record {
      report = record {
        most = i.most;
        held = l;
        ok =
            (inl (subst (λ (t : ℕ). f ≤ (w.held t k).version) at l), i.due.alive);
      };
      of =
          inl i.is;
    })

abbrev pub with_fence : View → ℕ → ℕ → ℕ → View
with_fence a s k f = record a {
  held = at_two a.held s k (raised_to (a.held s k) f);
  fences =
      applied_fence a.fences k f (a.held s k).version ∷ a.fences;
}

loose_above : (o : Option Entry) (f u : ℕ) → Loose o u → HasBase o f → f ≤ u
loose_above None f u l b = absurd l
loose_above (Some e) f u l b = omega (arith, l.0, b)

same_base : (o : Option Entry) (f f' : ℕ) → HasBase o f → HasBase o f' → f ≡ f'
same_base None f f' b b' = absurd b
same_base (Some e) f f' b b' = sym b ∙ b'

module _ (home : ℕ → ℕ) (a : View) (s k f : ℕ) (at : s ≡ home k) (above : (a.held s k).version < f)
    (i : IsFence home a k f) (fences : AllByRecursion (FenceOk home a) a.fences) where
  abbrev new : Applied
  new = applied_fence a.fences k f (a.held s k).version

  home_held : (a.held (home k) k).version ≡ (a.held s k).version
  home_held = ap (λ t. (a.held t k).version) (sym at)

  has_base : HasBase (a.dir k) f
  has_base = elim i.due.due [ inl l ↦ absurd (omega (arith, l, home_held, above)) | inr b ↦ b ]

  fence_raises : (t j : ℕ) →
      (a.held t j).version ≤ (at_two a.held s k (raised_to (a.held s k) f) t j).version
  fence_raises t j = at_two_both a.held s k (raised_to (a.held s k) f) t j
      (λ q. (a.held t j).version ≤ q.version)
      (λ e1 e2. let e : (a.held t j).version ≡ (a.held s k).version =
      ap (λ b. (a.held b j).version) e1 ∙ ap (λ b. (a.held s b).version) e2 in
      omega (arith, e, above))
      (λ n. omega arith)

  -- the key's Fences that were applied are below what its home holds
  fences_low : (fs : List Applied) → AllByRecursion (FenceOk home a) fs →
      AllByRecursion (λ g. g.key ≡ k → g.version ≤ (a.held s k).version) fs
  fences_low [] h = tt
  fences_low (g ∷ gs) h = (
    λ e. let same : (a.held (home g.key) g.key).version ≡ (a.held (home k) k).version =
        ap (λ j. (a.held (home j) j).version) e in omega (arith, h.0.held, same, home_held),
    fences_low gs h.1,
  )

  -- what was in sight stays in sight
  outside : (j u : ℕ) → Covers (a.held (home j) j).version (a.dir j) u → Outside j u new
  outside j u c e = elim c [
    | inl l ↦ inl
        (let same : (a.held (home k) k).version ≡ (a.held (home j) j).version =
        ap (λ b. (a.held (home b) b).version) e in omega (arith, l, same, home_held))
    | inr o ↦ inr (loose_above (a.dir j) f u o (subst (λ (b : ℕ). HasBase (a.dir b) f) e has_base))
  ]

  not_written : (o : Option ℕ) → ContentIs a k f o → ⊥
  not_written o c = elim c [
    | inl e ↦ omega (arith, e.0, i.least)
    | inr c ↦ elim i.is [
      | inl e ↦ omega (arith, e, c.0)
      | inr p ↦ let z : (a.who f).seq ≡ 0 = ap (λ (j : Id). j.seq) p.2 in
          omega (arith, z, c.2.issued.least)
    ]
  ]

  pub fence_later : Later home a (with_fence a s k f)
  fence_later = record {
    first = refl;
    next = omega arith;
    who = λ u h. refl;
    issued = λ c. omega arith;
    plans = λ c n h. refl;
    bound = λ c n h. refl;
    held = fence_raises;
    ok = λ j v m h. (
      elim h.0 [ inl l ↦ inl (omega (arith, l, fence_raises (home j) j)) | inr o ↦ inr o ],
      (outside j v h.0, h.1),
    );
    under = λ k u m h. h;
    settled = λ k u m h. h;
    origin = λ j u o h. origin_skip new a.fences j u (λ e1 e2.
        let same : origin_of a.fences k f ≡ f = origin_same a.fences k f
        (all_weaker (λ g. g.key ≡ k → g.version ≤ (a.held s k).version)
        (λ g. g.key ≡ k → g.version ≢ f) (λ g q e. omega (arith, q e, above)) a.fences
        (fences_low a.fences fences)) in
        not_written o (subst (λ (v : ℕ). ContentIs a k v o) same
        (subst₂ (λ (b v : ℕ). ContentIs a b (origin_of a.fences b v) o) (sym e1) (sym e2)
        h.content)));
    dead = λ j u h. inr h;
    due = λ j f' m h. record {
      alive = (
        λ e. elim h.due [
          | inl l ↦ outside j f' (inl l) e
          | inr b ↦ inr
              (let x : f ≡ f' = same_base (a.dir j) f f'
              (subst (λ (c : ℕ). HasBase (a.dir c) f) e has_base) b in omega (arith, x))
        ],
        h.alive,
      );
      due = elim h.due [ inl l ↦ inl (omega (arith, l, fence_raises (home j) j)) | inr b ↦ inr b ];
      most = h.most;
    };
  }

  pub fence_reaches : f ≤ ((with_fence a s k f).held s k).version
  fence_reaches = subst (λ (p : Pair). f ≤ p.version)
      (sym (at_two_same a.held s k (raised_to (a.held s k) f))) (omega arith)

  pub fence_ok : Ok home (with_fence a s k f) k f
  fence_ok = (
    inl (subst (λ (t : ℕ). f ≤ ((with_fence a s k f).held t k).version) at fence_reaches),
    (λ e. inr (omega arith), i.due.alive),
  )

  fence_pair : (p : Pair) → (a.held s k).version ≡ p.version → PairIs a k p.version p.content →
      PairIs (with_fence a s k f) k f p.content
  fence_pair p e h = record {
    most = i.most;
    content =
        let e2 : origin_of (new ∷ a.fences) k f ≡ origin_of a.fences k p.version =
        origin_hit new a.fences k f refl refl ∙ ap (origin_of a.fences k) e in
        subst (λ (v : ℕ). ContentIs (with_fence a s k f) k v p.content) (sym e2)
        (content_later home a (with_fence a s k f) fence_later k (origin_of a.fences k p.version)
        p.content h.content);
  }

  fence_held : ((t j : ℕ) → HeldOk home a t j) → (t j : ℕ) → HeldOk home (with_fence a s k f) t j
  fence_held h t j =
      let b = with_fence a s k f in
      let both : PairIs b j (b.held t j).version (b.held t j).content
      × Ok home b j (b.held t j).version =
      at_two_both a.held s k (raised_to (a.held s k) f) t j
      (λ p. PairIs b j p.version p.content × Ok home b j p.version)
      (λ e1 e2. subst (λ (c : ℕ). PairIs b c f (a.held s k).content × Ok home b c f) (sym e2)
      (fence_pair (a.held s k) refl (h s k).pair, fence_ok))
      (λ n. pair_later home a b fence_later j (a.held t j) ((h t j).pair, (h t j).ok)) in
      record { pair = both.0; ok = both.1 }

  fence_guard : (guards : ℕ → ℕ → Guard) →
      ((t j : ℕ) → GuardOk home a.fences t j (guards t j) (a.held t j).version)
      → (t j : ℕ) → GuardOk home (new ∷ a.fences) t j
      (at_two guards s k (guarded (guards s k) (a.held s k).version f) t j)
      ((with_fence a s k f).held t j).version
  fence_guard guards h t j =
      let g' = guarded (guards s k) (a.held s k).version f in
      elim (at_two_cases s k t j) [
        | inl y ↦
            subst₂ (λ (q : Guard) (p : Pair). GuardOk home (new ∷ a.fences) t j q p.version)
            (sym (at_two_at guards s k g' t j y.0 y.1))
            (sym (at_two_at a.held s k (raised_to (a.held s k) f) t j y.0 y.1))
            (subst₂ (λ (t' j' : ℕ). GuardOk home (new ∷ a.fences) t' j' g' f) (sym y.0) (sym y.1)
            (record {
              at = λ e. HomeGuard-fence a.fences k (guards s k) (a.held s k).version
                  ((h s k).at at) f above;
              off = λ ne. absurd (ne at);
            }))
        | inr n ↦
            subst₂ (λ (q : Guard) (p : Pair). GuardOk home (new ∷ a.fences) t j q p.version)
            (sym (at_two_off guards s k g' t j n))
            (sym (at_two_off a.held s k (raised_to (a.held s k) f) t j n))
            (record {
              at = λ e. HomeGuard-other a.fences j (guards t j) (a.held t j).version new
                  (λ z. n (e ∙ ap home (sym z) ∙ sym at) (sym z)) ((h t j).at e);
              off = (h t j).off;
            })
      ]

pub Kept-fence : (w : World) (g : Ghost) (s k f : ℕ) → s ≡ w.rack.home k →
    (w.held s k).version < f → IsFence w.rack.home (view w g) k f → Kept w g →
    Kept (fence w s k f) g
Kept-fence w g s k f at above i h =
    let home = w.rack.home in
    let a = view w g in
    let b = with_fence a s k f in
    let l = fence_later home a s k f at above i h.fences in
    Keeps-same home a b (record { later = l; issued = λ c. omega arith }) w.place w.place w.sent
    w.sent (omega arith)
    (λ k. omega arith) (λ c n t. (t, refl)) w.core.rows w.stamps w.promoted w.guards
    (fence w s k f).guards w.pending w.pending w.answers (omega arith) (λ c p. p)
    (fence_held home a s k f at above i h.fences h.held)
    (λ j. EntryOk-later home a b l j (a.dir j) (h.entries j))
    (items_later home a b l w.sent h.items) h.traced (
      record {
        held = subst (λ (t : ℕ). f ≤ (b.held t k).version) at
            (fence_reaches home a s k f at above i h.fences);
        fence = IsFence-later home a b l k f i;
      },
      fences_later home a b l w.fences h.fences,
    )
    (fences_low home a s k f at above i h.fences w.fences h.fences, above, refl, h.nested)
    (fence_guard home a s k f at above i h.fences w.guards h.guard) (RoomLeft w) (RoomLeft w) h.room
    w.log h

pub Kept-fence_comes : (w : World) (g : Ghost) (sw s k f : ℕ) → s ≡ w.rack.home k →
    (w.held s k).version < f → IsFence w.rack.home (view w g) k f → Kept w g
    → Kept (send (fence w s k f) (item (Switch sw) (Held s f k))) g
Kept-fence_comes w g sw s k f at above i h =
    let home = w.rack.home in
    let a = view w g in
    Kept-send (fence w s k f) g (item (Switch sw) (Held s f k)) (Kept-fence w g s k f at above i h)
    (record {
      report = record {
        most = i.most;
        held = fence_reaches home a s k f at above i h.fences;
        ok =
            fence_ok home a s k f at above i h.fences;
      };
      of = inl (IsPromotion-later home a (with_fence a s k f)
          (fence_later home a s k f at above i h.fences) k f i.is);
    })
