-- What a change of the directory keeps: replies that are noted, listings and marks.
use Rattle.std.proofs.Common.{length, length-append, not, ◌≡◌, ◌≢◌, ℕ, ◌+◌, ◌<◌, ◌≤◌, ◌⊎◌, ◌==◌}
use Rattle.std.proofs.Common.{◌&&◌, nat_lt, inl, inr, Bool, true, false, cond, List, [], ◌∷◌}
use Rattle.std.proofs.Common.{Option, Some, None, ◌++◌, arith, sym, refl, subst, ◌∙◌, ap, eqb-true}
use Rattle.std.proofs.Common.{eq-eqb, ltb-true, ltb-false, leb-true}
use Rattle.std.proofs.lemmas.Bool.{cond_both, and_parts, cases_eq, ne_eqb, eqb-false, not-true}
use Rattle.std.specs.List.{AllByRecursion}
use Rattle.peg_protocol.specs.Core.{Entry, entry_of, put, add_holder, raised, reaches, noted, note}
use Rattle.peg_protocol.specs.Core.{fresh, lists, promote, promotions, marked, demote, at_one, top}
use Rattle.peg_protocol.specs.Machine.{World, Id, id, entry}
use Rattle.peg_protocol.specs.Law.{HasBase, AtMostBase, times_in}
use Rattle.peg_protocol.proofs.Facts.{RoomLeft, Owned, Alive, IsDue, MarkOk, Version, Stamps}
use Rattle.peg_protocol.proofs.Facts.{Traced, View, BelowMark, UnderMark, Covers, SettledBy, Ok}
use Rattle.peg_protocol.proofs.Facts.{Report, IsEntryOk, EntryOk, Ghost, view, Kept}
use Rattle.peg_protocol.proofs.Keep.{Later, Later-refl, Same, Given-later, Version-later}
use Rattle.peg_protocol.proofs.Keep.{RowOk-later, given_issued, fences_later, pair_later}
use Rattle.peg_protocol.proofs.Keep.{items_later, EntryOk-later, History-same, Keeps-same}
use Rattle.peg_protocol.proofs.Servers.{at_one_both, at_one_same, at_one_at, at_one_off}
use Rattle.peg_protocol.proofs.Counting.{put_most}
use Rattle.peg_protocol.proofs.Directory.{OfKey, entry_of-put_other, entry_of-put_same}
use Rattle.peg_protocol.proofs.Directory.{entry_of-push_same, entry_of-push_other, all_added}
use Rattle.peg_protocol.proofs.Directory.{some_added}

abbrev pub with_dir : View → (ℕ → Option Entry) → View
with_dir a d = record a { dir = d }

-- what the new entry of a key owes to the old one: held is the version of the key's home
pub record Follows (home : ℕ → ℕ) (a : View) (k : ℕ) (old new : Option Entry) : Type 0 where
  pub covers : (u : ℕ) → u < a.next → Covers (a.held (home k) k).version old u →
      Covers (a.held (home k) k).version new u
  pub under : (u : ℕ) → u < a.next → UnderMark old u → UnderMark new u
  pub settled : (u : ℕ) → u < a.next → SettledBy old u → SettledBy new u
  pub entry : EntryOk home a k new
  pub due : (f : ℕ) → f < a.next → (f ≤ (a.held (home k) k).version) ⊎ HasBase old f →
      AtMostBase old f → ((f ≤ (a.held (home k) k).version) ⊎ HasBase new f) × AtMostBase new f

module _ (home : ℕ → ℕ) (a : View) (k : ℕ) (d : ℕ → Option Entry)
    (other : (j : ℕ) → (j ≡ k → ⊥) → d j ≡ a.dir j) (f : Follows home a k (a.dir k) (d k)) where
  dir_ok : (j u : ℕ) → u < a.next → Ok home a j u → Ok home (with_dir a d) j u
  dir_ok j u m h =
      elim (cases_eq j k) [
        | inl e ↦ (
          subst (λ (i : ℕ). Covers (a.held (home i) i).version (a.dir i) u →
              Covers (a.held (home i) i).version (d i) u) (sym e) (f.covers u m) h.0,
          h.1,
        )
        | inr n ↦ (
          subst (λ (o : Option Entry). Covers (a.held (home j) j).version o u) (sym (other j n))
              h.0,
          h.1,
        )
      ]

  dir_due : (j u : ℕ) → u < a.next → IsDue home a j u → IsDue home (with_dir a d) j u
  dir_due j u m h =
      let x : ((u ≤ (a.held (home j) j).version) ⊎ HasBase (d j) u) × AtMostBase (d j) u =
      elim (cases_eq j k) [
        | inl e ↦
            subst (λ (i : ℕ). (u ≤ (a.held (home i) i).version) ⊎ HasBase (a.dir i) u →
            AtMostBase (a.dir i) u →
            ((u ≤ (a.held (home i) i).version) ⊎ HasBase (d i) u) × AtMostBase (d i) u)
            (sym e)
            (f.due u m) h.due h.most
        | inr n ↦ subst
            (λ (o : Option Entry). ((u ≤ (a.held (home j) j).version) ⊎ HasBase o u)
            × AtMostBase o u) (sym (other j n)) (h.due, h.most)
      ] in
      record { alive = h.alive; due = x.0; most = x.1 }

  dir_settled : (j u : ℕ) → u < a.next → SettledBy (a.dir j) u → SettledBy (d j) u
  dir_settled j u m h =
      elim (cases_eq j k) [
        | inl e ↦ subst (λ (i : ℕ). SettledBy (a.dir i) u → SettledBy (d i) u) (sym e)
            (f.settled u m) h
        | inr n ↦ subst (λ (o : Option Entry). SettledBy o u) (sym (other j n)) h
      ]

  dir_under : (j u : ℕ) → u < a.next → UnderMark (a.dir j) u → UnderMark (d j) u
  dir_under j u m h =
      elim (cases_eq j k) [
        | inl e ↦ subst (λ (i : ℕ). UnderMark (a.dir i) u → UnderMark (d i) u) (sym e) (f.under u m)
            h
        | inr n ↦ subst (λ (o : Option Entry). UnderMark o u) (sym (other j n)) h
      ]

  pub dir_later : Later home a (with_dir a d)
  dir_later = record {
    first = refl;
    next = omega arith;
    who = λ u h. refl;
    issued = λ c. omega arith;
    plans = λ c n h. refl;
    bound = λ c n h. refl;
    held = λ s j. omega arith;
    ok = dir_ok;
    under = dir_under;
    settled = dir_settled;
    origin = λ k u o h. refl;
    dead = λ k u h. h;
    due = dir_due;
  }

  pub dir_same : Same home a (with_dir a d)
  dir_same = record { later = dir_later; issued = λ c. omega arith }

  pub dir_entries : ((j : ℕ) → EntryOk home a j (a.dir j)) → (j : ℕ) →
      EntryOk home (with_dir a d) j (d j)
  dir_entries h j =
      EntryOk-later home a (with_dir a d) dir_later j (d j)
      (elim (cases_eq j k) [
        | inl e ↦ subst (λ (i : ℕ). EntryOk home a i (d i)) (sym e) f.entry
        | inr n ↦ subst (λ (o : Option Entry). EntryOk home a j o) (sym (other j n)) (h j)
      ])

-- a world with other entries
abbrev pub with_entries : World → List Entry → ℕ → World
with_entries w es last = record w { core = record w.core { entries = es; last = last } }

pub Kept-dir : (w : World) (g : Ghost) (k : ℕ) (es : List Entry) (last : ℕ)
    → (RoomLeft w → RoomLeft (with_entries w es last)) →
    ((j : ℕ) → (j ≡ k → ⊥) → entry_of j es ≡ entry w j) →
    Follows w.rack.home (view w g) k (entry w k) (entry_of k es)
    → Kept w g → Kept (with_entries w es last) g
    × Later w.rack.home (view w g) (view (with_entries w es last) g)
Kept-dir w g k es last room other f h =
    let home = w.rack.home in
    let a = view w g in
    let d : ℕ → Option Entry = λ j. entry_of j es in
    let l = dir_later home a k d other f in (
      Keeps-same home a (with_dir a d) (dir_same home a k d other f) w.place w.place w.sent w.sent
          (omega arith)
          (λ k. omega arith) (λ c n t. (t, refl)) w.core.rows w.stamps w.promoted w.guards w.guards
          w.pending w.pending w.answers (omega arith) (λ c p. p)
          (λ t j. let p = pair_later home a (with_dir a d) l j (a.held t j)
          ((h.held t j).pair, (h.held t j).ok) in record { pair = p.0; ok = p.1 })
          (dir_entries home a k d other f h.entries)
          (items_later home a (with_dir a d) l w.sent h.items) h.traced
          (fences_later home a (with_dir a d) l w.fences h.fences) h.nested h.guard (RoomLeft w)
          (RoomLeft (with_entries w es last)) (room h.room) w.log h,
      l,
    )

-- the entry of a listed key is put in place, or removed
pub Kept-put : (w : World) (g : Ghost) (k : ℕ) (e : Entry) (o : Option Entry) (last : ℕ) →
    entry w k ≡ Some e → OfKey k o
    → Follows w.rack.home (view w g) k (Some e) o → Kept w g
    → Kept (with_entries w (put k o w.core.entries) last) g
    × Later w.rack.home (view w g) (view (with_entries w (put k o w.core.entries) last) g)
Kept-put w g k e o last is of f h =
    let same : entry_of k (put k o w.core.entries) ≡ o =
    entry_of-put_same k o w.core.entries e of is in
    Kept-dir w g k (put k o w.core.entries) last
    (λ r l. let m = put_most k o w.core.entries in omega (arith, m, r l))
    (λ j n. entry_of-put_other j k o w.core.entries of n)
    (subst (λ (x : Option Entry). Follows w.rack.home (view w g) k x
    (entry_of k (put k o w.core.entries))) (sym is)
    (subst (λ (x : Option Entry). Follows w.rack.home (view w g) k (Some e) x) (sym same) f)) h

-- what is known after a reply was noted
pub record Noted (home : ℕ → ℕ) (a : View) (k u : ℕ) (e : Entry) (o : Option Entry) : Type 0 where
  pub of : OfKey k o
  pub follows : Follows home a k (Some e) o
  pub settled : SettledBy o u

module _ (home : ℕ → ℕ) (a : View) (s k u : ℕ) (e : Entry) (is : a.dir k ≡ Some e)
    (h : IsEntryOk home a k e) (r : Report home a s k u) where
  covered : Covers (a.held (home k) k).version (Some e) u × Alive a.fences k u
  covered = (subst (λ (o : Option Entry). Covers (a.held (home k) k).version o u) is r.ok.0, r.ok.1)

  -- a report of what was completed shows that the home has it
  all_have : u ≡ e.completed → AllByRecursion (λ t. e.completed ≤ (a.held t k).version) e.holders
  all_have same =
      elim h.holding [
        | inl all ↦ all
        | inr first ↦ subst
            (λ (ss : List ℕ). AllByRecursion (λ t. e.completed ≤ (a.held t k).version) ss)
            (sym first.1)
            (let l : e.completed ≤ (a.held (home k) k).version =
            elim covered.0 [
              | inl l ↦ omega (arith, l, same)
              | inr o ↦ absurd
                  (omega (arith, o.0, first.0, same))
            ] in (l, tt))
      ]

  raised_noted : Noted home a k u e (Some (raised s u e))
  raised_noted =
      cond_both (nat_lt e.completed u) (record e { completed = u; holders = s ∷ [] })
      (cond (u == e.completed) (record e { holders = add_holder s e.holders }) e)
      (λ e'. Noted home a k u e (Some e'))
      (λ y. let l : e.completed < u = ltb-true e.completed u y in record {
        of = h.key;
        follows = record {
          covers = λ v m c. c;
          under = λ v m c. c;
          settled = λ v m t. omega (arith, t, l);
          entry = record {
            key = h.key;
            base = omega (arith, h.base, l);
            most = r.most;
            is = h.is;
            mark =
                h.mark;
            some = omega arith;
            holding = inl (r.held, tt);
          };
          due = λ f m d b. (d, b);
        };
        settled = omega arith;
      })
      (λ n. let l : u ≤ e.completed = ltb-false e.completed u n in
      cond_both (u == e.completed) (record e { holders = add_holder s e.holders }) e
      (λ e'. Noted home a k u e (Some e'))
      (λ y. let same : u ≡ e.completed = eqb-true u e.completed y in record {
        of = h.key;
        follows = record {
          covers = λ v m c. c;
          under = λ v m c. c;
          settled = λ v m t. t;
          entry = record {
            key = h.key;
            base = h.base;
            most = h.most;
            is = h.is;
            mark = h.mark;
            some = some_added s e.holders;
            holding = inl
                (all_added (λ t. e.completed ≤ (a.held t k).version) s e.holders
                (omega (arith, r.held, same)) (all_have same));
          };
          due = λ f m d b. (d, b);
        };
        settled = l;
      })
      (λ n. record {
        of = h.key;
        follows =
            record {
              covers = λ v m c. c;
              under = λ v m c. c;
              settled = λ v m t. t;
              entry = h;
              due = λ f m d b. (d, b);
            };
        settled = l;
      }))

  removed_covers : s ≡ home k → (m : Option ℕ) → reaches m u ≡ true → (v : ℕ) →
      (v ≤ (a.held (home k) k).version) ⊎ ((e.base < v) × BelowMark m v) →
      v ≤ (a.held (home k) k).version
  removed_covers at None t v c = absurd (cc)
  removed_covers at (Some m) t v c =
      let l : m ≤ u = leb-true m u t in
      let l' : u ≤ (a.held (home k) k).version =
      subst (λ (x : ℕ). u ≤ (a.held x k).version) at r.held in
      elim c [ inl x ↦ x | inr x ↦ omega (arith, x.1, l, l') ]

  removed_due : s ≡ home k → (m : Option ℕ) → MarkOk a.next e.base m → reaches m u ≡ true →
      (f : ℕ) → (f ≤ (a.held (home k) k).version) ⊎ (e.base ≡ f) → f ≤ (a.held (home k) k).version
  removed_due at None b t f d = absurd (cc)
  removed_due at (Some m) b t f d =
      let l : m ≤ u = leb-true m u t in
      let l' : u ≤ (a.held (home k) k).version =
      subst (λ (x : ℕ). u ≤ (a.held x k).version) at r.held in
      elim d [ inl x ↦ x | inr x ↦ omega (arith, x, b.0, l, l') ]

  pub noted_ok : Noted home a k u e (noted (home k) s u e)
  noted_ok =
      cond_both (s == home k && reaches e.mark u) None (Some (raised s u e)) (Noted home a k u e)
      (λ y. let p = and_parts (s == home k) (reaches e.mark u) y in record {
        of = tt;
        follows = record {
          covers = λ v m c. inl (removed_covers (eqb-true s (home k) p.0) e.mark p.1 v c);
          under = λ v m t. tt;
          settled = λ v m t. tt;
          entry = tt;
          due = λ f m d b. (inl (removed_due (eqb-true s (home k) p.0) e.mark h.mark p.1 f d), tt);
        };
        settled = tt;
      })
      (λ n. raised_noted)

-- a report is noted, and then what it says is settled
pub note_by : (w : World) (g : Ghost) (s k u : ℕ) (o : Option Entry) → entry w k ≡ o →
    Report w.rack.home (view w g) s k u → Kept w g
    → Kept (record w { core = note w.rack s u k o w.core }) g
    × Later w.rack.home (view w g) (view (record w { core = note w.rack s u k o w.core }) g)
    × SettledBy (entry_of k (note w.rack s u k o w.core).entries) u
note_by w g s k u None is r h =
    (h, Later-refl w.rack.home (view w g), subst (λ (x : Option Entry). SettledBy x u) (sym is) tt)
note_by w g s k u (Some e) is r h =
    let home = w.rack.home in
    let a = view w g in
    let ok : IsEntryOk home a k e =
    subst (λ (x : Option Entry). EntryOk home a k x) is (h.entries k) in
    let n = noted_ok home a s k u e is ok r in
    let o = noted (home k) s u e in
    let p = Kept-put w g k e o w.core.last is n.of n.follows h in (
      p.0,
      p.1,
      subst (λ (x : Option Entry). SettledBy x u)
          (sym (entry_of-put_same k o w.core.entries e n.of is)) n.settled,
    )

-- a promotion of k takes the next version
abbrev pub takes_version : World → World
takes_version w = record w
    { core = record w.core { next = w.core.next + 1 }; promoted = w.core.next ∷ w.promoted }

abbrev pub promotes : World → Ghost → ℕ → Ghost
promotes w g k = record g { who = at_one g.who w.core.next (id k 0) }

module _ (w : World) (g : Ghost) (k : ℕ) (h : Kept w g) where
  version_who : (u : ℕ) → u < w.core.next → at_one g.who w.core.next (id k 0) u ≡ g.who u
  version_who u m = at_one_off g.who w.core.next (id k 0) u (λ e. omega (arith, e, m))

  version_later : Later w.rack.home (view w g) (view (takes_version w) (promotes w g k))
  version_later = record {
    first = refl;
    next = omega arith;
    who = version_who;
    issued = λ c. omega arith;
    plans = λ c n h. refl;
    bound = λ c n h. refl;
    held = λ s k. omega arith;
    ok = λ k u m h. h;
    under = λ k u m h. h;
    settled = λ k u m h. h;
    origin = λ k u o h. refl;
    dead = λ k u h. h;
    due = λ k f m h. record { alive = h.alive; due = h.due; most = h.most };
  }

  version_stamps : Stamps (view (takes_version w) (promotes w g k)) w.core.rows w.stamps
  version_stamps =
      let home = w.rack.home in
      let a = view w g in
      let b = view (takes_version w) (promotes w g k) in
      record {
        least = h.versions.least;
        most = omega (arith, h.versions.most);
        each = λ u l m. at_one_both g.who w.core.next (id k 0) u
            (λ i. 1 ≤ i.seq → Version b w.core.rows w.stamps i.client i.seq u)
            (λ e t. absurd (omega (arith, t)))
            (λ ne t. Version-later home a b version_later w.core.rows w.stamps (g.who u).client
            (g.who u).seq u (h.versions.each u l (omega (arith, m, ne)) t));
        row = λ c. RowOk-later home a b version_later w.stamps c (w.core.rows c)
            (given_issued a w.core.rows w.stamps h.versions c) (h.versions.row c);
        stamp = λ c n. elim (h.versions.stamp c n) [
          | inl z ↦ inl z
          | inr i ↦ inr (Given-later home a b version_later c n (w.stamps c n) i)
        ];
      }

  others : (u : ℕ) → w.core.next ≢ u → times_in u (w.core.next ∷ w.promoted) ≡ times_in u w.promoted
  others u ne = let f : (w.core.next == u) ≡ false = ne_eqb w.core.next u ne in rw f (omega arith)

  version_traced : Traced w.rack.first (w.core.next + 1) (promotes w g k).who w.core.rows w.stamps
      (w.core.next ∷ w.promoted) w.sent
  version_traced = record {
    none = λ u l. others u (λ e. omega (arith, l, e)) ∙ h.traced.none u (omega (arith, l));
    each = λ u l m. elim (cases_eq u w.core.next) [
      | inl e ↦
          let i : (promotes w g k).who u ≡ id k 0 = at_one_at g.who w.core.next (id k 0) u e in
          let z : ((promotes w g k).who u).seq ≡ 0 = ap (λ (j : Id). j.seq) i in
          let t : (w.core.next == u) ≡ true = eq-eqb w.core.next u (sym e) in
          let n : times_in u w.promoted ≡ 0 = h.traced.none u (omega (arith, e)) in
          record {
            promotion = λ x. rw t (omega (arith, n));
            write =
                λ x. absurd (omega (arith, x, z));
          }
      | inr ne ↦
          let lt : u < w.core.next = omega (arith, m, ne) in
          let o = h.traced.each u l lt in
          let same = others u (λ e. ne (sym e)) in
          subst (λ (i : Id). Owned i (w.core.next ∷ w.promoted) w.sent u) (sym (version_who u lt))
          (record {
            promotion = λ x. same ∙ o.promotion x;
            write =
                λ x. (same ∙ (o.write x).0, (o.write x).1);
          })
    ];
    open_row = h.traced.open_row;
    again = λ u v l m n e t.
        let lu : u < w.core.next = omega (arith, m, n) in
        let eu : (promotes w g k).who u ≡ g.who u = version_who u lu in
        let tu : 1 ≤ (g.who u).seq = subst (λ (i : Id). 1 ≤ i.seq) eu t in
        elim (cases_eq v w.core.next) [
          | inl ev ↦
              let i : g.who u ≡ id k 0 = sym eu ∙ e ∙ at_one_at g.who w.core.next (id k 0) v ev in
              let z : (g.who u).seq ≡ 0 = ap (λ (j : Id). j.seq) i in
              absurd (omega (arith, z, tu))
          | inr nv ↦
              let lv : v < w.core.next = omega (arith, n, nv) in
              h.traced.again u v l m lv (sym eu ∙ e ∙ version_who v lv) tu
        ];
  }

  pub Kept-version : Kept (takes_version w) (promotes w g k)
  Kept-version =
      let home = w.rack.home in
      let a = view w g in
      let b = view (takes_version w) (promotes w g k) in
      let l = version_later in
      record {
        names = h.names;
        versions = version_stamps;
        held = λ t j. let p =
            pair_later home a b l j (a.held t j) ((h.held t j).pair, (h.held t j).ok) in
            record { pair = p.0; ok = p.1 };
        entries = λ j. EntryOk-later home a b l j (a.dir j) (h.entries j);
        items = items_later home a b l w.sent h.items;
        history = History-same home a b (record { later = l; issued = λ c. omega arith }) w.place
            w.place w.sent w.sent (omega arith) (λ k. omega arith) (λ c n t. (t, refl)) w.pending
            w.pending w.answers (λ c p. p) h.history;
        traced = version_traced;
        fences = fences_later home a b l w.fences h.fences;
        nested = h.nested;
        guard = h.guard;
        room = h.room;
      }

  listed : entry w k ≡ None → length w.core.entries ≢ w.rack.room →
      Kept (with_entries (takes_version w) (w.core.entries ++ fresh w.rack k w.core ∷ [])
      (w.core.last + 1)) (promotes w g k)
  listed is left =
      let w' = takes_version w in
      let g' = promotes w g k in
      let new = fresh w.rack k w.core in
      (Kept-dir w' g' k (w.core.entries ++ new ∷ []) (w.core.last + 1)
      (λ r l. let e = length-append w.core.entries (new ∷ []) in omega (arith, e, r l, left))
      (λ j n. entry_of-push_other j k w.core.entries new refl n)
      (subst (λ (x : Option Entry). Follows w.rack.home (view w' g') k x
      (entry_of k (w.core.entries ++ new ∷ []))) (sym is)
      (subst (λ (x : Option Entry). Follows w.rack.home (view w' g') k None x)
      (sym (entry_of-push_same k w.core.entries new refl is))
      (record {
        covers = λ u m c. elim c [ inl l ↦ inl l | inr o ↦ absurd o ];
        under = λ u m t. tt;
        settled = λ u m t. omega (arith, m);
        entry = record {
          key = refl;
          base = omega arith;
          most = omega arith;
          is = inr (h.versions.most, omega arith, at_one_same g.who w.core.next (id k 0));
          mark = tt;
          some = omega arith;
          holding = inr (refl, refl);
        };
        due = λ f m d b. (elim d [ inl l ↦ inl l | inr o ↦ absurd o ], omega (arith, m));
      }))) Kept-version).0

-- a listing
pub promote_by : (w : World) (g : Ghost) (k : ℕ) (o : Option Entry) → entry w k ≡ o → Kept w g
    → (g' : Ghost) × Kept
    (record w
    { core = promote w.rack k o w.core; promoted = promotions w.rack o w.core w.promoted })
    g'
promote_by w g k (Some e) is h = (g, h)
promote_by w g k None is h = go (lists w.rack w.core) refl
  where
    new : Entry
    new = fresh w.rack k w.core

    go : (b : Bool) → lists w.rack w.core ≡ b → (g' : Ghost) × Kept (record w {
      core = cond b
          (record w.core {
            next = w.core.next + 1;
            last = w.core.last + 1;
            entries =
                w.core.entries ++ fresh w.rack k w.core ∷ [];
          })
          (record w.core { last = w.core.last + 1 });
      promoted = cond b (w.core.next ∷ w.promoted) w.promoted;
    }) g'
    go true y =
        let p = and_parts (not (length w.core.entries == w.rack.room)) (not (w.core.next == top)) y
        in (
          promotes w g k,
          listed w g k h is
              (eqb-false (length w.core.entries) w.rack.room
              (not-true (length w.core.entries == w.rack.room) p.0)),
        )
    go false y = (g, h)

-- a mark
marked_follows : (home : ℕ → ℕ) (a : View) (k : ℕ) (e : Entry) (m : Option ℕ) → e.mark ≡ m →
    IsEntryOk home a k e
    → OfKey k (marked a.next e m) × Follows home a k (Some e) (marked a.next e m)
marked_follows home a k e (Some m) is h = (
  h.key,
  record {
    covers = λ u m c. c;
    under = λ u m c. c;
    settled = λ u m t. t;
    entry = h;
    due =
        λ f m d b. (d, b);
  },
)
marked_follows home a k e None is h = (
  h.key,
  record {
    covers = λ u m c. elim c [ inl l ↦ inl l | inr o ↦ inr (o.0, m) ];
    under = λ u m t. m;
    settled = λ u m t. t;
    entry = record {
      key = h.key;
      base = h.base;
      most = h.most;
      is = h.is;
      mark =
          (omega (arith, h.base, h.most), omega arith);
      some = h.some;
      holding = h.holding;
    };
    due = λ f m d b. (d, b);
  },
)

pub demote_by : (w : World) (g : Ghost) (k : ℕ) (o : Option Entry) → entry w k ≡ o → Kept w g →
    Kept (record w { core = demote k o w.core }) g
demote_by w g k None is h = h
demote_by w g k (Some e) is h =
    let home = w.rack.home in
    let a = view w g in
    let ok : IsEntryOk home a k e =
    subst (λ (x : Option Entry). EntryOk home a k x) is (h.entries k) in
    let f = marked_follows home a k e e.mark refl ok in
    (Kept-put w g k e (marked w.core.next e e.mark) (w.core.last + 1) is f.0 f.1 h).0
