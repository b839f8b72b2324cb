-- What the facts say of packets, rows and Fences.
use Rattle.std.proofs.Common.{◌≡◌, ◌≢◌, ℕ, ◌≤◌, inl, inr, length, List, [], ◌∷◌, Some}
use Rattle.std.proofs.Common.{Contains, arith, refl, sym, ◌∙◌, subst, ap}
use Rattle.std.specs.List.{AllByRecursion}
use Rattle.std.proofs.lemmas.List.Elements.{All-from_recursion, All-contains}
use Rattle.peg_protocol.specs.Core.{Rack, Core, Entry, entry_of, Row}
use Rattle.peg_protocol.specs.Packet.{Item, item, Write, ToServerRead, ReadReply}
use Rattle.peg_protocol.specs.Packet.{ToServerWrite, Void}
use Rattle.peg_protocol.specs.Machine.{Applied, Id, id}
use Rattle.peg_protocol.specs.System.{System, ground}
use Rattle.peg_protocol.specs.Told.{AppliedOnce, InRange, Told}
use Rattle.peg_protocol.proofs.Facts.{View, Nested, RowAt, RowOk, ItemOk, MarkOk, IsEntryOk}
use Rattle.peg_protocol.proofs.Facts.{EntryOk, Stamps, view}
use Rattle.peg_protocol.proofs.Whole.{Whole, live}
use Rattle.peg_protocol.proofs.Theorems.{handover_law}

applied_once : (fs : List Applied) → Nested fs → AppliedOnce fs
applied_once [] n = tt
applied_once (f ∷ fs) n = (each fs n.0, applied_once fs n.3)
  where
    each :
        (gs : List Applied) → AllByRecursion (λ g. g.key ≡ f.key → g.version ≤ f.before) gs
        → AllByRecursion (λ g. g.key ≡ f.key → g.version ≢ f.version) gs
    each [] all = tt
    each (g ∷ gs) all = (
      λ e same. let l = all.0 e in let less = n.1 in omega (arith, l, less, same),
      each gs all.1,
    )

in_range :
    (v : View) (rows : ℕ → Row) (stamps : ℕ → ℕ → ℕ) (issued : ℕ → ℕ) (rack : Rack) (c : Core)
    → v.first ≡ rack.first → v.next ≡ c.next → v.issued ≡ issued → rows ≡ c.rows
    → Stamps v rows stamps → ((k : ℕ) → EntryOk rack.home v k (entry_of k c.entries))
    → (length rack.keys ≤ rack.room → length c.entries ≤ rack.room) → InRange issued rack c
in_range v rows stamps issued rack c e1 e2 e3 e4 st entries room =
    record {
      next = let m = st.most in omega (arith, m, e1, e2);
      seq = λ client.
          subst (λ (r : ℕ → Row). (r client).seq ≤ issued client) e4
          (subst (λ (i : ℕ → ℕ). (rows client).seq ≤ i client) e3 (seq_at client (st.row client)));
      version = λ client.
          subst (λ (r : ℕ → Row). (r client).version ≤ c.next) e4
          (let l = version_at client (st.row client) in omega (arith, l, e2));
      completed = λ k e is. let m = (ok k e is).most in omega (arith, m, e2);
      base = λ k e is. let o = ok k e is in let m = o.most in let b = o.base in
          omega (arith, m, b, e2);
      mark = λ k e is m has.
          let x = subst (MarkOk v.next e.base) has (ok k e is).mark in
          let l = x.0 in let u = x.1 in (omega (arith, l), omega (arith, u, e2));
      room = room;
    }
  where
    ok : (k : ℕ) (e : Entry) → entry_of k c.entries ≡ Some e → IsEntryOk rack.home v k e
    ok k e is = subst (EntryOk rack.home v k) is (entries k)

    seq_at : (client : ℕ) → RowOk v stamps client (rows client) →
        (rows client).seq ≤ v.issued client
    seq_at client (inl e) = let z = e.0 in omega (arith, z)
    seq_at client (inr (g, x)) =
        let w : (v.who (stamps client (rows client).seq)) ≡ id client (rows client).seq = g.who in
        let some : 1 ≤ (v.who (stamps client (rows client).seq)).seq =
        subst (λ (i : Id). 1 ≤ i.seq) (sym w) g.some in
        let r = st.each (stamps client (rows client).seq) g.least g.most some in
        subst (λ (i : Id). i.seq ≤ v.issued i.client) w r.most

    version_at : (client : ℕ) → RowOk v stamps client (rows client) → (rows client).version ≤ v.next
    version_at client (inl e) = let z = e.1 in omega (arith, z)
    version_at client (inr (g, inl e)) = let m = g.most in omega (arith, m, e)
    version_at client (inr (g, inr e)) = let z = e.0 in omega (arith, z)

pub telling : (s : System) → Whole s → Told s
telling s h =
    record {
      writes = λ to c n k x was.
          let i = from_all (ItemOk s.rack.home (view (ground s (s.cores h.holder)) h.g)) s.sent
          h.kept.items (item to (Write c n k x)) was in
          i.act;
      rows = λ a c n u active seq version some.
          by_row a c n u seq version some ((live s a h active).kept.versions.row c);
      fences = applied_once s.fences h.kept.nested;
      read_key = λ to c n a k was.
          (from_all (ItemOk s.rack.home (view (ground s (s.cores h.holder)) h.g)) s.sent
          h.kept.items (item to (ToServerRead c n a k)) was).op.issued.key;
      reply_key = λ to c n u t a k x was.
          (from_all (ItemOk s.rack.home (view (ground s (s.cores h.holder)) h.g)) s.sent
          h.kept.items (item to (ReadReply c n u t a k x)) was).op.issued.key;
      write_key = λ to c n u a k x was.
          (from_all (ItemOk s.rack.home (view (ground s (s.cores h.holder)) h.g)) s.sent
          h.kept.items (item to (ToServerWrite c n u a k x)) was).op.issued.key;
      voids = λ to to' c n u t a k c' n' a' k' x was was'.
          let i = from_all (ItemOk s.rack.home (view (ground s (s.cores h.holder)) h.g)) s.sent
          h.kept.items (item to (Void c n u t a k)) was in
          let j = from_all (ItemOk s.rack.home (view (ground s (s.cores h.holder)) h.g)) s.sent
          h.kept.items (item to' (ToServerWrite c' n' u a' k' x)) was' in
          let same : id c n ≡ id c' n' = sym i.given.who ∙ j.given.who in
          (ap (λ (y : Id). y.client) same, ap (λ (y : Id). y.seq) same);
      ranges = λ a active.
          let l = live s a h active in
          in_range (view (ground s (s.cores a)) h.g) (s.cores a).rows s.stamps s.issued s.rack
          (s.cores a) refl refl refl refl l.kept.versions l.kept.entries l.kept.room;
      one_state = λ b b' epoch i i' n n' core core' x y.
          ((handover_law s h).one_state b b' epoch i i' n n' core core' x y).1;
    }
  where
    from_all : (P : Item → Type 0) (is : List Item) → AllByRecursion P is → (i : Item) →
        Contains is i → P i
    from_all P is all i was = All-contains P is i (All-from_recursion P is all) was

    by_row :
        (a c n u : ℕ) → ((s.cores a).rows c).seq ≡ n → ((s.cores a).rows c).version ≡ u → 1 ≤ u
        → RowAt (view (ground s (s.cores a)) h.g) c ((s.cores a).rows c)
        (s.stamps c ((s.cores a).rows c).seq)
        → s.stamps c n ≡ u
    by_row a c n u seq version some (inl e) =
        let z = e.1 in absurd (omega (arith, z, version, some))
    by_row a c n u seq version some (inr (given, inl e)) =
        sym (ap (s.stamps c) seq) ∙ sym e ∙ version
    by_row a c n u seq version some (inr (given, inr e)) =
        let z = e.0 in absurd (omega (arith, z, version, some))
