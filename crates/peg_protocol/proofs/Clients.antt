-- What clients do: an operation begins, is asked for again, and is answered.
use Rattle.std.proofs.Common.{Contains, ◌≡◌, ℕ, ◌+◌, ◌<◌, ◌≤◌, ◌⊎◌, ◌==◌, ◌&&◌, inl, inr, Bool}
use Rattle.std.proofs.Common.{true, false, cond, List, [], ◌∷◌, Option, Some, None, ◌++◌, arith, ap}
use Rattle.std.proofs.Common.{sym, refl, ◌∙◌, subst, subst₂, eqb-true, eq-eqb}
use Rattle.std.proofs.lemmas.Bool.{false_from_ne_true, or_parts, cond_both, and_parts, cases_eq}
use Rattle.std.proofs.lemmas.Option.{same_Some}
use Rattle.std.specs.List.{AllByRecursion}
use Rattle.std.proofs.lemmas.List.Elements.{Contains-push, Contains-append_left}
use Rattle.peg_protocol.specs.Packet.{Packet, Node, Item, item, Read, Write, ReadReply, WriteReply}
use Rattle.peg_protocol.specs.Packet.{Client, Switch}
use Rattle.peg_protocol.specs.Core.{top, at_one, at_two}
use Rattle.peg_protocol.specs.Machine.{origin_of, Plan, Answer, Act, Reads, Writes, World, id, Id}
use Rattle.peg_protocol.specs.Machine.{send, request, began, issue, resend, give_up, answered}
use Rattle.peg_protocol.specs.Machine.{take_reply, is_read, is_write}
use Rattle.peg_protocol.specs.Law.{asks, before, passed, reply_version, voided_in}
use Rattle.peg_protocol.proofs.Facts.{Dead, Ok, RowAt, Traced, View, Issued, Given, PairIs}
use Rattle.peg_protocol.proofs.Facts.{PacketOk, ItemOk, Version, Stamps, LogOk, asked, History}
use Rattle.peg_protocol.proofs.Facts.{AnswerOk, AnswerFits, Ghost, view, Kept}
use Rattle.peg_protocol.proofs.Keep.{ids_later, before-push, Later, Given-later, pair_later}
use Rattle.peg_protocol.proofs.Keep.{items_later, items_push, EntryOk-later, Kept-send, Kept-quiet}
use Rattle.peg_protocol.proofs.Keep.{passed-push, AnswerOk-later, RowOk-later, given_issued}
use Rattle.peg_protocol.proofs.Keep.{fences_later, Traced-push}
use Rattle.peg_protocol.proofs.Servers.{pair_of_write, at_one_both, at_two_both, at_two_same}
use Rattle.peg_protocol.proofs.Servers.{at_one_same, at_two_at, at_two_off, at_one_at, at_one_off}

-- what is asked for an operation that was issued
request_ok : (home : ℕ → ℕ) (v : View) (sw c n k : ℕ) (act : Act) → Issued v c n k →
    (v.plans c n).act ≡ act → ItemOk home v (item (Switch sw) (request c n k act))
request_ok home v sw c n k Reads i e = record { issued = i; act = e }
request_ok home v sw c n k (Writes x) i e = record { issued = i; act = e }

quiet_request : (sw c n k j : ℕ) (act : Act) → reply_version j (Switch sw) (request c n k act) ≡ 0
quiet_request sw c n k j Reads = refl
quiet_request sw c n k j (Writes x) = refl

pub Kept-resend : (w : World) (g : Ghost) (sw c : ℕ) → Kept w g → Kept (resend w sw c) g
Kept-resend w g sw c h =
    let n = w.issued c in
    let p = w.plans c n in
    cond_both (w.pending c) (send w (item (Switch sw) (request c n p.key p.act))) w (λ v. Kept v g)
    (λ y. Kept-send w g (item (Switch sw) (request c n p.key p.act)) h
    (request_ok w.rack.home (view w g) sw c n p.key p.act
    (record { least = (h.history.waits c y).0; most = omega arith; key = refl }) refl))
    (λ n. h)

pub Kept-give_up : (w : World) (g : Ghost) (c : ℕ) → Kept w g → Kept (give_up w c) g
Kept-give_up w g c h =
    Kept-quiet w g w.place (at_one w.pending c false) (omega arith)
    (λ d. at_one_both w.pending c false d (λ b. b ≡ true → w.pending d ≡ true) (λ e f. cc)
    (λ ne t. t)) h

-- no request of an operation that was not issued was sent
not_asked : (v : View) (c n d m : ℕ) → (d ≡ c → m ≤ v.issued c) → v.issued c < n →
    (d == c && m == n) ≡ false
not_asked v c n d m most l =
    false_from_ne_true (d == c && m == n) (λ t.
    let p = and_parts (d == c) (m == n) t in
    absurd (omega (arith, most (eqb-true d c p.0), eqb-true m n p.1, l)))

asks_issued : (home : ℕ → ℕ) (v : View) (c n : ℕ) (to : Node) (p : Packet) → PacketOk home v to p →
    v.issued c < n → asks c n p ≡ false
asks_issued home v c n to (Read d m k) h l =
    not_asked v c n d m (λ e. subst (λ (i : ℕ). m ≤ v.issued i) e h.issued.most) l
asks_issued home v c n to (Write d m k x) h l =
    not_asked v c n d m (λ e. subst (λ (i : ℕ). m ≤ v.issued i) e h.issued.most) l
asks_issued home v c n to p h l = refl

unasked : (home : ℕ → ℕ) (v : View) (c n : ℕ) → v.issued c < n → (is : List Item) →
    AllByRecursion (ItemOk home v) is → asked c n is ≡ false
unasked home v c n l [] h = refl
unasked home v c n l (i ∷ is) h = let e = asks_issued home v c n i.to i.packet h.0 l in
    rw e (unasked home v c n l is h.1)

before_first : (c n : ℕ) (is : List Item) (i : Item) → asked c n is ≡ false →
    asks c n i.packet ≡ true → (asked c n (is ++ i ∷ []) ≡ true) × (before c n (is ++ i ∷ []) ≡ is)
before_first c n [] i h t = (rw t refl, rw t refl)
before_first c n (j ∷ is) i h t =
    let p = or_parts (asks c n j.packet) (asked c n is) h in
    let ih = before_first c n is i p.1 t in
    let e = p.0 in
    (rw e ih.0, rw e (ap (λ l. j ∷ l) ih.1))

asks_request : (c n k : ℕ) (act : Act) → asks c n (request c n k act) ≡ true
asks_request c n k Reads = rw (eq-eqb c c refl, eq-eqb n n refl) refl
asks_request c n k (Writes x) = rw (eq-eqb c c refl, eq-eqb n n refl) refl

ids_push : (f : ℕ → ℕ) (log : List Id) (i : Id) →
    AllByRecursion (λ i. (1 ≤ i.seq) × (i.seq ≤ f i.client)) log →
    (1 ≤ i.seq) × (i.seq ≤ f i.client)
    → AllByRecursion (λ i. (1 ≤ i.seq) × (i.seq ≤ f i.client)) (log ++ i ∷ [])
ids_push f [] i h k = (k, tt)
ids_push f (j ∷ is) i h k = (h.0, ids_push f is i h.1 k)

-- an operation begins
abbrev pub bounds : World → Ghost → ℕ → ℕ → ℕ → Ghost
bounds w g c n k = record g { bound = at_two g.bound c n (passed k w.sent) }

-- n is the new operation's number
module _ (w : World) (g : Ghost) (sw c n k : ℕ) (act : Act) (new : n ≡ w.issued c + 1)
    (h : Kept w g) where
  older : (d m : ℕ) → m ≤ w.issued d → d ≡ c → m ≡ n → ⊥
  older d m l e1 e2 = let s : m ≤ w.issued c = subst (λ (i : ℕ). m ≤ w.issued i) e1 l in
      omega (arith, s, e2, new)

  -- of all that was issued, one is new
  which : (d m : ℕ) → m ≤ at_one w.issued c n d → ((d ≡ c) × (m ≡ n)) ⊎ (m ≤ w.issued d)
  which d m = at_one_both w.issued c n d (λ i. m ≤ i → ((d ≡ c) × (m ≡ n)) ⊎ (m ≤ w.issued d))
      (λ e l. elim (cases_eq m n) [
        | inl y ↦ inl (e, y)
        | inr ne ↦ inr
            (subst (λ (i : ℕ). m ≤ w.issued i) (sym e) (omega (arith, l, ne, new)))
      ])
      (λ ne l. inr l)

  abbrev plan_new : Plan
  plan_new = record { key = k; act = act; issue = w.place }

  began_later : Later w.rack.home (view w g) (view (began w sw c n k act) (bounds w g c n k))
  began_later = record {
    first = refl;
    next = omega arith;
    who = λ u h. refl;
    issued = λ d. at_one_both w.issued c n d (λ i. w.issued d ≤ i)
        (λ e. let s : w.issued d ≡ w.issued c = ap w.issued e in omega (arith, s, new))
        (λ ne. omega arith);
    plans = λ d m l. at_two_both w.plans c n (record { key = k; act = act; issue = w.place }) d m
        (λ p. p ≡ w.plans d m) (λ e1 e2. absurd (older d m l e1 e2)) (λ ne. refl);
    bound = λ d m l. at_two_both g.bound c n (passed k w.sent) d m (λ p. p ≡ g.bound d m)
        (λ e1 e2. absurd (older d m l e1 e2)) (λ ne. refl);
    held = λ s j. omega arith;
    ok = λ j u m h. h;
    under = λ j u m h. h;
    settled = λ j u m h. h;
    origin = λ j u o h. refl;
    dead = λ j u h. h;
    due = λ j f m h. record { alive = h.alive; due = h.due; most = h.most };
  }

  began_issued : Issued (view (began w sw c n k act) (bounds w g c n k)) c n k
  began_issued = record {
    least = omega (arith, new);
    most = subst (λ (i : ℕ). n ≤ i) (sym (at_one_same w.issued c n)) (omega arith);
    key = ap (λ p. p.key)
        (at_two_same w.plans c n (record { key = k; act = act; issue = w.place }));
  }

  began_version : (d m u : ℕ) → Version (view w g) w.core.rows w.stamps d m u
      → Version (view (began w sw c n k act) (bounds w g c n k)) w.core.rows (at_two w.stamps c n 0)
      d m u
  began_version d m u v =
      let l = began_later in record {
        most = omega (arith, v.most, l.issued d);
        act = (v.act.0, ap (λ p. p.act) (l.plans d m v.most) ∙ v.act.1);
        above = omega (arith, l.bound d m v.most, v.above);
        last = at_two_both w.stamps c n 0 d m (λ y. u ≤ y)
            (λ e1 e2. absurd (older d m v.most e1 e2)) (λ ne. v.last);
        stamp = at_two_both w.stamps c n 0 d m
            (λ y. (y ≡ u) ⊎ Dead w.fences ((began w sw c n k act).plans d m).key u)
            (λ e1 e2. absurd (older d m v.most e1 e2))
            (λ ne. subst (λ (p : Plan). (w.stamps d m ≡ u) ⊎ Dead w.fences p.key u)
            (sym (l.plans d m v.most)) v.stamp);
        seq = v.seq;
      }

  row_issued : (d u : ℕ) → Given (view w g) d (w.core.rows d).seq u →
      (w.core.rows d).seq ≤ w.issued d
  row_issued d u y = given_issued (view w g) w.core.rows w.stamps h.versions d (w.core.rows d).seq u
      y

  began_traced : Traced w.rack.first w.core.next g.who w.core.rows (at_two w.stamps c n 0)
      w.promoted (began w sw c n k act).sent
  began_traced =
      let t = Traced-push w.rack.first w.core.next g.who w.core.rows w.stamps w.promoted w.sent
      (item (Switch sw) (request c n k act)) h.traced in
      record {
        none = t.none;
        each = t.each;
        open_row = λ d l z. elim (h.versions.row d) [
          | inl y ↦ absurd (omega (arith, y.0, l))
          | inr y ↦ subst (λ (u : ℕ). voided_in u (began w sw c n k act).sent ≡ true)
              (sym (at_two_off w.stamps c n 0 d (w.core.rows d).seq
              (older d (w.core.rows d).seq
              (row_issued d (w.stamps d (w.core.rows d).seq) y.0)))) (t.open_row d l z)
        ];
        again = t.again;
      }

  began_versions : Stamps (view (began w sw c n k act) (bounds w g c n k)) w.core.rows
      (at_two w.stamps c n 0)
  began_versions = record {
    least = h.versions.least;
    most = h.versions.most;
    each = λ u l m t. began_version (g.who u).client (g.who u).seq u (h.versions.each u l m t);
    row = λ d. elim (h.versions.row d) [
      | inl z ↦ inl z
      | inr y ↦ subst (RowAt (view (began w sw c n k act) (bounds w g c n k)) d (w.core.rows d))
          (sym (at_two_off w.stamps c n 0 d (w.core.rows d).seq
          (older d (w.core.rows d).seq (row_issued d (w.stamps d (w.core.rows d).seq) y.0))))
          (RowOk-later w.rack.home (view w g) (view (began w sw c n k act) (bounds w g c n k))
          began_later w.stamps d (w.core.rows d)
          (given_issued (view w g) w.core.rows w.stamps h.versions d) (inr y))
    ];
    stamp = λ d m. at_two_both w.stamps c n 0 d m
        (λ u. (u ≡ 0) ⊎ Given (view (began w sw c n k act) (bounds w g c n k)) d m u)
        (λ e1 e2. inl refl)
        (λ ne. elim (h.versions.stamp d m) [
          | inl z ↦ inl z
          | inr y ↦ inr
              (Given-later w.rack.home (view w g) (view (began w sw c n k act) (bounds w g c n k))
              began_later d m (w.stamps d m) y)
        ]);
  }

  longer : (j : ℕ) → passed j w.sent ≤ passed j (began w sw c n k act).sent
  longer j = omega (arith, passed-push j w.sent (item (Switch sw) (request c n k act)))

  began_history : History w.rack.home (view (began w sw c n k act) (bounds w g c n k)) w.place
      (began w sw c n k act).sent (at_one w.pending c true) (at_two w.answers c n None)
  began_history =
      let a = view w g in
      let b = view (began w sw c n k act) (bounds w g c n k) in
      let l = began_later in
      record {
        past = λ d m l1 l2. at_two_both w.plans c n plan_new d m (λ p. p.issue ≤ w.place)
            (λ e1 e2. omega arith)
            (λ ne. elim (which d m l2)
            [ inl y ↦ absurd (ne y.0 y.1) | inr y ↦ h.history.past d m l1 y ]);
        each = λ d m l1 l2. elim (which d m l2) [
          | inl y ↦ subst
              (λ (o : Option Answer). AnswerOk w.rack.home b w.place (began w sw c n k act).sent d m
              o)
              (sym (subst₂ (λ (i j : ℕ). at_two w.answers c n None i j ≡ None) (sym y.0) (sym y.1)
              (at_two_same w.answers c n None))) tt
          | inr y ↦ at_two_both w.answers c n None d m
              (λ o. AnswerOk w.rack.home b w.place (began w sw c n k act).sent d m o) (λ e1 e2. tt)
              (λ ne. AnswerOk-later w.rack.home a b l w.place w.place w.sent
              (began w sw c n k act).sent (omega arith) longer d m (w.answers d m) y
              (h.history.each d m l1 y))
        ];
        under = λ d m l1 l2. elim (which d m l2) [
          | inl y ↦
              let e1 = at_two_at g.bound c n (passed k w.sent) d m y.0 y.1 in
              let e2 : (b.plans d m).key ≡ k =
              ap (λ p. p.key) (at_two_at w.plans c n plan_new d m y.0 y.1) in
              subst (λ (j : ℕ). b.bound d m ≤ passed j (began w sw c n k act).sent) (sym e2)
              (omega (arith, e1, longer k))
          | inr y ↦
              subst (λ (p : Plan). b.bound d m ≤ passed p.key (began w sw c n k act).sent)
              (sym (l.plans d m y))
              (omega (arith, l.bound d m y, h.history.under d m l1 y, longer (w.plans d m).key))
        ];
        since = λ d m l1 l2. elim (which d m l2) [
          | inl y ↦
              let f = before_first c n w.sent (item (Switch sw) (request c n k act))
              (unasked (w.rack.home) (view w g) c n (omega (arith, new)) w.sent h.items)
              (asks_request c n k act) in
              subst₂ (λ (i j : ℕ). (asked i j (began w sw c n k act).sent ≡ true)
              × (b.bound i j ≡ passed (b.plans i j).key
              (before i j (began w sw c n k act).sent))) (sym y.0) (sym y.1) (
                f.0,
                at_two_same g.bound c n (passed k w.sent)
                    ∙ ap (λ (is : List Item). passed k is) (sym f.1)
                    ∙ ap (λ (p : Plan). passed p.key (before c n (began w sw c n k act).sent))
                    (sym (at_two_same w.plans c n plan_new)),
              )
          | inr y ↦
              let q = h.history.since d m l1 y in
              let f = before-push d m w.sent (item (Switch sw) (request c n k act)) q.0 in (
                f.0,
                l.bound d m y ∙ q.1 ∙ ap (λ (is : List Item). passed (w.plans d m).key is) (sym f.1)
                    ∙ ap (λ (p : Plan). passed p.key (before d m (began w sw c n k act).sent))
                    (sym (l.plans d m y)),
              )
        ];
        order = λ d m e i r l1 m1 l2 m2 key is sooner.
            elim (which e i m2) [
              | inl z ↦ let none = at_two_at w.answers c n None e i z.0 z.1 in absurd (cc)
              | inr o2 ↦
                  let is' : w.answers e i ≡ Some r =
                  sym (at_two_off w.answers c n None e i (older e i o2)) ∙ is in
                  let k2 : (b.plans e i).key ≡ (w.plans e i).key =
                  ap (λ p. p.key) (l.plans e i o2) in
                  elim (which d m m1) [
                    | inl y ↦
                        let k1 : (b.plans d m).key ≡ k =
                        ap (λ p. p.key) (at_two_at w.plans c n plan_new d m y.0 y.1) in
                        let at : (w.plans e i).key ≡ k = sym k2 ∙ key ∙ k1 in
                        let ok = subst (AnswerOk w.rack.home a w.place w.sent e i) is'
                        (h.history.each e i l2 o2) in
                        let low : r.version ≤ passed k w.sent =
                        subst (λ (j : ℕ). r.version ≤ passed j w.sent) at ok.passed in
                        omega (arith, low, at_two_at g.bound c n (passed k w.sent) d m y.0 y.1)
                    | inr o1 ↦
                        let k1 : (b.plans d m).key ≡ (w.plans d m).key =
                        ap (λ p. p.key) (l.plans d m o1) in
                        let i1 : (b.plans d m).issue ≡ (w.plans d m).issue =
                        ap (λ p. p.issue) (l.plans d m o1) in
                        let low : r.version ≤ g.bound d m =
                        h.history.order d m e i r l1 o1 l2 o2 (sym k2 ∙ key ∙ k1) is'
                        (omega (arith, sooner, i1)) in
                        omega (arith, low, l.bound d m o1)
                  ]
            ];
        waits = λ d. at_one_both w.pending c true d
            (λ p. p ≡ true → (1 ≤ at_one w.issued c n d)
            × (at_two w.answers c n None d (at_one w.issued c n d) ≡ None))
            (λ e t. let e' = at_one_at w.issued c n d e in (
              omega (arith, e', new),
              at_two_at w.answers c n None d (at_one w.issued c n d) e e',
            ))
            (λ ne t.
            let e' = at_one_off w.issued c n d ne in
            let f' = at_one_off w.pending c true d ne in
            let x = h.history.waits d t in (
              omega (arith, e', x.0),
              at_two_off w.answers c n None d (at_one w.issued c n d) (λ z1 z2. ne z1)
                  ∙ ap (w.answers d) e' ∙ x.1,
            ));
      }

  began_names : LogOk (at_one w.issued c n) (w.log ++ id c n ∷ [])
  began_names = record {
    each = ids_push (at_one w.issued c n) w.log (id c n)
        (ids_later w.issued (at_one w.issued c n) began_later.issued w.log h.names.each) (
          omega (arith, new),
          subst (λ (i : ℕ). n ≤ i) (sym (at_one_same w.issued c n))
              (omega arith),
        );
    all = λ d m l1 l2. elim (which d m l2) [
      | inl y ↦ subst₂ (λ (i j : ℕ). Contains (w.log ++ id c n ∷ []) (id i j)) (sym y.0) (sym y.1)
          (Contains-push w.log (id c n))
      | inr y ↦ Contains-append_left w.log (id c n ∷ []) (id d m) (h.names.all d m l1 y)
    ];
  }

  pub Kept-began : Kept (began w sw c n k act) (bounds w g c n k)
  Kept-began =
      let home = w.rack.home in
      let a = view w g in
      let b = view (began w sw c n k act) (bounds w g c n k) in
      let l = began_later in
      record {
        names = began_names;
        versions = began_versions;
        held = λ t j. let p =
            pair_later home a b l j (a.held t j) ((h.held t j).pair, (h.held t j).ok) in
            record { pair = p.0; ok = p.1 };
        entries = λ j. EntryOk-later home a b l j (a.dir j) (h.entries j);
        items = items_push (ItemOk home b) w.sent (item (Switch sw) (request c n k act))
            (items_later home a b l w.sent h.items)
            (request_ok home b sw c n k act began_issued
            (ap (λ p. p.act) (at_two_same w.plans c n plan_new)));
        history = began_history;
        traced = began_traced;
        fences = fences_later home a b l w.fences h.fences;
        nested = h.nested;
        guard = h.guard;
        room = h.room;
      }

pub Kept-issue : (w : World) (g : Ghost) (sw c k : ℕ) (act : Act) → Kept w g →
    (g' : Ghost) × Kept (issue w sw c k act) g'
Kept-issue w g sw c k act h =
    cond_both (w.pending c) w (cond (w.issued c == top) w (began w sw c (w.issued c + 1) k act))
    (λ v. (g' : Ghost) × Kept v g')
    (λ y. (g, h))
    (λ n. cond_both (w.issued c == top) w (began w sw c (w.issued c + 1) k act)
    (λ v. (g' : Ghost) × Kept v g')
    (λ y. (g, h))
    (λ n. (bounds w g c (w.issued c + 1) k, Kept-began w g sw c (w.issued c + 1) k act refl h)))

-- the operation that its client waits for is answered
module _ (w : World) (g : Ghost) (c n u : ℕ) (o : Option ℕ) (last : n ≡ w.issued c)
    (waiting : w.pending c ≡ true) (early : (w.plans c n).issue < w.place)
    (most : u < w.core.next) (seen : (x : Option ℕ) × PairIs (view w g) (w.plans c n).key u x)
    (ok : Ok w.rack.home (view w g) (w.plans c n).key u)
    (low : u ≤ passed (w.plans c n).key w.sent)
    (fits : AnswerFits (view w g) c n
    (record {
      place = w.place;
      version = u;
      content = o;
      tag =
          origin_of w.fences (w.plans c n).key u;
    }) (w.plans c n).act) (h : Kept w g)
  where
    abbrev answer : Answer
    answer = record
        { place = w.place; version = u; content = o; tag = origin_of w.fences (w.plans c n).key u }

    answered_history : History w.rack.home (view w g) w.place w.sent (at_one w.pending c false)
        (at_two w.answers c n (Some answer))
    answered_history = record {
      past = h.history.past;
      each = λ d m l1 l2. at_two_both w.answers c n (Some answer) d m
          (λ r. AnswerOk w.rack.home (view w g) w.place w.sent d m r)
          (λ e1 e2. subst₂
          (λ (i j : ℕ). AnswerOk w.rack.home (view w g) w.place w.sent i j (Some answer)) (sym e1)
          (sym e2)
          (record {
            later = early;
            past = omega arith;
            passed = low;
            most = most;
            ok = ok;
            seen =
                seen;
            tag = refl;
            fits = fits;
          }))
          (λ ne. h.history.each d m l1 l2);
      under = h.history.under;
      since = h.history.since;
      order = λ d m e i r l1 m1 l2 m2 key. at_two_both w.answers c n (Some answer) e i
          (λ x. x ≡ Some r → r.place < (w.plans d m).issue → r.version ≤ g.bound d m)
          (λ e1 e2 is before. let at : w.place ≡ r.place =
          ap (λ (x : Answer). x.place) (same_Some answer r is) in
          absurd (omega (arith, at, before, h.history.past d m l1 m1)))
          (λ ne is before. h.history.order d m e i r l1 m1 l2 m2 key is before);
      waits = λ d. at_one_both w.pending c false d
          (λ p. p ≡ true → (1 ≤ w.issued d)
          × (at_two w.answers c n (Some answer) d (w.issued d) ≡ None))
          (λ e t. absurd (cc))
          (λ ne t. let x = h.history.waits d t in
          (x.0, at_two_off w.answers c n (Some answer) d (w.issued d) (λ z1 z2. ne z1) ∙ x.1));
    }

    pub Kept-answered : Kept (answered w c n u o) g
    Kept-answered = record {
      names = h.names;
      versions = h.versions;
      held = h.held;
      entries = h.entries;
      items = h.items;
      history = answered_history;
      traced = h.traced;
      fences = h.fences;
      nested = h.nested;
      guard = h.guard;
      room = h.room;
    }

reads_only : (a : Act) → is_read a ≡ true → a ≡ Reads
reads_only Reads e = refl
reads_only (Writes x) e = absurd (cc)

-- a reply comes: what it says fits each act that its kind can answer
pub Kept-take_reply : (w : World) (g : Ghost) (own c n k u : ℕ) (kind : Act → Bool) (o : Option ℕ)
    → ((d m : ℕ) → 1 ≤ m → m ≤ w.issued d → (w.plans d m).issue < w.place)
    → u < w.core.next → (x : Option ℕ) × PairIs (view w g) k u x → Ok w.rack.home (view w g) k u →
    u ≤ passed k w.sent
    → (kind (w.plans c n).act ≡ true → (w.plans c n).key ≡ k →
    AnswerFits (view w g) c n
    (record {
      place = w.place;
      version = u;
      content = o;
      tag =
          origin_of w.fences (w.plans c n).key u;
    }) (w.plans c n).act)
    → Kept w g → Kept (take_reply w own c n k u kind o) g
Kept-take_reply w g own c n k u kind o early most seen ok low fits h =
    let p = w.plans own n in
    cond_both (w.pending own && (c == own && (n == w.issued own && (p.key == k && kind p.act))))
    (answered w own n u o) w (λ v. Kept v g)
    (λ y.
    let a1 = and_parts (w.pending own)
    (c == own && (n == w.issued own && (p.key == k && kind p.act))) y in
    let a2 = and_parts (c == own) (n == w.issued own && (p.key == k && kind p.act)) a1.1 in
    let a3 = and_parts (n == w.issued own) (p.key == k && kind p.act) a2.1 in
    let a4 = and_parts (p.key == k) (kind p.act) a3.1 in
    let at : c ≡ own = eqb-true c own a2.0 in
    let last : n ≡ w.issued own = eqb-true n (w.issued own) a3.0 in
    let key : p.key ≡ k = eqb-true p.key k a4.0 in
    let one = h.history.waits own a1.0 in
    Kept-answered w g own n u o last a1.0
    (early own n (omega (arith, one.0, last)) (omega (arith, last)))
    most (subst (λ (j : ℕ). (x : Option ℕ) × PairIs (view w g) j u x) (sym key) seen)
    (subst (λ (j : ℕ). Ok w.rack.home (view w g) j u) (sym key) ok)
    (subst (λ (j : ℕ). u ≤ passed j w.sent) (sym key) low)
    (subst (λ (d : ℕ). kind (w.plans d n).act ≡ true → (w.plans d n).key ≡ k →
    AnswerFits (view w g) d n
    (record {
      place = w.place;
      version = u;
      content = o;
      tag =
          origin_of w.fences (w.plans d n).key u;
    }) (w.plans d n).act) at fits a4.1 key) h)
    (λ n. h)

read_fits : (v : View) (c n k u : ℕ) (r : Answer) (act : Act) → r.version ≡ u → v.bound c n ≤ u →
    PairIs v (v.plans c n).key r.version r.content → is_read act ≡ true → AnswerFits v c n r act
read_fits v c n k u r Reads e b p t = (omega (arith, b, e), p)
read_fits v c n k u r (Writes x) e b p t = absurd (cc)

write_fits : (v : View) (c n u : ℕ) (r : Answer) (act : Act) → Given v c n r.version →
    is_write act ≡ true → AnswerFits v c n r act
write_fits v c n u r Reads y t = absurd (cc)
write_fits v c n u r (Writes x) y t = y

pub Kept-read_answer : (w : World) (g : Ghost) (sw own c n k u s : ℕ) (o : Option ℕ)
    → ((d m : ℕ) → 1 ≤ m → m ≤ w.issued d → (w.plans d m).issue < w.place)
    → ItemOk w.rack.home (view w g) (item (Client own) (ReadReply c n u s sw k o)) →
    u ≤ passed k w.sent → Kept w g → Kept (take_reply w own c n k u is_read o) g
Kept-read_answer w g sw own c n k u s o early i low h =
    Kept-take_reply w g own c n k u is_read o early i.report.most (o, i.pair) i.report.ok low
    (λ t key. read_fits (view w g) c n k u
    (record {
      place = w.place;
      version = u;
      content = o;
      tag =
          origin_of w.fences (w.plans c n).key u;
    }) (w.plans c n).act refl i.reaches
    (subst (λ (j : ℕ). PairIs (view w g) j u o) (sym key) i.pair) t) h

pub Kept-write_answer : (w : World) (g : Ghost) (sw own c n k u s : ℕ)
    → ((d m : ℕ) → 1 ≤ m → m ≤ w.issued d → (w.plans d m).issue < w.place)
    → ItemOk w.rack.home (view w g) (item (Client own) (WriteReply c n u s sw k)) →
    u ≤ passed k w.sent → Kept w g → Kept (take_reply w own c n k u is_write None) g
Kept-write_answer w g sw own c n k u s early i low h =
    Kept-take_reply w g own c n k u is_write None early i.report.most
    (i.op.0, pair_of_write w.rack.home (view w g) c n u k i.op.0 h.fences i.op.1 i.given)
    i.report.ok low
    (λ t key. write_fits (view w g) c n u
    (record {
      place = w.place;
      version = u;
      content = None;
      tag =
          origin_of w.fences (w.plans c n).key u;
    }) (w.plans c n).act i.given t) h
