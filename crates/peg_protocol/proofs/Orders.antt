-- The printed order of each key is a register history.
use Rattle.std.proofs.Common.{◌≡◌, ℕ, zero, suc, length, ◌<◌, ◌≤◌, ◌⊎◌, ◌==◌, ◌&&◌, ◌||◌, nat_lt}
use Rattle.std.proofs.Common.{inl, inr, Bool, true, false, cond, List, [], ◌∷◌, filter, Option}
use Rattle.std.proofs.Common.{Some, None, is_some, IsSome, Contains, get_or, arith, ap, sym, refl}
use Rattle.std.proofs.Common.{◌∙◌, subst, eqb-true, eq-eqb, ltb-true, lt-ltb}
use Rattle.std.proofs.lemmas.Bool.{and_parts, and_from, or_left, or_cases, ne_eqb}
use Rattle.std.proofs.lemmas.List.Elements.{All-from_recursion, recursion_from_All}
use Rattle.std.proofs.lemmas.List.Elements.{All-contains_itself}
use Rattle.std.specs.List.{AllByRecursion, list_any}
use Rattle.peg_protocol.specs.Machine.{Act, Reads, Writes, World, origin_of, Id, id, Answer}
use Rattle.peg_protocol.specs.Machine.{is_read, is_write}
use Rattle.peg_protocol.specs.Register.{times, LegalStep, last_after, LegalFrom, AnsweredBefore}
use Rattle.peg_protocol.specs.Register.{KeepsTime, IsWriteAct, IsRegisterHistory}
use Rattle.peg_protocol.specs.Printed.{Book, Tagged, content_of, tag_of, answer_place, tagged}
use Rattle.peg_protocol.specs.Printed.{all_tagged, history, is_seen, is_printed, kind, place}
use Rattle.peg_protocol.specs.Printed.{printed_tagged, printed}
use Rattle.peg_protocol.proofs.Facts.{AnyOf, Alive, ContentIs, Given, PairIs, AnswerFits, AnswerOk}
use Rattle.peg_protocol.proofs.Facts.{Ghost, view, Kept}
use Rattle.peg_protocol.proofs.Sorting.{Before, Sorted, all_weaker, all_sorted, sort_in_order, ops}
use Rattle.peg_protocol.proofs.Sorting.{times-sort, times-filter, all_filtered, kept_once}
use Rattle.peg_protocol.proofs.Sorting.{any_filtered, any_sorted, any_self, all_with, all_ops}
use Rattle.peg_protocol.proofs.Sorting.{all_of_ops, all_named, any_named, named_once}
use Rattle.peg_protocol.proofs.Fences.{origin_least, origin_up, origin_alive, origin_same, not_both}
use Rattle.peg_protocol.proofs.Servers.{no_fence}
use Rattle.peg_protocol.proofs.Holds.{given_version, stamped_given}

any_from_Contains : (is : List Id) (i : Id) → Contains is i → AnyOf (λ j. j ≡ i) is
any_from_Contains is i c = go is c.0 c.1 c.2
  where
    go : (js : List Id) (k : ℕ) → k < length js → get_or js k i ≡ i → AnyOf (λ j. j ≡ i) js
    go [] k l e = absurd (omega (arith, l))
    go (j ∷ js) zero l e = inl e
    go (j ∷ js) (suc k) l e = inr (go js k (omega (arith, l)) e)

place_before : (o : Option ℕ) (p : ℕ) → AnsweredBefore o p → place o < p
place_before None p h = absurd h
place_before (Some q) p h = h

abbrev act_content : Act → Option ℕ
act_content Reads = None
act_content (Writes x) = x

abbrev pub book : World → Book
book w = record { plans = w.plans; answers = w.answers; stamps = w.stamps; log = w.log }

module _ (w : World) (g : Ghost) (h : Kept w g) (key : ℕ) where
  -- what the write with a version wrote; absent at 0
  abbrev written : ℕ → Option ℕ
  written u = cond (u == 0) None (act_content (w.plans (g.who u).client (g.who u).seq).act)

  written_by : (u : ℕ) (x : Option ℕ) → 1 ≤ u →
      (w.plans (g.who u).client (g.who u).seq).act ≡ Writes x → written u ≡ x
  written_by u x l e = let f : (u == 0) ≡ false = ne_eqb u 0 (λ z. omega (arith, z, l)) in
      rw (f, e) refl

  written_given : (c n u : ℕ) (x : Option ℕ) → Given (view w g) c n u →
      (w.plans c n).act ≡ Writes x → written u ≡ x
  written_given c n u x i e =
      written_by u x (omega (arith, i.least, h.versions.least))
      (ap (λ (j : Id). (w.plans j.client j.seq).act) i.who ∙ e)

  written_pair : (k u : ℕ) (o : Option ℕ) → PairIs (view w g) k u o →
      o ≡ written (origin_of w.fences k u)
  written_pair k u o p = go (origin_of w.fences k u) o p.content
    where
      go : (v : ℕ) (o : Option ℕ) → ContentIs (view w g) k v o → o ≡ written v
      go v x c = elim c [
        | inl e ↦ (let f : (v == 0) ≡ true = eq-eqb v 0 e.0 in rw f e.1)
        | inr c ↦ sym (written_by v x (omega (arith, c.0, h.versions.least)) c.2.act)
      ]

  -- a version that was given to a write is its own origin
  own_origin : (c n u k : ℕ) → Given (view w g) c n u → origin_of w.fences k u ≡ u
  own_origin c n u k i =
      origin_same w.fences k u (no_fence w.rack.home (view w g) c n u k i w.fences h.fences)

  record WriteFits (c n u : ℕ) (x : Option ℕ) : Type 0 where
    pub above : g.bound c n < u
    pub content : written u ≡ x

  -- u is a tag: what was answered before the issue has no greater one
  record ReadFits (c n u place : ℕ) (content : Option ℕ) : Type 0 where
    pub above : (v : ℕ) → Alive w.fences (w.plans c n).key v → v ≤ g.bound c n →
        origin_of w.fences (w.plans c n).key v ≤ u
    pub later : (w.plans c n).issue < place
    pub content_is : content ≡ written u

  abbrev tag_at : ℕ → ℕ → Option Answer → Act → ℕ
  tag_at c n o act = tag_of o act (w.stamps c n)

  -- an operation that is printed
  printed_fits : (c n : ℕ) → 1 ≤ n → n ≤ w.issued c → (o : Option Answer) (act : Act) →
      w.answers c n ≡ o → (w.plans c n).act ≡ act → (rest : Bool)
      → (is_some (answer_place o) || (is_write act && (nat_lt 0 (tag_at c n o act) && rest))) ≡ true
      → ((x : Option ℕ) → act ≡ Writes x → WriteFits c n (tag_at c n o act) x)
      × (act ≡ Reads → ReadFits c n (tag_at c n o act) (place (answer_place o)) (content_of o))
  printed_fits c n l m None Reads eo ea rest t = absurd (cc)
  printed_fits c n l m None (Writes y) eo ea rest t =
      let p = and_parts (nat_lt 0 (w.stamps c n)) rest t in
      let i = stamped_given w g h c n (ltb-true 0 (w.stamps c n) p.0) in (
        λ x e. record {
          above = (given_version w g h c n (w.stamps c n) i).above;
          content =
              written_given c n (w.stamps c n) x i (ea ∙ e);
        },
        λ e. absurd (cc),
      )
  printed_fits c n l m (Some a) Reads eo ea rest t =
      let ok = subst (AnswerOk w.rack.home (view w g) w.place w.sent c n) eo
      (h.history.each c n l m) in
      let f = subst (AnswerFits (view w g) c n a) ea ok.fits in (
        λ x e. absurd (cc),
        λ e. record {
          above = λ v al low. let up =
              origin_up w.fences (w.plans c n).key v a.version h.nested al (omega (arith, low, f.0))
              in omega (arith, up, ok.tag);
          later = ok.later;
          content_is = written_pair (w.plans c n).key a.version a.content f.1
              ∙ ap written (sym ok.tag);
        },
      )
  printed_fits c n l m (Some a) (Writes y) eo ea rest t =
      let ok = subst (AnswerOk w.rack.home (view w g) w.place w.sent c n) eo
      (h.history.each c n l m) in
      let i = subst (AnswerFits (view w g) c n a) ea ok.fits in
      let own = ok.tag ∙ own_origin c n a.version (w.plans c n).key i in (
        λ x e. subst (λ (u : ℕ). WriteFits c n u x) (sym own)
            (record {
              above = (given_version w g h c n a.version i).above;
              content =
                  written_given c n a.version x i (ea ∙ e);
            }),
        λ e. absurd (cc),
      )

  -- a version of a write that no Fence passed over is the last one that it was stamped with
  last_stamp : (c n u : ℕ) → Given (view w g) c n u → Alive w.fences (w.plans c n).key u →
      w.stamps c n ≡ u
  last_stamp c n u i al =
      elim (given_version w g h c n u i).stamp
      [ inl e ↦ e | inr d ↦ absurd (not_both w.fences (w.plans c n).key u al d) ]

  -- a write's tag is its version
  write_tag : (c n u : ℕ) (x : Option ℕ) → 1 ≤ n → n ≤ w.issued c → Given (view w g) c n u →
      Alive w.fences (w.plans c n).key u → (w.plans c n).act ≡ Writes x → (o : Option Answer) →
      w.answers c n ≡ o → tag_at c n o (Writes x) ≡ u
  write_tag c n u x l m i al ea None eo = last_stamp c n u i al
  write_tag c n u x l m i al ea (Some a) eo =
      let ok = subst (AnswerOk w.rack.home (view w g) w.place w.sent c n) eo
      (h.history.each c n l m) in
      let j = subst (AnswerFits (view w g) c n a) ea ok.fits in
      ok.tag ∙ own_origin c n a.version (w.plans c n).key j
      ∙ sym (last_stamp c n a.version j ok.ok.1) ∙ last_stamp c n u i al

  -- one of the history
  record From (t : Tagged) : Type 0 where
    pub name : ℕ
    pub i : Id
    pub is : t ≡ tagged (book w) name i
    pub least : 1 ≤ i.seq
    pub most : i.seq ≤ w.issued i.client

  record Good (t : Tagged) : Type 0 where
    pub c : ℕ
    pub n : ℕ
    pub name : ℕ
    pub is : t ≡ tagged (book w) name (id c n)
    pub least : 1 ≤ n
    pub most : n ≤ w.issued c
    pub key_is : t.op.key ≡ key
    pub write : (x : Option ℕ) → t.op.act ≡ Writes x → WriteFits c n t.tag x
    pub read : t.op.act ≡ Reads → ReadFits c n t.tag (place t.op.answer) t.op.content

  abbrev all : List Tagged
  all = all_tagged (book w)

  abbrev Seen : Tagged → Type 0
  Seen t = (u : ℕ) → is_seen key u t ≡ true → list_any (is_seen key u) all ≡ true

  abbrev WritesTag : ℕ → Tagged → Type 0
  WritesTag u t = IsWriteAct t.op.act × (t.tag ≡ u)

  -- for a read: the last write has its tag, or its write is still to come
  abbrev FedBy : ℕ → List Tagged → Tagged → Type 0
  FedBy last ts t = t.op.act ≡ Reads → (t.tag ≡ last) ⊎ AnyOf (WritesTag t.tag) ts

  good_at : (name c n : ℕ) → 1 ≤ n → n ≤ w.issued c →
      is_printed key all (tagged (book w) name (id c n)) ≡ true →
      Good (tagged (book w) name (id c n))
  good_at name c n l m t =
      let tag = tag_at c n (w.answers c n) (w.plans c n).act in
      let rest = list_any (is_seen key tag) all in
      let p = and_parts ((w.plans c n).key == key)
      (is_some (answer_place (w.answers c n))
      || (is_write (w.plans c n).act && (nat_lt 0 tag && rest))) t in
      let f = printed_fits c n l m (w.answers c n) (w.plans c n).act refl refl rest p.1 in
      record {
        c = c;
        n = n;
        name = name;
        is = refl;
        least = l;
        most = m;
        key_is =
            eqb-true (w.plans c n).key key p.0;
        write = f.0;
        read = f.1;
      }

  good_from : (t : Tagged) → From t → is_printed key all t ≡ true → Good t
  good_from t f p =
      subst Good (sym f.is)
      (good_at f.name f.i.client f.i.seq f.least f.most
      (subst (λ (x : Tagged). is_printed key all x ≡ true) f.is p))

  -- the write that a read got is printed too
  writer_printed : (c n m u : ℕ) (x : Option ℕ) → 1 ≤ n → n ≤ w.issued c → Given (view w g) c n u →
      Alive w.fences (w.plans c n).key u → (w.plans c n).act ≡ Writes x → (w.plans c n).key ≡ key →
      1 ≤ u
      → list_any (is_seen key u) all ≡ true → (act : Act) (o : Option Answer) →
      (w.plans c n).act ≡ act → w.answers c n ≡ o
      → (IsWriteAct act × (tag_at c n o act ≡ u))
      × (((w.plans c n).key == key
      && (is_some (answer_place o)
      || (is_write act &&
      (nat_lt 0 (tag_at c n o act) && list_any (is_seen key (tag_at c n o act)) all))))
      ≡ true)
  writer_printed c n m u x l most i al ea ek some seen Reads o e1 e2 = absurd (cc)
  writer_printed c n m u x l most i al ea ek some seen (Writes y) (Some a) e1 e2 = (
    (tt, write_tag c n u y l most i al e1 (Some a) e2),
    and_from ((w.plans c n).key == key) true (eq-eqb (w.plans c n).key key ek) refl,
  )
  writer_printed c n m u x l most i al ea ek some seen (Writes y) None e1 e2 =
      let tag : w.stamps c n ≡ u = write_tag c n u y l most i al e1 None e2 in
      let seen' : list_any (is_seen key (w.stamps c n)) all ≡ true =
      subst (λ (v : ℕ). list_any (is_seen key v) all ≡ true) (sym tag) seen in
      let lt : nat_lt 0 (w.stamps c n) ≡ true =
      lt-ltb 0 (w.stamps c n) (omega (arith, tag, some)) in (
        (tt, tag),
        and_from ((w.plans c n).key == key)
            (nat_lt 0 (w.stamps c n) && list_any (is_seen key (w.stamps c n)) all)
            (eq-eqb (w.plans c n).key key ek)
            (and_from (nat_lt 0 (w.stamps c n)) (list_any (is_seen key (w.stamps c n)) all) lt
            seen'),
      )

  -- v is the origin of what the read got
  fed_by_content : (v : ℕ) (o : Option ℕ) → ContentIs (view w g) key v o → Alive w.fences key v →
      list_any (is_seen key v) all ≡ true →
      (v ≡ 0) ⊎ AnyOf (WritesTag v) (filter (is_printed key all) all)
  fed_by_content v x p al seen = elim p [
    | inl z ↦ inl z.0
    | inr p ↦
        let i = g.who v in
        let gi : Given (view w g) i.client i.seq v =
        record { least = p.0; most = p.1; who = refl; some = p.2.issued.least } in
        inr (any_filtered (WritesTag v) (is_printed key all) all
        (any_named (book w) (λ t. WritesTag v t × (is_printed key all t ≡ true)) i
        (λ m. writer_printed i.client i.seq m v x p.2.issued.least p.2.issued.most gi
        (subst (λ (k : ℕ). Alive w.fences k v) (sym p.2.issued.key) al) p.2.act p.2.issued.key
        (omega (arith, p.0, h.versions.least)) seen
        (w.plans i.client i.seq).act (w.answers i.client i.seq) refl refl)
        0 w.log (any_from_Contains w.log i
        (h.names.all i.client i.seq p.2.issued.least p.2.issued.most))))
  ]

  fed_at : (c n : ℕ) → 1 ≤ n → n ≤ w.issued c → (w.plans c n).key ≡ key →
      (o : Option Answer) (act : Act) → w.answers c n ≡ o → (w.plans c n).act ≡ act → (rest : Bool)
      → (is_some (answer_place o) || (is_write act && (nat_lt 0 (tag_at c n o act) && rest))) ≡ true
      → ((u : ℕ) →
      ((w.plans c n).key == key
      && (is_read act && (is_some (answer_place o) && tag_at c n o act == u))) ≡ true →
      list_any (is_seen key u) all ≡ true)
      → act ≡ Reads → (tag_at c n o act ≡ 0)
      ⊎ AnyOf (WritesTag (tag_at c n o act)) (filter (is_printed key all) all)
  fed_at c n l m ek None Reads eo ea rest t seen r = absurd (cc)
  fed_at c n l m ek o (Writes y) eo ea rest t seen r = absurd (cc)
  fed_at c n l m ek (Some a) Reads eo ea rest t seen r =
      let ok = subst (AnswerOk w.rack.home (view w g) w.place w.sent c n) eo
      (h.history.each c n l m) in
      let f = subst (AnswerFits (view w g) c n a) ea ok.fits in
      let v = a.tag in
      fed_by_content v a.content
      (subst (λ (k : ℕ). ContentIs (view w g) k v a.content) ek
      (subst (λ (y : ℕ). ContentIs (view w g) (w.plans c n).key y a.content) (sym ok.tag)
      f.1.content))
      (subst (λ (k : ℕ). Alive w.fences k v) ek
      (subst (Alive w.fences (w.plans c n).key) (sym ok.tag)
      (origin_alive w.fences (w.plans c n).key a.version h.nested ok.ok.1)))
      (seen v (and_from ((w.plans c n).key == key) (v == v) (eq-eqb (w.plans c n).key key ek)
      (eq-eqb v v refl)))

  fed_from : (t : Tagged) → From t → Seen t → is_printed key all t ≡ true →
      FedBy 0 (filter (is_printed key all) all) t
  fed_from t f seen p =
      let q : is_printed key all (tagged (book w) f.name f.i) ≡ true =
      subst (λ (x : Tagged). is_printed key all x ≡ true) f.is p in
      let seen' = subst Seen f.is seen in
      let c = f.i.client in
      let n = f.i.seq in
      let tag = tag_at c n (w.answers c n) (w.plans c n).act in
      let rest = list_any (is_seen key tag) all in
      let r = and_parts ((w.plans c n).key == key)
      (is_some (answer_place (w.answers c n))
      || (is_write (w.plans c n).act && (nat_lt 0 tag && rest))) q in
      subst (FedBy 0 (filter (is_printed key all) all)) (sym f.is)
      (fed_at c n f.least f.most (eqb-true (w.plans c n).key key r.0) (w.answers c n)
      (w.plans c n).act refl refl rest r.1 seen')

  -- the whole history, and what is printed of it
  all_from : AllByRecursion From all
  all_from = all_named (book w) (λ m i. (1 ≤ i.seq) × (i.seq ≤ w.issued i.client)) From
      (λ m i b. record { name = m; i = i; is = refl; least = b.0; most = b.1 }) 0 w.log
      (λ m. h.names.each)

  all_chosen : AllByRecursion (λ t. Good t × FedBy 0 (filter (is_printed key all) all) t)
      (filter (is_printed key all) all)
  all_chosen =
      all_weaker (λ t. (From t × Seen t) × (is_printed key all t ≡ true))
      (λ t. Good t × FedBy 0 (filter (is_printed key all) all) t)
      (λ t f. (good_from t f.0.0 f.1, fed_from t f.0.0 f.0.1 f.1)) (filter (is_printed key all) all)
      (all_filtered (λ t. From t × Seen t) (is_printed key all) all
      (all_with From Seen all all_from (any_self (is_seen key) all)))

  all_printed : AllByRecursion (λ t. Good t × FedBy 0 (printed_tagged key (book w)) t)
      (printed_tagged key (book w))
  all_printed =
      all_sorted (λ t. Good t × FedBy 0 (printed_tagged key (book w)) t)
      (filter (is_printed key all) all)
      (all_weaker (λ t. Good t × FedBy 0 (filter (is_printed key all) all) t)
      (λ t. Good t × FedBy 0 (printed_tagged key (book w)) t)
      (λ t f. (
        f.0,
        λ r. elim (f.1 r) [
          | inl z ↦ inl z
          | inr k ↦ inr
              (any_sorted (WritesTag t.tag) (filter (is_printed key all) all) k)
        ],
      ))
      (filter (is_printed key all) all) all_chosen)

  -- no write comes after a read of the same tag
  no_write_after : (t : Tagged) → t.op.act ≡ Reads → (ts : List Tagged) →
      AllByRecursion (Before t) ts → AnyOf (WritesTag t.tag) ts → ⊥
  no_write_after t r [] b k = k
  no_write_after t r (s ∷ ts) b k =
      elim k [
        | inl x ↦ kinds s.op.act t.op.act (kind s.op.act) (kind t.op.act) refl refl r x.0
            (omega (arith, b.0, x.1))
        | inr y ↦ no_write_after t r ts b.1 y
      ]
    where
      kinds : (a b : Act) (i j : ℕ) → kind a ≡ i → kind b ≡ j → b ≡ Reads → IsWriteAct a → j ≤ i → ⊥
      kinds Reads b i j e1 e2 e3 x l = x
      kinds (Writes y) Reads i j e1 e2 e3 x l = omega (arith, e1, e2, l)
      kinds (Writes y) (Writes z) i j e1 e2 e3 x l = cc

  tag_up : (t s : Tagged) → Before t s → t.tag ≤ s.tag
  tag_up t s b = omega arith

  legal_from : (lt : ℕ) (last : Option ℕ) (ts : List Tagged) → last ≡ written lt
      → AllByRecursion Good ts → AllByRecursion (FedBy lt ts) ts →
      AllByRecursion (λ t. lt ≤ t.tag) ts → Sorted ts → LegalFrom last (ops ts)
  legal_from lt last [] e good fed low sorted = tt
  legal_from lt last (t ∷ ts) e good fed low sorted =
      by_act (λ lt' last' e' fed' low'. legal_from lt' last' ts e' good.1 fed' low' sorted.1)
      t.op.act refl
    where
      read_fed : t.op.act ≡ Reads → (s : Tagged) → FedBy lt (t ∷ ts) s → FedBy lt ts s
      read_fed r s f q = elim (f q) [
        | inl z ↦ inl z
        | inr k ↦ elim k
            [ inl x ↦ absurd (subst IsWriteAct r x.0) | inr y ↦ inr y ]
      ]

      write_fed : (s : Tagged) → ((FedBy lt (t ∷ ts) s × (lt ≤ s.tag)) × Before t s) →
          FedBy t.tag ts s
      write_fed s f q = elim (f.0.0 q) [
        | inl z ↦ inl (omega (arith, z, tag_up t s f.1, low.0))
        | inr k ↦ elim k [ inl x ↦ inl (sym x.1) | inr y ↦ inr y ]
      ]

      by_act : ((lt' : ℕ) (last' : Option ℕ) → last' ≡ written lt' →
          AllByRecursion (FedBy lt' ts) ts → AllByRecursion (λ s. lt' ≤ s.tag) ts →
          LegalFrom last' (ops ts))
          → (act : Act) → t.op.act ≡ act →
          LegalStep act last t.op.content × LegalFrom (last_after act last) (ops ts)
      by_act again Reads r =
          let f = good.0.read r in
          let at : t.tag ≡ lt = elim (fed.0 r) [
            | inl z ↦ z
            | inr k ↦ absurd
                (elim k [
                  | inl x ↦ subst IsWriteAct r x.0
                  | inr y ↦ no_write_after t r ts sorted.0 y
                ])
          ] in (
            f.content_is ∙ ap written at ∙ sym e,
            again lt last e (all_weaker (FedBy lt (t ∷ ts)) (FedBy lt ts) (read_fed r) ts fed.1)
                low.1,
          )
      by_act again (Writes x) r =
          let f = good.0.write x r in (
            tt,
            again t.tag x (sym f.content)
                (all_weaker (λ s. (FedBy lt (t ∷ ts) s × (lt ≤ s.tag)) × Before t s)
                (FedBy t.tag ts) write_fed ts
                (all_with (λ s. FedBy lt (t ∷ ts) s × (lt ≤ s.tag)) (Before t) ts
                (all_with (FedBy lt (t ∷ ts)) (λ s. lt ≤ s.tag) ts fed.1 low.1) sorted.0))
                (all_weaker (Before t) (λ s. t.tag ≤ s.tag) (tag_up t) ts sorted.0),
          )

  -- what was answered before an issue: its tag is the origin of a version that is at most what
  -- bounds the operation issued
  record Low (c n tag : ℕ) : Type 0 where
    pub version : ℕ
    pub tag_is : tag ≡ origin_of w.fences (w.plans c n).key version
    pub alive : Alive w.fences (w.plans c n).key version
    pub most : version ≤ g.bound c n

  answered_low : (c n d m p : ℕ) → 1 ≤ n → n ≤ w.issued c → 1 ≤ m → m ≤ w.issued d →
      (w.plans d m).key ≡ (w.plans c n).key → p ≡ (w.plans c n).issue
      → (o : Option Answer) → w.answers d m ≡ o → AnsweredBefore (answer_place o) p →
      Low c n (tag_at d m o (w.plans d m).act)
  answered_low c n d m p l1 m1 l2 m2 ek ep None eo b = absurd b
  answered_low c n d m p l1 m1 l2 m2 ek ep (Some a) eo b =
      let ok = subst (AnswerOk w.rack.home (view w g) w.place w.sent d m) eo
      (h.history.each d m l2 m2) in
      record {
        version = a.version;
        tag_is = ok.tag ∙ ap (λ k. origin_of w.fences k a.version) ek;
        alive = subst (λ (k : ℕ). Alive w.fences k a.version) ek ok.ok.1;
        most = h.history.order c n d m a l1 m1 l2 m2 ek eo (omega (arith, b, ep));
      }

  pair_low : (t r : Tagged) (f : Good t) → Good r → AnsweredBefore r.op.answer t.op.issue →
      Low f.c f.n r.tag
  pair_low t r f q =
      let ek : (w.plans q.c q.n).key ≡ (w.plans f.c f.n).key =
      sym (ap (λ (x : Tagged). x.op.key) q.is) ∙ q.key_is ∙ sym f.key_is
      ∙ ap (λ (x : Tagged). x.op.key) f.is in
      subst (λ (x : Tagged). AnsweredBefore x.op.answer t.op.issue → Low f.c f.n x.tag) (sym q.is)
      (answered_low f.c f.n q.c q.n t.op.issue f.least f.most q.least q.most ek
      (ap (λ (x : Tagged). x.op.issue) f.is) (w.answers q.c q.n) refl)

  kind_least : (a : Act) → kind a ≤ 1
  kind_least Reads = omega arith
  kind_least (Writes x) = omega arith

  issue_is : (t : Tagged) (f : Good t) → t.op.issue ≡ (w.plans f.c f.n).issue
  issue_is t f = ap (λ (x : Tagged). x.op.issue) f.is

  in_time : (t r : Tagged) → Good t → Good r → Before t r → AnsweredBefore r.op.answer t.op.issue →
      ⊥
  in_time t r f q b a = by_act t.op.act refl
    where
      by_act : (act : Act) → t.op.act ≡ act → ⊥
      by_act Reads e =
          let low = pair_low t r f q a in
          let fits = f.read e in
          let k : kind t.op.act ≡ 1 = ap kind e in
          let p = place_before r.op.answer t.op.issue a in
          omega (
            arith,
            low.tag_is,
            fits.above low.version low.alive low.most,
            fits.later,
            k,
            kind_least r.op.act,
            p,
            b,
            issue_is t f,
          )
      by_act (Writes x) e =
          let low = pair_low t r f q a in
          let fits = f.write x e in
          omega (
            arith,
            low.tag_is,
            low.most,
            origin_least w.fences (w.plans f.c f.n).key low.version h.nested,
            fits.above,
            tag_up t r b,
          )

  time_from : (ts : List Tagged) → AllByRecursion Good ts → Sorted ts → KeepsTime (ops ts)
  time_from [] good sorted = tt
  time_from (t ∷ ts) good sorted = (
    all_ops (λ p. AnsweredBefore p.answer t.op.issue → ⊥) ts
        (all_weaker (λ r. Good r × Before t r) (λ r. AnsweredBefore r.op.answer t.op.issue → ⊥)
        (λ r f. in_time t r good.0 f.0 f.1) ts (all_with Good (Before t) ts good.1 sorted.0)),
    time_from ts good.1 sorted.1,
  )

  good_printed : AllByRecursion Good (printed_tagged key (book w))
  good_printed = all_weaker (λ t. Good t × FedBy 0 (printed_tagged key (book w)) t) Good
      (λ t f. f.0) (printed_tagged key (book w)) all_printed

  once_printed : (n : ℕ) → times n (printed key (book w)) ≤ 1
  once_printed n = omega (
    arith,
    times-sort n (filter (is_printed key all) all),
    times-filter n (is_printed key all) all,
    named_once (book w) n 0 w.log,
  )

  answered_printed : AllByRecursion
      (λ t. t.op.key ≡ key → IsSome t.op.answer → times t.op.name (printed key (book w)) ≡ 1) all
  answered_printed =
      all_weaker
      (λ t. is_printed key all t ≡ true →
      1 ≤ times t.op.name (ops (filter (is_printed key all) all)))
      (λ t. t.op.key ≡ key → IsSome t.op.answer → times t.op.name (printed key (book w)) ≡ 1)
      (λ t k ek some.
      let rest = is_write t.op.act && (nat_lt 0 t.tag && list_any (is_seen key t.tag) all) in
      let kept : is_printed key all t ≡ true =
      and_from (t.op.key == key) (is_some t.op.answer || rest) (eq-eqb t.op.key key ek)
      (or_left (is_some t.op.answer) rest some) in
      omega (
        arith,
        k kept,
        times-sort t.op.name (filter (is_printed key all) all),
        once_printed t.op.name,
      ))
      all (kept_once (is_printed key all) all)

  in_history : AllByRecursion (λ t. Contains (history (book w)) t.op) all
  in_history = all_of_ops (Contains (history (book w))) all
      (recursion_from_All (Contains (history (book w))) (history (book w))
      (All-contains_itself (history (book w))))

  only_printed : AllByRecursion
      (λ t. Contains (history (book w)) t.op × (t.op.key ≡ key)
      × (IsSome t.op.answer ⊎ IsWriteAct t.op.act)) (printed_tagged key (book w))
  only_printed =
      all_sorted
      (λ t. Contains (history (book w)) t.op × (t.op.key ≡ key)
      × (IsSome t.op.answer ⊎ IsWriteAct t.op.act)) (filter (is_printed key all) all)
      (all_weaker (λ t. Contains (history (book w)) t.op × (is_printed key all t ≡ true))
      (λ t. Contains (history (book w)) t.op × (t.op.key ≡ key)
      × (IsSome t.op.answer ⊎ IsWriteAct t.op.act))
      (λ t f.
      let rest = nat_lt 0 t.tag && list_any (is_seen key t.tag) all in
      let p = and_parts (t.op.key == key) (is_some t.op.answer || (is_write t.op.act && rest)) f.1
      in (
        f.0,
        eqb-true t.op.key key p.0,
        elim (or_cases (is_some t.op.answer) (is_write t.op.act && rest) p.1) [
          | inl y ↦ inl y
          | inr y ↦ inr (wrote t.op.act (and_parts (is_write t.op.act) rest y).0)
        ],
      ))
      (filter (is_printed key all) all)
      (all_filtered (λ t. Contains (history (book w)) t.op) (is_printed key all) all
      in_history))
    where
      wrote : (a : Act) → is_write a ≡ true → IsWriteAct a
      wrote Reads e = absurd (cc)
      wrote (Writes x) e = tt

  pub is_register_history : IsRegisterHistory key (history (book w)) (printed key (book w))
  is_register_history = record {
    answered = All-from_recursion
        (λ o. o.key ≡ key → IsSome o.answer → times o.name (printed key (book w)) ≡ 1)
        (history (book w))
        (all_ops (λ o. o.key ≡ key → IsSome o.answer →
        times o.name (printed key (book w)) ≡ 1) all answered_printed);
    only = All-from_recursion
        (λ o. Contains (history (book w)) o × (o.key ≡ key) × (IsSome o.answer ⊎ IsWriteAct o.act))
        (printed key (book w))
        (all_ops (λ o. Contains (history (book w)) o × (o.key ≡ key)
        × (IsSome o.answer ⊎ IsWriteAct o.act)) (printed_tagged key (book w)) only_printed);
    once = once_printed;
    legal = legal_from 0 None (printed_tagged key (book w)) refl good_printed
        (all_weaker (λ t. Good t × FedBy 0 (printed_tagged key (book w)) t)
        (FedBy 0 (printed_tagged key (book w))) (λ t f. f.1) (printed_tagged key (book w))
        all_printed)
        (all_weaker Good (λ t. 0 ≤ t.tag) (λ t f. omega arith) (printed_tagged key (book w))
        good_printed)
        (sort_in_order (filter (is_printed key all) all));
    time = time_from (printed_tagged key (book w)) good_printed
        (sort_in_order (filter (is_printed key all) all));
  }
