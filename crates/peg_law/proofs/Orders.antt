-- The printed orders of a world are register histories, since those of the protocol machine are.
use Rattle.std.proofs.Common.{◌≡◌, ◌≢◌, ◌≤◌, ◌+◌, ◌==◌, ◌&&◌, ◌||◌, ◌⊎◌, inl, inr, ℕ, zero, suc}
use Rattle.std.proofs.Common.{Bool, true, false, List, [], ◌∷◌, ◌++◌}
use Rattle.std.proofs.Common.{cond, length, map, filter, Option, Some, None, is_some, IsSome, refl}
use Rattle.std.proofs.Common.{sym, ap, ◌∙◌, subst, nat_lt, slice_get}
use Rattle.std.proofs.Common.{arith, eq-eqb, append_assoc, length-append, ltb-true, ltb-false}
use Rattle.std.proofs.lemmas.Bool.{cond_both, and_parts, and_from, or_cases, or_left}
use Rattle.std.proofs.lemmas.List.{length-map}
use Rattle.std.proofs.lemmas.List.Kept.{AllPairs-cons}
use Rattle.std.proofs.lemmas.List.Elements.{All-from_recursion}
use Rattle.std.proofs.lemmas.Slice.Eq.{bytes_eq-Decides}
use Rattle.std.specs.Prelude.{AllPairs, Contains, IsSomeAnd, IfSome}
use Rattle.std.specs.List.{AllByRecursion, cons_option}
use Rattle.std.specs.Str.{bytes_eq}
use Rattle.peg_name.specs.declared.value.Content.{Content}
use Rattle.peg_name.specs.declared.value.Content.TheVariants.{Absent}
use Rattle.peg_event.specs.declared.history.Act.{Act}
use Rattle.peg_event.specs.declared.history.Act.TheVariants as act
use Rattle.peg_event.specs.declared.history.Op.{Op}
use Rattle.peg_model.specs.Words.{sorted, placed}
use Rattle.peg_model.specs.Order.{Tagged, tagged, was_read, is_printed, stands_before, order_of}
use Rattle.peg_model.specs.Order.{keys_in}
use Rattle.peg_model.specs.Register.{Legal, KeepsTime, Gives, content_after, at_places, MayStand}
use Rattle.peg_model.specs.Register.{IsRegisterHistory}
use Rattle.peg_model.specs.Headline.{OrdersAreHistories}
use Rattle.peg_model.specs.World as world
use Rattle.peg_model.specs.World.{World, Operation, history}
use Rattle.peg_law.specs.Codes.{number_of, content_code, act_code}
use Rattle.peg_law.specs.Mirrors.{Mirrors, Paired}
use Rattle.peg_law.proofs.Codes.{content_apart}
use Rattle.peg_law.proofs.Lists.{all_as, all_chosen, all_sorted, get_next}
use Rattle.peg_law.proofs.Printed.{TaggedFits, all_tagged, printed_alike}
use Rattle.peg_protocol.specs.Machine as machine
use Rattle.peg_protocol.specs.Register as register
use Rattle.peg_protocol.specs.RackLaw.{book_of}
use Rattle.peg_protocol.specs.Printed as law
use Rattle.peg_protocol.specs.System.{System}

-- ---- what a choice and a sort keep

abbrev AnyBy : {A : Type 0} → (A → Type 0) → List A → Type 0
AnyBy P [] = ⊥
AnyBy P (x ∷ xs) = P x ⊎ AnyBy P xs

any_chosen :
    {A : Type 0} (P : A → Type 0) (p : A → Bool) (xs : List A) → ((x : A) → P x → p x ≡ true)
    → AnyBy P xs → AnyBy P (filter p xs)
any_chosen P p [] f any = any
any_chosen P p (x ∷ xs) f (inl one) =
    cond_both (p x) (x ∷ filter p xs) (filter p xs) (AnyBy P) (λ y. inl one)
    (λ n. absurd (let y : p x ≡ true = f x one in cc))
any_chosen P p (x ∷ xs) f (inr more) =
    cond_both (p x) (x ∷ filter p xs) (filter p xs) (AnyBy P)
    (λ y. inr (any_chosen P p xs f more)) (λ n. any_chosen P p xs f more)

any_placed :
    {A : Type 0} (before : A → A → Bool) (P : A → Type 0) (x : A) (xs : List A)
    → P x ⊎ AnyBy P xs → AnyBy P (placed before x xs)
any_placed before P x [] any = any
any_placed before P x (y ∷ ys) (inl one) =
    cond_both (before x y) (x ∷ y ∷ ys) (y ∷ placed before x ys) (AnyBy P) (λ t. inl one)
    (λ n. inr (any_placed before P x ys (inl one)))
any_placed before P x (y ∷ ys) (inr (inl one)) =
    cond_both (before x y) (x ∷ y ∷ ys) (y ∷ placed before x ys) (AnyBy P) (λ t. inr (inl one))
    (λ n. inl one)
any_placed before P x (y ∷ ys) (inr (inr more)) =
    cond_both (before x y) (x ∷ y ∷ ys) (y ∷ placed before x ys) (AnyBy P)
    (λ t. inr (inr more)) (λ n. inr (any_placed before P x ys (inr more)))

any_sorted :
    {A : Type 0} (before : A → A → Bool) (P : A → Type 0) (xs : List A) → AnyBy P xs
    → AnyBy P (sorted before xs)
any_sorted before P [] any = any
any_sorted before P (x ∷ xs) (inl one) = any_placed before P x (sorted before xs) (inl one)
any_sorted before P (x ∷ xs) (inr more) =
    any_placed before P x (sorted before xs) (inr (any_sorted before P xs more))

-- ---- the operations and their places

tagged_at :
    (before ops : List Op) (tags : List ℕ)
    → AllByRecursion (λ t. slice_get (before ++ ops) t.place ≡ Some t.op)
    (tagged (length before) ops tags)
tagged_at before [] tags = tt
tagged_at before (op ∷ ops) [] = tt
tagged_at before (op ∷ ops) (tag ∷ tags) =
    let n : length (before ++ op ∷ []) ≡ length before + 1 =
    (let l = length-append before (op ∷ []) in omega (arith, l)) in (
      get_next before ops op,
      subst
          (λ k.
          AllByRecursion (λ t. slice_get (before ++ op ∷ ops) t.place ≡ Some t.op)
          (tagged k ops tags))
          n
          (subst
          (λ l.
          AllByRecursion (λ t. slice_get l t.place ≡ Some t.op)
          (tagged (length (before ++ op ∷ [])) ops tags))
          (append_assoc before (op ∷ []) ops) (tagged_at (before ++ op ∷ []) ops tags)),
    )

-- each operation stands among the tagged ones
pub record StandsAt (place : ℕ) (op : Op) (t : Tagged) : Type 0 where
  pub at : t.place ≡ place
  pub is : t.op ≡ op

tagged_has :
    (n : ℕ) (ops : List Op) (tags : List ℕ) (i : ℕ) (op : Op) → length ops ≡ length tags
    → slice_get ops i ≡ Some op → AnyBy (StandsAt (n + i) op) (tagged n ops tags)
tagged_has n [] tags i op l e = absurd (cc)
tagged_has n (o ∷ ops) [] i op l e = absurd (omega (arith, l))
tagged_has n (o ∷ ops) (tag ∷ tags) zero op l e =
    inl (record { at = omega arith; is = cc })
tagged_has n (o ∷ ops) (tag ∷ tags) (suc i) op l e =
    inr
    (subst (λ k. AnyBy (StandsAt k op) (tagged (n + 1) ops tags)) (omega arith)
    (tagged_has (n + 1) ops tags i op (omega (arith, l)) e))

has_place :
    (place : ℕ) (op : Op) (ts : List Tagged) → AnyBy (StandsAt place op) ts
    → Contains (map (λ t. t.place) ts) place
has_place place op [] any = absurd any
has_place place op (t ∷ ts) (inl one) = (0, omega arith, one.at)
has_place place op (t ∷ ts) (inr more) =
    let x = has_place place op ts more in (suc x.0, omega (arith, x.1), x.2)

-- ---- the fields of a register history

-- an operation that is printed
abbrev Shown : List ℕ → List Op → Tagged → Type 0
Shown key ops t = (slice_get ops t.place ≡ Some t.op) × MayStand key t.op

may_stand :
    (key : List ℕ) (all : List Tagged) (t : Tagged) → is_printed all key t ≡ true
    → MayStand key t.op
may_stand key all t e =
    let rest = world.is_write t.op.act && nat_lt 0 t.tag && was_read all key t.tag in
    let p = and_parts (bytes_eq t.op.key key) (is_some t.op.answered || rest) e in (
      (bytes_eq-Decides t.op.key key).0 p.0,
      by_case (or_cases (is_some t.op.answered) rest p.1),
    )
  where
    written : (k : Act) → world.is_write k ≡ true → k ≡ act.Write
    written act.Read f = absurd (cc)
    written act.Write f = refl

    by_case :
        (is_some t.op.answered ≡ true)
        ⊎ ((world.is_write t.op.act && nat_lt 0 t.tag && was_read all key t.tag) ≡ true)
        → IsSome t.op.answered ⊎ (t.op.act ≡ act.Write)
    by_case (inl y) = inl y
    by_case (inr y) =
        inr
        (written t.op.act
        (and_parts (world.is_write t.op.act) (nat_lt 0 t.tag)
        (and_parts (world.is_write t.op.act && nat_lt 0 t.tag) (was_read all key t.tag) y).0).0)

admitted_all :
    (key : List ℕ) (ops : List Op) (ts : List Tagged) → AllByRecursion (Shown key ops) ts
    → AllByRecursion (λ place. IsSomeAnd (slice_get ops place) (MayStand key))
    (map (λ t. t.place) ts)
admitted_all key ops [] all = tt
admitted_all key ops (t ∷ ts) all = (
  subst (λ o. IsSomeAnd o (MayStand key)) (sym all.0.0) all.0.1,
  admitted_all key ops ts all.1,
)

places_are :
    (key : List ℕ) (ops : List Op) (ts : List Tagged) → AllByRecursion (Shown key ops) ts
    → at_places ops (map (λ t. t.place) ts) ≡ map (λ t. t.op) ts
places_are key ops [] all = refl
places_are key ops (t ∷ ts) all =
    ap (λ o. cons_option o (at_places ops (map (λ t. t.place) ts))) all.0.0
    ∙ ap (λ l. t.op ∷ l) (places_are key ops ts all.1)

none_more :
    (n : ℕ) (ts : List Tagged) (us : List law.Tagged) → Paired TaggedFits ts us
    → register.times n (map (λ u. u.op) us) ≤ 0
    → AllByRecursion (λ place. n ≢ place) (map (λ t. t.place) ts)
none_more n [] [] h less = tt
none_more n [] (u ∷ us) h less = absurd h
none_more n (t ∷ ts) [] h less = absurd h
none_more n (t ∷ ts) (u ∷ us) h less = (
  λ e. let f : (u.op.name == n) ≡ true = eq-eqb u.op.name n (h.0.name ∙ sym e) in
      let l = subst (λ b. cond b 1 0 + register.times n (map (λ u. u.op) us) ≤ 0) f less in
      omega (arith, l),
  none_more n ts us h.1 (omega (arith, less)),
)

once_each :
    (ts : List Tagged) (us : List law.Tagged) → Paired TaggedFits ts us
    → ((n : ℕ) → register.times n (map (λ u. u.op) us) ≤ 1)
    → AllPairs (λ place other. place ≢ other) (map (λ t. t.place) ts)
once_each [] [] h once = λ i j d less within. absurd (omega (arith, within))
once_each [] (u ∷ us) h once = absurd h
once_each (t ∷ ts) [] h once = absurd h
once_each (t ∷ ts) (u ∷ us) h once =
    AllPairs-cons (λ place other. place ≢ other) t.place (map (λ t. t.place) ts)
    (All-from_recursion (λ other. t.place ≢ other) (map (λ t. t.place) ts)
    (none_more t.place ts us h.1
    (let f : (u.op.name == t.place) ≡ true = eq-eqb u.op.name t.place h.0.name in
    let l =
    subst (λ b. cond b 1 0 + register.times t.place (map (λ u. u.op) us) ≤ 1) f (once t.place) in
    omega (arith, l))))
    (once_each ts us h.1 (λ n. let l = once n in omega (arith, l)))

-- a read that is printed was answered
read_given :
    (key : List ℕ) (t : Tagged) (u : law.Tagged) → TaggedFits t u → MayStand key t.op
    → t.op.act ≡ act.Read → u.op.content ≡ content_code t.op.content
read_given key t u f may r = by_case may.1
  where
    by_answer : (o : Option ℕ) → t.op.answered ≡ o → IsSome o →
        u.op.content ≡ content_code t.op.content
    by_answer None e some = absurd (cc)
    by_answer (Some at) e some = f.content at e r

    by_case :
        IsSome t.op.answered ⊎ (t.op.act ≡ act.Write) → u.op.content ≡ content_code t.op.content
    by_case (inl some) = by_answer t.op.answered refl some
    by_case (inr w) = absurd (let x : act.Read ≡ act.Write = sym r ∙ w in cc)

legal_from :
    (key : List ℕ) (ops : List Op) (held : Content) (ts : List Tagged) (us : List law.Tagged)
    → Paired TaggedFits ts us → AllByRecursion (Shown key ops) ts
    → register.LegalFrom (content_code held) (map (λ u. u.op) us)
    → Legal held (map (λ t. t.op) ts)
legal_from key ops held [] [] h all legal = tt
legal_from key ops held [] (u ∷ us) h all legal = absurd h
legal_from key ops held (t ∷ ts) [] h all legal = absurd h
legal_from key ops held (t ∷ ts) (u ∷ us) h all legal =
    by_act t.op.act refl
    (λ now l. legal_from key ops now ts us h.1 all.1 l)
  where
    by_act :
        (k : Act) → t.op.act ≡ k
        → ((now : Content) → register.LegalFrom (content_code now) (map (λ u. u.op) us)
        → Legal now (map (λ t. t.op) ts))
        → Gives held k t.op.content
        × Legal (content_after held k t.op.content) (map (λ t. t.op) ts)
    by_act act.Read e rest =
        let is : u.op.act ≡ machine.Reads = h.0.kind ∙ ap (λ k. act_code k t.op.content) e in
        let l =
        subst
        (λ k.
        register.LegalStep k (content_code held) u.op.content
        × register.LegalFrom (register.last_after k (content_code held)) (map (λ u. u.op) us))
        is legal in (
          content_apart t.op.content held
              (sym (read_given key t u h.0 all.0.1 e) ∙ l.0),
          rest held l.1,
        )
    by_act act.Write e rest =
        let is : u.op.act ≡ machine.Writes (content_code t.op.content) =
        h.0.kind ∙ ap (λ k. act_code k t.op.content) e in
        let l =
        subst
        (λ k.
        register.LegalStep k (content_code held) u.op.content
        × register.LegalFrom (register.last_after k (content_code held)) (map (λ u. u.op) us))
        is legal in (
          tt,
          rest t.op.content l.1,
        )

time_after :
    (t : Tagged) (u : law.Tagged) (ts : List Tagged) (us : List law.Tagged) → TaggedFits t u
    → Paired TaggedFits ts us
    → AllByRecursion (λ p. register.AnsweredBefore p.answer u.op.issue → ⊥) (map (λ u. u.op) us)
    → AllByRecursion (λ l. IfSome l.answered (λ at. t.op.issued ≤ at)) (map (λ t. t.op) ts)
time_after t u [] [] f h all = tt
time_after t u [] (v ∷ us) f h all = absurd h
time_after t u (r ∷ ts) [] f h all = absurd h
time_after t u (r ∷ ts) (v ∷ us) f h all = (
  by_answer r.op.answered
      (subst (λ o. register.AnsweredBefore o u.op.issue → ⊥) h.0.answer all.0),
  time_after t u ts us f h.1 all.1,
)
  where
    by_answer :
        (o : Option ℕ) → (register.AnsweredBefore o u.op.issue → ⊥)
        → IfSome o (λ at. t.op.issued ≤ at)
    by_answer None apart = tt
    by_answer (Some at) apart =
        by_size (nat_lt at u.op.issue) refl
      where
        by_size : (b : Bool) → nat_lt at u.op.issue ≡ b → t.op.issued ≤ at
        by_size true e = absurd (apart (ltb-true at u.op.issue e))
        by_size false e = let l = ltb-false at u.op.issue e in let i = f.issue in
            omega (arith, l, i)

time_from :
    (ts : List Tagged) (us : List law.Tagged) → Paired TaggedFits ts us
    → register.KeepsTime (map (λ u. u.op) us) → KeepsTime (map (λ t. t.op) ts)
time_from [] [] h time = tt
time_from [] (u ∷ us) h time = absurd h
time_from (t ∷ ts) [] h time = absurd h
time_from (t ∷ ts) (u ∷ us) h time = (
  time_after t u ts us h.0 h.1 time.0,
  time_from ts us h.1 time.1,
)

-- ---- an order

module _ (keys : List (List ℕ)) (w : World) (s : System) (m : Mirrors keys w s)
    (law_holds :
    (key : ℕ)
    → register.IsRegisterHistory key (law.history (book_of s)) (law.printed key (book_of s))) where
  abbrev ops : List Op
  ops = map (λ (o : Operation). o.op) w.operations

  abbrev tags : List ℕ
  tags = map (λ (o : Operation). o.tag) w.operations

  abbrev all : List Tagged
  all = tagged 0 ops tags

  abbrev all' : List law.Tagged
  all' = law.all_tagged (book_of s)

  fit : Paired TaggedFits all all'
  fit = all_tagged 0 w.operations s.log (book_of s) s.issued m.history

  same_length : length ops ≡ length tags
  same_length =
      length-map w.operations (λ (o : Operation). o.op)
      ∙ sym (length-map w.operations (λ (o : Operation). o.tag))

  one_order : (key : List ℕ) → IsRegisterHistory ops key (order_of ops tags key)
  unfolding order_of
  one_order key =
      record {
        admitted = admitted_all key ops shown all_shown;
        once = once_each shown shown' alike l.once;
        complete = complete_at;
        legal =
            subst (Legal Absent) (sym (places_are key ops shown all_shown))
            (legal_from key ops Absent shown shown' alike all_shown l.legal);
        in_time =
            subst KeepsTime (sym (places_are key ops shown all_shown))
            (time_from shown shown' alike l.time);
      }
    where
      shown : List Tagged
      shown = sorted stands_before (filter (is_printed all key) all)

      shown' : List law.Tagged
      shown' = law.printed_tagged (number_of key) (book_of s)

      alike : Paired TaggedFits shown shown'
      alike = printed_alike key all all' fit

      l : register.IsRegisterHistory (number_of key) (law.history (book_of s))
          (law.printed (number_of key) (book_of s))
      l = law_holds (number_of key)

      all_shown : AllByRecursion (Shown key ops) shown
      all_shown =
          all_sorted stands_before (Shown key ops) (filter (is_printed all key) all)
          (all_as
          (λ t. (slice_get ops t.place ≡ Some t.op) × (is_printed all key t ≡ true))
          (Shown key ops) (filter (is_printed all key) all)
          (λ t x. (x.0, may_stand key all t x.1))
          (all_chosen (λ t. slice_get ops t.place ≡ Some t.op) (is_printed all key) all
          (tagged_at [] ops tags)))

      stands :
          (place : ℕ) (op : Op) → op.key ≡ key → IsSome op.answered → (t : Tagged)
          → StandsAt place op t → is_printed all key t ≡ true
      stands place op k some t x =
          let rest = world.is_write t.op.act && nat_lt 0 t.tag && was_read all key t.tag in
          and_from (bytes_eq t.op.key key) (is_some t.op.answered || rest)
          ((bytes_eq-Decides t.op.key key).1 (ap (λ (o : Op). o.key) x.is ∙ k))
          (or_left (is_some t.op.answered) rest
          (subst (λ (o : Op). IsSome o.answered) (sym x.is) some))

      complete_at :
          (place : ℕ)
          → IfSome (slice_get ops place)
          (λ op. op.key ≡ key → IsSome op.answered → Contains (map (λ t. t.place) shown) place)
      complete_at place = by_op (slice_get ops place) refl
        where
          by_op :
              (o : Option Op) → slice_get ops place ≡ o
              → IfSome o
              (λ op.
              op.key ≡ key → IsSome op.answered → Contains (map (λ t. t.place) shown) place)
          by_op None e = tt
          by_op (Some op) e =
              λ k some.
              has_place place op shown
              (any_sorted stands_before (StandsAt place op) (filter (is_printed all key) all)
              (any_chosen (StandsAt place op) (is_printed all key) all
              (stands place op k some)
              (subst (λ n. AnyBy (StandsAt n op) all) (omega arith)
              (tagged_has 0 ops tags place op same_length e))))

  pub orders_are : OrdersAreHistories w
  orders_are = each (keys_in ops)
    where
      each :
          (ks : List (List ℕ))
          → AllByRecursion (λ (o : List ℕ × List ℕ). IsRegisterHistory ops o.0 o.1)
          (map (λ key. (key, order_of ops tags key)) ks)
      each [] = tt
      each (k ∷ ks) = (one_order k, each ks)
