-- An order has no fault exactly where it is a register history.
use Rattle.std.proofs.Common.{◌≡◌, ◌≢◌, ◌<◌, ◌≤◌, ◌+◌, ◌&&◌, ◌||◌, ◌⊎◌, not, ℕ, zero, suc, Bool, true}
use Rattle.std.proofs.Common.{false, if◌then◌else◌, Option, Some, None, is_some, is_none, IsSome}
use Rattle.std.proofs.Common.{IfSome, List, [], ◌∷◌, ◌++◌, length, get_or, refl, sym, ap, ◌∙◌, subst}
use Rattle.std.proofs.Common.{arith, inl, inr, nat_lt, ◌↔◌, Contains, map}
use Rattle.std.proofs.lemmas.List.Kept.{AllPairs-cons}
use Rattle.std.proofs.lemmas.List.Elements.{All-from_recursion, recursion_from_All}
use Rattle.std.specs.List.{AllPairs}
use Rattle.std.proofs.lemmas.Bool.Decides.{nat_tests}
use Rattle.std.proofs.lemmas.List.Folds.{list_any-append}
use Rattle.std.specs.Prelude.{nat_eq, slice_get}
use Rattle.std.specs.Option.{IsSomeAnd}
use Rattle.std.specs.List.{AllByRecursion, cons_option, list_any}
use Rattle.std.specs.Str.{bytes_eq}
use Rattle.std.specs.Cmp.Lexicographic.{nat_list_eq_equiv}
use Rattle.peg_name.specs.declared.value.Content.{Content}
use Rattle.peg_name.specs.declared.value.Content.TheVariants.{Absent, Present}
use Rattle.peg_event.specs.declared.history.Act.{Act}
use Rattle.peg_event.specs.declared.history.Act.TheVariants.{Read, Write}
use Rattle.peg_event.specs.declared.history.Op.{Op}
use Rattle.peg_event.specs.declared.history.Fault.{Fault}
use Rattle.peg_event.specs.declared.history.Fault.TheVariants as fault
use Rattle.peg_model.specs.World.{is_write}
use Rattle.peg_model.specs.Register.{content_after, Gives, Legal, KeepsTime, at_places, MayStand}
use Rattle.peg_model.specs.Judge.{or_else, late_of, is_unseen_read, is_wrong_read, was_walked}
use Rattle.peg_model.specs.Judge.{is_same_content, place_fault, missing_from, walked_on, held_on}
use Rattle.peg_model.specs.Judge.{fault_of, walk, order_fault, first_fault, verdict_with, verdict_of}
use Rattle.peg_model.specs.Register.{IsRegisterHistory}
use Rattle.peg_event.specs.declared.history.Verdict.{Verdict}
use Rattle.peg_event.specs.declared.history.Verdict.TheVariants as verdict
use Rattle.peg_history.specs.declared.KeyOrder.{KeyOrder}
use Rattle.peg_history.specs.Walking.{order_pair, AreHistories}
use Rattle.peg_history.proofs.Grouping.{same}
use Rattle.peg_history.proofs.Walked.{never_late}

each :
    {X : Type 0} (P Q : X → Type 0) → ((x : X) → P x → Q x) → (xs : List X) → AllByRecursion P xs
    → AllByRecursion Q xs
each P Q f [] all = tt
each P Q f (x ∷ xs) (here, all) = (f x here, each P Q f xs all)

-- ---- the tests of one place, and what they mean

record Clean (walked : List (ℕ × Op)) (key : List ℕ) (held : Content) (p : ℕ) (op : Op) : Type 0
  where
    pub own_key : bytes_eq op.key key ≡ true
    pub seen : is_unseen_read op ≡ false
    pub new : was_walked p walked ≡ false
    pub right : is_wrong_read held op ≡ false
    pub timely : late_of walked p op.answered ≡ None

parts :
    (k a b c : Bool) (s t u : Fault) (late : Option Fault)
    → (if not k || a then Some s else (if b then Some t else (if c then Some u else late))) ≡ None
    → (k ≡ true) × (a ≡ false) × (b ≡ false) × (c ≡ false) × (late ≡ None)
parts false a b c s t u late h = cc
parts true true b c s t u late h = cc
parts true false true c s t u late h = cc
parts true false false true s t u late h = cc
parts true false false false s t u late h = (refl, refl, refl, refl, h)

clean :
    (walked : List (ℕ × Op)) (key : List ℕ) (held : Content) (p : ℕ) (op : Op)
    → place_fault walked key held p op ≡ None → Clean walked key held p op
clean walked key held p op h =
    let ps =
    parts (bytes_eq op.key key) (is_unseen_read op) (was_walked p walked) (is_wrong_read held op)
    (fault.Strange p) (fault.Twice p) (fault.Illegal p) (late_of walked p op.answered) h in
    record { own_key = ps.0; seen = ps.1; new = ps.2; right = ps.3; timely = ps.4 }

no_fault :
    (walked : List (ℕ × Op)) (key : List ℕ) (held : Content) (p : ℕ) (op : Op)
    → Clean walked key held p op → place_fault walked key held p op ≡ None
no_fault walked key held p op c =
    none (bytes_eq op.key key) (is_unseen_read op) (was_walked p walked) (is_wrong_read held op)
    c.own_key c.seen c.new c.right
  where
    none :
        (k a b w : Bool) → k ≡ true → a ≡ false → b ≡ false → w ≡ false
        → (if not k || a then Some (fault.Strange p)
        else (if b then Some (fault.Twice p)
        else (if w then Some (fault.Illegal p) else late_of walked p op.answered)))
        ≡ None
    none true false false false e f g h = c.timely
    none false a b w e f g h = cc
    none true true b w e f g h = cc
    none true false true w e f g h = cc
    none true false false true e f g h = cc

may :
    (act : Act) (answered : Option ℕ) → (not (is_write act) && is_none answered) ≡ false
    → IsSome answered ⊎ (act ≡ Write)
may Write answered h = inr refl
may Read (Some at) h = inl refl
may Read None h = cc

may_back :
    (act : Act) (answered : Option ℕ) → IsSome answered ⊎ (act ≡ Write)
    → (not (is_write act) && is_none answered) ≡ false
may_back Write answered m = refl
may_back Read (Some at) m = refl
may_back Read None (inl e) = cc
may_back Read None (inr e) = cc

same_content : (a b : Content) → is_same_content a b ≡ true → a ≡ b
same_content Absent Absent h = refl
same_content Absent (Present y) h = cc
same_content (Present x) Absent h = cc
same_content (Present x) (Present y) h = ap Present (same x y h)

content_same : (a : Content) → is_same_content a a ≡ true
content_same Absent = refl
content_same (Present x) = nat_list_eq_equiv.refl x

gives :
    (held : Content) (act : Act) (content : Content)
    → (not (is_write act) && not (is_same_content content held)) ≡ false → Gives held act content
gives held Write content h = tt
gives held Read content h = by_test (is_same_content content held) refl h
  where
    by_test :
        (b : Bool) → is_same_content content held ≡ b → not b ≡ false → content ≡ held
    by_test true e f = same_content content held e
    by_test false e f = cc

gives_back :
    (held : Content) (act : Act) (content : Content) → Gives held act content
    → (not (is_write act) && not (is_same_content content held)) ≡ false
gives_back held Write content g = refl
gives_back held Read content g =
    ap not (ap (λ c. is_same_content c held) g ∙ content_same held)

Timely : List (ℕ × Op) → Option ℕ → Type 0
Timely walked answered = AllByRecursion (λ w. IfSome answered (λ at. w.1.issued ≤ at)) walked

timely :
    (walked : List (ℕ × Op)) (p : ℕ) (answered : Option ℕ) → late_of walked p answered ≡ None
    → Timely walked answered
unfolding Timely
timely [] p answered h = tt
timely (w ∷ walked) p None h = (tt, timely walked p None h)
timely (w ∷ walked) p (Some at) h =
    by_test (λ f. timely walked p (Some at) f) (nat_lt at w.1.issued) refl h
  where
    by_test :
        (late_of walked p (Some at) ≡ None
        → AllByRecursion (λ v. IfSome (Some at) (λ t. v.1.issued ≤ t)) walked)
        → (b : Bool) → nat_lt at w.1.issued ≡ b
        → (if b then Some (fault.Late w.0 p) else late_of walked p (Some at)) ≡ None
        → (w.1.issued ≤ at)
        × AllByRecursion (λ v. IfSome (Some at) (λ t. v.1.issued ≤ t)) walked
    by_test rest true e f = cc
    by_test rest false e f = (early at w.1.issued e, rest f)
      where
        early : (a b : ℕ) → nat_lt a b ≡ false → b ≤ a
        early a b x = grind (arith, nat_tests)

timely_back :
    (walked : List (ℕ × Op)) (p : ℕ) (answered : Option ℕ) → Timely walked answered
    → late_of walked p answered ≡ None
unfolding Timely
timely_back [] p answered t = refl
timely_back (w ∷ walked) p None (here, all) = never_late walked p
timely_back (w ∷ walked) p (Some at) (here, all) =
    ap (λ b. if b then Some (fault.Late w.0 p) else late_of walked p (Some at))
    (early at w.1.issued here)
    ∙ timely_back walked p (Some at) all
  where
    early : (a b : ℕ) → b ≤ a → nat_lt a b ≡ false
    early a b x = grind (arith, nat_tests)

all_push :
    {X : Type 0} (P : X → Type 0) (xs : List X) (x : X) → AllByRecursion P xs → P x
    → AllByRecursion P (xs ++ x ∷ [])
all_push P [] x all here = (here, tt)
all_push P (y ∷ xs) x (first, all) here = (first, all_push P xs x all here)

all_front :
    {X : Type 0} (P : X → Type 0) (xs : List X) (x : X) → AllByRecursion P (xs ++ x ∷ [])
    → AllByRecursion P xs × P x
all_front P [] x (here, none) = (tt, here)
all_front P (y ∷ xs) x (first, all) =
    let rest = all_front P xs x all in ((first, rest.0), rest.1)

-- ---- what is left out

Walked : List Op → ℕ → List (ℕ × Op) → List ℕ → Type 0
Walked ops n walked key =
    (q : ℕ)
    → IfSome (slice_get ops q)
    (λ op. op.key ≡ key → IsSome op.answered → was_walked (n + q) walked ≡ true)

none_missing :
    (ops : List Op) (n : ℕ) (walked : List (ℕ × Op)) (key : List ℕ)
    → missing_from ops n walked key ≡ None → Walked ops n walked key
unfolding Walked
none_missing [] n walked key h q = tt
none_missing (op ∷ ops) n walked key h zero = λ k a.
    let here : n + 0 ≡ n = omega arith in
    ap (λ m. was_walked m walked) here
    ∙ first (bytes_eq op.key key) (is_some op.answered) (was_walked n walked)
    (ap (λ o. bytes_eq o key) k ∙ nat_list_eq_equiv.refl key) a h
  where
    first :
        (k a w : Bool) → k ≡ true → a ≡ true
        → (if k && a && not w then Some (fault.Missing n)
        else missing_from ops (n + 1) walked key)
        ≡ None
        → w ≡ true
    first k a true e f g = refl
    first true true false e f g = cc
    first false a false e f g = cc
    first true false false e f g = cc
none_missing (op ∷ ops) n walked key h (suc q) =
    let at = none_missing ops (n + 1) walked key
    (later (bytes_eq op.key key && is_some op.answered && not (was_walked n walked)) h) q in
    subst
    (λ m. IfSome (slice_get ops q)
    (λ op. op.key ≡ key → IsSome op.answered → was_walked m walked ≡ true))
    (omega arith) at
  where
    later :
        (b : Bool)
        → (if b then Some (fault.Missing n) else missing_from ops (n + 1) walked key) ≡ None
        → missing_from ops (n + 1) walked key ≡ None
    later true e = cc
    later false e = e

all_walked :
    (ops : List Op) (n : ℕ) (walked : List (ℕ × Op)) (key : List ℕ) → Walked ops n walked key
    → missing_from ops n walked key ≡ None
unfolding Walked
all_walked [] n walked key w = refl
all_walked (op ∷ ops) n walked key w =
    first (bytes_eq op.key key) refl (is_some op.answered) refl (was_walked n walked) refl
    ∙ all_walked ops (n + 1) walked key (λ q. subst
    (λ m. IfSome (slice_get ops q)
    (λ o. o.key ≡ key → IsSome o.answered → was_walked m walked ≡ true))
    (omega arith) (w (suc q)))
  where
    first :
        (k : Bool) → bytes_eq op.key key ≡ k → (a : Bool) → is_some op.answered ≡ a → (b : Bool)
        → was_walked n walked ≡ b
        → (if k && a && not b then Some (fault.Missing n)
        else missing_from ops (n + 1) walked key)
        ≡ missing_from ops (n + 1) walked key
    first false e a f b g = refl
    first true e false f b g = refl
    first true e true f true g = refl
    first true e true f false g =
        let here : n + 0 ≡ n = omega arith in
        let h : was_walked n walked ≡ true = sym (ap (λ m. was_walked m walked) here)
        ∙ w zero (same op.key key e) f in
        let i : true ≡ false = sym h ∙ g in
        cc

-- ---- the parts of an order

Apart : List ℕ → Type 0
Apart [] = Unit {0}
Apart (p ∷ order) = AllByRecursion (λ q. p ≢ q) order × Apart order

abbrev stands : ℕ → List ℕ → Bool
stands q order = list_any (λ p. nat_eq p q) order

both :
    {X : Type 0} (P Q R : X → Type 0) → ((x : X) → P x → Q x → R x) → (xs : List X)
    → AllByRecursion P xs → AllByRecursion Q xs → AllByRecursion R xs
both P Q R f [] ps qs = tt
both P Q R f (x ∷ xs) (p, ps) (q, qs) = (f x p q, both P Q R f xs ps qs)

if_some :
    {X : Type 0} (o : Option X) (P Q : X → Type 0) → ((x : X) → P x → Q x) → IfSome o P
    → IfSome o Q
if_some None P Q f h = tt
if_some (Some x) P Q f h = f x h

timely_less :
    (walked : List (ℕ × Op)) (p : ℕ) (op : Op) (answered : Option ℕ)
    → Timely (walked ++ (p, op) ∷ []) answered
    → Timely walked answered × IfSome answered (λ at. op.issued ≤ at)
unfolding Timely
timely_less walked p op answered h =
    all_front (λ (w : ℕ × Op). IfSome answered (λ at. w.1.issued ≤ at)) walked (p, op) h

timely_more :
    (walked : List (ℕ × Op)) (p : ℕ) (op : Op) (answered : Option ℕ) → Timely walked answered
    → IfSome answered (λ at. op.issued ≤ at) → Timely (walked ++ (p, op) ∷ []) answered
unfolding Timely
timely_more walked p op answered all here =
    all_push (λ (w : ℕ × Op). IfSome answered (λ at. w.1.issued ≤ at)) walked (p, op) all here

-- ---- the walk

-- what a legal history is, from a place in the order on
record Continues (ops : List Op) (key : List ℕ) (walked : List (ℕ × Op)) (held : Content)
    (order : List ℕ) : Type 0 where
  pub admitted : AllByRecursion (λ place. IsSomeAnd (slice_get ops place) (MayStand key)) order
  pub fresh : AllByRecursion (λ place. was_walked place walked ≡ false) order
  pub once : Apart order
  pub legal : Legal held (at_places ops order)
  pub after : AllByRecursion (λ (l : Op). Timely walked l.answered) (at_places ops order)
  pub in_time : KeepsTime (at_places ops order)
  pub complete :
      (q : ℕ)
      → IfSome (slice_get ops q)
      (λ op. op.key ≡ key → IsSome op.answered → (was_walked q walked || stands q order) ≡ true)

at_front :
    (ops : List Op) (p : ℕ) (op : Op) (order : List ℕ) → slice_get ops p ≡ Some op
    → at_places ops (p ∷ order) ≡ op ∷ at_places ops order
at_front ops p op order is = ap (λ o. cons_option o (at_places ops order)) is

fresh_less :
    (walked : List (ℕ × Op)) (p q : ℕ) (op : Op) → was_walked q (walked ++ (p, op) ∷ []) ≡ false
    → (was_walked q walked ≡ false) × (p ≢ q)
fresh_less walked p q op h =
    by_tests (was_walked q walked) (nat_eq p q) refl
    (sym (list_any-append (λ w. nat_eq w.0 q) walked ((p, op) ∷ [])) ∙ h)
  where
    by_tests :
        (a b : Bool) → nat_eq p q ≡ b → (a || (b || false)) ≡ false → (a ≡ false) × (p ≢ q)
    by_tests true b e f = cc
    by_tests false true e f = cc
    by_tests false false e f = (refl, λ i. differ p q e i)
      where
        differ : (a b : ℕ) → nat_eq a b ≡ false → a ≡ b → ⊥
        differ a b x y = grind (arith, nat_tests)

fresh_more :
    (walked : List (ℕ × Op)) (p q : ℕ) (op : Op) → was_walked q walked ≡ false → p ≢ q
    → was_walked q (walked ++ (p, op) ∷ []) ≡ false
fresh_more walked p q op h differ =
    list_any-append (λ w. nat_eq w.0 q) walked ((p, op) ∷ [])
    ∙ ap (λ b. b || (nat_eq p q || false)) h ∙ ap (λ b. b || false) (other p q differ)
  where
    other : (a b : ℕ) → (a ≡ b → ⊥) → nat_eq a b ≡ false
    other a b x = grind (arith, nat_tests)

stands_on :
    (walked : List (ℕ × Op)) (p q : ℕ) (op : Op) (order : List ℕ)
    → (was_walked q (walked ++ (p, op) ∷ []) || stands q order)
    ≡ (was_walked q walked || stands q (p ∷ order))
stands_on walked p q op order =
    ap (λ b. b || stands q order) (list_any-append (λ w. nat_eq w.0 q) walked ((p, op) ∷ []))
    ∙ regroup (was_walked q walked) (nat_eq p q) (stands q order)
  where
    regroup : (a b c : Bool) → ((a || (b || false)) || c) ≡ (a || (b || c))
    regroup true b c = refl
    regroup false true c = refl
    regroup false false c = refl

-- both ways over one place
continues_more :
    (ops : List Op) (key : List ℕ) (walked : List (ℕ × Op)) (held : Content) (p : ℕ) (op : Op)
    (order : List ℕ) → slice_get ops p ≡ Some op → Clean walked key held p op
    → Continues ops key (walked ++ (p, op) ∷ []) (content_after held op.act op.content) order
    → Continues ops key walked held (p ∷ order)
unfolding Apart
continues_more ops key walked held p op order is c w =
    let front = at_front ops p op order is in
    record {
      admitted = (
        subst (λ o. IsSomeAnd o (MayStand key)) (sym is)
            (same op.key key c.own_key, may op.act op.answered c.seen),
        w.admitted,
      );
      fresh = (
        c.new,
        each (λ q. was_walked q (walked ++ (p, op) ∷ []) ≡ false) (λ q. was_walked q walked ≡ false)
            (λ q h. (fresh_less walked p q op h).0) order w.fresh,
      );
      once = (
        each (λ q. was_walked q (walked ++ (p, op) ∷ []) ≡ false) (λ q. p ≢ q)
            (λ q h. (fresh_less walked p q op h).1) order w.fresh,
        w.once,
      );
      legal = subst (Legal held) (sym front) (gives held op.act op.content c.right, w.legal);
      after =
          subst (λ ls. AllByRecursion (λ (l : Op). Timely walked l.answered) ls) (sym front) (
            timely walked p op.answered c.timely,
            each (λ (l : Op). Timely (walked ++ (p, op) ∷ []) l.answered)
                (λ (l : Op). Timely walked l.answered) (λ l h. (timely_less walked p op l.answered h).0)
                (at_places ops order) w.after,
          );
      in_time =
          subst KeepsTime (sym front) (
            each (λ (l : Op). Timely (walked ++ (p, op) ∷ []) l.answered)
                (λ (l : Op). IfSome l.answered (λ at. op.issued ≤ at))
                (λ l h. (timely_less walked p op l.answered h).1) (at_places ops order) w.after,
            w.in_time,
          );
      complete = λ q.
          if_some (slice_get ops q)
          (λ o. o.key ≡ key → IsSome o.answered
          → (was_walked q (walked ++ (p, op) ∷ []) || stands q order) ≡ true)
          (λ o. o.key ≡ key → IsSome o.answered
          → (was_walked q walked || stands q (p ∷ order)) ≡ true)
          (λ o h k a. sym (stands_on walked p q op order) ∙ h k a) (w.complete q);
    }

continues_less :
    (ops : List Op) (key : List ℕ) (walked : List (ℕ × Op)) (held : Content) (p : ℕ) (op : Op)
    (order : List ℕ) → slice_get ops p ≡ Some op → Continues ops key walked held (p ∷ order)
    → Clean walked key held p op
    × Continues ops key (walked ++ (p, op) ∷ []) (content_after held op.act op.content) order
unfolding Apart
continues_less ops key walked held p op order is w =
    let front = at_front ops p op order is in
    let stand = subst (λ o. IsSomeAnd o (MayStand key)) is w.admitted.0 in
    let legal = subst (Legal held) front w.legal in
    let after = subst (λ ls. AllByRecursion (λ (l : Op). Timely walked l.answered) ls) front w.after in
    let in_time = subst KeepsTime front w.in_time in (
      record {
        own_key = ap (λ k. bytes_eq k key) stand.0 ∙ nat_list_eq_equiv.refl key;
        seen = may_back op.act op.answered stand.1;
        new = w.fresh.0;
        right = gives_back held op.act op.content legal.0;
        timely = timely_back walked p op.answered after.0;
      },
      record {
        admitted = w.admitted.1;
        fresh =
            both (λ q. was_walked q walked ≡ false) (λ q. p ≢ q)
            (λ q. was_walked q (walked ++ (p, op) ∷ []) ≡ false)
            (λ q h d. fresh_more walked p q op h d) order w.fresh.1 w.once.0;
        once = w.once.1;
        legal = legal.1;
        after =
            both (λ (l : Op). Timely walked l.answered)
            (λ (l : Op). IfSome l.answered (λ at. op.issued ≤ at))
            (λ (l : Op). Timely (walked ++ (p, op) ∷ []) l.answered)
            (λ l h d. timely_more walked p op l.answered h d) (at_places ops order) after.1 in_time.0;
        in_time = in_time.1;
        complete = λ q.
            if_some (slice_get ops q)
            (λ o. o.key ≡ key → IsSome o.answered
            → (was_walked q walked || stands q (p ∷ order)) ≡ true)
            (λ o. o.key ≡ key → IsSome o.answered
            → (was_walked q (walked ++ (p, op) ∷ []) || stands q order) ≡ true)
            (λ o h k a. stands_on walked p q op order ∙ h k a) (w.complete q);
      },
    )

-- ---- both ways over an order

or_none : (f g : Option Fault) → or_else f g ≡ None → (f ≡ None) × (g ≡ None)
or_none None g h = (refl, h)
or_none (Some x) g h = cc

walk_front :
    (ops : List Op) (key : List ℕ) (walked : List (ℕ × Op)) (held : Content) (p : ℕ)
    (order : List ℕ) (found : Option Op) → slice_get ops p ≡ found
    → walk ops key walked held (p ∷ order)
    ≡ or_else (fault_of found walked key held p)
    (walk ops key (walked_on walked p found) (held_on held found) order)
walk_front ops key walked held p order found is =
    ap (λ o. or_else (fault_of o walked key held p)
    (walk ops key (walked_on walked p o) (held_on held o) order)) is

continues :
    (ops : List Op) (key : List ℕ) (order : List ℕ) (walked : List (ℕ × Op)) (held : Content)
    → walk ops key walked held order ≡ None → Continues ops key walked held order
unfolding Apart Walked
continues ops key [] walked held h =
    record {
      admitted = tt;
      fresh = tt;
      once = tt;
      legal = tt;
      after = tt;
      in_time = tt;
      complete = λ q.
          if_some (slice_get ops q)
          (λ o. o.key ≡ key → IsSome o.answered → was_walked (0 + q) walked ≡ true)
          (λ o. o.key ≡ key → IsSome o.answered → (was_walked q walked || false) ≡ true)
          (λ o g k a. or_false (was_walked q walked) (was_walked (0 + q) walked)
          (ap (λ m. was_walked m walked) (plain q)) (g k a))
          (none_missing ops 0 walked key h q);
    }
  where
    plain : (q : ℕ) → 0 + q ≡ q
    plain q = omega arith

    or_false : (a b : Bool) → b ≡ a → b ≡ true → (a || false) ≡ true
    or_false true b e f = refl
    or_false false b e f = let g : false ≡ true = sym e ∙ f in cc
continues ops key (p ∷ order) walked held h =
    by_found (λ w c g. continues ops key order w c g) (slice_get ops p) refl
  where
    by_found :
        ((w : List (ℕ × Op)) (c : Content) → walk ops key w c order ≡ None
        → Continues ops key w c order)
        → (o : Option Op) → slice_get ops p ≡ o → Continues ops key walked held (p ∷ order)
    by_found rest None e =
        let f : Some (fault.Strange p) ≡ None = sym (walk_front ops key walked held p order None e)
        ∙ h in
        absurd (cc)
    by_found rest (Some op) e =
        let fs =
        or_none (place_fault walked key held p op)
        (walk ops key (walked ++ (p, op) ∷ []) (content_after held op.act op.content) order)
        (sym (walk_front ops key walked held p order (Some op) e) ∙ h) in
        continues_more ops key walked held p op order e (clean walked key held p op fs.0)
        (rest (walked ++ (p, op) ∷ []) (content_after held op.act op.content) fs.1)

walks :
    (ops : List Op) (key : List ℕ) (order : List ℕ) (walked : List (ℕ × Op)) (held : Content)
    → Continues ops key walked held order → walk ops key walked held order ≡ None
unfolding Walked
walks ops key [] walked held w =
    all_walked ops 0 walked key (λ q.
    if_some (slice_get ops q)
    (λ o. o.key ≡ key → IsSome o.answered → (was_walked q walked || false) ≡ true)
    (λ o. o.key ≡ key → IsSome o.answered → was_walked (0 + q) walked ≡ true)
    (λ o g k a. or_false (was_walked q walked) (was_walked (0 + q) walked)
    (ap (λ m. was_walked m walked) (plain q)) (g k a))
    (w.complete q))
  where
    plain : (q : ℕ) → 0 + q ≡ q
    plain q = omega arith

    or_false : (a b : Bool) → b ≡ a → (a || false) ≡ true → b ≡ true
    or_false true b e f = e
    or_false false b e f = cc
walks ops key (p ∷ order) walked held w =
    by_found (λ v c g. walks ops key order v c g) (slice_get ops p) refl w.admitted.0
  where
    by_found :
        ((v : List (ℕ × Op)) (c : Content) → Continues ops key v c order
        → walk ops key v c order ≡ None)
        → (o : Option Op) → slice_get ops p ≡ o → IsSomeAnd o (MayStand key)
        → walk ops key walked held (p ∷ order) ≡ None
    by_found rest None e stand = absurd stand
    by_found rest (Some op) e stand =
        let less = continues_less ops key walked held p op order e w in
        walk_front ops key walked held p order (Some op) e
        ∙ ap (λ f. or_else f
        (walk ops key (walked ++ (p, op) ∷ []) (content_after held op.act op.content) order))
        (no_fault walked key held p op less.0)
        ∙ rest (walked ++ (p, op) ∷ []) (content_after held op.act op.content) less.1

-- ---- a register history

stands_in : (q : ℕ) (order : List ℕ) → stands q order ≡ true → Contains order q
stands_in q [] h = cc
stands_in q (p ∷ order) h = by_test (λ g. stands_in q order g) (nat_eq p q) refl h
  where
    by_test :
        (stands q order ≡ true → Contains order q) → (b : Bool) → nat_eq p q ≡ b
        → (b || stands q order) ≡ true → Contains (p ∷ order) q
    by_test rest true e f = (0, omega arith, same_number p q e)
      where
        same_number : (a b : ℕ) → nat_eq a b ≡ true → a ≡ b
        same_number a b x = grind (arith, nat_tests)
    by_test rest false e f = let c = rest f in (suc c.0, omega (arith, c.1), c.2)

in_stands : (q : ℕ) (order : List ℕ) (k : ℕ) → k < length order → get_or order k q ≡ q
    → stands q order ≡ true
in_stands q [] k lt is = absurd (omega arith)
in_stands q (p ∷ order) zero lt is = ap (λ b. b || stands q order) (equal p q is)
  where
    equal : (a b : ℕ) → a ≡ b → nat_eq a b ≡ true
    equal a b x = grind (arith, nat_tests)
in_stands q (p ∷ order) (suc k) lt is =
    or_true (nat_eq p q) (stands q order) (in_stands q order k (omega arith) is)
  where
    or_true : (a b : Bool) → b ≡ true → (a || b) ≡ true
    or_true true b e = refl
    or_true false b e = e

all_pairs : (order : List ℕ) → Apart order → AllPairs (λ place other. place ≢ other) order
unfolding Apart
all_pairs [] apart = λ i j d lt within. absurd (omega arith)
all_pairs (p ∷ order) (differs, apart) =
    AllPairs-cons (λ place other. place ≢ other) p order
    (All-from_recursion (λ q. p ≢ q) order differs) (all_pairs order apart)

apart : (order : List ℕ) → AllPairs (λ place other. place ≢ other) order → Apart order
unfolding Apart
apart [] pairs = tt
apart (p ∷ order) pairs = (
  recursion_from_All (λ q. p ≢ q) order (λ k d lt. pairs 0 (suc k) d (omega arith) (omega arith)),
  apart order (λ i j d lt within. pairs (suc i) (suc j) d (omega arith) (omega arith)),
)

none_later :
    (ops : List Op) (order : List ℕ)
    → AllByRecursion (λ (l : Op). Timely [] l.answered) (at_places ops order)
unfolding Timely
none_later ops order = every (at_places ops order)
  where
    every : (ls : List Op) → AllByRecursion (λ (l : Op). Unit {0}) ls
    every [] = tt
    every (l ∷ ls) = (tt, every ls)

none_walked : (order : List ℕ) → AllByRecursion (λ place. was_walked place [] ≡ false) order
none_walked [] = tt
none_walked (p ∷ order) = (refl, none_walked order)

pub history_from_none : (ops : List Op) (key order : List ℕ) → order_fault ops key order ≡ None
    → IsRegisterHistory ops key order
history_from_none ops key order h =
    let w = continues ops key order [] Absent h in
    record {
      admitted = w.admitted;
      once = all_pairs order w.once;
      complete = λ q.
          if_some (slice_get ops q)
          (λ o. o.key ≡ key → IsSome o.answered → (false || stands q order) ≡ true)
          (λ o. o.key ≡ key → IsSome o.answered → Contains order q)
          (λ o g k a. stands_in q order (g k a)) (w.complete q);
      legal = w.legal;
      in_time = w.in_time;
    }

pub none_from_history : (ops : List Op) (key order : List ℕ) → IsRegisterHistory ops key order
    → order_fault ops key order ≡ None
none_from_history ops key order r =
    walks ops key order [] Absent
    (record {
      admitted = r.admitted;
      fresh = none_walked order;
      once = apart order r.once;
      legal = r.legal;
      after = none_later ops order;
      in_time = r.in_time;
      complete = λ q.
          if_some (slice_get ops q)
          (λ o. o.key ≡ key → IsSome o.answered → Contains order q)
          (λ o. o.key ≡ key → IsSome o.answered → (false || stands q order) ≡ true)
          (λ o g k a. let c = g k a in in_stands q order c.0 c.1 c.2) (r.complete q);
    })

-- ---- all orders

pub histories_from_yes :
    (ops : List Op) (orders : List KeyOrder) → verdict_of ops (map order_pair orders) ≡ verdict.Yes
    → AllByRecursion (λ (o : KeyOrder). IsRegisterHistory ops o.key o.ops) orders
histories_from_yes ops orders h = all orders (no_first (first_fault ops (map order_pair orders)) h)
  where
    no_first : (f : Option Fault) → verdict_with f ≡ verdict.Yes → f ≡ None
    no_first None e = refl
    no_first (Some x) e = cc

    all : (os : List KeyOrder) → first_fault ops (map order_pair os) ≡ None
        → AllByRecursion (λ (o : KeyOrder). IsRegisterHistory ops o.key o.ops) os
    all [] e = tt
    all (o ∷ os) e =
        let fs = or_none (order_fault ops o.key o.ops) (first_fault ops (map order_pair os)) e in
        (history_from_none ops o.key o.ops fs.0, all os fs.1)

pub yes_from_histories :
    (ops : List Op) (orders : List KeyOrder)
    → AllByRecursion (λ (o : KeyOrder). IsRegisterHistory ops o.key o.ops) orders
    → verdict_of ops (map order_pair orders) ≡ verdict.Yes
yes_from_histories ops orders h = ap verdict_with (none orders h)
  where
    none : (os : List KeyOrder)
        → AllByRecursion (λ (o : KeyOrder). IsRegisterHistory ops o.key o.ops) os
        → first_fault ops (map order_pair os) ≡ None
    none [] all = refl
    none (o ∷ os) (here, all) =
        ap (λ f. or_else f (first_fault ops (map order_pair os)))
        (none_from_history ops o.key o.ops here)
        ∙ none os all

pub yes_exactly :
    (ops : List Op) (orders : List KeyOrder) (v : Verdict) → v ≡ verdict_of ops (map order_pair orders)
    → (v ≡ verdict.Yes) ↔ AreHistories ops orders
yes_exactly ops orders v is =
    (λ e. histories_from_yes ops orders (sym is ∙ e), λ h. is ∙ yes_from_histories ops orders h)
