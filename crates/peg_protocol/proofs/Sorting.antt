-- The sort of the printed order: what it keeps, and that its list is in order.
use Rattle.std.proofs.Common.{◌≡◌, ℕ, ◌+◌, ◌<◌, ◌≤◌, ◌⊎◌, ◌==◌, nat_lt, inl, inr, Bool}
use Rattle.std.proofs.Common.{true, false, cond, List, [], ◌∷◌, map, filter, arith, ap, sym, refl}
use Rattle.std.proofs.Common.{◌∙◌, subst, eqb-true, eq-eqb, ne_eqb}
use Rattle.std.proofs.lemmas.Bool.{cond_both, or_right}
use Rattle.std.specs.List.{AllByRecursion, list_any}
use Rattle.std.proofs.lemmas.Bool.Decides.{nat_tests}
use Rattle.peg_protocol.specs.Machine.{Id}
use Rattle.peg_protocol.specs.Register.{Operation, times}
use Rattle.peg_protocol.proofs.Facts.{AnyOf}
use Rattle.peg_protocol.specs.Printed.{Book, Tagged, kind, place, lesser, goes_first, insert, sort}
use Rattle.peg_protocol.specs.Printed.{tagged, tagged_from}

-- four numbers, in order
abbrev pub InOrder : (a b c d e f g h : ℕ) → Type 0
InOrder a b c d e f g h =
    (a < e) ⊎ ((a ≡ e) × ((b < f) ⊎ ((b ≡ f) × ((c < g) ⊎ ((c ≡ g) × (d ≤ h))))))

in_order_trans : (a b c d e f g h i j k l : ℕ) → InOrder a b c d e f g h → InOrder e f g h i j k l →
    InOrder a b c d i j k l
in_order_trans a b c d e f g h i j k l p q = grind arith

abbrev pub Before : Tagged → Tagged → Type 0
Before s t = InOrder s.tag (kind s.op.act) (place s.op.answer) s.op.name t.tag (kind t.op.act)
    (place t.op.answer) t.op.name

abbrev pub Sorted : List Tagged → Type 0
Sorted [] = Unit {0}
Sorted (t ∷ ts) = AllByRecursion (Before t) ts × Sorted ts

abbrev first_of_four : (a b c d e f g h : ℕ) → Bool
first_of_four a b c d e f g h = lesser a e (lesser b f (lesser c g (nat_lt d h)))

told : (a b c d e f g h : ℕ) →
    (first_of_four a b c d e f g h ≡ true → InOrder a b c d e f g h)
    × (first_of_four a b c d e f g h ≡ false → InOrder e f g h a b c d)
told a b c d e f g h = grind (arith, nat_tests)

goes_first_true : (s t : Tagged) → goes_first s t ≡ true → Before s t
goes_first_true s t e =
    (told s.tag (kind s.op.act) (place s.op.answer) s.op.name t.tag (kind t.op.act)
    (place t.op.answer) t.op.name).0 e

goes_first_false : (s t : Tagged) → goes_first s t ≡ false → Before t s
goes_first_false s t e =
    (told s.tag (kind s.op.act) (place s.op.answer) s.op.name t.tag (kind t.op.act)
    (place t.op.answer) t.op.name).1 e

Before-trans : (s t r : Tagged) → Before s t → Before t r → Before s r
Before-trans s t r p q =
    in_order_trans s.tag (kind s.op.act) (place s.op.answer) s.op.name t.tag (kind t.op.act)
    (place t.op.answer) t.op.name
    r.tag (kind r.op.act) (place r.op.answer) r.op.name p q

pub all_weaker : {X : Type 0} (P Q : X → Type 0) → ((x : X) → P x → Q x) → (xs : List X) →
    AllByRecursion P xs → AllByRecursion Q xs
all_weaker P Q f [] h = h
all_weaker P Q f (x ∷ xs) h = (f x h.0, all_weaker P Q f xs h.1)

all_inserted : (P : Tagged → Type 0) (t : Tagged) (ts : List Tagged) → P t → AllByRecursion P ts →
    AllByRecursion P (insert t ts)
all_inserted P t [] h k = (h, tt)
all_inserted P t (r ∷ rs) h k =
    cond_both (goes_first t r) (t ∷ r ∷ rs) (r ∷ insert t rs) (AllByRecursion P) (λ y. (h, k))
    (λ n. (k.0, all_inserted P t rs h k.1))

pub all_sorted : (P : Tagged → Type 0) (ts : List Tagged) → AllByRecursion P ts →
    AllByRecursion P (sort ts)
all_sorted P [] h = h
all_sorted P (t ∷ ts) h = all_inserted P t (sort ts) h.0 (all_sorted P ts h.1)

insert_in_order : (t : Tagged) (ts : List Tagged) → Sorted ts → Sorted (insert t ts)
insert_in_order t [] h = (tt, tt)
insert_in_order t (r ∷ rs) h =
    cond_both (goes_first t r) (t ∷ r ∷ rs) (r ∷ insert t rs) Sorted
    (λ y. let b = goes_first_true t r y in
    ((b, all_weaker (Before r) (Before t) (λ x c. Before-trans t r x b c) rs h.0), h))
    (λ n. (all_inserted (Before r) t rs (goes_first_false t r n) h.0, insert_in_order t rs h.1))

pub sort_in_order : (ts : List Tagged) → Sorted (sort ts)
sort_in_order [] = tt
sort_in_order (t ∷ ts) = insert_in_order t (sort ts) (sort_in_order ts)

-- how often a name occurs
abbrev pub ops : List Tagged → List Operation
ops ts = map (λ t. t.op) ts

times-insert : (n : ℕ) (t : Tagged) (ts : List Tagged) →
    times n (ops (insert t ts)) ≡ times n (ops (t ∷ ts))
times-insert n t [] = refl
times-insert n t (r ∷ rs) =
    cond_both (goes_first t r) (t ∷ r ∷ rs) (r ∷ insert t rs)
    (λ l. times n (ops l) ≡ times n (ops (t ∷ r ∷ rs)))
    (λ y. refl)
    (λ f. let ih = times-insert n t rs in omega (arith, ih))

pub times-sort : (n : ℕ) (ts : List Tagged) → times n (ops (sort ts)) ≡ times n (ops ts)
times-sort n [] = refl
times-sort n (t ∷ ts) =
    times-insert n t (sort ts) ∙ ap (λ m. cond (t.op.name == n) 1 0 + m) (times-sort n ts)

pub times-filter : (n : ℕ) (p : Tagged → Bool) (ts : List Tagged) →
    times n (ops (filter p ts)) ≤ times n (ops ts)
times-filter n p [] = omega arith
times-filter n p (t ∷ ts) =
    let ih = times-filter n p ts in
    cond_both (p t) (t ∷ filter p ts) (filter p ts) (λ l. times n (ops l) ≤ times n (ops (t ∷ ts)))
    (λ y. omega (arith, ih)) (λ f. omega (arith, ih))

-- what a filter keeps
pub all_filtered : (P : Tagged → Type 0) (p : Tagged → Bool) (ts : List Tagged) →
    AllByRecursion P ts → AllByRecursion (λ t. P t × (p t ≡ true)) (filter p ts)
all_filtered P p [] h = h
all_filtered P p (t ∷ ts) h =
    cond_both (p t) (t ∷ filter p ts) (filter p ts) (AllByRecursion (λ t. P t × (p t ≡ true)))
    (λ y. ((h.0, y), all_filtered P p ts h.1)) (λ f. all_filtered P p ts h.1)

pub kept_once : (p : Tagged → Bool) (ts : List Tagged) →
    AllByRecursion (λ t. p t ≡ true → 1 ≤ times t.op.name (ops (filter p ts))) ts
kept_once p [] = tt
kept_once p (t ∷ ts) = (
  λ y. let e : (t.op.name == t.op.name) ≡ true = eq-eqb t.op.name t.op.name refl in
      rw (y, e) (omega arith),
  cond_both (p t) (t ∷ filter p ts) (filter p ts)
      (λ l. AllByRecursion (λ r. p r ≡ true → 1 ≤ times r.op.name (ops l)) ts)
      (λ y. all_weaker (λ r. p r ≡ true → 1 ≤ times r.op.name (ops (filter p ts)))
      (λ r. p r ≡ true → 1 ≤ times r.op.name (ops (t ∷ filter p ts)))
      (λ r h e. omega (arith, h e)) ts (kept_once p ts))
      (λ f. kept_once p ts),
)

pub any_filtered : (P : Tagged → Type 0) (p : Tagged → Bool) (ts : List Tagged) →
    AnyOf (λ t. P t × (p t ≡ true)) ts → AnyOf P (filter p ts)
any_filtered P p [] h = h
any_filtered P p (t ∷ ts) h =
    cond_both (p t) (t ∷ filter p ts) (filter p ts) (AnyOf P)
    (λ y. elim h [ inl k ↦ inl k.0 | inr k ↦ inr (any_filtered P p ts k) ])
    (λ f. elim h [ inl k ↦ absurd (let e = k.1 in cc) | inr k ↦ any_filtered P p ts k ])

any_inserted : (P : Tagged → Type 0) (t : Tagged) (ts : List Tagged) → AnyOf P (t ∷ ts) →
    AnyOf P (insert t ts)
any_inserted P t [] h = h
any_inserted P t (r ∷ rs) h =
    cond_both (goes_first t r) (t ∷ r ∷ rs) (r ∷ insert t rs) (AnyOf P)
    (λ y. h)
    (λ f. elim h [
      | inl k ↦ inr (any_inserted P t rs (inl k))
      | inr k ↦ elim k
          [ inl l ↦ inl l | inr l ↦ inr (any_inserted P t rs (inr l)) ]
    ])

pub any_sorted : (P : Tagged → Type 0) (ts : List Tagged) → AnyOf P ts → AnyOf P (sort ts)
any_sorted P [] h = h
any_sorted P (t ∷ ts) h =
    any_inserted P t (sort ts) (elim h [ inl k ↦ inl k | inr k ↦ inr (any_sorted P ts k) ])

pub any_self : (p : ℕ → Tagged → Bool) (ts : List Tagged) →
    AllByRecursion (λ t. (u : ℕ) → p u t ≡ true → list_any (p u) ts ≡ true) ts
any_self p [] = tt
any_self p (t ∷ ts) = (
  λ u y. rw y refl,
  all_weaker (λ r. (u : ℕ) → p u r ≡ true → list_any (p u) ts ≡ true)
      (λ r. (u : ℕ) → p u r ≡ true → list_any (p u) (t ∷ ts) ≡ true)
      (λ r h u y. or_right (p u t) (list_any (p u) ts) (h u y)) ts (any_self p ts),
)

pub all_with : {X : Type 0} (P Q : X → Type 0) (xs : List X) → AllByRecursion P xs →
    AllByRecursion Q xs → AllByRecursion (λ x. P x × Q x) xs
all_with P Q [] h k = tt
all_with P Q (x ∷ xs) h k = ((h.0, k.0), all_with P Q xs h.1 k.1)

pub all_ops : (P : Operation → Type 0) (ts : List Tagged) → AllByRecursion (λ t. P t.op) ts →
    AllByRecursion P (ops ts)
all_ops P [] h = tt
all_ops P (t ∷ ts) h = (h.0, all_ops P ts h.1)

pub all_of_ops : (P : Operation → Type 0) (ts : List Tagged) → AllByRecursion P (ops ts) →
    AllByRecursion (λ t. P t.op) ts
all_of_ops P [] h = tt
all_of_ops P (t ∷ ts) h = (h.0, all_of_ops P ts h.1)

-- the operations of a log
pub all_named : (w : Book) (P : ℕ → Id → Type 0) (Q : Tagged → Type 0) →
    ((n : ℕ) (i : Id) → P n i → Q (tagged w n i)) → (n : ℕ) (is : List Id)
    → ((m : ℕ) → AllByRecursion (P m) is) → AllByRecursion Q (tagged_from w n is)
all_named w P Q f n [] h = tt
all_named w P Q f n (i ∷ is) h = (f n i (h n).0, all_named w P Q f (n + 1) is (λ m. (h m).1))

pub any_named : (w : Book) (P : Tagged → Type 0) (i : Id) → ((n : ℕ) → P (tagged w n i)) →
    (n : ℕ) (is : List Id) → AnyOf (λ j. j ≡ i) is → AnyOf P (tagged_from w n is)
any_named w P i f n [] h = h
any_named w P i f n (j ∷ js) h =
    elim h [
      | inl e ↦ inl (subst (λ (x : Id). P (tagged w n x)) (sym e) (f n))
      | inr k ↦ inr
          (any_named w P i f (n + 1) js k)
    ]

absent : (w : Book) (m n : ℕ) (is : List Id) → m < n → times m (ops (tagged_from w n is)) ≡ 0
absent w m n [] l = refl
absent w m n (i ∷ is) l =
    let e : (n == m) ≡ false = ne_eqb n m (λ e. omega (arith, l, e)) in
    let ih = absent w m (n + 1) is (omega (arith, l)) in
    rw e (omega (arith, ih))

pub named_once : (w : Book) (m n : ℕ) (is : List Id) → times m (ops (tagged_from w n is)) ≤ 1
named_once w m n [] = omega arith
named_once w m n (i ∷ is) =
    cond_both (n == m) 1 0 (λ x. x + times m (ops (tagged_from w (n + 1) is)) ≤ 1)
    (λ y. let e = eqb-true n m y in let a = absent w m (n + 1) is (omega (arith, e)) in
    omega (arith, a))
    (λ f. let ih = named_once w m (n + 1) is in omega (arith, ih))
