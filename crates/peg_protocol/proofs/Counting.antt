-- Lists with no repeats, and how long they are beside the entries that they name.
use Rattle.std.proofs.Common.{◌≡◌, ◌≢◌, ℕ, length, ◌+◌, ◌≤◌, ◌==◌, not, Bool, true, false, cond}
use Rattle.std.proofs.Common.{List, [], ◌∷◌, ◌++◌, filter, Option, Some, None, arith, sym, refl}
use Rattle.std.proofs.Common.{subst, eqb-true, eq-eqb, option_to_list}
use Rattle.std.proofs.lemmas.Bool.{cond_both, eqb-false, ne_eqb, or_parts, or_left, or_right}
use Rattle.std.specs.List.{AllByRecursion, list_any}
use Rattle.peg_protocol.specs.Core.{Rack, Entry, entry_of, put, first_entries}
use Rattle.peg_protocol.specs.OutOfPlace.{NoRepeats}

abbrev pub among : List ℕ → ℕ → Bool
among known k = list_any (λ j. j == k) known

all_pushed : (P : ℕ → Type 0) (xs : List ℕ) (k : ℕ) → AllByRecursion P xs → P k →
    AllByRecursion P (xs ++ k ∷ [])
all_pushed P [] k h p = (p, h)
all_pushed P (x ∷ xs) k h p = (h.0, all_pushed P xs k h.1 p)

all_left : (P : ℕ → Type 0) (p : ℕ → Bool) (xs : List ℕ) → AllByRecursion P xs →
    AllByRecursion P (filter p xs)
all_left P p [] h = h
all_left P p (x ∷ xs) h =
    cond_both (p x) (x ∷ filter p xs) (filter p xs) (AllByRecursion P)
    (λ y. (h.0, all_left P p xs h.1)) (λ n. all_left P p xs h.1)

pub NoRepeats-push : (xs : List ℕ) (k : ℕ) → among xs k ≡ false → NoRepeats xs →
    NoRepeats (xs ++ k ∷ [])
NoRepeats-push [] k e h = (tt, tt)
NoRepeats-push (x ∷ xs) k e h =
    let p = or_parts (x == k) (among xs k) e in
    (all_pushed (λ y. y ≢ x) xs k h.0 (λ z. eqb-false x k p.0 (sym z)), NoRepeats-push xs k p.1 h.1)

pub NoRepeats-filter : (p : ℕ → Bool) (xs : List ℕ) → NoRepeats xs → NoRepeats (filter p xs)
NoRepeats-filter p [] h = h
NoRepeats-filter p (x ∷ xs) h =
    cond_both (p x) (x ∷ filter p xs) (filter p xs) NoRepeats
    (λ y. (all_left (λ y. y ≢ x) p xs h.0, NoRepeats-filter p xs h.1))
    (λ n. NoRepeats-filter p xs h.1)

-- one key is taken out
abbrev without : ℕ → List ℕ → List ℕ
without k xs = filter (λ j. not (j == k)) xs

none_out : (k : ℕ) (xs : List ℕ) → AllByRecursion (λ y. y ≢ k) xs →
    length (without k xs) ≡ length xs
none_out k [] h = refl
none_out k (x ∷ xs) h = let e : (x == k) ≡ false = ne_eqb x k h.0 in
    rw e (let ih = none_out k xs h.1 in omega (arith, ih))

one_out : (k : ℕ) (xs : List ℕ) → NoRepeats xs → length xs ≤ length (without k xs) + 1
one_out k [] h = omega arith
one_out k (x ∷ xs) h =
    let go : (b : Bool) → (x == k) ≡ b →
    length (x ∷ xs) ≤ length (cond (not b) (x ∷ without k xs) (without k xs)) + 1 = λ b.
    elim b as
    (λ v. (x == k) ≡ v → length (x ∷ xs) ≤ length
    (cond (not v) (x ∷ without k xs) (without k xs)) + 1) [
      | true ↦ λ e. let n =
          none_out k xs (subst (λ (y : ℕ). AllByRecursion (λ z. z ≢ y) xs) (eqb-true x k e) h.0) in
          omega (arith, n)
      | false ↦ λ e. let ih = one_out k xs h.1 in omega (arith, ih)
    ] in
    go (x == k) refl

abbrev pub IsThere : Option Entry → Type 0
IsThere None = ⊥
IsThere (Some e) = Unit {0}

still_there : (e : Entry) (es : List Entry) (xs : List ℕ) →
    AllByRecursion (λ x. IsThere (entry_of x (e ∷ es))) xs →
    AllByRecursion (λ x. IsThere (entry_of x es)) (without e.key xs)
still_there e es [] h = tt
still_there e es (x ∷ xs) h =
    let go : (b : Bool) → (x == e.key) ≡ b →
    AllByRecursion (λ x. IsThere (entry_of x es))
    (cond (not b) (x ∷ without e.key xs) (without e.key xs)) = λ b.
    elim b as
    (λ v. (x == e.key) ≡ v →
    AllByRecursion (λ x. IsThere (entry_of x es))
    (cond (not v) (x ∷ without e.key xs) (without e.key xs))) [
      | true ↦ λ q. still_there e es xs h.1
      | false ↦ λ q.
          let f : (e.key == x) ≡ false = ne_eqb e.key x (λ z. eqb-false x e.key q (sym z)) in
          let old : IsThere (cond (e.key == x) (Some e) (entry_of x es)) = h.0 in (
            subst (λ (b : Bool). IsThere (cond b (Some e) (entry_of x es))) f old,
            still_there e es xs h.1,
          )
    ] in
    go (x == e.key) refl

-- no more keys are named than there are entries
pub named_most : (es : List Entry) (xs : List ℕ) → NoRepeats xs →
    AllByRecursion (λ x. IsThere (entry_of x es)) xs → length xs ≤ length es
named_most [] [] n h = omega arith
named_most [] (x ∷ xs) n h = absurd h.0
named_most (e ∷ es) xs n h =
    let o = one_out e.key xs n in
    let ih = named_most es (without e.key xs) (NoRepeats-filter (λ j. not (j == e.key)) xs n)
    (still_there e es xs h) in
    omega (arith, o, ih)

pub among_itself : (xs : List ℕ) → AllByRecursion (λ x. among xs x ≡ true) xs
among_itself [] = tt
among_itself (x ∷ xs) = (or_left (x == x) (among xs x) (eq-eqb x x refl), more xs (among_itself xs))
  where
    more : (ys : List ℕ) → AllByRecursion (λ y. among xs y ≡ true) ys →
        AllByRecursion (λ y. among (x ∷ xs) y ≡ true) ys
    more [] h = tt
    more (y ∷ ys) h = (or_right (x == y) (among xs y) h.0, more ys h.1)

-- how many entries there are
one_most : (o : Option Entry) (es : List Entry) (n : ℕ) → length es ≤ n →
    length (option_to_list o ++ es) ≤ n + 1
one_most None es n h = omega (arith, h)
one_most (Some f) es n h = omega (arith, h)

pub put_most : (k : ℕ) (o : Option Entry) (es : List Entry) → length (put k o es) ≤ length es
put_most k o [] = omega arith
put_most k o (e ∷ es) =
    let ih = put_most k o es in
    cond_both (e.key == k) (option_to_list o ++ put k o es) (e ∷ put k o es)
    (λ l. length l ≤ length (e ∷ es))
    (λ y. let m = one_most o (put k o es) (length es) ih in omega (arith, m))
    (λ n. omega (arith, ih))

pub first_length : (rack : Rack) (ks : List ℕ) → length (first_entries rack ks) ≡ length ks
first_length rack [] = refl
first_length rack (k ∷ ks) = let ih = first_length rack ks in omega (arith, ih)
