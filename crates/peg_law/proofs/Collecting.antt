-- A switch collects the parts of a state, in both machines.
use Rattle.std.proofs.Common.{◌≡◌, ◌<◌, ◌≤◌, ◌+◌, ◌==◌, ℕ, zero, suc, Bool, true, false, List, []}
use Rattle.std.proofs.Common.{◌∷◌, ◌++◌}
use Rattle.std.proofs.Common.{cond, length, map, Option, Some, None, is_some, refl, sym, ap, ◌∙◌}
use Rattle.std.proofs.Common.{subst, slice_get, Contains, replicate}
use Rattle.std.proofs.Common.{arith, eq-eqb, eqb-true, ne_eqb}
use Rattle.std.proofs.lemmas.Bool.{and_from, and_parts, eqb-false}
use Rattle.std.proofs.lemmas.List.{map-append, get_or-set_same, get_or-set_other}
use Rattle.std.proofs.lemmas.List.Sums.{sum_by-cons, count_by-le-length}
use Rattle.std.proofs.lemmas.Option.{slice_get-get_or}
use Rattle.std.specs.Prelude.{slice_index_or, slice_set, flat_map, unwrap_or, count_by}
use Rattle.peg_model.specs.Words.{below}
use Rattle.peg_model.specs.Handover.{Collected, parts, part_of, has_part, is_whole, bytes_of}
use Rattle.peg_law.specs.Mirrors.{Paired}
use Rattle.peg_law.proofs.Parts.{each_row, joined}
use Rattle.peg_protocol.specs.System as system

-- ---- lists of parts

abbrev pub Held : Type 0
Held = List (Option (List ℕ))

abbrev pub holds : Held → ℕ → Bool
holds xs i = is_some (slice_index_or xs i None)

one_more : (b : List ℕ) (xs : Held) → count_by is_some (Some b ∷ xs) ≡ 1 + count_by is_some xs
one_more b xs = sum_by-cons (λ (o : Option (List ℕ)). cond (is_some o) 1 0) (Some b) xs

none_more : (xs : Held) → count_by is_some (None ∷ xs) ≡ 0 + count_by is_some xs
none_more xs = sum_by-cons (λ (o : Option (List ℕ)). cond (is_some o) 1 0) None xs

count_most : (xs : Held) → count_by is_some xs ≤ length xs
count_most xs = count_by-le-length is_some xs

all_from : (f : ℕ → Bool) (n : ℕ) → ((i : ℕ) → i < n → f i ≡ true) → system.all_below f n ≡ true
all_from f zero h = refl
all_from f (suc n) h =
    and_from (f n) (system.all_below f n) (h n (omega arith))
    (all_from f n (λ i l. h i (omega (arith, l))))

all_each : (f : ℕ → Bool) (n : ℕ) → system.all_below f n ≡ true → (i : ℕ) → i < n → f i ≡ true
all_each f zero e i less = absurd (omega (arith, less))
all_each f (suc n) e i less =
    let p = and_parts (f n) (system.all_below f n) e in
    by_test (i == n) refl p.0 (λ l. all_each f n p.1 i l)
  where
    by_test :
        (b : Bool) → (i == n) ≡ b → f n ≡ true → (i < n → f i ≡ true) → f i ≡ true
    by_test true t here below_it = ap f (eqb-true i n t) ∙ here
    by_test false t here below_it =
        let apart = eqb-false i n t in below_it (omega (arith, less, apart))

whole_each : (xs : Held) → count_by is_some xs ≡ length xs → (i : ℕ) → i < length xs →
    holds xs i ≡ true
whole_each [] e i less = absurd (omega (arith, less))
whole_each (None ∷ xs) e i less =
    absurd (let l = count_most xs in let n = none_more xs in omega (arith, l, e, n))
whole_each (Some x ∷ xs) e zero less = refl
whole_each (Some x ∷ xs) e (suc i) less =
    let n = one_more x xs in whole_each xs (omega (arith, e, n)) i (omega (arith, less))

each_whole : (xs : Held) → ((i : ℕ) → i < length xs → holds xs i ≡ true) →
    count_by is_some xs ≡ length xs
each_whole [] h = refl
each_whole (None ∷ xs) h = absurd (let e : false ≡ true = h 0 (omega arith) in cc)
each_whole (Some x ∷ xs) h =
    let l = each_whole xs (λ i less. h (suc i) (omega (arith, less))) in
    let n = one_more x xs in omega (arith, l, n)

-- whether all are there is told alike
pub whole_is :
    (c : Collected) (f : ℕ → Bool) (n : ℕ) → ((i : ℕ) → f i ≡ has_part c i) → length c.parts ≡ n
    → system.all_below f n ≡ is_whole c
whole_is c f n same count = by_test (system.all_below f n) refl
  where
    by_test : (b : Bool) → system.all_below f n ≡ b → b ≡ is_whole c
    by_test true e =
        sym (eq-eqb (count_by is_some c.parts) (length c.parts)
        (each_whole c.parts
        (λ i less. sym (same i) ∙ all_each f n e i (omega (arith, less, count)))))
    by_test false e =
        sym (ne_eqb (count_by is_some c.parts) (length c.parts)
        (λ z.
        let t : system.all_below f n ≡ true =
        all_from f n (λ i less. same i ∙ whole_each c.parts z i (omega (arith, less, count))) in
        let x : true ≡ false = sym t ∙ e in cc))

map_alike :
    {A : Type 0} (f g : ℕ → A) (n : ℕ) → ((i : ℕ) → i < n → f i ≡ g i)
    → map f (below n) ≡ map g (below n)
map_alike f g zero h = refl
map_alike f g (suc n) h =
    map-append f (below n) (n ∷ [])
    ∙ ap (λ l. l ++ f n ∷ []) (map_alike f g n (λ i less. h i (omega (arith, less))))
    ∙ ap (λ x. map g (below n) ++ x ∷ []) (h n (omega arith))
    ∙ sym (map-append g (below n) (n ∷ []))

flat_some :
    (f : ℕ → List ℕ) (is : List ℕ)
    → flat_map (λ part. unwrap_or part []) (map (λ i. Some (f i)) is) ≡ flat_map f is
flat_some f [] = refl
flat_some f (i ∷ is) = ap (λ l. f i ++ l) (flat_some f is)

-- all parts of some bytes, in their places, are the bytes
pub whole_bytes :
    (c : Collected) (bytes : List ℕ) → is_whole c ≡ true → length c.parts ≡ length (parts bytes)
    → ((i : ℕ) (b : List ℕ) → slice_get c.parts i ≡ Some (Some b) → b ≡ part_of bytes i)
    → bytes_of c ≡ bytes
whole_bytes c bytes whole count each =
    ap (flat_map (λ part. unwrap_or part [])) (sym (each_row c.parts None))
    ∙ ap (flat_map (λ part. unwrap_or part []))
    (map_alike (λ i. slice_index_or c.parts i None) (λ i. Some (part_of bytes i))
    (length c.parts) part_is)
    ∙ flat_some (part_of bytes) (below (length c.parts))
    ∙ ap (λ n. flat_map (part_of bytes) (below n)) count ∙ joined bytes
  where
    part_is :
        (i : ℕ) → i < length c.parts → slice_index_or c.parts i None ≡ Some (part_of bytes i)
    part_is i less =
        by_part (slice_index_or c.parts i None) refl
        (whole_each c.parts (eqb-true (count_by is_some c.parts) (length c.parts) whole) i less)
      where
        by_part :
            (o : Option (List ℕ)) → slice_index_or c.parts i None ≡ o → is_some o ≡ true
            → o ≡ Some (part_of bytes i)
        by_part None e some = absurd (cc)
        by_part (Some b) e some =
            ap Some (each i b (slice_get-get_or c.parts i None less ∙ ap Some e))

-- ---- a part more

pub none_held : (n i : ℕ) → holds (replicate n None) i ≡ false
none_held zero i = refl
none_held (suc n) zero = refl
none_held (suc n) (suc i) = none_held n i

pub held_set :
    (xs : Held) (i : ℕ) (b : List ℕ) (f g : ℕ → Bool) → i < length xs
    → ((j : ℕ) → f j ≡ holds xs j) → (j : ℕ)
    → cond (j == i) true (f j) ≡ holds (slice_set xs i (Some b)) j
held_set xs i b f g less same j = by_test (j == i) refl
  where
    by_test : (t : Bool) → (j == i) ≡ t → cond t true (f j) ≡ holds (slice_set xs i (Some b)) j
    by_test true e =
        sym (ap (λ k. holds (slice_set xs i (Some b)) k) (eqb-true j i e)
        ∙ ap is_some (get_or-set_same xs i (Some b) None less))
    by_test false e =
        same j ∙ sym (ap is_some (get_or-set_other xs i j (Some b) None (eqb-false j i e)))

pub no_part : (n i : ℕ) (b : List ℕ) → slice_get (replicate n None) i ≡ Some (Some b) → ⊥
no_part zero i b e = cc
no_part (suc n) zero b e = cc
no_part (suc n) (suc i) b e = no_part n i b e

-- ---- what one list has, the other has

pub paired_contains :
    {A B : Type 0} (R : A → B → Type 0) (xs : List A) (ys : List B) (x : A) → Paired R xs ys
    → Contains xs x → (y : B) × Contains ys y × R x y
paired_contains R [] ys x h (k, less, e) = absurd (omega (arith, less))
paired_contains R (z ∷ xs) [] x h c = absurd h
paired_contains R (z ∷ xs) (y ∷ ys) x h (zero, less, e) =
    (y, (0, omega arith, refl), subst (λ v. R v y) e h.0)
paired_contains R (z ∷ xs) (y ∷ ys) x h (suc k, less, e) =
    let r = paired_contains R xs ys x h.1 (k, omega (arith, less), e) in
    let c = r.1 in
    let l = c.1 in (r.0, (suc c.0, omega (arith, l), c.2), r.2)
