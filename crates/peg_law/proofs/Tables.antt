-- Lists that are paired place by place, and tables of nodes of which one changes.
use Rattle.std.proofs.Common.{◌≡◌, ◌≢◌, ◌<◌, ◌==◌, ℕ, zero, suc, Bool, true, false, List, [], ◌∷◌}
use Rattle.std.proofs.Common.{◌++◌}
use Rattle.std.proofs.Common.{length, map, Option, Some, None, slice_get, refl, sym, ap, ◌∙◌, subst}
use Rattle.std.proofs.Common.{eqb-true, Contains, arith}
use Rattle.std.proofs.lemmas.Bool.{eqb-false}
use Rattle.std.proofs.lemmas.List.{get_or-set_same, get_or-set_other}
use Rattle.std.specs.Prelude.{slice_index_or, slice_set}
use Rattle.peg_law.specs.Mirrors.{Paired}

pub paired_append :
    {A B : Type 0} (R : A → B → Type 0) (xs xs' : List A) (ys ys' : List B) → Paired R xs ys
    → Paired R xs' ys' → Paired R (xs ++ xs') (ys ++ ys')
paired_append R [] xs' [] ys' h k = k
paired_append R [] xs' (y ∷ ys) ys' h k = absurd h
paired_append R (x ∷ xs) xs' [] ys' h k = absurd h
paired_append R (x ∷ xs) xs' (y ∷ ys) ys' h k = (h.0, paired_append R xs xs' ys ys' h.1 k)

pub paired_push :
    {A B : Type 0} (R : A → B → Type 0) (xs : List A) (x : A) (ys : List B) (y : B)
    → Paired R xs ys → R x y → Paired R (xs ++ x ∷ []) (ys ++ y ∷ [])
paired_push R xs x ys y h r = paired_append R xs (x ∷ []) ys (y ∷ []) h (r, tt)

pub paired_as :
    {A B : Type 0} (R S : A → B → Type 0) (xs : List A) (ys : List B)
    → ((x : A) (y : B) → R x y → S x y) → Paired R xs ys → Paired S xs ys
paired_as R S [] [] f h = tt
paired_as R S [] (y ∷ ys) f h = absurd h
paired_as R S (x ∷ xs) [] f h = absurd h
paired_as R S (x ∷ xs) (y ∷ ys) f h = (f x y h.0, paired_as R S xs ys f h.1)

pub paired_mapped :
    {A B : Type 0} (R S : A → B → Type 0) (g : A → A) (xs : List A) (ys : List B)
    → ((x : A) (y : B) → R x y → S (g x) y) → Paired R xs ys → Paired S (map g xs) ys
paired_mapped R S g [] [] f h = tt
paired_mapped R S g [] (y ∷ ys) f h = absurd h
paired_mapped R S g (x ∷ xs) [] f h = absurd h
paired_mapped R S g (x ∷ xs) (y ∷ ys) f h = (f x y h.0, paired_mapped R S g xs ys f h.1)

-- both lists have a place, or neither has
abbrev pub PairedAt : {A B : Type 0} → (A → B → Type 0) → Option A → Option B → Type 0
PairedAt R None None = Unit {0}
PairedAt R (Some x) (Some y) = R x y
PairedAt R _ _ = ⊥

pub paired_at :
    {A B : Type 0} (R : A → B → Type 0) (xs : List A) (ys : List B) (i : ℕ) → Paired R xs ys
    → PairedAt R (slice_get xs i) (slice_get ys i)
paired_at R [] [] i h = tt
paired_at R [] (y ∷ ys) i h = absurd h
paired_at R (x ∷ xs) [] i h = absurd h
paired_at R (x ∷ xs) (y ∷ ys) zero h = h.0
paired_at R (x ∷ xs) (y ∷ ys) (suc i) h = paired_at R xs ys i h.1

pub paired_length :
    {A B : Type 0} (R : A → B → Type 0) (xs : List A) (ys : List B) → Paired R xs ys
    → length xs ≡ length ys
paired_length R [] [] h = refl
paired_length R [] (y ∷ ys) h = absurd h
paired_length R (x ∷ xs) [] h = absurd h
paired_length R (x ∷ xs) (y ∷ ys) h = ap suc (paired_length R xs ys h.1)

-- what the second list has, the first has
pub paired_back :
    {A B : Type 0} (R : A → B → Type 0) (xs : List A) (ys : List B) (y : B) → Paired R xs ys
    → Contains ys y → (x : A) × Contains xs x × R x y
paired_back R [] [] y h (k, less, e) = absurd (omega (arith, less))
paired_back R [] (z ∷ ys) y h c = absurd h
paired_back R (x ∷ xs) [] y h c = absurd h
paired_back R (x ∷ xs) (z ∷ ys) y h (zero, less, e) =
    (x, (0, omega arith, refl), subst (R x) e h.0)
paired_back R (x ∷ xs) (z ∷ ys) y h (suc k, less, e) =
    let r = paired_back R xs ys y h.1 (k, omega (arith, less), e) in
    let c = r.1 in
    let l = c.1 in (r.0, (suc c.0, omega (arith, l), c.2), r.2)

-- of a table of nodes one changes: what is asked of each, by the test of its number
pub one_changed :
    {A : Type 0} (xs : List A) (i : ℕ) (y d : A) (j : ℕ) (P : Bool → A → Type 0) → i < length xs
    → (j ≡ i → P true y) → (j ≢ i → P false (slice_index_or xs j d))
    → P (j == i) (slice_index_or (slice_set xs i y) j d)
one_changed xs i y d j P within here off = by_test (j == i) refl
  where
    by_test : (b : Bool) → (j == i) ≡ b → P b (slice_index_or (slice_set xs i y) j d)
    by_test true e =
        let at : j ≡ i = eqb-true j i e in
        subst (P true)
        (sym (ap (λ k. slice_index_or (slice_set xs i y) k d) at
        ∙ get_or-set_same xs i y d within)) (here at)
    by_test false e =
        let other : j ≢ i = eqb-false j i e in
        subst (P false) (sym (get_or-set_other xs i j y d other)) (off other)
