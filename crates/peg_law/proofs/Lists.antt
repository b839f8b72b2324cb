-- Lists that grow at their end, an element that is set, and what holds of all elements.
use Rattle.std.proofs.Common.{◌≡◌, ◌≢◌, ◌⊎◌, inl, inr, ℕ, zero, suc, Bool, true, filter, List, []}
use Rattle.std.proofs.Common.{◌∷◌, ◌++◌}
use Rattle.std.proofs.Common.{length, map, Some, None, slice_get, refl, sym, ap, ◌∙◌}
use Rattle.std.proofs.Common.{subst, arith, append_assoc, append-nil, length-append}
use Rattle.std.specs.Prelude.{slice_index_or, slice_set, Contains}
use Rattle.std.specs.List.{AllByRecursion}
use Rattle.std.proofs.lemmas.Bool.{cond_both}
use Rattle.peg_model.specs.Words.{below, sorted, placed}

-- ---- all elements

pub all_append :
    {A : Type 0} (P : A → Type 0) (xs ys : List A) → AllByRecursion P xs → AllByRecursion P ys
    → AllByRecursion P (xs ++ ys)
all_append P [] ys all more = more
all_append P (x ∷ xs) ys (one, all) more = (one, all_append P xs ys all more)

pub all_map :
    {A B : Type 0} (P : B → Type 0) (f : A → B) (xs : List A) → ((x : A) → P (f x))
    → AllByRecursion P (map f xs)
all_map P f [] each = tt
all_map P f (x ∷ xs) each = (each x, all_map P f xs each)

pub all_as :
    {A : Type 0} (P Q : A → Type 0) (xs : List A) → ((x : A) → P x → Q x) → AllByRecursion P xs
    → AllByRecursion Q xs
all_as P Q [] each all = tt
all_as P Q (x ∷ xs) each (one, all) = (each x one, all_as P Q xs each all)

pub all_at :
    {A : Type 0} (P : A → Type 0) (xs : List A) (i : ℕ) (x : A) → slice_get xs i ≡ Some x
    → AllByRecursion P xs → P x
all_at P [] i x e all = absurd (cc)
all_at P (y ∷ xs) zero x e (one, all) = let f : y ≡ x = cc in subst P f one
all_at P (y ∷ xs) (suc i) x e (one, all) = all_at P xs i x e all

-- ---- a list that grows

pub record Begins {A : Type 0} (xs ys : List A) : Type 0 where
  pub more : List A
  pub is : ys ≡ xs ++ more

pub begins_itself : {A : Type 0} (xs : List A) → Begins xs xs
begins_itself xs = record { more = []; is = sym (append-nil xs) }

pub begins_also : {A : Type 0} (xs ys zs : List A) → Begins xs ys → Begins ys zs → Begins xs zs
begins_also xs ys zs b c =
    record {
      more = b.more ++ c.more;
      is = c.is ∙ ap (λ l. l ++ c.more) b.is ∙ append_assoc xs b.more c.more;
    }

get_kept :
    {A : Type 0} (xs more : List A) (i : ℕ) (x : A) → slice_get xs i ≡ Some x
    → slice_get (xs ++ more) i ≡ Some x
get_kept [] more i x e = absurd (cc)
get_kept (y ∷ xs) more zero x e = e
get_kept (y ∷ xs) more (suc i) x e = get_kept xs more i x e

pub get_later :
    {A : Type 0} (xs ys : List A) (i : ℕ) (x : A) → Begins xs ys → slice_get xs i ≡ Some x
    → slice_get ys i ≡ Some x
get_later xs ys i x b e =
    subst (λ l. slice_get l i ≡ Some x) (sym b.is) (get_kept xs b.more i x e)

pub get_next :
    {A : Type 0} (xs more : List A) (x : A) → slice_get (xs ++ x ∷ more) (length xs) ≡ Some x
get_next [] more x = refl
get_next (y ∷ xs) more x = get_next xs more x

-- ---- an element that is set

pub data IsSet {A : Type 0} (xs : List A) (i : ℕ) (y : A) (j : ℕ) (x : A) : Type 0 where
  Here : (old : A) → j ≡ i → x ≡ y → slice_get xs j ≡ Some old → IsSet xs i y j x
  Else : j ≢ i → slice_get xs j ≡ Some x → IsSet xs i y j x

set_further :
    {A : Type 0} (xs : List A) (i : ℕ) (y : A) (j : ℕ) (x z : A) → IsSet xs i y j x
    → IsSet (z ∷ xs) (suc i) y (suc j) x
set_further xs i y j x z (Here old at is e) = Here old (ap suc at) is e
set_further xs i y j x z (Else other e) = Else (λ f. other (omega (arith, f))) e

pub get_set :
    {A : Type 0} (xs : List A) (i : ℕ) (y : A) (j : ℕ) (x : A)
    → slice_get (slice_set xs i y) j ≡ Some x → IsSet xs i y j x
get_set [] i y j x e = absurd (cc)
get_set (z ∷ xs) zero y zero x e = Here z refl (cc) refl
get_set (z ∷ xs) zero y (suc j) x e = Else (λ f. absurd (omega (arith, f))) e
get_set (z ∷ xs) (suc i) y zero x e = Else (λ f. absurd (omega (arith, f))) e
get_set (z ∷ xs) (suc i) y (suc j) x e = set_further xs i y j x z (get_set xs i y j x e)

-- the element with this number, or the number is past the end
pub data IsAt {A : Type 0} (xs : List A) (i : ℕ) (d : A) : Type 0 where
  In : slice_get xs i ≡ Some (slice_index_or xs i d) → IsAt xs i d
  Past : slice_get xs i ≡ None → slice_index_or xs i d ≡ d → IsAt xs i d

pub at_cases : {A : Type 0} (xs : List A) (i : ℕ) (d : A) → IsAt xs i d
at_cases [] i d = Past refl refl
at_cases (x ∷ xs) zero d = In refl
at_cases (x ∷ xs) (suc i) d = further (at_cases xs i d)
  where
    further : IsAt xs i d → IsAt (x ∷ xs) (suc i) d
    further (In e) = In e
    further (Past e f) = Past e f

-- ---- an element of a list

pub contains_cases :
    {A : Type 0} (x y : A) (xs : List A) → Contains (x ∷ xs) y → (x ≡ y) ⊎ Contains xs y
contains_cases x y xs (zero, less, is) = inl is
contains_cases x y xs (suc k, less, is) = inr (k, omega arith, is)

-- ---- the numbers below one

at_push :
    {A : Type 0} (xs : List A) (y : A) (i : ℕ) (x : A) → slice_get (xs ++ y ∷ []) i ≡ Some x
    → (slice_get xs i ≡ Some x) ⊎ ((i ≡ length xs) × (x ≡ y))
at_push [] y zero x e = inr (refl, cc)
at_push [] y (suc i) x e = absurd (cc)
at_push (z ∷ xs) y zero x e = inl e
at_push (z ∷ xs) y (suc i) x e = further (at_push xs y i x e)
  where
    further :
        (slice_get xs i ≡ Some x) ⊎ ((i ≡ length xs) × (x ≡ y))
        → (slice_get xs i ≡ Some x) ⊎ ((suc i ≡ suc (length xs)) × (x ≡ y))
    further (inl f) = inl f
    further (inr (at, is)) = inr (ap suc at, is)

pub length_below : (n : ℕ) → length (below n) ≡ n
length_below zero = refl
length_below (suc n) =
    let e = length-append (below n) (n ∷ []) in let f = length_below n in omega (arith, e, f)

pub below_at : (n i x : ℕ) → slice_get (below n) i ≡ Some x → x ≡ i
below_at zero i x e = absurd (cc)
below_at (suc n) i x e = by_place (at_push (below n) n i x e) (λ f. below_at n i x f)
  where
    by_place :
        (slice_get (below n) i ≡ Some x) ⊎ ((i ≡ length (below n)) × (x ≡ n))
        → (slice_get (below n) i ≡ Some x → x ≡ i) → x ≡ i
    by_place (inl f) sooner = sooner f
    by_place (inr (at, is)) sooner = let l = length_below n in omega (arith, at, is, l)

pub map_at :
    {A B : Type 0} (f : A → B) (xs : List A) (i : ℕ) (y : B) → slice_get (map f xs) i ≡ Some y
    → (x : A) × (slice_get xs i ≡ Some x) × (y ≡ f x)
map_at f [] i y e = absurd (cc)
map_at f (x ∷ xs) zero y e = (x, refl, cc)
map_at f (x ∷ xs) (suc i) y e = map_at f xs i y e

-- ---- what a choice and a sort keep

pub all_chosen :
    {A : Type 0} (P : A → Type 0) (p : A → Bool) (xs : List A) → AllByRecursion P xs
    → AllByRecursion (λ x. P x × (p x ≡ true)) (filter p xs)
all_chosen P p [] all = tt
all_chosen P p (x ∷ xs) all =
    cond_both (p x) (x ∷ filter p xs) (filter p xs) (AllByRecursion (λ x. P x × (p x ≡ true)))
    (λ y. ((all.0, y), all_chosen P p xs all.1)) (λ n. all_chosen P p xs all.1)

all_placed :
    {A : Type 0} (before : A → A → Bool) (P : A → Type 0) (x : A) (xs : List A) → P x
    → AllByRecursion P xs → AllByRecursion P (placed before x xs)
all_placed before P x [] one all = (one, tt)
all_placed before P x (y ∷ ys) one all =
    cond_both (before x y) (x ∷ y ∷ ys) (y ∷ placed before x ys) (AllByRecursion P)
    (λ t. (one, all)) (λ n. (all.0, all_placed before P x ys one all.1))

pub all_sorted :
    {A : Type 0} (before : A → A → Bool) (P : A → Type 0) (xs : List A) → AllByRecursion P xs
    → AllByRecursion P (sorted before xs)
all_sorted before P [] all = tt
all_sorted before P (x ∷ xs) all =
    all_placed before P x (sorted before xs) all.0 (all_sorted before P xs all.1)
