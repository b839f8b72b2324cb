-- Lists that grow at their end, and what holds of all elements.
use Rattle.std.proofs.Common.{◌≡◌, ◌<◌, ◌≤◌, ℕ, zero, suc, List, [], ◌∷◌, ◌++◌, length, map}
use Rattle.std.proofs.Common.{Option, Some, None, slice_get, refl, ap, arith}
use Rattle.std.specs.Prelude.{IfSome, IsSomeAnd, slice_index_or, slice_set}
use Rattle.std.specs.List.{AllByRecursion}

-- ---- all elements

pub all_append :
    {A : Type 0} (P : A → Type 0) (xs ys : List A) → AllByRecursion P xs → AllByRecursion P ys
    → AllByRecursion P (xs ++ ys)
all_append P [] ys all more = more
all_append P (x ∷ xs) ys (one, all) more = (one, all_append P xs ys all more)

pub all_as :
    {A : Type 0} (P Q : A → Type 0) (xs : List A) → ((x : A) → P x → Q x) → AllByRecursion P xs
    → AllByRecursion Q xs
all_as P Q [] each all = tt
all_as P Q (x ∷ xs) each (one, all) = (each x one, all_as P Q xs each all)

-- what holds of each element's image holds of all images
pub all_images :
    {A B : Type 0} (P : B → Type 0) (f : A → B) (xs : List A) → AllByRecursion (λ x. P (f x)) xs
    → AllByRecursion P (map f xs)
all_images P f [] all = tt
all_images P f (x ∷ xs) (one, all) = (one, all_images P f xs all)

pub map_unchanged :
    {A B : Type 0} (f : A → B) (g : B → A) (xs : List A) → ((x : A) → g (f x) ≡ x)
    → map g (map f xs) ≡ xs
map_unchanged f g [] each = refl
map_unchanged f g (x ∷ xs) each =
    let e = each x in let more = map_unchanged f g xs each in cc

-- ---- what stands in a list that grows

pub stays_at :
    {A : Type 0} (P : A → Type 0) (xs more : List A) (i : ℕ) → IsSomeAnd (slice_get xs i) P
    → IsSomeAnd (slice_get (xs ++ more) i) P
stays_at P [] more i h = absurd h
stays_at P (x ∷ xs) more zero h = h
stays_at P (x ∷ xs) more (suc i) h = stays_at P xs more i h

pub stands_last :
    {A : Type 0} (P : A → Type 0) (xs : List A) (x : A) → P x
    → IsSomeAnd (slice_get (xs ++ x ∷ []) (length xs)) P
stands_last P [] x h = h
stands_last P (y ∷ xs) x h = stands_last P xs x h

pub if_some_as :
    {A : Type 0} (o : Option A) (P Q : A → Type 0) → ((x : A) → P x → Q x) → IfSome o P
    → IfSome o Q
if_some_as None P Q each h = tt
if_some_as (Some x) P Q each h = each x h

-- ---- what stands at a place

pub data IsSet {A : Type 0} (xs : List A) (i : ℕ) (y : A) (j : ℕ) (x : A) : Type 0 where
  Here : (old : A) → j ≡ i → x ≡ y → slice_get xs j ≡ Some old → IsSet xs i y j x
  Else : (j ≡ i → ⊥) → slice_get xs j ≡ Some x → IsSet xs i y j x

set_further :
    {A : Type 0} (xs : List A) (i : ℕ) (y : A) (j : ℕ) (x z : A) → IsSet xs i y j x
    → IsSet (z ∷ xs) (suc i) y (suc j) x
set_further xs i y j x z (Here old at is e) = Here old (ap suc at) is e
set_further xs i y j x z (Else other e) = Else (λ f. other (omega (arith, f))) e

pub get_set :
    {A : Type 0} (xs : List A) (i : ℕ) (y : A) (j : ℕ) (x : A)
    → slice_get (slice_set xs i y) j ≡ Some x → IsSet xs i y j x
get_set [] i y j x e = absurd (cc)
get_set (z ∷ xs) zero y zero x e = Here z refl (cc) refl
get_set (z ∷ xs) zero y (suc j) x e = Else (λ f. absurd (omega (arith, f))) e
get_set (z ∷ xs) (suc i) y zero x e = Else (λ f. absurd (omega (arith, f))) e
get_set (z ∷ xs) (suc i) y (suc j) x e = set_further xs i y j x z (get_set xs i y j x e)

pub length_set :
    {A : Type 0} (xs : List A) (i : ℕ) (y : A) → length (slice_set xs i y) ≡ length xs
length_set [] i y = refl
length_set (x ∷ xs) zero y = refl
length_set (x ∷ xs) (suc i) y = ap suc (length_set xs i y)

pub get_within :
    {A : Type 0} (xs : List A) (i : ℕ) (x : A) → slice_get xs i ≡ Some x → i < length xs
get_within [] i x e = absurd (cc)
get_within (y ∷ xs) zero x e = omega arith
get_within (y ∷ xs) (suc i) x e = let h = get_within xs i x e in omega (arith, h)

pub get_kept :
    {A : Type 0} (xs more : List A) (i : ℕ) (x : A) → slice_get xs i ≡ Some x
    → slice_get (xs ++ more) i ≡ Some x
get_kept [] more i x e = absurd (cc)
get_kept (y ∷ xs) more zero x e = e
get_kept (y ∷ xs) more (suc i) x e = get_kept xs more i x e

pub get_last :
    {A : Type 0} (xs : List A) (x : A) → slice_get (xs ++ x ∷ []) (length xs) ≡ Some x
get_last [] x = refl
get_last (y ∷ xs) x = get_last xs x

-- an element of a list with one more
pub data IsPushed {A : Type 0} (xs : List A) (y : A) (i : ℕ) (x : A) : Type 0 where
  Before : slice_get xs i ≡ Some x → IsPushed xs y i x
  Last : i ≡ length xs → x ≡ y → IsPushed xs y i x

pushed_further :
    {A : Type 0} (z : A) (xs : List A) (y : A) (i : ℕ) (x : A) → IsPushed xs y i x
    → IsPushed (z ∷ xs) y (suc i) x
pushed_further z xs y i x (Before e) = Before e
pushed_further z xs y i x (Last at is) = Last (ap suc at) is

pub get_pushed :
    {A : Type 0} (xs : List A) (y : A) (i : ℕ) (x : A) → slice_get (xs ++ y ∷ []) i ≡ Some x
    → IsPushed xs y i x
get_pushed [] y zero x e = Last refl (cc)
get_pushed [] y (suc i) x e = absurd (cc)
get_pushed (z ∷ xs) y zero x e = Before e
get_pushed (z ∷ xs) y (suc i) x e = pushed_further z xs y i x (get_pushed xs y i x e)

-- an element's image
pub record IsImage {A B : Type 0} (f : A → B) (xs : List A) (i : ℕ) (y : B) : Type 0 where
  pub of : A
  pub there : slice_get xs i ≡ Some of
  pub is : y ≡ f of

pub get_image :
    {A B : Type 0} (f : A → B) (xs : List A) (i : ℕ) (y : B) → slice_get (map f xs) i ≡ Some y
    → IsImage f xs i y
get_image f [] i y e = absurd (cc)
get_image f (x ∷ xs) zero y e = record { of = x; there = refl; is = cc }
get_image f (x ∷ xs) (suc i) y e =
    let m = get_image f xs i y e in record { of = m.of; there = m.there; is = m.is }

pub get_mapped :
    {A B : Type 0} (f : A → B) (xs : List A) (i : ℕ) (x : A) → slice_get xs i ≡ Some x
    → slice_get (map f xs) i ≡ Some (f x)
get_mapped f [] i x e = absurd (cc)
get_mapped f (y ∷ xs) zero x e = let s : y ≡ x = cc in ap (λ z. Some (f z)) s
get_mapped f (y ∷ xs) (suc i) x e = get_mapped f xs i x e

-- the element with this number, or the number is past the end
pub data IsAt {A : Type 0} (xs : List A) (i : ℕ) (d : A) : Type 0 where
  In : slice_get xs i ≡ Some (slice_index_or xs i d) → IsAt xs i d
  Past : length xs ≤ i → slice_index_or xs i d ≡ d → IsAt xs i d

pub at_cases : {A : Type 0} (xs : List A) (i : ℕ) (d : A) → IsAt xs i d
at_cases [] i d = Past (omega arith) refl
at_cases (x ∷ xs) zero d = In refl
at_cases (x ∷ xs) (suc i) d = further (at_cases xs i d)
  where
    further : IsAt xs i d → IsAt (x ∷ xs) (suc i) d
    further (In e) = In e
    further (Past e f) = Past (omega (arith, e)) f
