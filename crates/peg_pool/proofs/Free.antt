-- The free slots, when one is freed and when one is taken.
use Rattle.std.proofs.Common.{◌≡◌, ◌≢◌, ℕ, zero, suc, ◌+◌, ◌<◌, ◌≤◌, List, [], ◌∷◌, ◌++◌}
use Rattle.std.proofs.Common.{length, ap, sym, ◌∙◌, arith, refl}
use Rattle.std.proofs.Common.{Option, Some, None}
use Rattle.std.specs.Prelude.{slice_set, slice_index_or}
use Rattle.std.specs.List.{AllByRecursion}
use Rattle.std.proofs.lemmas.List.{length-set, get_or-set_same, get_or-set_other}
use Rattle.peg_pool.specs.Held.{count_none, AreFree}

-- ---- how many are free

pub count-freed :
    (lengths : List (Option ℕ)) (n l : ℕ)
    → slice_index_or lengths n None ≡ Some l
    → count_none (slice_set lengths n None) ≡ count_none lengths + 1
count-freed [] n l is = absurd (cc is)
count-freed (None ∷ ks) zero l is = absurd (cc is)
count-freed (Some k ∷ ks) zero l is = omega arith
count-freed (None ∷ ks) (suc n) l is = omega (arith, count-freed ks n l is)
count-freed (Some k ∷ ks) (suc n) l is = count-freed ks n l is

pub count-taken :
    (lengths : List (Option ℕ)) (n l : ℕ)
    → n < length lengths → slice_index_or lengths n None ≡ None
    → count_none (slice_set lengths n (Some l)) + 1 ≡ count_none lengths
count-taken [] n l below is = absurd (omega (arith, below))
count-taken (None ∷ ks) zero l below is = omega arith
count-taken (Some k ∷ ks) zero l below is = absurd (cc is)
count-taken (None ∷ ks) (suc n) l below is = omega (arith, count-taken ks n l (omega (arith, below)) is)
count-taken (Some k ∷ ks) (suc n) l below is = count-taken ks n l (omega (arith, below)) is

pub count-replaced :
    (lengths : List (Option ℕ)) (n k l : ℕ)
    → slice_index_or lengths n None ≡ Some k
    → count_none (slice_set lengths n (Some l)) ≡ count_none lengths
count-replaced [] n k l is = absurd (cc is)
count-replaced (None ∷ ks) zero k l is = absurd (cc is)
count-replaced (Some j ∷ ks) zero k l is = refl
count-replaced (None ∷ ks) (suc n) k l is = omega (arith, count-replaced ks n k l is)
count-replaced (Some j ∷ ks) (suc n) k l is = count-replaced ks n k l is

pub count-push :
    (lengths : List (Option ℕ)) (l : ℕ)
    → count_none (lengths ++ Some l ∷ []) ≡ count_none lengths
count-push [] l = refl
count-push (None ∷ ks) l = omega (arith, count-push ks l)
count-push (Some k ∷ ks) l = count-push ks l

pub count-most : (lengths : List (Option ℕ)) → count_none lengths ≤ length lengths
count-most [] = omega arith
count-most (None ∷ ks) = omega (arith, count-most ks)
count-most (Some k ∷ ks) = omega (arith, count-most ks)

-- a live slot is none of the free ones, so there are fewer free ones than slots
pub count-below :
    (lengths : List (Option ℕ)) (n l : ℕ)
    → slice_index_or lengths n None ≡ Some l → count_none lengths < length lengths
count-below [] n l is = absurd (cc is)
count-below (None ∷ ks) zero l is = absurd (cc is)
count-below (Some k ∷ ks) zero l is = omega (arith, count-most ks)
count-below (None ∷ ks) (suc n) l is = omega (arith, count-below ks n l is)
count-below (Some k ∷ ks) (suc n) l is = omega (arith, count-below ks n l is)

-- ---- which are free

differs-last :
    (f : ℕ) (front : List ℕ) (slot : ℕ)
    → AllByRecursion (λ other. f ≢ other) (front ++ slot ∷ []) → f ≢ slot
differs-last f [] slot all = all.0
differs-last f (x ∷ front) slot all = differs-last f front slot all.1

differs-front :
    (f : ℕ) (front : List ℕ) (slot : ℕ)
    → AllByRecursion (λ other. f ≢ other) (front ++ slot ∷ [])
    → AllByRecursion (λ other. f ≢ other) front
differs-front f [] slot all = tt
differs-front f (x ∷ front) slot all = (all.0, differs-front f front slot all.1)

differs-push :
    (f : ℕ) (freed : List ℕ) (slot : ℕ)
    → AllByRecursion (λ other. f ≢ other) freed → f ≢ slot
    → AllByRecursion (λ other. f ≢ other) (freed ++ slot ∷ [])
differs-push f [] slot all new = (new, tt)
differs-push f (x ∷ freed) slot all new = (all.0, differs-push f freed slot all.1 new)

pub free-last :
    (lengths : List (Option ℕ)) (front : List ℕ) (slot : ℕ)
    → AreFree lengths (front ++ slot ∷ [])
    → (slot < length lengths) × (slice_index_or lengths slot None ≡ None)
free-last lengths [] slot free = (free.0, free.1)
free-last lengths (f ∷ front) slot free = free-last lengths front slot free.3

pub free-taken :
    (lengths : List (Option ℕ)) (front : List ℕ) (slot l : ℕ)
    → AreFree lengths (front ++ slot ∷ []) → AreFree (slice_set lengths slot (Some l)) front
free-taken lengths [] slot l free = tt
free-taken lengths (f ∷ front) slot l free = (
  omega (arith, free.0, length-set lengths slot (Some l)),
  get_or-set_other lengths slot f (Some l) None (differs-last f front slot free.2) ∙ free.1,
  differs-front f front slot free.2,
  free-taken lengths front slot l free.3,
)

differs-live :
    (lengths : List (Option ℕ)) (f n l : ℕ)
    → slice_index_or lengths f None ≡ None → slice_index_or lengths n None ≡ Some l → f ≢ n
differs-live lengths f n l free live same =
    absurd (cc (sym free ∙ ap (λ k. slice_index_or lengths k None) same ∙ live))

pub free-freed :
    (lengths : List (Option ℕ)) (freed : List ℕ) (n l : ℕ)
    → AreFree lengths freed → n < length lengths → slice_index_or lengths n None ≡ Some l
    → AreFree (slice_set lengths n None) (freed ++ n ∷ [])
free-freed lengths [] n l free below live = (
  omega (arith, below, length-set lengths n None),
  get_or-set_same lengths n None None below,
  tt,
  tt,
)
free-freed lengths (f ∷ freed) n l free below live =
    let differs = differs-live lengths f n l free.1 live in (
      omega (arith, free.0, length-set lengths n None),
      get_or-set_other lengths n f None None differs ∙ free.1,
      differs-push f freed n free.2 differs,
      free-freed lengths freed n l free.3 below live,
    )

pub free-replaced :
    (lengths : List (Option ℕ)) (freed : List ℕ) (n k l : ℕ)
    → AreFree lengths freed → slice_index_or lengths n None ≡ Some k
    → AreFree (slice_set lengths n (Some l)) freed
free-replaced lengths [] n k l free live = tt
free-replaced lengths (f ∷ freed) n k l free live = (
  omega (arith, free.0, length-set lengths n (Some l)),
  get_or-set_other lengths n f (Some l) None (differs-live lengths f n k free.1 live) ∙ free.1,
  free.2,
  free-replaced lengths freed n k l free.3 live,
)
