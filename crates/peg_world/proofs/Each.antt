-- What holds of each element at its place.
use Rattle.std.proofs.Common.{◌≡◌, ℕ, zero, suc, ◌+◌, ◌<◌, List, [], ◌∷◌, ◌++◌, Some, sym, subst}
use Rattle.std.proofs.Common.{arith, slice_get, slice_set, length, map, length-append, ap, ◌∙◌, refl}
use Rattle.std.proofs.Common.{take}
use Rattle.std.specs.List.{AllByRecursion}
use Rattle.std.proofs.lemmas.List.{map-append, length-map}
use Rattle.peg_model.specs.Words.{below}
use Rattle.peg_world.specs.Sound.{Each}
use Rattle.peg_world.proofs.Made.{plus_one}

pub some_is : {A : Type 0} (x y : A) → Some x ≡ Some y → x ≡ y
some_is x y e = cc

-- an element that is set, and the others
pub each_set :
    {A : Type 0} (P Q : ℕ → A → Type 0) (xs : List A) (i : ℕ) (y : A)
    → Each P xs → Q i y → ((j : ℕ) (x : A) → (j ≡ i → ⊥) → P j x → Q j x)
    → Each Q (slice_set xs i y)
each_set P Q [] i y each new keep = λ j x e. absurd cc
each_set P Q (x ∷ xs) zero y each new keep = λ j z e. first j z e
  where
    first : (j : ℕ) (z : _) → slice_get (y ∷ xs) j ≡ Some z → Q j z
    first zero z e = subst (Q 0) (some_is y z e) new
    first (suc j) z e = keep (suc j) z (λ same. omega (arith, same)) (each (suc j) z e)
each_set P Q (x ∷ xs) (suc i) y each new keep =
    first (each_set (λ k. P (suc k)) (λ k. Q (suc k)) xs i y (λ k w f. each (suc k) w f) new
    (λ k w other. keep (suc k) w (λ same. other (omega (arith, same)))))
  where
    first :
        ((k : ℕ) (w : _) → slice_get (slice_set xs i y) k ≡ Some w → Q (suc k) w)
        → (j : ℕ) (z : _) → slice_get (x ∷ slice_set xs i y) j ≡ Some z → Q j z
    first rest zero z e = keep 0 z (λ same. omega (arith, same)) (each 0 z e)
    first rest (suc j) z e = rest j z e

pub set_same :
    {A : Type 0} (xs : List A) (i : ℕ) (x : A) → slice_get xs i ≡ Some x → slice_set xs i x ≡ xs
set_same [] i x at = refl
set_same (y ∷ xs) zero x at = ap (λ z. z ∷ xs) (sym (some_is y x at))
set_same (y ∷ xs) (suc i) x at = ap (λ zs. y ∷ zs) (set_same xs i x at)

pub set_there :
    {A : Type 0} (xs : List A) (i : ℕ) (y : A)
    → i < length xs → slice_get (slice_set xs i y) i ≡ Some y
set_there [] i y small = absurd (omega (arith, small))
set_there (x ∷ xs) zero y small = refl
set_there (x ∷ xs) (suc i) y small = set_there xs i y (omega (arith, small))

pub each_weaker :
    {A : Type 0} (P Q : ℕ → A → Type 0) (xs : List A)
    → ((j : ℕ) (x : A) → P j x → Q j x) → Each P xs → Each Q xs
each_weaker P Q xs f each = λ j x e. f j x (each j x e)

-- ---- a list that was made of the numbers below one

each_more :
    {A : Type 0} (P : ℕ → A → Type 0) (xs : List A) (y : A)
    → Each P xs → P (length xs) y → Each P (xs ++ y ∷ [])
each_more P [] y each new zero x e = subst (P 0) (some_is y x e) new
each_more P [] y each new (suc i) x e = absurd cc
each_more P (x ∷ xs) y each new zero z e = each zero z e
each_more P (x ∷ xs) y each new (suc i) z e =
    each_more (λ j. P (suc j)) xs y (λ j w f. each (suc j) w f) new i z e

length_below : (n : ℕ) → length (below n) ≡ n
length_below zero = refl
length_below (suc n) = length-append (below n) (n ∷ []) ∙ plus_one (length (below n))
    ∙ ap suc (length_below n)

pub length_made : {A : Type 0} (f : ℕ → A) (n : ℕ) → length (map f (below n)) ≡ n
length_made f n = length-map (below n) f ∙ length_below n

pub each_made :
    {A : Type 0} (P : ℕ → A → Type 0) (f : ℕ → A) (n : ℕ)
    → ((i : ℕ) → i < n → P i (f i)) → Each P (map f (below n))
each_made P f zero all = λ i x e. absurd cc
each_made P f (suc n) all =
    subst (Each P) (sym (map-append f (below n) (n ∷ [])))
    (each_more P (map f (below n)) (f n)
    (each_made P f n (λ i small. all i (omega (arith, small))))
    (subst (λ k. P k (f n)) (sym (length_made f n)) (all n (omega arith))))

-- ---- all elements

pub all_more :
    {A : Type 0} (P : A → Type 0) (xs : List A) (y : A)
    → AllByRecursion P xs → P y → AllByRecursion P (xs ++ y ∷ [])
all_more P [] y all new = (new, tt)
all_more P (x ∷ xs) y all new = (all.0, all_more P xs y all.1 new)

pub all_append :
    {A : Type 0} (P : A → Type 0) (xs ys : List A)
    → AllByRecursion P xs → AllByRecursion P ys → AllByRecursion P (xs ++ ys)
all_append P [] ys all more = more
all_append P (x ∷ xs) ys all more = (all.0, all_append P xs ys all.1 more)

pub all_weaker :
    {A : Type 0} (P Q : A → Type 0) (xs : List A)
    → ((x : A) → P x → Q x) → AllByRecursion P xs → AllByRecursion Q xs
all_weaker P Q [] f all = tt
all_weaker P Q (x ∷ xs) f all = (f x all.0, all_weaker P Q xs f all.1)

pub all_at :
    {A : Type 0} (P : A → Type 0) (xs : List A) (number : ℕ) (x : A)
    → AllByRecursion P xs → slice_get xs number ≡ Some x → P x
all_at P [] number x all e = absurd cc
all_at P (y ∷ xs) zero x all e = subst P (some_is y x e) all.0
all_at P (y ∷ xs) (suc number) x all e = all_at P xs number x all.1 e

-- ---- the first elements

plus_suc : (i : ℕ) → suc i + 1 ≡ suc (i + 1)
plus_suc i = omega arith

pub take_more :
    {A : Type 0} (xs : List A) (i : ℕ) (x : A)
    → slice_get xs i ≡ Some x → take (i + 1) xs ≡ take i xs ++ x ∷ []
take_more [] i x at = absurd cc
take_more (y ∷ xs) zero x at = ap (λ z. z ∷ []) (some_is y x at)
take_more (y ∷ xs) (suc i) x at =
    ap (λ n. take n (y ∷ xs)) (plus_suc i) ∙ ap (λ zs. y ∷ zs) (take_more xs i x at)

pub take_all : {A : Type 0} (xs : List A) → take (length xs) xs ≡ xs
take_all [] = refl
take_all (x ∷ xs) = ap (λ zs. x ∷ zs) (take_all xs)
