-- A sorted list is determined by its elements: what a sort leaves is the insertion sort of what it
-- was given.
use Rattle.std.proofs.Common.{◌≡◌, ◌<◌, ◌≤◌, ◌+◌, ℕ, suc, Bool, true, false, not, List, [], ◌∷◌}
use Rattle.std.proofs.Common.{length, get_or, if◌then◌else◌, refl, sym, ap, ◌∙◌, arith}
use Rattle.std.specs.List.{AllByRecursion}
use Rattle.std.specs.List.Sorted.{IsPermutation, IsSortedBy}
use Rattle.std.specs.Cmp.{IsStrictWeakOrder}
use Rattle.std.proofs.lemmas.List.Sorted.{sorted_far, sum_by-IsPermutation}
use Rattle.std.proofs.lemmas.List.Recursion.{is_sum_by}
use Rattle.peg_model.specs.Words.{placed, sorted}

-- how many pass the test
pub count : {X : Type 0} → (X → Bool) → List X → ℕ
count p [] = 0
count p (x ∷ xs) = (if p x then 1 else 0) + count p xs

count-IsPermutation :
    {X : Type 0} (p : X → Bool) (xs ys : List X) → IsPermutation xs ys → count p ys ≡ count p xs
unfolding count
count-IsPermutation {X} p xs ys moved =
    let is = is_sum_by (count p) (λ x. if p x then 1 else 0) refl (λ x zs. refl) in
    is ys ∙ sum_by-IsPermutation (λ x. if p x then 1 else 0) xs ys moved ∙ sym (is xs)

test_of : (b : Bool) → b ≡ true → ◌≡◌ {A = ℕ} (if b then 1 else 0) 1
test_of true e = refl
test_of false e = cc

test_not : (b : Bool) → b ≡ false → ◌≡◌ {A = ℕ} (if b then 1 else 0) 0
test_not true e = cc
test_not false e = refl

count_none :
    {X : Type 0} (p : X → Bool) (xs : List X) → AllByRecursion (λ x. p x ≡ false) xs
    → count p xs ≡ 0
unfolding count
count_none p [] all = refl
count_none p (x ∷ xs) (none, all) =
    let a = test_not (p x) none in let b = count_none p xs all in omega (arith, a, b)

All-map :
    {X : Type 0} (P Q : X → Type 0) → ((x : X) → P x → Q x) → (xs : List X) → AllByRecursion P xs
    → AllByRecursion Q xs
All-map P Q f [] all = tt
All-map P Q f (x ∷ xs) (here, all) = (f x here, All-map P Q f xs all)

all_at :
    {X : Type 0} (P : X → Type 0) (xs : List X)
    → ((k : ℕ) (d : X) → k < length xs → P (get_or xs k d)) → AllByRecursion P xs
all_at P [] h = tt
all_at P (x ∷ xs) h = (h 0 x (omega arith), all_at P xs (λ k d lt. h (suc k) d (omega arith)))

module _ {X : Type 0} (before : X → X → Bool) (o : IsStrictWeakOrder before) where
  -- no element is before an earlier one
  pub Up : List X → Type 0
  Up [] = Unit {0}
  Up (x ∷ xs) = AllByRecursion (λ y. before y x ≡ false) xs × Up xs

  All-placed :
      (P : X → Type 0) (x : X) (ys : List X) → P x → AllByRecursion P ys
      → AllByRecursion P (placed before x ys)
  All-placed P x [] here all = (here, tt)
  All-placed P x (y ∷ ys) here (there, all) = all_if (before x y) (All-placed P x ys here all)
    where
      all_if :
          (b : Bool) → AllByRecursion P (placed before x ys)
          → AllByRecursion P (if b then x ∷ y ∷ ys else y ∷ placed before x ys)
      all_if true rest = (here, (there, all))
      all_if false rest = (there, rest)

  Up-placed : (x : X) (ys : List X) → Up ys → Up (placed before x ys)
  unfolding Up
  Up-placed x [] up = (tt, tt)
  Up-placed x (y ∷ ys) (least, up) = up_if (before x y) refl (Up-placed x ys up)
    where
      up_if :
          (b : Bool) → before x y ≡ b → Up (placed before x ys)
          → Up (if b then x ∷ y ∷ ys else y ∷ placed before x ys)
      up_if true e rest =
          let back = o.one_way x y e in (
            (
              back,
              All-map (λ z. before z y ≡ false) (λ z. before z x ≡ false)
                  (λ z h. o.chain z y x h back) ys least,
            ),
            (least, up),
          )
      up_if false e rest = (All-placed (λ z. before z y ≡ false) x ys e least, rest)

  pub Up-sorted : (xs : List X) → Up (sorted before xs)
  unfolding Up
  Up-sorted [] = tt
  Up-sorted (x ∷ xs) = Up-placed x (sorted before xs) (Up-sorted xs)

  count-placed :
      (p : X → Bool) (x : X) (ys : List X)
      → count p (placed before x ys) ≡ (if p x then 1 else 0) + count p ys
  unfolding count
  count-placed p x [] = refl
  count-placed p x (y ∷ ys) = count_if (before x y) (count-placed p x ys)
    where
      count_if : (b : Bool) → count p (placed before x ys) ≡ (if p x then 1 else 0) + count p ys
          → count p (if b then x ∷ y ∷ ys else y ∷ placed before x ys)
          ≡ (if p x then 1 else 0) + ((if p y then 1 else 0) + count p ys)
      count_if true e = refl
      count_if false e = omega (arith, e)

  pub count-sorted : (p : X → Bool) (xs : List X) → count p (sorted before xs) ≡ count p xs
  unfolding count
  count-sorted p [] = refl
  count-sorted p (x ∷ xs) =
      count-placed p x (sorted before xs) ∙ ap (λ n. (if p x then 1 else 0) + n)
      (count-sorted p xs)

  Up_at :
      (xs : List X)
      → ((i j : ℕ) (d : X) → i ≤ j → j < length xs
      → before (get_or xs j d) (get_or xs i d) ≡ false)
      → Up xs
  unfolding Up
  Up_at [] h = tt
  Up_at (x ∷ xs) h = (
    all_at (λ y. before y x ≡ false) xs (λ k d lt. h 0 (suc k) d (omega arith) (omega arith)),
    Up_at xs (λ i j d le lt. h (suc i) (suc j) d (omega arith) (omega arith)),
  )

  -- an element that is before the first is before no element, so it isn't in the list
  not_in :
      (x y : X) (ys : List X) → Up (y ∷ ys) → before x y ≡ true
      → count (λ z. not (before x z)) (y ∷ ys) ≡ 0
  unfolding Up
  not_in x y ys (least, up) first =
      count_none (λ z. not (before x z)) (y ∷ ys) (
        ap not first,
        All-map (λ z. before z y ≡ false) (λ z. not (before x z) ≡ false)
            (λ z h. ap not (past z h (before x z) refl)) ys least,
      )
    where
      past : (z : X) → before z y ≡ false → (b : Bool) → before x z ≡ b → before x z ≡ true
      past z h true e = e
      past z h false e = let f = o.chain x z y e h in cc

  itself : (x : X) → before x x ≡ false
  itself x = self_if (before x x) refl
    where
      self_if : (b : Bool) → before x x ≡ b → before x x ≡ false
      self_if true e = o.one_way x x e
      self_if false e = e

  head_not_before :
      (x y : X) (xs ys : List X) → Up (y ∷ ys)
      → ((p : X → Bool) → count p (x ∷ xs) ≡ count p (y ∷ ys)) → before x y ≡ false
  unfolding count
  head_not_before x y xs ys up same = head_if (before x y) refl
    where
      head_if : (b : Bool) → before x y ≡ b → before x y ≡ false
      head_if true e =
          let none = same (λ z. not (before x z)) ∙ not_in x y ys up e in
          let one = test_of (not (before x x)) (ap not (itself x)) in
          absurd (omega (arith, none, one))
      head_if false e = e

  module _ (only : (x y : X) → before x y ≡ false → before y x ≡ false → x ≡ y) where
    pub same_up :
        (xs ys : List X) → Up xs → Up ys → ((p : X → Bool) → count p xs ≡ count p ys) → xs ≡ ys
    unfolding count Up
    same_up [] [] a b same = refl
    same_up [] (y ∷ ys) a b same = let none = same (λ z. true) in absurd (omega (arith, none))
    same_up (x ∷ xs) [] a b same = let none = same (λ z. true) in absurd (omega (arith, none))
    same_up (x ∷ xs) (y ∷ ys) a b same =
        let e :
        x
        ≡ y = only x y (head_not_before x y xs ys b same)
        (head_not_before y x ys xs a (λ p. sym (same p))) in
        let rest : (p : X → Bool) → count p xs ≡ count p ys =
        λ p. let h =
        same p in let k = ap {B = ℕ} (λ z. if p z then 1 else 0) e in omega (arith, h, k) in
        ap (λ z. z ∷ xs) e ∙ ap (λ zs. y ∷ zs) (same_up xs ys a.1 b.1 rest)

    -- what a sort leaves
    pub sorted_is :
        (xs ys : List X) → IsPermutation xs ys → IsSortedBy before ys → ys ≡ sorted before xs
    sorted_is xs ys moved up =
        same_up ys (sorted before xs) (Up_at ys (sorted_far before o ys up)) (Up-sorted xs)
        (λ p. count-IsPermutation p xs ys moved ∙ sym (count-sorted p xs))
