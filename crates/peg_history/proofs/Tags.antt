-- The tags that were read, in rising order, are searched.
use Rattle.std.proofs.Common.{◌≡◌, ◌<◌, ◌≤◌, ◌==◌, ℕ, suc, false, Result, Ok, Err, is_ok, List, []}
use Rattle.std.proofs.Common.{◌∷◌, length, get_or, MatchResult, refl, sym, arith, eq-eqb}
use Rattle.std.proofs.lemmas.Bool.Decides.{nat_tests}
use Rattle.std.specs.List.{list_any}
use Rattle.std.specs.Ordering.{nat_cmp}
use Rattle.std.specs.List.Sorted.{IsNonDecreasing, IsBinarySearchResult}
use Rattle.std.proofs.lemmas.List.Folds.{list_any_at}
use Rattle.std.proofs.lemmas.List.Sorted.{searched}

none_is :
    (xs : List ℕ) (x : ℕ) → ((k : ℕ) → k < length xs → (get_or xs k 0 ≡ x) → ⊥)
    → list_any (λ t. t == x) xs ≡ false
none_is [] x h = refl
none_is (y ∷ xs) x h =
    let here : (y == x) ≡ false = other y x (h 0 (omega arith)) in
    let there = none_is xs x (λ k lt. h (suc k) (omega arith)) in
    rw (here, there) refl
  where
    other : (a b : ℕ) → (a ≡ b → ⊥) → (a == b) ≡ false
    other a b differ = grind (arith, nat_tests)

among_of : (xs : List ℕ) (x : ℕ) (r : Result ℕ ℕ)
    → MatchResult r (λ i. (i < length xs) × (get_or xs i 0 ≡ x))
    (λ i. (i ≤ length xs) × ((k : ℕ) → k < i → get_or xs k 0 < x)
    × ((k : ℕ) → i ≤ k → k < length xs → x < get_or xs k 0))
    → is_ok r ≡ list_any (λ t. t == x) xs
among_of xs x (Ok i) (within, is) =
    sym (list_any_at (λ t. t == x) xs i 0 within (eq-eqb (get_or xs i 0) x is))
among_of xs x (Err i) (within, below, above) = sym (none_is xs x (λ k lt e. differs k lt e))
  where
    differs : (k : ℕ) → k < length xs → get_or xs k 0 ≡ x → ⊥
    differs k lt e = differs_at k lt e (below k) (above k)
      where
        differs_at :
            (j : ℕ) → j < length xs → get_or xs j 0 ≡ x → (j < i → get_or xs j 0 < x)
            → (i ≤ j → j < length xs → x < get_or xs j 0) → ⊥
        differs_at j lt' e' f g = grind arith

pub among :
    (xs : List ℕ) (x : ℕ) (r : Result ℕ ℕ) → IsBinarySearchResult (λ y. nat_cmp y x) xs r
    → IsNonDecreasing xs → is_ok r ≡ list_any (λ t. t == x) xs
among xs x r found up = among_of xs x r (searched xs x r found (λ i j le lt. up i j 0 le lt))
