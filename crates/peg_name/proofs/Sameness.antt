-- Two lists compared a place at a time.
use Rattle.std.proofs.Common.{◌≡◌, ℕ, zero, suc, ◌<◌, List, [], ◌∷◌, length, drop, nat_eq, Bool, true, false}
use Rattle.std.proofs.Common.{ap, sym, ◌∙◌, arith, refl, ◌&&◌, slice_index_or, ◌≤◌}
use Rattle.std.specs.Cmp.Lexicographic.{pointwise}
use Rattle.std.proofs.lemmas.List.{drop_all}

pub same_step :
    (xs ys : List ℕ) (i : ℕ) → i < length xs → i < length ys
    → pointwise nat_eq (drop i xs) (drop i ys)
    ≡ (nat_eq (slice_index_or xs i 0) (slice_index_or ys i 0)
    && pointwise nat_eq (drop (suc i) xs) (drop (suc i) ys))
same_step [] ys i low high = absurd (omega (arith, low))
same_step (x ∷ xs) [] i low high = absurd (omega (arith, high))
same_step (x ∷ xs) (y ∷ ys) zero low high = refl
same_step (x ∷ xs) (y ∷ ys) (suc i) low high =
    same_step xs ys i (omega (arith, low)) (omega (arith, high))

joined : (a b c : Bool) → (a && (b && c)) ≡ ((a && b) && c)
joined true b c = refl
joined false b c = refl

pub same_after :
    (xs ys : List ℕ) (i : ℕ) (same : Bool) → i < length xs → i < length ys
    → (same && pointwise nat_eq (drop i xs) (drop i ys)) ≡ pointwise nat_eq xs ys
    → ((same && nat_eq (slice_index_or xs i 0) (slice_index_or ys i 0))
    && pointwise nat_eq (drop (suc i) xs) (drop (suc i) ys)) ≡ pointwise nat_eq xs ys
same_after xs ys i same low high so =
    sym (joined same (nat_eq (slice_index_or xs i 0) (slice_index_or ys i 0))
    (pointwise nat_eq (drop (suc i) xs) (drop (suc i) ys)))
    ∙ ap (λ b. same && b) (sym (same_step xs ys i low high)) ∙ so

last : (same : Bool) → (same && true) ≡ same
last true = refl
last false = refl

pub same_ends :
    (xs ys : List ℕ) (i : ℕ) (same : Bool) → length xs ≤ i → length ys ≤ i
    → (same && pointwise nat_eq (drop i xs) (drop i ys)) ≡ pointwise nat_eq xs ys
    → same ≡ pointwise nat_eq xs ys
same_ends xs ys i same low high so =
    sym (last same)
    ∙ ap (λ zs. same && pointwise nat_eq zs []) (sym (drop_all i xs low))
    ∙ ap (λ zs. same && pointwise nat_eq (drop i xs) zs) (sym (drop_all i ys high)) ∙ so
