-- Two words compared a byte at a time.
use Rattle.std.proofs.Common.{◌≡◌, ◌≢◌, ◌<◌, ◌≤◌, ◌&&◌, ℕ, zero, suc, Bool, true, false, List, [], ◌∷◌}
use Rattle.std.proofs.Common.{length, drop, nat_eq, slice_index_or, ap, refl, arith, sym, ◌∙◌, ◌+◌, subst}
use Rattle.std.specs.Str.{bytes_eq}
use Rattle.std.proofs.lemmas.List.{drop_all}

never : (b : Bool) → (b && false) ≡ false
never true = refl
never false = refl

pub apart : (word name : List ℕ) → length word ≢ length name → bytes_eq word name ≡ false
apart [] [] other = absurd (other refl)
apart [] (n ∷ name) other = refl
apart (b ∷ word) [] other = refl
apart (b ∷ word) (n ∷ name) other =
    ap (λ t. nat_eq b n && t) (apart word name (λ same. other (ap suc same))) ∙ never (nat_eq b n)

pub alike_on :
    (word name : List ℕ) (i : ℕ) → i < length word → i < length name
    → bytes_eq (drop i word) (drop i name)
    ≡ (nat_eq (slice_index_or word i 0) (slice_index_or name i 0)
    && bytes_eq (drop (suc i) word) (drop (suc i) name))
alike_on [] name i low high = absurd (omega (arith, low))
alike_on (b ∷ word) [] i low high = absurd (omega (arith, high))
alike_on (b ∷ word) (n ∷ name) zero low high = refl
alike_on (b ∷ word) (n ∷ name) (suc i) low high =
    alike_on word name i (omega (arith, low)) (omega (arith, high))

-- all were compared
pub all_alike :
    (word name : List ℕ) (i : ℕ) (answer : Bool) → length word ≤ i → length name ≤ i
    → bytes_eq (drop i word) (drop i name) ≡ answer → true ≡ answer
all_alike word name i answer low high is =
    sym (ap (λ rest. bytes_eq rest (drop i name)) (drop_all i word low)
    ∙ ap (bytes_eq []) (drop_all i name high))
    ∙ is

-- one byte more is the same, or the first that isn't
pub alike_more :
    (word name : List ℕ) (i : ℕ) (answer : Bool) → i < length word → i < length name
    → nat_eq (slice_index_or word i 0) (slice_index_or name i 0) ≡ true
    → bytes_eq (drop i word) (drop i name) ≡ answer
    → bytes_eq (drop (i + 1) word) (drop (i + 1) name) ≡ answer
alike_more word name i answer low high same is =
    let next : suc i ≡ i + 1 = omega arith in
    subst (λ k. bytes_eq (drop k word) (drop k name) ≡ answer) next
    (sym (ap (λ t. t && bytes_eq (drop (suc i) word) (drop (suc i) name)) same)
    ∙ sym (alike_on word name i low high) ∙ is)

pub unlike :
    (word name : List ℕ) (i : ℕ) (answer : Bool) → i < length word → i < length name
    → nat_eq (slice_index_or word i 0) (slice_index_or name i 0) ≡ false
    → bytes_eq (drop i word) (drop i name) ≡ answer → false ≡ answer
unlike word name i answer low high other is =
    sym (ap (λ t. t && bytes_eq (drop (suc i) word) (drop (suc i) name)) other)
    ∙ sym (alike_on word name i low high) ∙ is
