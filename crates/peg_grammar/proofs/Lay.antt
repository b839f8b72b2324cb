-- What stands at the places of a datagram, one part after another.
use Rattle.std.proofs.Common.{◌≡◌, ℕ, zero, suc, ◌+◌, ◌<◌, ◌≤◌, List, [], ◌∷◌, ◌++◌, length, take}
use Rattle.std.proofs.Common.{drop, get_or, refl, ap, sym, ◌∙◌, subst, arith, add-one, add-zero}
use Rattle.std.proofs.Common.{drop-cons, lit<, ◌-◌}
use Rattle.std.specs.Int.{w16, w64, from_be_bytes}
use Rattle.std.proofs.lemmas.Nat.{be_bytes_2, be_bytes_8}
use Rattle.std.proofs.lemmas.List.{get_or-drop, length-drop, drop-drop}
use Rattle.peg_name.specs.declared.Format.{Format}
use Rattle.peg_model.specs.Packet.{begin, two, eight}
use Rattle.peg_model.specs.Reading.{one_at, two_at, eight_at}

-- one byte and what follows it
pub one_on :
    (bytes : List ℕ) (i : ℕ) → i < length bytes
    → drop i bytes ≡ one_at bytes i ∷ drop (i + 1) bytes
one_on bytes i h = rw add-one (drop-cons bytes i 0 h)

-- the same, and what that is
pub one_then :
    (bytes rest : List ℕ) (i : ℕ) → i < length bytes → drop (i + 1) bytes ≡ rest
    → drop i bytes ≡ one_at bytes i ∷ rest
one_then bytes rest i h r = one_on bytes i h ∙ ap (λ t. one_at bytes i ∷ t) r

pub eight_then :
    (bytes rest : List ℕ) (i : ℕ) → drop i bytes ≡ eight (eight_at bytes i) ++ drop (i + 8) bytes
    → drop (i + 8) bytes ≡ rest → drop i bytes ≡ eight (eight_at bytes i) ++ rest
eight_then bytes rest i h r = h ∙ ap (λ t. eight (eight_at bytes i) ++ t) r

pub two_then :
    (bytes rest : List ℕ) (i : ℕ) → drop i bytes ≡ two (two_at bytes i) ++ drop (i + 2) bytes
    → drop (i + 2) bytes ≡ rest → drop i bytes ≡ two (two_at bytes i) ++ rest
two_then bytes rest i h r = h ∙ ap (λ t. two (two_at bytes i) ++ t) r

pub begun_then :
    (format : Format) (kind : ℕ) (bytes rest : List ℕ) → bytes ≡ begin format kind ++ drop 4 bytes
    → drop 4 bytes ≡ rest → bytes ≡ begin format kind ++ rest
begun_then format kind bytes rest h r = h ∙ ap (λ t. begin format kind ++ t) r

-- ---- what the first byte behind a place is

pub head_on :
    (bytes : List ℕ) (at x : ℕ) (xs : List ℕ) → drop at bytes ≡ x ∷ xs → one_at bytes at ≡ x
head_on bytes at x xs e =
    ap (λ i. get_or bytes i 0) (sym (add-zero at))
    ∙ sym (get_or-drop at bytes 0 0)
    ∙ ap (λ b. get_or b 0 0) e

pub length_on :
    (bytes : List ℕ) (at x : ℕ) (xs : List ℕ) → drop at bytes ≡ x ∷ xs
    → at + (1 + length xs) ≡ length bytes
length_on bytes at x xs e =
    let rest : length bytes - at ≡ length (x ∷ xs) = sym (length-drop at bytes) ∙ ap length e in
    omega (arith, rest)

-- ---- numbers whose bytes are bytes

abbrev pub AreBytes : List ℕ → Type 0
AreBytes xs = (i : ℕ) → get_or xs i 0 < 256

bytes_behind : (xs : List ℕ) (n : ℕ) → AreBytes xs → AreBytes (drop n xs)
bytes_behind xs n h i =
    let P : ℕ → Type 0 = λ b. b < 256 in subst P (sym (get_or-drop n xs i 0)) (h (n + i))

two_bytes : (a b : ℕ) → a < 256 → b < 256 → AreBytes (a ∷ b ∷ [])
two_bytes a b p q zero = p
two_bytes a b p q (suc zero) = q
two_bytes a b p q (suc (suc i)) = lit< tt

two_front :
    (xs : List ℕ) → 2 ≤ length xs → AreBytes xs → xs ≡ two (from_be_bytes w16 xs) ++ drop 2 xs
two_front [] h bytes = absurd (omega arith)
two_front (a ∷ []) h bytes = absurd (omega arith)
two_front (a ∷ b ∷ xs) h bytes =
    ap (λ t. t ++ xs)
    (sym (be_bytes_2 (a ∷ b ∷ []) (from_be_bytes w16 (a ∷ b ∷ [])) refl
    (two_bytes a b (bytes 0) (bytes 1)) refl))

front_bytes : (xs : List ℕ) (n : ℕ) → AreBytes xs → AreBytes (take n xs)
front_bytes xs zero h i = lit< tt
front_bytes [] (suc n) h i = lit< tt
front_bytes (x ∷ xs) (suc n) h zero = h zero
front_bytes (x ∷ xs) (suc n) h (suc i) = front_bytes xs n (λ k. h (suc k)) i

eight_front :
    (xs : List ℕ) → 8 ≤ length xs → AreBytes xs → xs ≡ eight (from_be_bytes w64 xs) ++ drop 8 xs
eight_front (a ∷ b ∷ c ∷ d ∷ e ∷ f ∷ g ∷ h ∷ xs) long bytes =
    let front : List ℕ = a ∷ b ∷ c ∷ d ∷ e ∷ f ∷ g ∷ h ∷ [] in
    ap (λ t. t ++ xs)
    (sym (be_bytes_8 front (from_be_bytes w64 front) refl
    (front_bytes (a ∷ b ∷ c ∷ d ∷ e ∷ f ∷ g ∷ h ∷ xs) 8 bytes) refl))
eight_front [] long bytes = absurd (omega arith)
eight_front (a ∷ []) long bytes = absurd (omega arith)
eight_front (a ∷ b ∷ []) long bytes = absurd (omega arith)
eight_front (a ∷ b ∷ c ∷ []) long bytes = absurd (omega arith)
eight_front (a ∷ b ∷ c ∷ d ∷ []) long bytes = absurd (omega arith)
eight_front (a ∷ b ∷ c ∷ d ∷ e ∷ []) long bytes = absurd (omega arith)
eight_front (a ∷ b ∷ c ∷ d ∷ e ∷ f ∷ []) long bytes = absurd (omega arith)
eight_front (a ∷ b ∷ c ∷ d ∷ e ∷ f ∷ g ∷ []) long bytes = absurd (omega arith)

-- two and eight bytes at a place are those of the number that they give
pub two_split :
    (xs : List ℕ) (at : ℕ) → at + 2 ≤ length xs → AreBytes xs
    → drop at xs ≡ two (two_at xs at) ++ drop (at + 2) xs
two_split xs at h bytes =
    let long : 2 ≤ length (drop at xs) = omega (arith, length-drop at xs) in
    two_front (drop at xs) long (bytes_behind xs at bytes)
    ∙ ap (λ t. two (two_at xs at) ++ t) (drop-drop 2 at xs)

pub eight_split :
    (xs : List ℕ) (at : ℕ) → at + 8 ≤ length xs → AreBytes xs
    → drop at xs ≡ eight (eight_at xs at) ++ drop (at + 8) xs
eight_split xs at h bytes =
    let long : 8 ≤ length (drop at xs) = omega (arith, length-drop at xs) in
    eight_front (drop at xs) long (bytes_behind xs at bytes)
    ∙ ap (λ t. eight (eight_at xs at) ++ t) (drop-drop 8 at xs)
