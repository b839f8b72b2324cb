-- Bytes in parts of 512: how many parts there are, how long each is, and that they are joined to
-- the bytes again.
use Rattle.std.proofs.Common.{◌≡◌, ℕ, zero, suc, ◌+◌, ◌-◌, ◌*◌, ◌/◌, ◌<◌, ◌≤◌, List, [], ◌∷◌}
use Rattle.std.proofs.Common.{◌++◌, ◌⊎◌, inl, inr, length, take, drop, get_or, refl, ap, sym}
use Rattle.std.proofs.Common.{◌∙◌, arith}
use Rattle.std.specs.List.{flat_map, concat}
use Rattle.std.proofs.lemmas.Bool.{cases_lt}
use Rattle.std.proofs.lemmas.List.{append-nil, length-map, length_push, length-drop, take_all}
use Rattle.std.proofs.lemmas.List.{length-take-le, get_or_append_left, get_or_push, get_or-map}
use Rattle.std.proofs.lemmas.List.Concat.{concat_is, flat_map-append}
use Rattle.std.proofs.lemmas.List.Folds.{flat_map-map}
use Rattle.std.proofs.Math.Seq.{take-add}
use Rattle.peg_model.specs.Words.{below}
use Rattle.peg_model.specs.Handover.{part_of, parts}

-- ---- the numbers below another

length_below : (n : ℕ) → length (below n) ≡ n
length_below zero = refl
length_below (suc n) = omega (arith, length_below n, length_push (below n) n)

at_below :
    (n i d : ℕ) → (i < n) ⊎ (n ≤ i) → i < suc n
    → ((j : ℕ) → j < n → get_or (below n) j d ≡ j) → get_or (below (suc n)) i d ≡ i
at_below n i d (inl before) within first =
    let inside : i < length (below n) = omega (arith, length_below n) in
    get_or_append_left (below n) (n ∷ []) d i inside ∙ first i before
at_below n i d (inr past) within first =
    let last : i ≡ n = omega arith in
    get_or_push (below n) n d i (length_below n ∙ sym last) ∙ sym last

get_below : (n i d : ℕ) → i < n → get_or (below n) i d ≡ i
get_below zero i d within = absurd (omega arith)
get_below (suc n) i d within =
    at_below n i d (cases_lt i n) within (λ j inside. get_below n j d inside)

-- ---- how many parts there are, and which

pub length_parts : (bytes : List ℕ) → length (parts bytes) ≡ (length bytes + 511) / 512
length_parts bytes =
    let n : ℕ = (length bytes + 511) / 512 in
    length-map (below n) (part_of bytes) ∙ length_below n

pub get_part :
    (bytes : List ℕ) (i : ℕ) (d : List ℕ) → i < length (parts bytes)
    → get_or (parts bytes) i d ≡ part_of bytes i
get_part bytes i d within =
    let n : ℕ = (length bytes + 511) / 512 in
    let inside : i < n = omega (arith, length_parts bytes) in
    let placed : i < length (below n) = omega (arith, length_below n) in
    get_or-map (part_of bytes) (below n) i 0 d placed
    ∙ ap (part_of bytes) (get_below n i 0 inside)

-- ---- how long they are

pub full_part :
    (bytes : List ℕ) (i : ℕ) → i + 1 < length (parts bytes) → length (part_of bytes i) ≡ 512
full_part bytes i before =
    length-take-le 512 (drop (512 * i) bytes)
    (omega (arith, length_parts bytes, length-drop (512 * i) bytes))

pub last_part :
    (bytes : List ℕ) (i : ℕ) → i + 1 ≡ length (parts bytes)
    → length (part_of bytes i) ≡ length bytes - 512 * i
last_part bytes i last =
    let rest : List ℕ = drop (512 * i) bytes in
    let size : length rest ≡ length bytes - 512 * i = length-drop (512 * i) bytes in
    let whole : part_of bytes i ≡ rest =
    take_all 512 rest (omega (arith, length_parts bytes, size))
    in
    ap length whole ∙ size

-- ---- joined

joined_upto : (bytes : List ℕ) (k : ℕ) → flat_map (part_of bytes) (below k) ≡ take (512 * k) bytes
joined_upto bytes zero = refl
joined_upto bytes (suc k) =
    let next : 512 * k + 512 ≡ 512 * suc k = omega arith in
    flat_map-append (part_of bytes) (below k) (k ∷ [])
    ∙ (λ j. joined_upto bytes k j ++ append-nil (part_of bytes k) j)
    ∙ sym (take-add (512 * k) 512 bytes)
    ∙ ap (λ n. take n bytes) next

pub joined_parts : (bytes : List ℕ) → flat_map (λ part. part) (parts bytes) ≡ bytes
joined_parts bytes =
    let n : ℕ = (length bytes + 511) / 512 in
    flat_map-map (λ part. part) (part_of bytes) (below n)
    ∙ joined_upto bytes n
    ∙ take_all (512 * n) bytes (omega arith)

pub concat_parts : (bytes : List ℕ) → concat (parts bytes) ≡ bytes
concat_parts bytes = concat_is (parts bytes) ∙ joined_parts bytes
