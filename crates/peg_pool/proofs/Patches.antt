-- Bytes put in place of others, within one block and within all blocks in a row.
use Rattle.std.proofs.Common.{◌≡◌, ℕ, zero, suc, ◌+◌, ◌*◌, ◌/◌, ◌%◌, ◌<◌, ◌≤◌, List, [], ◌∷◌, ◌++◌}
use Rattle.std.proofs.Common.{length, take, drop, ap, sym, ◌∙◌, arith, refl, length-append}
use Rattle.std.specs.Prelude.{slice_set, slice_index_or}
use Rattle.std.specs.List.{AllByRecursion}
use Rattle.std.proofs.lemmas.List.{append-nil, append_assoc, take-append-le, drop-append-le, length-take-le}
use Rattle.std.proofs.lemmas.List.{length-drop, drop_at, drop-drop}
use Rattle.std.proofs.lemmas.Nat.{div-add-mod'}
use Rattle.std.proofs.Math.Nat.{add-mul, mul_assoc}
use Rattle.peg_pool.specs.Block.{patched}
use Rattle.peg_pool.specs.Held.{joined}

pub length-patched :
    {X : Type 0} → (xs : List X) (from : ℕ) (ys : List X)
    → from + length ys ≤ length xs → length (patched xs from ys) ≡ length xs
length-patched xs from ys fits =
    omega (
      arith,
      length-append (take from xs) (ys ++ drop (length ys) (drop from xs)),
      length-append ys (drop (length ys) (drop from xs)),
      length-take-le from xs (omega (arith, fits)),
      length-drop (length ys) (drop from xs),
      length-drop from xs,
    )

-- what stands behind
pub patched-left :
    {X : Type 0} → (xs zs : List X) (from : ℕ) (ys : List X)
    → from + length ys ≤ length xs → patched xs from ys ++ zs ≡ patched (xs ++ zs) from ys
patched-left (x ∷ xs) zs (suc from) ys fits =
    ap (λ r. x ∷ r) (patched-left xs zs from ys (omega (arith, fits)))
patched-left [] zs (suc from) ys fits = absurd (omega (arith, fits))
patched-left xs zs zero ys fits =
    append_assoc ys (drop (length ys) xs) zs
    ∙ ap (λ r. ys ++ r) (sym (drop-append-le (length ys) xs zs (omega (arith, fits))))

-- what stands before
pub patched-right :
    {X : Type 0} → (xs zs : List X) (from at : ℕ) (ys : List X)
    → at ≡ length xs + from → xs ++ patched zs from ys ≡ patched (xs ++ zs) at ys
patched-right [] zs from at ys is = ap (λ n. patched zs n ys) (omega (arith, is))
patched-right (x ∷ xs) zs from zero ys is = absurd (omega (arith, is))
patched-right (x ∷ xs) zs from (suc at) ys is =
    ap (λ r. x ∷ r) (patched-right xs zs from at ys (omega (arith, is)))

pub joined-patched :
    {X : Type 0} → (size : ℕ) (blocks : List (List X)) (i from at : ℕ) (block ys : List X)
    → AllByRecursion (λ b. length b ≡ size) blocks → i < length blocks
    → block ≡ slice_index_or blocks i block → from + length ys ≤ size → at ≡ i * size + from
    → joined (slice_set blocks i (patched block from ys)) ≡ patched (joined blocks) at ys
joined-patched size [] i from at block ys whole below there fits is =
    absurd (omega (arith, below))
joined-patched size (b ∷ bs) zero from at block ys whole below there fits is =
    ap (λ c. patched c from ys ++ joined bs) there
    ∙ patched-left b (joined bs) from ys (omega (arith, whole.0, fits))
    ∙ ap (λ n. patched (b ++ joined bs) n ys) (omega (arith, is))
joined-patched size (b ∷ bs) (suc i) from at block ys whole below there fits is =
    ap (λ r. b ++ r)
    (joined-patched size bs i from (i * size + from) block ys whole.1 (omega (arith, below))
    there fits refl)
    ∙ patched-right b (joined bs) (i * size + from) at ys (omega (arith, whole.0, is))

pub length-joined :
    {X : Type 0} → (size : ℕ) (blocks : List (List X))
    → AllByRecursion (λ b. length b ≡ size) blocks
    → length (joined blocks) ≡ length blocks * size
length-joined size [] whole = omega arith
length-joined size (b ∷ bs) whole =
    omega (arith, length-append b (joined bs), whole.0, length-joined size bs whole.1)

pub joined-push :
    {X : Type 0} → (blocks : List (List X)) (block : List X)
    → joined (blocks ++ block ∷ []) ≡ joined blocks ++ block
joined-push [] block = append-nil block
joined-push (b ∷ bs) block =
    ap (λ r. b ++ r) (joined-push bs block) ∙ sym (append_assoc b (joined bs) block)

pub whole-push :
    {X : Type 0} → (size : ℕ) (blocks : List (List X)) (block : List X)
    → AllByRecursion (λ b. length b ≡ size) blocks → length block ≡ size
    → AllByRecursion (λ b. length b ≡ size) (blocks ++ block ∷ [])
whole-push size [] block whole is = (is, tt)
whole-push size (b ∷ bs) block whole is = (whole.0, whole-push size bs block whole.1 is)

pub whole-set :
    {X : Type 0} → (size : ℕ) (blocks : List (List X)) (i : ℕ) (block : List X)
    → AllByRecursion (λ b. length b ≡ size) blocks → length block ≡ size
    → AllByRecursion (λ b. length b ≡ size) (slice_set blocks i block)
whole-set size [] i block whole is = tt
whole-set size (b ∷ bs) zero block whole is = (is, whole.1)
whole-set size (b ∷ bs) (suc i) block whole is = (whole.0, whole-set size bs i block whole.1 is)

pub whole-at :
    {X : Type 0} → (size : ℕ) (blocks : List (List X)) (i : ℕ) (block : List X)
    → AllByRecursion (λ b. length b ≡ size) blocks → i < length blocks
    → block ≡ slice_index_or blocks i block → length block ≡ size
whole-at size [] i block whole below there = absurd (omega (arith, below))
whole-at size (b ∷ bs) zero block whole below there = ap length there ∙ whole.0
whole-at size (b ∷ bs) (suc i) block whole below there =
    whole-at size bs i block whole.1 (omega (arith, below)) there

-- the bytes of a block, read in the row of all blocks
pub read-joined :
    {X : Type 0} → (size : ℕ) (blocks : List (List X)) (i from at n : ℕ) (block : List X)
    → AllByRecursion (λ b. length b ≡ size) blocks → i < length blocks
    → block ≡ slice_index_or blocks i block → from + n ≤ size → at ≡ i * size + from
    → take n (drop from block) ≡ take n (drop at (joined blocks))
read-joined size [] i from at n block whole below there fits is = absurd (omega (arith, below))
read-joined size (b ∷ bs) zero from at n block whole below there fits is =
    ap (λ c. take n (drop from c)) there
    ∙ sym (take-append-le n (drop from b) (joined bs)
    (omega (arith, length-drop from b, whole.0, fits)))
    ∙ ap (take n) (sym (drop-append-le from b (joined bs) (omega (arith, whole.0, fits))))
    ∙ ap (λ k. take n (drop k (b ++ joined bs))) (omega (arith, is))
read-joined size (b ∷ bs) (suc i) from at n block whole below there fits is =
    read-joined size bs i from (i * size + from) n block whole.1 (omega (arith, below)) there
    fits refl
    ∙ ap (λ r. take n (drop (i * size + from) r)) (sym (drop_at b (joined bs) (length b) refl))
    ∙ ap (take n) (drop-drop (i * size + from) (length b) (b ++ joined bs))
    ∙ ap (λ k. take n (drop k (b ++ joined bs))) (omega (arith, whole.0, is))

-- one item more is written
over-more :
    {X : Type 0} → (xs ys : List X) (y : X)
    → length ys < length xs
    → slice_set (patched xs 0 ys) (length ys) y ≡ patched xs 0 (ys ++ y ∷ [])
over-more [] ys y room = absurd (omega (arith, room))
over-more (x ∷ xs) [] y room = refl
over-more (x ∷ xs) (z ∷ ys) y room = ap (λ r. z ∷ r) (over-more xs ys y (omega (arith, room)))

pub patched-more :
    {X : Type 0} → (xs : List X) (from at : ℕ) (ys : List X) (y : X)
    → at ≡ from + length ys → at < length xs
    → slice_set (patched xs from ys) at y ≡ patched xs from (ys ++ y ∷ [])
patched-more xs zero at ys y is room =
    ap (λ n. slice_set (patched xs 0 ys) n y) (omega (arith, is))
    ∙ over-more xs ys y (omega (arith, is, room))
patched-more [] (suc from) at ys y is room = absurd (omega (arith, room))
patched-more (x ∷ xs) (suc from) zero ys y is room = absurd (omega (arith, is))
patched-more (x ∷ xs) (suc from) (suc at) ys y is room =
    ap (λ r. x ∷ r) (patched-more xs from at ys y (omega (arith, is)) (omega (arith, room)))

-- where the room of a slot begins
pub place-of :
    (slot size : ℕ) → slot * size ≡ slot / 64 * (64 * size) + slot % 64 * size
place-of slot size =
    ap (λ n. n * size) (sym (div-add-mod' slot 64))
    ∙ add-mul (slot / 64 * 64) (slot % 64) size
    ∙ ap (λ n. n + slot % 64 * size) (mul_assoc (slot / 64) 64 size)
