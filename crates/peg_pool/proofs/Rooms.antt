-- What slots hold, after a write, with more memory, and when one is freed.
use Rattle.std.proofs.Common.{◌≡◌, ℕ, zero, suc, ◌+◌, ◌*◌, ◌<◌, ◌≤◌, List, [], ◌∷◌, ◌++◌}
use Rattle.std.proofs.Common.{length, take, drop, ap, sym, ◌∙◌, arith, refl, length-append, subst, map}
use Rattle.std.proofs.Common.{Option, Some, None}
use Rattle.std.specs.Prelude.{slice_set, slice_index_or}
use Rattle.std.specs.List.{AllByRecursion}
use Rattle.std.proofs.lemmas.List.{take-append-le, drop-append-le}
use Rattle.std.proofs.lemmas.List.{length-drop, take_at, drop-drop, drop_all, length-map}
use Rattle.peg_pool.specs.Block.{patched}
use Rattle.peg_pool.specs.Slots.{placed}
use Rattle.peg_pool.specs.Held.{held, FitsSize, AreFilled}
use Rattle.peg_pool.specs.Places.{values}

drop-patched :
    {X : Type 0} → (n : ℕ) (xs : List X) (from at : ℕ) (ys : List X)
    → n ≤ length xs → at ≡ n + from → drop n (patched xs at ys) ≡ patched (drop n xs) from ys
drop-patched zero xs from at ys room is = ap (λ k. patched xs k ys) (omega (arith, is))
drop-patched (suc n) [] from at ys room is = absurd (omega (arith, room))
drop-patched (suc n) (x ∷ xs) from zero ys room is = absurd (omega (arith, is))
drop-patched (suc n) (x ∷ xs) from (suc at) ys room is =
    drop-patched n xs from at ys (omega (arith, room)) (omega (arith, is))

take-patched :
    {X : Type 0} → (n : ℕ) (xs : List X) (from : ℕ) (ys : List X)
    → n ≤ from → from ≤ length xs → take n (patched xs from ys) ≡ take n xs
take-patched zero xs from ys below room = refl
take-patched (suc n) xs zero ys below room = absurd (omega (arith, below))
take-patched (suc n) [] (suc from) ys below room = absurd (omega (arith, room))
take-patched (suc n) (x ∷ xs) (suc from) ys below room =
    ap (λ r. x ∷ r) (take-patched n xs from ys (omega (arith, below)) (omega (arith, room)))

-- the bytes behind the written ones
drop-front :
    {X : Type 0} → (n : ℕ) (xs ys : List X)
    → length ys ≤ n → drop n (patched xs 0 ys) ≡ drop n xs
drop-front n xs [] short = refl
drop-front zero xs (y ∷ ys) short = absurd (omega (arith, short))
drop-front (suc n) [] (y ∷ ys) short = drop_all (suc n) (y ∷ (ys ++ [])) (omega (arith, short, length-append ys []))
drop-front (suc n) (x ∷ xs) (y ∷ ys) short = drop-front n xs ys (omega (arith, short))

pub values-map : (bytes : List ℕ) → values (map Some bytes) ≡ bytes
values-map [] = refl
values-map (byte ∷ bytes) = ap (λ r. byte ∷ r) (values-map bytes)

pub length-held :
    (size : ℕ) (places : List (Option ℕ)) (lengths : List (Option ℕ))
    → length (held size places lengths) ≡ length lengths
length-held size places [] = refl
length-held size places (None ∷ lengths) = ap suc (length-held size (drop size places) lengths)
length-held size places (Some n ∷ lengths) = ap suc (length-held size (drop size places) lengths)

-- the bytes at the front of a room
take-front :
    (places : List (Option ℕ)) (bytes : List ℕ)
    → take (length bytes) (patched places 0 (map Some bytes)) ≡ map Some bytes
take-front places bytes =
    take_at (map Some bytes) (drop (length (map Some bytes)) places) (length bytes)
    (length-map bytes Some)

front :
    (size at : ℕ) (places : List (Option ℕ)) (bytes : List ℕ) (lengths : List (Option ℕ))
    → at ≡ 0 → length bytes ≤ size
    → ◌≡◌ {A = List (Option (List ℕ))}
    (Some (values (take (length bytes) (patched places at (map Some bytes))))
    ∷ held size (drop size (patched places at (map Some bytes))) lengths)
    (Some bytes ∷ held size (drop size places) lengths)
front size zero places bytes lengths is short =
    let back = drop-front size places (map Some bytes)
    (omega (arith, short, length-map bytes Some)) in
    λ i. Some ((ap values (take-front places bytes) ∙ values-map bytes) i)
    ∷ held size (back i) lengths
front size (suc at) places bytes lengths is short = absurd (omega (arith, is))

pub held-patched :
    (size : ℕ) (places lengths : List (Option ℕ)) (n at : ℕ) (bytes : List ℕ)
    → AllByRecursion (FitsSize size) lengths → n ≤ length lengths → length bytes ≤ size
    → at ≡ n * size → n * size + size ≤ length places
    → held size (patched places at (map Some bytes)) (placed lengths n (Some (length bytes)))
    ≡ placed (held size places lengths) n (Some bytes)
held-patched size places [] zero at bytes fits below short is room =
    front size at places bytes [] (omega (arith, is)) short
held-patched size places [] (suc n) at bytes fits below short is room =
    absurd (omega (arith, below))
held-patched size places (None ∷ lengths) zero at bytes fits below short is room =
    front size at places bytes lengths (omega (arith, is)) short
held-patched size places (Some l ∷ lengths) zero at bytes fits below short is room =
    front size at places bytes lengths (omega (arith, is)) short
held-patched size places (None ∷ lengths) (suc n) at bytes fits below short is room =
    ap (λ r. None ∷ held size r (placed lengths n (Some (length bytes))))
    (drop-patched size places (n * size) at (map Some bytes) (omega (arith, room))
    (omega (arith, is)))
    ∙ ap (λ r. None ∷ r)
    (held-patched size (drop size places) lengths n (n * size) bytes fits.1
    (omega (arith, below)) short refl (omega (arith, length-drop size places, room)))
held-patched size places (Some l ∷ lengths) (suc n) at bytes fits below short is room =
    (λ i. Some
    (values
    (take-patched l places at (map Some bytes) (omega (arith, fits.0, is))
    (omega (arith, is, room)) i))
    ∷ held size
    (drop-patched size places (n * size) at (map Some bytes) (omega (arith, room))
    (omega (arith, is)) i)
    (placed lengths n (Some (length bytes))))
    ∙ ap (λ r. Some (values (take l places)) ∷ r)
    (held-patched size (drop size places) lengths n (n * size) bytes fits.1
    (omega (arith, below)) short refl (omega (arith, length-drop size places, room)))

pub held-more :
    (size : ℕ) (places more lengths : List (Option ℕ))
    → AllByRecursion (FitsSize size) lengths → length lengths * size ≤ length places
    → held size (places ++ more) lengths ≡ held size places lengths
held-more size places more [] fits room = refl
held-more size places more (None ∷ lengths) fits room =
    ap (λ r. None ∷ held size r lengths) (drop-append-le size places more (omega (arith, room)))
    ∙ ap (λ r. None ∷ r)
    (held-more size (drop size places) more lengths fits.1
    (omega (arith, length-drop size places, room)))
held-more size places more (Some l ∷ lengths) fits room =
    (λ i. Some (values (take-append-le l places more (omega (arith, fits.0, room)) i))
    ∷ held size (drop-append-le size places more (omega (arith, room)) i) lengths)
    ∙ ap (λ r. Some (values (take l places)) ∷ r)
    (held-more size (drop size places) more lengths fits.1
    (omega (arith, length-drop size places, room)))

pub held-freed :
    (size : ℕ) (places lengths : List (Option ℕ)) (n : ℕ)
    → held size places (slice_set lengths n None) ≡ slice_set (held size places lengths) n None
held-freed size places [] n = refl
held-freed size places (None ∷ lengths) zero = refl
held-freed size places (Some l ∷ lengths) zero = refl
held-freed size places (None ∷ lengths) (suc n) =
    ap (λ r. None ∷ r) (held-freed size (drop size places) lengths n)
held-freed size places (Some l ∷ lengths) (suc n) =
    ap (λ r. Some (values (take l places)) ∷ r) (held-freed size (drop size places) lengths n)

pub held-live :
    (size : ℕ) (places lengths : List (Option ℕ)) (n at l : ℕ)
    → slice_index_or lengths n None ≡ Some l → at ≡ n * size
    → slice_index_or (held size places lengths) n None ≡ Some (values (take l (drop at places)))
held-live size places [] n at l live is = absurd (cc live)
held-live size places (None ∷ lengths) zero at l live is = absurd (cc live)
held-live size places (Some k ∷ lengths) zero zero l live is =
    ap (λ n. Some (values (take n places))) (cc live)
held-live size places (Some k ∷ lengths) zero (suc at) l live is = absurd (omega (arith, is))
held-live size places (None ∷ lengths) (suc n) at l live is =
    held-live size (drop size places) lengths n (n * size) l live refl
    ∙ ap (λ r. Some (values (take l r))) (drop-drop (n * size) size places)
    ∙ ap (λ k. Some (values (take l (drop k places)))) (omega (arith, is))
held-live size places (Some k ∷ lengths) (suc n) at l live is =
    held-live size (drop size places) lengths n (n * size) l live refl
    ∙ ap (λ r. Some (values (take l r))) (drop-drop (n * size) size places)
    ∙ ap (λ k. Some (values (take l (drop k places)))) (omega (arith, is))

pub held-none :
    (size : ℕ) (places lengths : List (Option ℕ)) (n : ℕ)
    → slice_index_or lengths n None ≡ None
    → slice_index_or (held size places lengths) n None ≡ None
held-none size places [] n is = refl
held-none size places (None ∷ lengths) zero is = refl
held-none size places (Some k ∷ lengths) zero is = absurd (cc is)
held-none size places (None ∷ lengths) (suc n) is =
    held-none size (drop size places) lengths n is
held-none size places (Some k ∷ lengths) (suc n) is =
    held-none size (drop size places) lengths n is

-- ---- what was written

filled-front :
    (size at : ℕ) (places : List (Option ℕ)) (bytes : List ℕ) (lengths : List (Option ℕ))
    → at ≡ 0 → length bytes ≤ size → AreFilled size (drop size places) lengths
    → AreFilled size (patched places at (map Some bytes)) (Some (length bytes) ∷ lengths)
filled-front size zero places bytes lengths is short filled = (
  (bytes, take-front places bytes),
  subst (λ r. AreFilled size r lengths)
      (sym (drop-front size places (map Some bytes)
      (omega (arith, short, length-map bytes Some))))
      filled,
)
filled-front size (suc at) places bytes lengths is short filled = absurd (omega (arith, is))

pub filled-patched :
    (size : ℕ) (places lengths : List (Option ℕ)) (n at : ℕ) (bytes : List ℕ)
    → AllByRecursion (FitsSize size) lengths → AreFilled size places lengths
    → n ≤ length lengths → length bytes ≤ size
    → at ≡ n * size → n * size + size ≤ length places
    → AreFilled size (patched places at (map Some bytes)) (placed lengths n (Some (length bytes)))
filled-patched size places [] zero at bytes fits filled below short is room =
    filled-front size at places bytes [] (omega (arith, is)) short tt
filled-patched size places [] (suc n) at bytes fits filled below short is room =
    absurd (omega (arith, below))
filled-patched size places (None ∷ lengths) zero at bytes fits filled below short is room =
    filled-front size at places bytes lengths (omega (arith, is)) short filled
filled-patched size places (Some l ∷ lengths) zero at bytes fits filled below short is room =
    filled-front size at places bytes lengths (omega (arith, is)) short filled.1
filled-patched size places (None ∷ lengths) (suc n) at bytes fits filled below short is room =
    subst (λ r. AreFilled size r (placed lengths n (Some (length bytes))))
    (sym (drop-patched size places (n * size) at (map Some bytes) (omega (arith, room))
    (omega (arith, is))))
    (filled-patched size (drop size places) lengths n (n * size) bytes fits.1 filled
    (omega (arith, below)) short refl (omega (arith, length-drop size places, room)))
filled-patched size places (Some l ∷ lengths) (suc n) at bytes fits filled below short is room = (
  (
    filled.0.0,
    take-patched l places at (map Some bytes) (omega (arith, fits.0, is))
        (omega (arith, is, room))
        ∙ filled.0.1,
  ),
  subst (λ r. AreFilled size r (placed lengths n (Some (length bytes))))
      (sym (drop-patched size places (n * size) at (map Some bytes) (omega (arith, room))
      (omega (arith, is))))
      (filled-patched size (drop size places) lengths n (n * size) bytes fits.1 filled.1
      (omega (arith, below)) short refl (omega (arith, length-drop size places, room))),
)

pub filled-more :
    (size : ℕ) (places more lengths : List (Option ℕ))
    → AllByRecursion (FitsSize size) lengths → AreFilled size places lengths
    → length lengths * size ≤ length places
    → AreFilled size (places ++ more) lengths
filled-more size places more [] fits filled room = tt
filled-more size places more (None ∷ lengths) fits filled room =
    subst (λ r. AreFilled size r lengths)
    (sym (drop-append-le size places more (omega (arith, room))))
    (filled-more size (drop size places) more lengths fits.1 filled
    (omega (arith, length-drop size places, room)))
filled-more size places more (Some l ∷ lengths) fits filled room = (
  (
    filled.0.0,
    take-append-le l places more (omega (arith, fits.0, room)) ∙ filled.0.1,
  ),
  subst (λ r. AreFilled size r lengths)
      (sym (drop-append-le size places more (omega (arith, room))))
      (filled-more size (drop size places) more lengths fits.1 filled.1
      (omega (arith, length-drop size places, room))),
)

pub filled-freed :
    (size : ℕ) (places lengths : List (Option ℕ)) (n : ℕ)
    → AreFilled size places lengths → AreFilled size places (slice_set lengths n None)
filled-freed size places [] n filled = tt
filled-freed size places (None ∷ lengths) zero filled = filled
filled-freed size places (Some l ∷ lengths) zero filled = filled.1
filled-freed size places (None ∷ lengths) (suc n) filled =
    filled-freed size (drop size places) lengths n filled
filled-freed size places (Some l ∷ lengths) (suc n) filled =
    (filled.0, filled-freed size (drop size places) lengths n filled.1)

pub filled-at :
    (size : ℕ) (places lengths : List (Option ℕ)) (n at l : ℕ)
    → AreFilled size places lengths → slice_index_or lengths n None ≡ Some l → at ≡ n * size
    → (bytes : List ℕ) × (take l (drop at places) ≡ map Some bytes)
filled-at size places [] n at l filled live is = absurd (cc live)
filled-at size places (None ∷ lengths) zero at l filled live is = absurd (cc live)
filled-at size places (Some k ∷ lengths) zero zero l filled live is =
    let same : l ≡ k = cc live in (filled.0.0, ap (λ n. take n places) same ∙ filled.0.1)
filled-at size places (Some k ∷ lengths) zero (suc at) l filled live is =
    absurd (omega (arith, is))
filled-at size places (None ∷ lengths) (suc n) at l filled live is =
    let there = filled-at size (drop size places) lengths n (n * size) l filled live refl in
    let from : at ≡ size + n * size = omega (arith, is) in (
      there.0,
      ap (λ k. take l (drop k places)) from
          ∙ ap (take l) (sym (drop-drop (n * size) size places))
          ∙ there.1,
    )
filled-at size places (Some k ∷ lengths) (suc n) at l filled live is =
    let there = filled-at size (drop size places) lengths n (n * size) l filled.1 live refl in
    let from : at ≡ size + n * size = omega (arith, is) in (
      there.0,
      ap (λ k. take l (drop k places)) from
          ∙ ap (take l) (sym (drop-drop (n * size) size places))
          ∙ there.1,
    )

pub placed-within :
    {X : Type 0} → (xs : List X) (n : ℕ) (x : X)
    → n < length xs → placed xs n x ≡ slice_set xs n x
placed-within [] n x below = absurd (omega (arith, below))
placed-within (y ∷ ys) zero x below = refl
placed-within (y ∷ ys) (suc n) x below = ap (λ r. y ∷ r) (placed-within ys n x (omega (arith, below)))

pub placed-last :
    {X : Type 0} → (xs : List X) (n : ℕ) (x : X)
    → n ≡ length xs → placed xs n x ≡ xs ++ x ∷ []
placed-last [] n x is = refl
placed-last (y ∷ ys) zero x is = absurd (omega (arith, is))
placed-last (y ∷ ys) (suc n) x is = ap (λ r. y ∷ r) (placed-last ys n x (omega (arith, is)))

pub fits-placed :
    (size : ℕ) (lengths : List (Option ℕ)) (n l : ℕ)
    → AllByRecursion (FitsSize size) lengths → l ≤ size
    → AllByRecursion (FitsSize size) (placed lengths n (Some l))
fits-placed size [] n l fits short = (short, tt)
fits-placed size (k ∷ ks) zero l fits short = (short, fits.1)
fits-placed size (k ∷ ks) (suc n) l fits short = (fits.0, fits-placed size ks n l fits.1 short)

pub fits-freed :
    (size : ℕ) (lengths : List (Option ℕ)) (n : ℕ)
    → AllByRecursion (FitsSize size) lengths
    → AllByRecursion (FitsSize size) (slice_set lengths n None)
fits-freed size [] n fits = tt
fits-freed size (k ∷ ks) zero fits = (tt, fits.1)
fits-freed size (k ∷ ks) (suc n) fits = (fits.0, fits-freed size ks n fits.1)

pub fits-at :
    (size : ℕ) (lengths : List (Option ℕ)) (n l : ℕ)
    → AllByRecursion (FitsSize size) lengths → slice_index_or lengths n None ≡ Some l → l ≤ size
fits-at size [] n l fits is = absurd (cc is)
fits-at size (k ∷ ks) zero l fits is = let P : Option ℕ → Type 0 = FitsSize size in subst P is fits.0
fits-at size (k ∷ ks) (suc n) l fits is = fits-at size ks n l fits.1 is
