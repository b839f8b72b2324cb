-- The fields of a pool.
use Rattle.std.proofs.Common.{◌≡◌, ◌≢◌, ℕ, zero, suc, ◌+◌, ◌-◌, ◌*◌, ◌/◌, ◌%◌, ◌<◌, ◌≤◌, List, [], ◌∷◌, ◌++◌}
use Rattle.std.proofs.Common.{length, take, drop, ap, sym, ◌∙◌, arith, refl, subst, map}
use Rattle.std.proofs.Common.{Option, Some, None, vec_len, Vec}
use Rattle.std.proofs.lemmas.Nat.{row_fits, mod_below, mul-le}
use Rattle.std.proofs.Math.Nat.{mul_assoc}
use Rattle.std.specs.Prelude.{slice_set, slice_index_or, IsSome, if◌then◌else◌, ◌==◌}
use Rattle.std.proofs.lemmas.Bool.{cond_both, eqb-true, eqb-false}
use Rattle.std.proofs.lemmas.List.{get_or_at, take_at, length_push, get_or-set_same}
use Rattle.std.proofs.lemmas.List.{get_or-set_other}
use Rattle.peg_pool.specs.Block.{patched}
use Rattle.peg_pool.specs.Slots.{placed, Pool, Slots, bytes_of, next_slot}
use Rattle.peg_pool.specs.Held.{held, IsPool, pool_of, joined, AreFilled}
use Rattle.peg_pool.specs.declared.pool.SlotPool.TheInside.{Inside}
use Rattle.peg_pool.proofs.Patches.{length-joined}
use Rattle.peg_pool.proofs.Rooms.{held-patched, length-held, filled-patched}

pub block-of :
    {Z : Type 0} (blocks : Vec (List (Option ℕ)) Z) (slot : ℕ)
    → slot < 64 * vec_len blocks → slot / 64 < length blocks.items
block-of blocks slot below = omega (arith, below, blocks.ok.0)

pub fits-block :
    (slot size n : ℕ) → n ≤ size → slot % 64 * size + n ≤ 64 * size
fits-block slot size n short =
    omega (arith, short, row_fits (slot % 64) size 64 size (mod_below slot 64 (omega arith)) (omega arith))

pub room-used :
    (n blocks size : ℕ) → n ≤ 64 * blocks → n * size ≤ blocks * (64 * size)
room-used n blocks size used =
    omega (arith, mul_assoc blocks 64 size, mul-le n size (blocks * 64) size (omega (arith, used)) (omega arith))

pub room-next :
    (n blocks size : ℕ) → n < 64 * blocks → n * size + size ≤ blocks * (64 * size)
room-next n blocks size used =
    omega (arith, mul_assoc blocks 64 size, row_fits n size (blocks * 64) size (omega (arith, used)) (omega arith))

-- ---- the last freed slot

pub last-is :
    (freed front : List ℕ) (slot other : ℕ)
    → freed ≡ front ++ slot ∷ [] → slice_index_or freed (length freed - 1) other ≡ slot
last-is freed front slot other is =
    ap (λ (xs : List ℕ). slice_index_or xs (length xs - 1) other) is
    ∙ get_or_at front slot [] other (length (front ++ slot ∷ []) - 1)
    (omega (arith, length_push front slot))

pub front-is :
    (freed front : List ℕ) (slot : ℕ)
    → freed ≡ front ++ slot ∷ [] → take (length freed - 1) freed ≡ front
front-is freed front slot is =
    ap (λ (xs : List ℕ). take (length xs - 1) xs) is
    ∙ take_at front (slot ∷ []) (length (front ++ slot ∷ []) - 1)
    (omega (arith, length_push front slot))

-- ---- what is seen after a slot was filled

room-of :
    (p : Inside) (slot : ℕ)
    → IsPool p → slot < 64 * vec_len p.blocks
    → slot * p.size + p.size ≤ length (joined p.blocks.items)
room-of p slot is below =
    omega (
      arith,
      room-next slot (vec_len p.blocks) p.size below,
      length-joined (64 * p.size) p.blocks.items is.whole,
      ap (λ n. n * (64 * p.size)) p.blocks.ok.0,
    )

pub kept :
    (p : Inside) (now : Pool) (slot : ℕ) (bytes : List ℕ) (blocks : List (List (Option ℕ)))
    → IsPool p → pool_of p ≡ now → slot ≤ length p.lengths.items → slot < 64 * vec_len p.blocks
    → length bytes ≤ p.size
    → joined blocks ≡ patched (joined p.blocks.items) (slot * p.size) (map Some bytes)
    → held p.size (joined blocks) (placed p.lengths.items slot (Some (length bytes)))
    ≡ placed now.slots.used slot (Some bytes)
kept p now slot bytes blocks is seen within below short written =
    ap (λ r. held p.size r (placed p.lengths.items slot (Some (length bytes)))) written
    ∙ held-patched p.size (joined p.blocks.items) p.lengths.items slot (slot * p.size) bytes is.fits
    within short refl (room-of p slot is below)
    ∙ ap (λ pool. placed pool.slots.used slot (Some bytes)) seen

pub filled-kept :
    (p : Inside) (slot : ℕ) (bytes : List ℕ) (blocks : List (List (Option ℕ)))
    → IsPool p → slot ≤ length p.lengths.items → slot < 64 * vec_len p.blocks
    → length bytes ≤ p.size
    → joined blocks ≡ patched (joined p.blocks.items) (slot * p.size) (map Some bytes)
    → AreFilled p.size (joined blocks) (placed p.lengths.items slot (Some (length bytes)))
filled-kept p slot bytes blocks is within below short written =
    subst (λ r. AreFilled p.size r (placed p.lengths.items slot (Some (length bytes))))
    (sym written)
    (filled-patched p.size (joined p.blocks.items) p.lengths.items slot (slot * p.size) bytes
    is.fits is.filled within short refl (room-of p slot is below))

-- one place of a list is x, and the others are as before
sets-at :
    {X : Type 0} → (before after : List X) (n other : ℕ) (x d : X)
    → slice_index_or after n d ≡ x
    → (other ≢ n → slice_index_or after other d ≡ slice_index_or before other d)
    → slice_index_or after other d ≡ (if other == n then x else slice_index_or before other d)
sets-at before after n other x d same others =
    cond_both (other == n) x (slice_index_or before other d) (λ r. slice_index_or after other d ≡ r)
    (λ e. ap (λ k. slice_index_or after k d) (eqb-true other n e) ∙ same)
    (λ e. others (eqb-false other n e))

placed-same :
    {X : Type 0} → (xs : List X) (n : ℕ) (x d : X)
    → n ≤ length xs → slice_index_or (placed xs n x) n d ≡ x
placed-same [] zero x d within = refl
placed-same [] (suc n) x d within = absurd (omega (arith, within))
placed-same (y ∷ ys) zero x d within = refl
placed-same (y ∷ ys) (suc n) x d within = placed-same ys n x d (omega (arith, within))

placed-other :
    {X : Type 0} → (xs : List X) (n other : ℕ) (x d : X)
    → n ≤ length xs → other ≢ n
    → slice_index_or (placed xs n x) other d ≡ slice_index_or xs other d
placed-other [] zero zero x d within differs = absurd (differs refl)
placed-other [] zero (suc other) x d within differs = refl
placed-other [] (suc n) other x d within differs = absurd (omega (arith, within))
placed-other (y ∷ ys) zero zero x d within differs = absurd (differs refl)
placed-other (y ∷ ys) zero (suc other) x d within differs = refl
placed-other (y ∷ ys) (suc n) zero x d within differs = refl
placed-other (y ∷ ys) (suc n) (suc other) x d within differs =
    placed-other ys n other x d (omega (arith, within)) (λ e. differs (ap suc e))

pub placed-at :
    {X : Type 0} → (xs : List X) (n other : ℕ) (x d : X)
    → n ≤ length xs
    → slice_index_or (placed xs n x) other d
    ≡ (if other == n then x else slice_index_or xs other d)
placed-at xs n other x d within =
    sets-at xs (placed xs n x) n other x d (placed-same xs n x d within)
    (placed-other xs n other x d within)

pub set-at :
    {X : Type 0} → (xs : List X) (n other : ℕ) (x d : X)
    → n < length xs
    → slice_index_or (slice_set xs n x) other d
    ≡ (if other == n then x else slice_index_or xs other d)
set-at xs n other x d within =
    sets-at xs (slice_set xs n x) n other x d (get_or-set_same xs n x d within)
    (get_or-set_other xs n other x d)

-- ---- a live slot

pub held-some :
    (size : ℕ) (bytes : List (Option ℕ)) (lengths : List (Option ℕ)) (n : ℕ)
    → IsSome (slice_index_or (held size bytes lengths) n None)
    → (l : ℕ) × (slice_index_or lengths n None ≡ Some l)
held-some size bytes [] n live = absurd (cc live)
held-some size bytes (None ∷ ks) zero live = absurd (cc live)
held-some size bytes (Some k ∷ ks) zero live = (k, refl)
held-some size bytes (None ∷ ks) (suc n) live = held-some size (drop size bytes) ks n live
held-some size bytes (Some k ∷ ks) (suc n) live = held-some size (drop size bytes) ks n live

pub live-length :
    (p : Inside) (now : Pool) (slot : ℕ)
    → pool_of p ≡ now → IsSome (bytes_of now.slots slot)
    → (l : ℕ) × (slice_index_or p.lengths.items slot None ≡ Some l)
live-length p now slot seen live =
    held-some p.size (joined p.blocks.items) p.lengths.items slot
    (subst (λ (pool : Pool). IsSome (bytes_of pool.slots slot)) (sym seen) live)

pub within-live :
    (lengths : List (Option ℕ)) (n l : ℕ)
    → slice_index_or lengths n None ≡ Some l → n < length lengths
within-live [] n l live = absurd (cc live)
within-live (k ∷ ks) zero l live = omega arith
within-live (k ∷ ks) (suc n) l live = omega (arith, within-live ks n l live)

-- ---- nothing is freed

pub next-unused :
    (now : Slots) → now.freed ≡ [] → next_slot now ≡ length now.used
next-unused now none =
    ap (λ (freed : List ℕ). slice_index_or freed (length freed - 1) (length now.used)) none

pub nothing-to-take :
    (freed : List ℕ) → freed ≡ [] → take (length freed - 1) freed ≡ freed
nothing-to-take freed none =
    ap (λ (xs : List ℕ). take (length xs - 1) xs) none ∙ sym none

pub length-seen :
    (p : Inside) (now : Pool) → pool_of p ≡ now → length now.slots.used ≡ length p.lengths.items
length-seen p now seen =
    ap (λ pool. length pool.slots.used) (sym seen)
    ∙ length-held p.size (joined p.blocks.items) p.lengths.items

pub few-slots :
    (p : Inside) (now : Pool)
    → IsPool p → pool_of p ≡ now → length now.slots.used ≤ 4000000000
few-slots p now is seen =
    omega (arith, length-seen p now seen, p.lengths.ok.0, is.used, is.few)
