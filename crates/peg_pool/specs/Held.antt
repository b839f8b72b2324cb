-- The fields of a pool, seen as what it holds.
--     joined blocks      the blocks one after another
--     held size places lengths      what each slot holds: so many of the first bytes of its room, the
--         rooms lying one after another
--     AreFilled size places lengths      those bytes were written
--     count_none lengths      how many slots are free
--     FitsSize size length      the length is within the room of a slot
--     AreFree lengths freed      these are slots, free ones, and no two are one
--     pool_of pool      what the fields hold
--     IsPool pool      the room that the fields have, and that they agree with one another
use Rattle.std.specs.Prelude.{ℕ, ◌+◌, ◌-◌, ◌*◌, ◌≡◌, ◌≢◌, ◌<◌, ◌≤◌, List, [], ◌∷◌, ◌++◌}
use Rattle.std.specs.Prelude.{length, map, take, drop, Option, None, Some, slice_index_or, vec_len}
use Rattle.std.specs.Prelude.{vec_capacity}
use Rattle.std.specs.List.{AllByRecursion}
use Rattle.peg_pool.specs.Places.{values}
use Rattle.peg_pool.specs.Slots.{Pool}
use Rattle.peg_pool.specs.declared.pool.SlotPool.TheInside.{Inside}

abbrev pub joined : {X : Type 0} → List (List X) → List X
joined [] = []
joined (block ∷ blocks) = block ++ joined blocks

abbrev pub held : ℕ → List (Option ℕ) → List (Option ℕ) → List (Option (List ℕ))
held size places [] = []
held size places (None ∷ lengths) = None ∷ held size (drop size places) lengths
held size places (Some n ∷ lengths) =
    Some (values (take n places)) ∷ held size (drop size places) lengths

abbrev pub AreFilled : ℕ → List (Option ℕ) → List (Option ℕ) → Type 0
AreFilled size places [] = Unit {0}
AreFilled size places (None ∷ lengths) = AreFilled size (drop size places) lengths
AreFilled size places (Some n ∷ lengths) =
    ((bytes : List ℕ) × (take n places ≡ map Some bytes))
    × AreFilled size (drop size places) lengths

abbrev pub count_none : List (Option ℕ) → ℕ
count_none [] = 0
count_none (None ∷ lengths) = 1 + count_none lengths
count_none (Some n ∷ lengths) = count_none lengths

abbrev pub FitsSize : ℕ → Option ℕ → Type 0
FitsSize size None = Unit {0}
FitsSize size (Some n) = n ≤ size

abbrev pub AreFree : List (Option ℕ) → List ℕ → Type 0
AreFree lengths [] = Unit {0}
AreFree lengths (slot ∷ freed) =
    (slot < length lengths)
    × (slice_index_or lengths slot None ≡ None)
    × AllByRecursion (λ other. slot ≢ other) freed
    × AreFree lengths freed

abbrev pub pool_of : Inside → Pool
pool_of pool =
    record {
      slots = record {
        size = pool.size;
        used = held pool.size (joined pool.blocks.items) pool.lengths.items;
        freed = pool.freed.items;
      };
      spare = 64 * vec_len pool.blocks - vec_len pool.lengths + vec_len pool.freed;
    }

pub record IsPool (pool : Inside) : Type 0 where
  pub least : 1 ≤ pool.size
  pub most : pool.size ≤ 1200
  pub few : vec_len pool.blocks ≤ 62500000
  pub whole : AllByRecursion (λ block. length block ≡ 64 * pool.size) pool.blocks.items
  pub used : vec_len pool.lengths ≤ 64 * vec_len pool.blocks
  pub fits : AllByRecursion (FitsSize pool.size) pool.lengths.items
  pub filled : AreFilled pool.size (joined pool.blocks.items) pool.lengths.items
  pub free : AreFree pool.lengths.items pool.freed.items
  pub count : count_none pool.lengths.items ≡ vec_len pool.freed
  pub lengths : 64 * vec_len pool.blocks ≤ vec_capacity pool.lengths
  pub freed : 64 * vec_len pool.blocks ≤ vec_capacity pool.freed
