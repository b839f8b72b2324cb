-- A pool of slots as a contract sees it: a finite map from slots to bytes.
--     Slots      the most bytes of a slot; for each slot that was ever used, by its number, what it
--         holds, and none where it is free; the freed slots, in the order of freeing
--     Pool      the slots, and how many puts there is memory for
--     bytes_of slots slot      the bytes of a slot, and none where it is not live
--     placed xs n x      the list with x at the place n, or at its end where it has no such place
--     next_slot slots      the slot that the next put takes: the last freed one, else the least never used
--     with_bytes slots slot bytes      the slot holds these bytes
--     with_put slots bytes      the next slot holds these bytes, and is free no longer
--     with_freed slots slot      the slot is free, and the last one that was freed
--     SetsOnly before slot content after      the slot has this content, and each other slot its own
use Rattle.std.specs.Prelude.{ℕ, zero, suc, ◌-◌, ◌≡◌, ◌==◌, List, [], ◌∷◌, ◌++◌, length, take}
use Rattle.std.specs.Prelude.{Option, None, Some, slice_set, slice_index_or, if◌then◌else◌}

pub record Slots : Type 0 where
  pub size : ℕ
  pub used : List (Option (List ℕ))
  pub freed : List ℕ

pub record Pool : Type 0 where
  pub slots : Slots
  pub spare : ℕ

abbrev pub bytes_of : Slots → ℕ → Option (List ℕ)
bytes_of slots slot = slice_index_or slots.used slot None

abbrev pub placed : {X : Type 0} → List X → ℕ → X → List X
placed [] n x = x ∷ []
placed (y ∷ ys) zero x = x ∷ ys
placed (y ∷ ys) (suc n) x = y ∷ placed ys n x

abbrev pub next_slot : Slots → ℕ
next_slot slots = slice_index_or slots.freed (length slots.freed - 1) (length slots.used)

abbrev pub with_bytes : Slots → ℕ → List ℕ → Slots
with_bytes slots slot bytes = record slots { used = placed slots.used slot (Some bytes) }

abbrev pub with_put : Slots → List ℕ → Slots
with_put slots bytes =
    record (with_bytes slots (next_slot slots) bytes) {
      freed = take (length slots.freed - 1) slots.freed;
    }

abbrev pub with_freed : Slots → ℕ → Slots
with_freed slots slot =
    record slots {
      used = slice_set slots.used slot None;
      freed = slots.freed ++ slot ∷ [];
    }

abbrev pub SetsOnly : Slots → ℕ → Option (List ℕ) → Slots → Type 0
SetsOnly before slot content after =
    (other : ℕ)
    → bytes_of after other ≡ (if other == slot then content else bytes_of before other)
