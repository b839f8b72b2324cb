-- A row of places in raw memory, each empty or holding a value.
--     values places      the values that are there
--     IsRun places from n      the n places from a place on hold values
use Rattle.std.specs.Prelude.{◌≡◌, ℕ, ◌+◌, ◌≤◌, List, [], ◌∷◌, map, length, take, drop, Option, Some}
use Rattle.std.specs.Prelude.{None}

module _ {X : Type 0} where
  abbrev pub values : List (Option X) → List X
  values [] = []
  values (None ∷ places) = values places
  values (Some x ∷ places) = x ∷ values places

  abbrev pub IsRun : List (Option X) → ℕ → ℕ → Type 0
  IsRun places from n =
      (from + n ≤ length places)
      × ((xs : List X) × (take n (drop from places) ≡ map Some xs))
