-- Words that the other files share.
--     last_number      the greatest number of 64 bits
--     is_in key keys      whether the key is among the keys
--     below n      the numbers 0, 1, .. up to n, which is not among them
--     sorted before xs      the elements of xs, so that none stands after one that it is before
--     Step S D      what a node's step comes to: its state then, what it sent in order, and what
--         it did
--     refuse s d      a step that changes nothing and sends nothing
use Rattle.std.specs.Prelude.{ℕ, zero, suc, ◌-◌, ◌^◌, Bool, List, [], ◌∷◌, ◌++◌, if◌then◌else◌}
use Rattle.std.specs.List.{list_any}
use Rattle.std.specs.Str.{bytes_eq}

abbrev pub last_number : ℕ
last_number = 2 ^ 64 - 1

abbrev pub is_in : List ℕ → List (List ℕ) → Bool
is_in key keys = list_any (bytes_eq key) keys

abbrev pub below : ℕ → List ℕ
below zero = []
below (suc n) = below n ++ n ∷ []

module _ {X : Type 0} (before : X → X → Bool) where
  abbrev pub placed : X → List X → List X
  placed x [] = x ∷ []
  placed x (y ∷ ys) = if before x y then x ∷ y ∷ ys else y ∷ placed x ys

  abbrev pub sorted : List X → List X
  sorted [] = []
  sorted (x ∷ xs) = placed x (sorted xs)

pub record Step (S P D : Type 0) : Type 0 where
  pub state : S
  pub sent : List P
  pub did : D

abbrev pub refuse : {S P D : Type 0} → S → D → Step S P D
refuse s d = record { state = s; sent = []; did = d }
