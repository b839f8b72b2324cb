-- What the counts of a list of keys say of how often a key was seen.
--     seen_in key keys      the number of places at which the key stands
--     seen key keys      the same among the first 18446744073709551615 places
--     CountsWell most keys counts      the counts sum to the total, each is at most its error
--         above what was seen, and a key that makes up more than one of `most` parts of the total
--         is kept
use Rattle.std.specs.Prelude.{◌≡◌, ◌≤◌, ◌<◌, ◌+◌, ◌-◌, ◌*◌, ℕ, true, List, [], ◌∷◌, take}
use Rattle.std.specs.Prelude.{if◌then◌else◌}
use Rattle.std.specs.List.{AllByRecursion}
use Rattle.std.specs.Str.{bytes_eq}
use Rattle.peg_model.specs.Words.{last_number}
use Rattle.peg_model.specs.Counts.{Counts, has_row}
use Rattle.peg_hot.specs.Table.{sum_of}

abbrev pub seen_in : List ℕ → List (List ℕ) → ℕ
seen_in key [] = 0
seen_in key (k ∷ keys) = (if bytes_eq k key then 1 else 0) + seen_in key keys

abbrev pub seen : List ℕ → List (List ℕ) → ℕ
seen key keys = seen_in key (take last_number keys)

pub record CountsWell (most : ℕ) (keys : List (List ℕ)) (counts : Counts) : Type 0 where
  pub sum : sum_of counts.rows ≡ counts.total
  pub low : AllByRecursion (λ row. row.count - row.error ≤ seen row.key keys) counts.rows
  pub high : AllByRecursion (λ row. seen row.key keys ≤ row.count) counts.rows
  pub kept : (key : List ℕ) → counts.total < seen key keys * most → has_row key counts.rows ≡ true
