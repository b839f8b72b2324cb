-- Popularity counts, by the Space-Saving rule.
--     Counts      the rows in table order, and how many requests they were given
--     see most counts key      the counts after one more request for the key, in a table of at
--         most `most` rows
use Rattle.std.specs.Prelude.{◌+◌, ℕ, Bool, ◌==◌, nat_lt, List, [], ◌∷◌, ◌++◌, length, map}
use Rattle.std.specs.Prelude.{if◌then◌else◌}
use Rattle.std.specs.List.{list_any}
use Rattle.std.specs.Str.{bytes_eq}
use Rattle.peg_name.specs.declared.Row.{Row}
use Rattle.peg_model.specs.Words.{last_number}

pub record Counts : Type 0 where
  pub total : ℕ
  pub rows : List Row

abbrev pub no_counts : Counts
no_counts = record { total = 0; rows = [] }

abbrev pub has_row : List ℕ → List Row → Bool
has_row key rows = list_any (λ row. bytes_eq row.key key) rows

-- the key's count rises by one
abbrev pub raised : List ℕ → List Row → List Row
raised key rows =
    map (λ row. if bytes_eq row.key key
    then record { key = row.key; count = row.count + 1; error = row.error } else row) rows

-- the least count
abbrev pub least : List Row → ℕ
least [] = last_number
least (row ∷ rows) = if nat_lt row.count (least rows) then row.count else least rows

-- the key takes over the first row of count c
abbrev pub taken_over : List ℕ → ℕ → List Row → List Row
taken_over key c [] = []
taken_over key c (row ∷ rows) =
    if row.count == c then record { key = key; count = c + 1; error = c } ∷ rows
    else row ∷ taken_over key c rows

abbrev pub rows_after : ℕ → List ℕ → List Row → List Row
rows_after most key rows =
    if has_row key rows then raised key rows
    else (if nat_lt (length rows) most then rows ++ record { key = key; count = 1; error = 0 } ∷ []
    else taken_over key (least rows) rows)

abbrev pub see : ℕ → Counts → List ℕ → Counts
see most counts key =
    if counts.total == last_number then counts
    else record { total = counts.total + 1; rows = rows_after most key counts.rows }
