-- What a table of counts is seen as.
--     Table      how many rows it has at most, and the counts
--     IsTable table      what every table keeps
--     counted most counts keys      the counts after further requests for these keys
use Rattle.std.specs.Prelude.{◌≡◌, ◌<◌, ◌≤◌, ◌+◌, ◌^◌, ℕ, true, false, List, [], ◌∷◌}
use Rattle.std.specs.Prelude.{length}
use Rattle.std.specs.List.{list_all}
use Rattle.peg_name.specs.declared.Row.{Row}
use Rattle.peg_model.specs.Counts.{Counts, has_row, see}
use Rattle.peg_model.specs.Packet.{row_in_range}

pub record Table : Type 0 where
  pub most : ℕ
  pub counts : Counts

-- the counts of the rows, added up
abbrev pub sum_of : List Row → ℕ
sum_of [] = 0
sum_of (row ∷ rows) = row.count + sum_of rows

-- no key has two rows
abbrev pub IsDistinct : List Row → Type 0
IsDistinct [] = Unit {0}
IsDistinct (row ∷ rows) = (has_row row.key rows ≡ false) × IsDistinct rows

pub record IsTable (t : Table) : Type 0 where
  pub some : 1 ≤ t.most
  pub small : t.counts.total < 2 ^ 64
  pub few : length t.counts.rows ≤ t.most
  pub sum : sum_of t.counts.rows ≡ t.counts.total
  pub distinct : IsDistinct t.counts.rows
  pub within : list_all row_in_range t.counts.rows ≡ true

abbrev pub counted : ℕ → Counts → List (List ℕ) → Counts
counted most counts [] = counts
counted most counts (key ∷ keys) = counted most (see most counts key) keys
