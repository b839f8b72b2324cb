-- The rows of a report, as the bytes that spell them one behind the other.
--     rows_in bytes count      the rows that stand at the front of the bytes
--     has_key row      whether its key is one
use Rattle.std.specs.Prelude.{◌≡◌, ◌≤◌, ◌+◌, ℕ, Bool, true, List, length, drop}
use Rattle.std.specs.List.{list_all, flat_map}
use Rattle.peg_name.specs.declared.Row.{Row}
use Rattle.peg_model.specs.Packet.{is_key, row_bytes}
use Rattle.peg_model.specs.Reading.{rows_at, key_at, past_key}

abbrev pub rows_in : List ℕ → ℕ → List Row
rows_in bytes count = rows_at bytes count 0

abbrev pub has_key : Row → Bool
has_key row = is_key row.key

-- the bytes from a place on are this many rows, each with a key
pub record RowsFrom (bytes : List ℕ) (count at : ℕ) : Type 0 where
  pub keyed : list_all has_key (rows_at bytes count at) ≡ true
  pub spelled : drop at bytes ≡ flat_map row_bytes (rows_at bytes count at)

-- a row at a place, and nothing of it behind the bytes
pub record IsRowAt (bytes : List ℕ) (at : ℕ) : Type 0 where
  pub keyed : is_key (key_at bytes at) ≡ true
  pub fits : past_key bytes at + 16 ≤ length bytes
