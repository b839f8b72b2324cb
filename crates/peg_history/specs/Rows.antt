-- The fields of a history, seen as its operations.
--     op_of bytes row      the operation of a row, whose content lies in the bytes
--     answered_bytes act content      the bytes that an answer adds: a read's content
--     ledger_of, IsHistory history      what the fields hold, and what they keep
use Rattle.std.specs.Prelude.{ℕ, ◌-◌, ◌≤◌, List, [], length, map, vec_len, vec_capacity}
use Rattle.std.specs.List.{AllByRecursion}
use Rattle.peg_name.specs.declared.value.Content.{Content}
use Rattle.peg_event.specs.declared.history.Act.{Act}
use Rattle.peg_event.specs.declared.history.Act.TheVariants.{Read, Write}
use Rattle.peg_event.specs.declared.history.Op.{Op}
use Rattle.peg_history.specs.Ledger.{Ledger}
use Rattle.peg_history.specs.Contents.{content_at, bytes_in, IsWithin, room_of}
use Rattle.peg_history.specs.declared.Row.{Row}
use Rattle.peg_history.specs.declared.History.TheInside.{Inside}

abbrev pub op_of : List ℕ → Row → Op
op_of bytes row =
    record {
      client = row.client;
      key = row.key;
      act = row.act;
      content = content_at bytes row.content;
      issued = row.issued;
      answered = row.answered;
    }

abbrev pub answered_bytes : Act → Content → List ℕ
answered_bytes Read content = bytes_in content
answered_bytes Write content = []

abbrev pub ledger_of : Inside → Ledger
ledger_of h =
    record {
      ops = map (op_of h.contents.bytes.items) h.rows.items;
      spare = vec_capacity h.rows - vec_len h.rows;
      room = room_of h.contents;
    }

abbrev pub IsHistory : Inside → Type 0
IsHistory h =
    (vec_len h.rows ≤ 4000000000)
    × AllByRecursion (λ row. IsWithin (length h.contents.bytes.items) row.content) h.rows.items
