-- How the orders of keys are made: an entry for each operation that may stand in one.
--     may_stand t      an answered operation, or a write with a tag
--     entry_of t      what its place in the order depends on
--     entries_of key ts      the entries of a key
--     printed es      the places of those entries of one key that its order has, in its order
--     grouped groups ts      the entries of further operations, added to those of their keys
use Rattle.std.specs.Prelude.{◌<◌, ◌^◌, ℕ, Bool, not, ◌&&◌, ◌||◌, ◌==◌, nat_lt, is_some, unwrap_or}
use Rattle.std.specs.Prelude.{Option, Some, None, IfSome, List, [], ◌∷◌, ◌++◌, map, filter}
use Rattle.std.specs.Prelude.{option_to_list, if◌then◌else◌}
use Rattle.std.specs.List.{list_any}
use Rattle.std.specs.Ordering.{nat_cmp, bool_cmp, ordering_then, is_lt}
use Rattle.std.specs.declared.cmp.Ordering.{Ordering}
use Rattle.std.specs.Str.{bytes_eq}
use Rattle.peg_model.specs.Words.{sorted}
use Rattle.peg_model.specs.World.{is_write}
use Rattle.peg_model.specs.Order.{Tagged}
use Rattle.peg_history.specs.declared.Entry.{Entry}

abbrev pub may_stand : Tagged → Bool
may_stand t = is_some t.op.answered || (is_write t.op.act && nat_lt 0 t.tag)

abbrev pub entry_of : Tagged → Entry
entry_of t =
    record {
      tag = t.tag;
      is_read = not (is_write t.op.act);
      is_open = not (is_some t.op.answered);
      at = unwrap_or t.op.answered 0;
      place = t.place;
    }

-- the entry, where there is one
abbrev pub entry_if : Tagged → Option Entry
entry_if t = if may_stand t then Some (entry_of t) else None

-- an answer place is a number of 64 bits
abbrev pub InRange : Tagged → Type 0
InRange t = IfSome t.op.answered (λ at. at < 2 ^ 64)

abbrev pub entries_of : List ℕ → List Tagged → List Entry
entries_of key [] = []
entries_of key (t ∷ ts) =
    if bytes_eq t.op.key key then option_to_list (entry_if t) ++ entries_of key ts
    else entries_of key ts

abbrev pub entry_cmp : Entry → Entry → Ordering
entry_cmp a b =
    ordering_then (nat_cmp a.tag b.tag)
    (ordering_then (bool_cmp a.is_read b.is_read)
    (ordering_then (bool_cmp a.is_open b.is_open)
    (ordering_then (nat_cmp a.at b.at) (nat_cmp a.place b.place))))

abbrev pub is_before : Entry → Entry → Bool
is_before a b = is_lt (entry_cmp a b)

-- whether a read has this tag
abbrev pub has_read : List Entry → ℕ → Bool
has_read es tag = list_any (λ e. e.is_read && e.tag == tag) es

-- an operation that isn't answered stands in the order only where its tag was read
abbrev pub is_seen : List Entry → Entry → Bool
is_seen es e = not e.is_open || has_read es e.tag

abbrev pub printed : List Entry → List ℕ
printed es = map (λ e. e.place) (sorted is_before (filter (is_seen es) es))

-- ---- by key

-- a further entry of a key; the key is new where it has none yet
abbrev pub added : List (List ℕ × List Entry) → List ℕ → Option Entry → List (List ℕ × List Entry)
added [] key e = (key, option_to_list e) ∷ []
added (g ∷ groups) key e =
    if bytes_eq g.0 key then (g.0, g.1 ++ option_to_list e) ∷ groups else g ∷ added groups key e

abbrev pub grouped : List (List ℕ × List Entry) → List Tagged → List (List ℕ × List Entry)
grouped groups [] = groups
grouped groups (t ∷ ts) = grouped (added groups t.op.key (entry_if t)) ts
