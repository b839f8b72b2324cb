-- The printed order of a key.
--     keys_in ops      the keys with an operation, in the order of first issue
--     order_of ops tags key      the answered operations of the key and the unanswered writes that
--         a read has seen, by tag, writes first, answer place and number
--     orders w      the printed orders of a world
use Rattle.std.specs.Prelude.{◌+◌, ℕ, Bool, not, ◌&&◌, ◌||◌, ◌==◌, nat_lt, is_some, List, [], ◌∷◌}
use Rattle.std.specs.Prelude.{◌++◌, map, filter, if◌then◌else◌, unwrap_or}
use Rattle.std.specs.List.{list_any}
use Rattle.std.specs.Str.{bytes_eq}
use Rattle.peg_event.specs.declared.history.Op.{Op}
use Rattle.peg_model.specs.Words.{last_number, sorted, is_in}
use Rattle.peg_model.specs.World.{World, is_write}

-- an operation with its number and its tag
pub record Tagged : Type 0 where
  pub place : ℕ
  pub op : Op
  pub tag : ℕ

abbrev pub tagged : ℕ → List Op → List ℕ → List Tagged
tagged place [] tags = []
tagged place (op ∷ ops) [] = []
tagged place (op ∷ ops) (tag ∷ tags) =
    record { place = place; op = op; tag = tag } ∷ tagged (place + 1) ops tags

-- whether an answered read of the key has this tag
abbrev pub was_read : List Tagged → List ℕ → ℕ → Bool
was_read all key tag =
    list_any (λ t. bytes_eq t.op.key key && not (is_write t.op.act) && is_some t.op.answered
    && t.tag == tag) all

abbrev pub is_printed : List Tagged → List ℕ → Tagged → Bool
is_printed all key t =
    bytes_eq t.op.key key
    && (is_some t.op.answered || (is_write t.op.act && nat_lt 0 t.tag && was_read all key t.tag))

-- the answer place, and one past all where there is none
abbrev pub answer_place : Op → ℕ
answer_place op = unwrap_or op.answered (last_number + 1)

-- the first of two numbers that differ decides, and else the rest does
abbrev pub lesser : ℕ → ℕ → Bool → Bool
lesser a b otherwise = nat_lt a b || (a == b && otherwise)

abbrev pub rank : Op → ℕ
rank op = if is_write op.act then 0 else 1

abbrev pub stands_before : Tagged → Tagged → Bool
stands_before a b =
    lesser a.tag b.tag (
    lesser (rank a.op) (rank b.op) (
    lesser (answer_place a.op) (answer_place b.op) (
    nat_lt a.place b.place)))

unfoldable pub order_of : List Op → List ℕ → List ℕ → List ℕ
order_of ops tags key =
    let all = tagged 0 ops tags in
    map (λ t. t.place) (sorted stands_before (filter (is_printed all key) all))

abbrev pub first_keys : List (List ℕ) → List Op → List (List ℕ)
first_keys known [] = known
first_keys known (op ∷ ops) =
    first_keys (if is_in op.key known then known else known ++ op.key ∷ []) ops

abbrev pub keys_in : List Op → List (List ℕ)
keys_in ops = first_keys [] ops

abbrev pub orders : World → List (List ℕ × List ℕ)
orders w =
    let ops = map (λ o. o.op) w.operations in
    let tags = map (λ o. o.tag) w.operations in
    map (λ key. (key, order_of ops tags key)) (keys_in ops)
