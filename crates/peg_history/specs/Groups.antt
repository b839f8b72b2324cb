-- The groups of a history's entries, by key.
--     group_of g      a group as a key and its entries
--     index_in key groups      the first place of the key
--     IsIndex known groups      the keys are those of the groups, in their order
--     key_orders ops tags      the orders of all keys
use Rattle.std.specs.Prelude.{◌≡◌, ℕ, zero, suc, option_to_list, Option, Some, None, option_map}
use Rattle.std.specs.Prelude.{List, [], ◌∷◌, ◌++◌, map, if◌then◌else◌}
use Rattle.std.specs.Str.{bytes_eq}
use Rattle.peg_event.specs.declared.history.Op.{Op}
use Rattle.peg_model.specs.Order.{order_of, keys_in}
use Rattle.peg_history.specs.declared.Entry.{Entry}
use Rattle.peg_history.specs.declared.KeyOrder.{KeyOrder}
use Rattle.peg_history.specs.declared.group.Group.{Group}

abbrev pub group_of : Group → List ℕ × List Entry
group_of g = (g.key, g.entries.items)

abbrev pub index_in : List ℕ → List (List ℕ × List Entry) → Option ℕ
index_in key [] = None
index_in key (g ∷ groups) =
    if bytes_eq g.0 key then Some 0 else option_map suc (index_in key groups)

abbrev pub IsIndex : List (List ℕ) → List (List ℕ × List Entry) → Type 0
IsIndex known groups = known ≡ map (λ g. g.0) groups

-- the entry goes to the group at a place
abbrev pub extended : List (List ℕ × List Entry) → ℕ → Option Entry → List (List ℕ × List Entry)
extended [] i e = []
extended (g ∷ groups) zero e = (g.0, g.1 ++ option_to_list e) ∷ groups
extended (g ∷ groups) (suc i) e = g ∷ extended groups i e

abbrev pub order_in_book : List Op → List ℕ → List ℕ → KeyOrder
order_in_book ops tags key = record { key = key; ops = order_of ops tags key }

abbrev pub key_orders : List Op → List ℕ → List KeyOrder
key_orders ops tags = map (order_in_book ops tags) (keys_in ops)
