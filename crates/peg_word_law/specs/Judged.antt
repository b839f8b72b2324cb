-- What the judge has read when it comes to the line done, and what it says of it.
--     IsWellFormed ops key_orders      a history with the orders of its keys
--     judged_entries skipped ops key_orders      the lines of a history with its orders, behind so
--         many that are skipped
--     HasJudged entries stage text      nothing is written before that line, and with it the
--         verdict on what stands in the lines
use Rattle.std.specs.Prelude.{◌≡◌, ◌≤◌, ◌<◌, ◌^◌, ◌+◌, ℕ, List, [], ◌∷◌, ◌++◌, length, map}
use Rattle.std.specs.Prelude.{flat_map}
use Rattle.std.specs.List.{AllByRecursion}
use Rattle.peg_event.specs.declared.history.Op.{Op}
use Rattle.peg_model.specs.Order.{keys_in}
use Rattle.peg_model.specs.Schedule.{fed}
use Rattle.peg_model.specs.Judge.{OpInRange, IssuedAfter, verdict_of, verdict_text}
use Rattle.peg_meaning.specs.CheckWord.{CheckEntry, Skipped, History, Operation, Order, At, Done}
use Rattle.peg_meaning.specs.CheckWord.{Checked, Stage, Finished}

-- a history with the orders of its keys, as the lines give them
pub record IsWellFormed (ops : List Op) (key_orders : List (List ℕ × List ℕ)) : Type 0 where
  pub few : length ops ≤ 200000
  pub in_range : AllByRecursion OpInRange ops
  pub rising : IssuedAfter 1 ops
  pub keys : map (λ o. o.0) key_orders ≡ keys_in ops
  pub places : AllByRecursion (λ o. AllByRecursion (λ place. place < 2 ^ 32) o.1) key_orders

-- the lines of operations, numbered from this number on
abbrev pub operation_entries : ℕ → List Op → List CheckEntry
operation_entries number [] = []
operation_entries number (op ∷ ops) = Operation number op ∷ operation_entries (number + 1) ops

abbrev pub order_entries : List ℕ × List ℕ → List CheckEntry
order_entries (key, order) = Order key (length order) ∷ map At order

abbrev pub judged_entries :
    List (List ℕ) → List Op → List (List ℕ × List ℕ) → List CheckEntry
judged_entries skipped ops key_orders =
    map Skipped skipped
    ++ (History (length ops)
    ∷ (operation_entries 0 ops ++ (flat_map order_entries key_orders ++ Done ∷ [])))

pub record IsJudged (entries : List CheckEntry) (c : Checked) (text : List ℕ) : Type 0 where
  pub lines :
      (skipped : List (List ℕ)) × (entries ≡ judged_entries skipped c.ops c.key_orders)
  pub well_formed : IsWellFormed c.ops c.key_orders
  pub written :
      text
      ≡ fed (verdict_text (verdict_of c.ops c.key_orders) (length c.ops) (length c.key_orders))

abbrev pub HasJudged : List CheckEntry → Stage → List ℕ → Type 0
HasJudged entries (Finished c) text = IsJudged entries c text
HasJudged entries stage text = text ≡ []
