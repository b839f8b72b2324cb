-- What clients see: one plain register for each key.
--     IsLinearizable output      the orders that the output prints are register histories of the
--         operations that it prints
--     OrdersAreHistories w      the same of a world
use Rattle.std.specs.Prelude.{◌≡◌, ◌-◌, ℕ, List, ◌++◌, map, flat_map, slice_get, IfSome, IsSomeAnd}
use Rattle.std.specs.Prelude.{codes, decimal}
use Rattle.std.specs.List.{AllByRecursion}
use Rattle.peg_name.specs.declared.value.Content.{Content}
use Rattle.peg_name.specs.declared.value.Content.TheVariants.{Absent, Present}
use Rattle.peg_event.specs.declared.history.Act.{Act}
use Rattle.peg_event.specs.declared.history.Act.TheVariants as act
use Rattle.peg_event.specs.declared.history.Op.{Op}
use Rattle.peg_model.specs.Register.{IsRegisterHistory}
use Rattle.peg_model.specs.World.{World, history}
use Rattle.peg_model.specs.Order.{keys_in, orders}
use Rattle.peg_model.specs.Schedule.{fed}
use Rattle.peg_model.specs.Trace.{tail_text}

-- the trace line of the place begins so, behind its number
abbrev pub LineBegins : List (List ℕ) → ℕ → List ℕ → Type 0
LineBegins lines place front =
    IsSomeAnd (slice_get lines (place - 1))
    (λ line. (rest : List ℕ) × (line ≡ decimal place ++ codes " " ++ front ++ rest))

abbrev pub issue_word : Act → Content → List ℕ
issue_word act.Read content = codes "read "
issue_word act.Write (Present value) = codes "write "
issue_word act.Write Absent = codes "delete "

-- an operation is issued at a line that says so, and answered at a line where its client says so
abbrev pub StandsInTrace : List (List ℕ) → Op → Type 0
StandsInTrace lines op =
    LineBegins lines op.issued (issue_word op.act op.content ++ decimal op.client ++ codes " seq ")
    × IfSome op.answered
    (λ at. LineBegins lines at (codes "client " ++ decimal op.client ++ codes " answered "))

pub record IsLinearizable (output : List ℕ) : Type 0 where
  pub trace : List (List ℕ)
  pub ops : List Op
  pub key_orders : List (List ℕ × List ℕ)
  pub text : output ≡ flat_map fed trace ++ tail_text ops key_orders
  pub in_trace : AllByRecursion (StandsInTrace trace) ops
  pub keys : map (λ o. o.0) key_orders ≡ keys_in ops
  pub histories : AllByRecursion (λ o. IsRegisterHistory ops o.0 o.1) key_orders

-- the printed orders of a world are register histories
abbrev pub OrdersAreHistories : World → Type 0
OrdersAreHistories w = AllByRecursion (λ o. IsRegisterHistory (history w) o.0 o.1) (orders w)
