-- The word `check`: the judge, line by line.
--     CheckEntry, check_lines, IsCheckLine      a line that is skipped, the history's number, an
--         operation, the head of an order, a place, and done
--     Checker, judges      the states of the word, and its session
use Rattle.std.specs.Prelude.{◌≡◌, ◌≤◌, ◌<◌, ◌^◌, ◌+◌, ◌-◌, ℕ, zero, suc, ◌==◌, Option, Some, None}
use Rattle.std.specs.Prelude.{List, [], ◌∷◌, ◌++◌, length, slice_get, if◌then◌else◌, codes, decimal}
use Rattle.std.specs.Prelude.{false}
use Rattle.peg_event.specs.declared.history.Op.{Op}
use Rattle.peg_model.specs.Order.{keys_in}
use Rattle.peg_model.specs.Schedule.{fed}
use Rattle.peg_model.specs.Trace.{op_text, order_text}
use Rattle.peg_model.specs.Judge.{IsOpLine, IsSkipped, verdict_of, verdict_text}
use Rattle.peg_meaning.specs.Session.{Meaning, Input, Entry, Came, Answer, Goes, Past, begun}
use Rattle.peg_meaning.specs.Session.{saying}
use Rattle.peg_meaning.specs.declared.Want.{Want}
use Rattle.peg_meaning.specs.declared.Want.TheVariants as want

pub data CheckEntry : Type 0 where
  Skipped : (line : List ℕ) → CheckEntry
  History : (count : ℕ) → CheckEntry
  Operation : (number : ℕ) (op : Op) → CheckEntry
  Order : (key : List ℕ) (count : ℕ) → CheckEntry
  At : (place : ℕ) → CheckEntry
  Done : CheckEntry

abbrev pub check_lines : CheckEntry → List (List ℕ)
check_lines (Skipped line) = line ∷ []
check_lines (History count) = (codes "history " ++ decimal count) ∷ []
check_lines (Operation number op) = op_text number op ∷ []
check_lines (Order key count) = order_text key count ∷ []
check_lines (At place) = (codes "at " ++ decimal place) ∷ []
check_lines Done = codes "done" ∷ []

-- what was read behind the line history: operations, of which so many are still to come, and then
-- orders, of the last of which so many places are still to come
pub record Checked : Type 0 where
  pub unread : ℕ
  pub ops : List Op
  pub unplaced : ℕ
  pub key_orders : List (List ℕ × List ℕ)

pub data Stage : Type 0 where
  Skipping : Stage
  Reading : (c : Checked) → Stage
  Finished : (c : Checked) → Stage

pub record Checker : Type 0 where
  pub lines : ℕ
  pub stage : Stage

abbrev pub checker : Checker
checker = record { lines = 0; stage = Skipping }

-- ---- the lines

abbrev pub last_issued : List Op → ℕ
last_issued [] = 1
last_issued (op ∷ []) = op.issued
last_issued (op ∷ ops) = last_issued ops

-- the key whose order is the next
abbrev pub next_key : Checked → Option (List ℕ)
next_key c = slice_get (keys_in c.ops) (length c.key_orders)

abbrev pub IsOperation : Checked → List ℕ → ℕ → Op → Type 0
IsOperation c line number op =
    IsOpLine line number op × (number ≡ length c.ops) × (last_issued c.ops < op.issued)

-- behind the operations there is an order for each key, and at last done
abbrev pub IsOrderLine : Option (List ℕ) → List ℕ → CheckEntry → Type 0
IsOrderLine (Some key) line (Order other count) =
    (other ≡ key) × (count < 2 ^ 64) × (line ≡ order_text other count)
IsOrderLine None line Done = line ≡ codes "done"
IsOrderLine _ line e = ⊥

abbrev pub IsPlaceLine : ℕ → Checked → List ℕ → CheckEntry → Type 0
IsPlaceLine (suc unplaced) c line (At place) =
    (place < 2 ^ 32) × (line ≡ codes "at " ++ decimal place)
IsPlaceLine zero c line e = IsOrderLine (next_key c) line e
IsPlaceLine _ c line e = ⊥

abbrev pub IsCheckedLine : ℕ → Checked → List ℕ → CheckEntry → Type 0
IsCheckedLine (suc unread) c line (Operation number op) = IsOperation c line number op
IsCheckedLine zero c line e = IsPlaceLine c.unplaced c line e
IsCheckedLine _ c line e = ⊥

abbrev pub IsStageLine : Stage → List ℕ → CheckEntry → Type 0
IsStageLine Skipping line (Skipped other) = IsSkipped line × (other ≡ line)
IsStageLine Skipping line (History count) =
    (count ≤ 200000) × (line ≡ codes "history " ++ decimal count)
IsStageLine (Reading c) line e = IsCheckedLine c.unread c line e
IsStageLine _ line e = ⊥

abbrev pub IsCheckLine : Checker → List ℕ → CheckEntry → Type 0
IsCheckLine s line e = IsStageLine s.stage line e

-- ---- the session

-- the place goes last in the last order
abbrev pub with_place : ℕ → List (List ℕ × List ℕ) → List (List ℕ × List ℕ)
with_place place [] = []
with_place place ((key, order) ∷ []) = (key, order ++ place ∷ []) ∷ []
with_place place (o ∷ key_orders) = o ∷ with_place place key_orders

abbrev pub checked_on : Checked → CheckEntry → Checked
checked_on c (Operation number op) = record c { unread = c.unread - 1; ops = c.ops ++ op ∷ [] }
checked_on c (Order key count) =
    record c { unplaced = count; key_orders = c.key_orders ++ (key, []) ∷ [] }
checked_on c (At place) =
    record c { unplaced = c.unplaced - 1; key_orders = with_place place c.key_orders }
checked_on c _ = c

abbrev pub stage_on : Stage → CheckEntry → Stage
stage_on Skipping (History count) =
    Reading (record { unread = count; ops = []; unplaced = 0; key_orders = [] })
stage_on (Reading c) Done = Finished c
stage_on (Reading c) e = Reading (checked_on c e)
stage_on stage e = stage

abbrev pub judged_text : Stage → CheckEntry → List ℕ
judged_text (Reading c) Done =
    fed (verdict_text (verdict_of c.ops c.key_orders) (length c.ops) (length c.key_orders))
judged_text stage e = []

-- at most 2,000,000 lines, the line done among them
abbrev pub check_on : Checker → Input CheckEntry → Answer Checker
check_on s (Entry e) =
    if s.lines == 2000000 then Past
    else Goes (saying (record { lines = s.lines + 1; stage = stage_on s.stage e })
    (judged_text s.stage e))
check_on s input = Past

abbrev pub check_want : Stage → Want
check_want (Finished c) = want.Over
check_want _ = want.Line 4096 false

abbrev pub judges : Meaning Checker CheckEntry
judges = record { want = λ s. check_want s.stage; Reads = IsCheckLine; on = check_on }

abbrev pub check_start : Came Checker
check_start = begun checker [] []
