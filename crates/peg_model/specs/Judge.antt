-- What the judge reads, and what it says of it.
--     OpInRange op, IsOpLine line number op      an operation line
--     IsJudged input ops key_orders      the input holds this history and these orders
--     order_fault ops key order      the first fault of one order
--     verdict_of ops key_orders      the first fault of all
--     verdict_text      the line that says so
use Rattle.std.specs.Prelude.{◌≡◌, ◌⊎◌, ◌≤◌, ◌<◌, ◌^◌, ◌+◌, ℕ, Bool, true, false, not, ◌&&◌, ◌||◌}
use Rattle.std.specs.Prelude.{nat_lt, nat_eq, Option, Some, None, is_some, is_none, IfSome, List}
use Rattle.std.specs.Prelude.{[], ◌∷◌, ◌++◌, length, map, flat_map, slice_get, if◌then◌else◌}
use Rattle.std.specs.Prelude.{codes, decimal}
use Rattle.std.specs.List.{AllByRecursion, list_any}
use Rattle.std.specs.Str.{bytes_eq}
use Rattle.peg_name.specs.declared.value.Content.{Content}
use Rattle.peg_name.specs.declared.value.Content.TheVariants.{Absent, Present}
use Rattle.peg_event.specs.declared.history.Act.{Act}
use Rattle.peg_event.specs.declared.history.Act.TheVariants as act
use Rattle.peg_event.specs.declared.history.Op.{Op}
use Rattle.peg_event.specs.declared.history.Fault.{Fault}
use Rattle.peg_event.specs.declared.history.Fault.TheVariants as fault
use Rattle.peg_event.specs.declared.history.Verdict.{Verdict}
use Rattle.peg_event.specs.declared.history.Verdict.TheVariants as verdict
use Rattle.peg_model.specs.World.{is_write}
use Rattle.peg_model.specs.Register.{content_after}
use Rattle.peg_model.specs.Order.{keys_in}
use Rattle.peg_model.specs.Schedule.{IsKeyOfBytes, AreBytes, fed}
use Rattle.peg_model.specs.Trace.{op_text, history_text}

-- ---- the lines

abbrev pub ContentOfBytes : Content → Type 0
ContentOfBytes Absent = Unit {0}
ContentOfBytes (Present value) = (length value ≤ 1024) × AreBytes value

abbrev pub IsAbsent : Content → Type 0
IsAbsent content = content ≡ Absent

-- a read that isn't answered was given nothing
abbrev pub IsUngiven : Act → Option ℕ → Content → Type 0
IsUngiven act.Read None content = IsAbsent content
IsUngiven _ _ content = Unit {0}

-- the format of the rack isn't known here, so the limits are those of the second one
pub record OpInRange (op : Op) : Type 0 where
  pub client : op.client < 1024
  pub key : IsKeyOfBytes op.key
  pub content : ContentOfBytes op.content
  pub ungiven : IsUngiven op.act op.answered op.content
  pub issued : (2 ≤ op.issued) × (op.issued < 2 ^ 64)
  pub answered : IfSome op.answered (λ at. (op.issued < at) × (at < 2 ^ 64))

pub record IsOpLine (line : List ℕ) (number : ℕ) (op : Op) : Type 0 where
  pub number_in_range : number < 2 ^ 32
  pub in_range : OpInRange op
  pub spelled : line ≡ op_text number op

-- ---- the whole input

-- each operation is issued at a later line than the one before
abbrev pub IssuedAfter : ℕ → List Op → Type 0
IssuedAfter before [] = Unit {0}
IssuedAfter before (op ∷ ops) = (before < op.issued) × IssuedAfter op.issued ops

-- a line before the history begins with a digit, and isn't read further
abbrev pub IsSkipped : List ℕ → Type 0
IsSkipped [] = ⊥
IsSkipped (b ∷ line) =
    (48 ≤ b) × (b ≤ 57) × AllByRecursion (λ c. (c ≡ 10) → ⊥) line × (length line < 4096)

-- the last line, with which the input may end
abbrev pub EndsBy : List ℕ → List ℕ → Type 0
EndsBy line input = (input ≡ line) ⊎ ((rest : List ℕ) × (input ≡ fed line ++ rest))

pub record IsJudged (input : List ℕ) (ops : List Op) (key_orders : List (List ℕ × List ℕ)) : Type 0
  where
    pub skipped : List (List ℕ)
    pub ending : List ℕ
    pub digits : AllByRecursion IsSkipped skipped
    pub done : EndsBy (codes "done") ending
    pub text : input ≡ flat_map fed skipped ++ history_text ops key_orders ++ ending
    pub few : length ops ≤ 200000
    pub in_range : AllByRecursion OpInRange ops
    pub rising : IssuedAfter 1 ops
    pub keys : map (λ o. o.0) key_orders ≡ keys_in ops
    pub places : AllByRecursion (λ o. AllByRecursion (λ place. place < 2 ^ 32) o.1) key_orders

-- ---- the verdict

abbrev pub is_same_content : Content → Content → Bool
is_same_content Absent Absent = true
is_same_content (Present a) (Present b) = bytes_eq a b
is_same_content _ _ = false

-- the first fault of two
abbrev pub or_else : Option Fault → Option Fault → Option Fault
or_else (Some f) other = Some f
or_else None other = other

abbrev pub is_answered_before : Option ℕ → ℕ → Bool
is_answered_before None place = false
is_answered_before (Some at) place = nat_lt at place

-- the first operation of the order that was issued after this answer
abbrev pub late_of : List (ℕ × Op) → ℕ → Option ℕ → Option Fault
late_of [] place answered = None
late_of (earlier ∷ walked) place answered =
    if is_answered_before answered earlier.1.issued then Some (fault.Late earlier.0 place)
    else late_of walked place answered

abbrev pub is_unseen_read : Op → Bool
is_unseen_read op = not (is_write op.act) && is_none op.answered

abbrev pub was_walked : ℕ → List (ℕ × Op) → Bool
was_walked place walked = list_any (λ w. nat_eq w.0 place) walked

abbrev pub is_wrong_read : Content → Op → Bool
is_wrong_read held op = not (is_write op.act) && not (is_same_content op.content held)

-- the fault at one place, where these were walked before and the register has this content
abbrev pub place_fault : List (ℕ × Op) → List ℕ → Content → ℕ → Op → Option Fault
place_fault walked key held place op =
    if not (bytes_eq op.key key) || is_unseen_read op then Some (fault.Strange place)
    else (if was_walked place walked then Some (fault.Twice place)
    else (if is_wrong_read held op then Some (fault.Illegal place)
    else late_of walked place op.answered))

-- the least answered operation of the key that isn't in the order
abbrev pub missing_from : List Op → ℕ → List (ℕ × Op) → List ℕ → Option Fault
missing_from [] place walked key = None
missing_from (op ∷ ops) place walked key =
    if bytes_eq op.key key && is_some op.answered && not (was_walked place walked)
    then Some (fault.Missing place)
    else missing_from ops (place + 1) walked key

-- the places that were walked, with the one of this operation
abbrev pub walked_on : List (ℕ × Op) → ℕ → Option Op → List (ℕ × Op)
walked_on walked place None = walked
walked_on walked place (Some op) = walked ++ (place, op) ∷ []

abbrev pub held_on : Content → Option Op → Content
held_on held None = held
held_on held (Some op) = content_after held op.act op.content

abbrev pub fault_of : Option Op → List (ℕ × Op) → List ℕ → Content → ℕ → Option Fault
fault_of None walked key held place = Some (fault.Strange place)
fault_of (Some op) walked key held place = place_fault walked key held place op

-- an order is walked from its first place
abbrev pub walk : List Op → List ℕ → List (ℕ × Op) → Content → List ℕ → Option Fault
walk ops key walked held [] = missing_from ops 0 walked key
walk ops key walked held (place ∷ order) =
    let op = slice_get ops place in
    or_else (fault_of op walked key held place)
    (walk ops key (walked_on walked place op) (held_on held op) order)

abbrev pub order_fault : List Op → List ℕ → List ℕ → Option Fault
order_fault ops key order = walk ops key [] Absent order

abbrev pub first_fault : List Op → List (List ℕ × List ℕ) → Option Fault
first_fault ops [] = None
first_fault ops (o ∷ key_orders) = or_else (order_fault ops o.0 o.1) (first_fault ops key_orders)

abbrev pub verdict_with : Option Fault → Verdict
verdict_with None = verdict.Yes
verdict_with (Some f) = verdict.No f

abbrev pub verdict_of : List Op → List (List ℕ × List ℕ) → Verdict
verdict_of ops key_orders = verdict_with (first_fault ops key_orders)

abbrev pub fault_text : Fault → List ℕ
fault_text (fault.Strange place) = codes "strange " ++ decimal place
fault_text (fault.Twice place) = codes "twice " ++ decimal place
fault_text (fault.Illegal place) = codes "illegal " ++ decimal place
fault_text (fault.Late first place) = codes "late " ++ decimal first ++ codes " " ++ decimal place
fault_text (fault.Missing place) = codes "missing " ++ decimal place

-- of so many operations and keys
abbrev pub verdict_text : Verdict → ℕ → ℕ → List ℕ
verdict_text verdict.Yes operations keys =
    codes "yes " ++ decimal operations ++ codes " operations " ++ decimal keys ++ codes " keys"
verdict_text (verdict.No f) operations keys = codes "no " ++ fault_text f
