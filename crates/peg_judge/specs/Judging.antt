-- A check as a state of its meaning.
--     checked_of reading, checker_of lines reading      what was read, and the state
--     IsTied reading, are_tied reading, IsChecking check      what holds between two lines
--     said entry, front_said front line      what a line said, in the book
--     Says, SaysDone, SaysFront      what a line says
--     IsHere c entry      an entry that there is room for
--     Finishes stepped c ..      what is written at the end
use Rattle.std.specs.Prelude.{◌≡◌, ◌≤◌, ◌<◌, ◌+◌, ℕ, Bool, true, false, Option, Some, None, List}
use Rattle.std.specs.Prelude.{length, map, codes}
use Rattle.peg_model.specs.Order.{keys_in}
use Rattle.peg_model.specs.Schedule.{fed}
use Rattle.peg_model.specs.Judge.{verdict_of, verdict_text}
use Rattle.peg_meaning.specs.CheckWord as word
use Rattle.peg_meaning.specs.CheckWord.{CheckEntry, Checked, Checker, Stage, Skipping, Finished}
use Rattle.peg_meaning.specs.CheckWord.{last_issued, IsCheckedLine, IsStageLine}
use Rattle.peg_history.specs.Walking.{order_pair}
use Rattle.peg_session.specs.declared.Stepped.{Stepped}
use Rattle.peg_session.specs.declared.Stepped.TheVariants as stepped
use Rattle.peg_session.specs.Pages.{Passes}
use Rattle.peg_session.specs.Took.{Kept}
use Rattle.peg_judge.specs.declared.reading.Reading.{Reading}
use Rattle.peg_judge.specs.declared.reading.Entry.{Entry}
use Rattle.peg_judge.specs.declared.reading.Entry.TheVariants as entry
use Rattle.peg_judge.specs.declared.checking.Front.{Front}
use Rattle.peg_judge.specs.declared.checking.Front.TheVariants as front
use Rattle.peg_judge.specs.declared.checking.Check.{Check}

abbrev pub checked_of : Reading → Checked
checked_of r =
    record {
      unread = r.unread;
      ops = r.history.ops;
      unplaced = r.unplaced;
      key_orders = map order_pair r.orders.items;
    }

abbrev pub stage_at : Bool → Checked → Stage
stage_at true c = Finished c
stage_at false c = word.Reading c

abbrev pub checker_at : ℕ → Reading → Checker
checker_at lines r = record { lines = lines; stage = stage_at r.is_over (checked_of r) }

abbrev pub stage_of : Option Reading → Stage
stage_of None = Skipping
stage_of (Some r) = stage_at r.is_over (checked_of r)

abbrev pub checker_of : ℕ → Option Reading → Checker
checker_of lines reading = record { lines = lines; stage = stage_of reading }

-- ---- between two lines

pub record IsTied (r : Reading) : Type 0 where
  pub keys : r.keys.keys ≡ keys_in r.history.ops
  pub few : r.unread + length r.history.ops ≤ 200000
  pub latest : r.latest ≡ last_issued r.history.ops

abbrev pub are_tied : Option Reading → Type 0
are_tied None = Unit {0}
are_tied (Some r) = IsTied r

pub record IsChecking (s : Check) : Type 0 where
  pub few : s.lines ≤ 2000000
  pub tied : are_tied s.reading

-- ---- what a line says

abbrev pub said : Entry → CheckEntry
said (entry.Operation number op) = word.Operation number op
said (entry.Order key count) = word.Order key count
said (entry.At place) = word.At place
said entry.Done = word.Done

pub record SaysOnly (c : Checked) (line : List ℕ) (e : CheckEntry) : Type 0 where
  pub is : IsCheckedLine c.unread c line e
  pub only : (other : CheckEntry) → IsCheckedLine c.unread c line other → other ≡ e

abbrev pub Says : Option Entry → Checked → List ℕ → Type 0
Says None c line = (e : CheckEntry) → IsCheckedLine c.unread c line e → ⊥
Says (Some x) c line = SaysOnly c line (said x)

abbrev pub SaysDone : Option Entry → List ℕ → Type 0
SaysDone None line = (line ≡ codes "done") → ⊥
SaysDone (Some entry.Done) line = line ≡ codes "done"
SaysDone (Some _) line = ⊥

abbrev pub front_said : Front → List ℕ → CheckEntry
front_said front.Skipped line = word.Skipped line
front_said (front.History count) line = word.History count

pub record FrontSays (line : List ℕ) (e : CheckEntry) : Type 0 where
  pub is : IsStageLine Skipping line e
  pub only : (other : CheckEntry) → IsStageLine Skipping line other → other ≡ e

abbrev pub SaysFront : Option Front → List ℕ → Type 0
SaysFront None line = (e : CheckEntry) → IsStageLine Skipping line e → ⊥
SaysFront (Some f) line = FrontSays line (front_said f line)

abbrev pub IsHere : Checked → Entry → Type 0
IsHere c (entry.Operation number op) = 0 < c.unread
IsHere c (entry.At place) = 0 < c.unplaced
IsHere c _ = Unit {0}

-- ---- the end

abbrev pub done_text : Checked → List ℕ
done_text c =
    fed (verdict_text (verdict_of c.ops c.key_orders) (length c.ops) (length c.key_orders))

abbrev pub Finishes :
    Stepped → Checked → List ℕ → List ℕ → Option (List ℕ) → Option (List ℕ) → Type 0
Finishes stepped.Goes c page page' held held' = Passes true (done_text c) page page' held held'
Finishes stepped.Unwritten c page page' held held' =
    Passes false (done_text c) page page' held held'
Finishes stepped.OutOfMemory c page page' held held' = Kept page page' held held'
Finishes _ c page page' held held' = ⊥
