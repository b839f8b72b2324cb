-- What a part does to what is collected.
--     Collection      the rack, and the parts of an epoch so far
--     Take      the answer to a part, what is collected after it, and the state that it completes
--     take_part rack own c epoch index count bytes      what this part does where c is collected
--         and the switch is in the epoch own
--     stamps_after, entries_after      the switch's own after it: the state's, where there is one
--     TakesAs t old new ..      a call answered, collected and changed what this take says
use Rattle.std.specs.Prelude.{◌≡◌, ℕ, not, ◌||◌, nat_lt, nat_le, Option, Some, None, List}
use Rattle.std.specs.Prelude.{if◌then◌else◌}
use Rattle.peg_name.specs.Name.{Rack}
use Rattle.peg_model.specs.Rules.{Stamps, Directory}
use Rattle.peg_model.specs.Handover.{State, Collected, none_collected, begun, fits, has_part}
use Rattle.peg_model.specs.Handover.{with_part, is_whole, held_count, state_of, bytes_of}
use Rattle.peg_directory.specs.Table.{Table, with_entries}
use Rattle.peg_parts.specs.declared.Taken.{Taken}
use Rattle.peg_parts.specs.declared.Taken.TheVariants.{Old, Malformed, Repeated, More, Whole}

pub record Collection : Type 0 where
  pub rack : Rack
  pub collected : Collected

pub record Take : Type 0 where
  pub answer : Taken
  pub collected : Collected
  pub state : Option State

abbrev pub leaves : Taken → Collected → Take
leaves answer c = record { answer = answer; collected = c; state = None }

-- a whole state is taken, and nothing is collected then
abbrev pub completes : Option State → Collected → Take
completes (Some s) c =
    record { answer = Whole s.last; collected = none_collected; state = Some s }
completes None c = leaves Malformed c

-- the parts with this one
abbrev pub adds : Rack → Collected → Collected → Take
adds rack c now =
    if is_whole now then completes (state_of rack (bytes_of now)) c
    else leaves (More (held_count now)) now

unfoldable pub take_part : Rack → ℕ → Collected → ℕ → ℕ → ℕ → List ℕ → Take
take_part rack own c epoch index count bytes =
    let now = begun c epoch count in
    if nat_le epoch own || nat_lt epoch c.epoch then leaves Old c
    else (if not (fits rack now index count bytes) then leaves Malformed c
    else (if has_part now index then leaves Repeated c
    else adds rack c (with_part now index bytes)))

abbrev pub stamps_after : Stamps → Option State → Stamps
stamps_after stamps (Some s) = s.stamps
stamps_after stamps None = stamps

abbrev pub entries_after : Directory → Option State → Directory
entries_after entries (Some s) = s.entries
entries_after entries None = entries

pub record TakesAs (t : Take) (answer : Taken) (old new : Collection) (stamps then_stamps : Stamps)
    (table then_table : Table) : Type 0 where
  pub answered : answer ≡ t.answer
  pub collects : new ≡ record old { collected = t.collected }
  pub stamped : then_stamps ≡ stamps_after stamps t.state
  pub listed : then_table ≡ with_entries table (entries_after table.entries t.state)
