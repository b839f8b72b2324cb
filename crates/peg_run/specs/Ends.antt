-- What holds where `replay` ends with a status. The source and the sink are each seen as what they
-- told when the call began and when it ends. The rack, its keys and the events of each end are such
-- as lines spell, also where the source doesn't tell its bytes.
--     job_in words      the job that the words call for
--     ShowsRegisters      what was appended shows one plain register for each key, and each line of
--         it that says so answers one operation
--     IsDone, IsBadAt, IsTooMuchAt, IsUnread, IsUnwritten, IsOutOfMemory      the ends
--     IsNearLine, IsNearBad, IsAhead      how far the bytes that were taken go
--     Ended status      all that holds at this status, and that a schedule within the limits
--         doesn't end with a refusal
--     HasCause status ..      a fault has its cause
use Rattle.std.specs.Prelude.{◌≡◌, ◌≤◌, ◌<◌, ◌+◌, ℕ, Bool, true, Option, List, []}
use Rattle.std.specs.Prelude.{◌∷◌, ◌++◌, length, drop, map, if◌then◌else◌, codes, String}
use Rattle.std.specs.Prelude.{string_bytes}
use Rattle.std.specs.declared.alloc.Global.{Global}
use Rattle.peg_name.specs.Name.{Rack, line_most}
use Rattle.peg_event.specs.declared.Event.{Event}
use Rattle.peg_model.specs.Schedule.{IsEventLine}
use Rattle.peg_model.specs.Trace.{replay_text}
use Rattle.peg_model.specs.Headline.{IsLinearizable}
use Rattle.peg_trace.specs.Answers.{AreTold}
use Rattle.peg_io.specs.Outside.{Tells, Appends, WritesSome, Rose}
use Rattle.peg_io.specs.Lines.{line_of, past_line, HasNoFeed, AreFed}
use Rattle.peg_session.specs.Pages.{AppendsPart, AppendsMore}
use Rattle.peg_session.specs.Ends.{IsNear}
use Rattle.peg_run.specs.Front.{Front, Lines, text_of, whole_of, count_of, limit_of, IsWithin}
use Rattle.peg_run.specs.Front.{AreSpelled, IsRead, IsRefused, HasSchedule}
use Rattle.peg_words.specs.Jobs.{job_of}
use Rattle.peg_words.specs.declared.Job.{Job}
use Rattle.peg_run.specs.declared.Status.{Status}
use Rattle.peg_run.specs.declared.Status.TheVariants as status

abbrev pub job_in : List (String Global) → Option Job
job_in words = job_of (map string_bytes words)

-- what was appended is linearizable, and its lines answer its operations, whatever the source told
abbrev pub ShowsRegisters : List ℕ → List ℕ → Type 0
ShowsRegisters before now =
    (output : List ℕ) × (now ≡ before ++ output) × (plain : IsLinearizable output)
    × AreTold plain.trace plain.ops

-- ---- the ends

-- the input was read to the line end, and the whole text was appended
pub record IsDone (left left' held held' : Option (List ℕ)) : Type 0 where
  pub rack : Rack
  pub keys : List (List ℕ)
  pub events : List Event
  pub spelled : AreSpelled (Lines rack keys events)
  pub within : IsWithin (Lines rack keys events)
  pub read : Tells left left'
      (λ input rest. (tail : List ℕ) × IsRead (Lines rack keys events) input tail
      × (line_of tail ≡ codes "end"))
  pub written : Tells held held' (Appends (replay_text rack keys events))

-- the first line that isn't accepted
pub record IsBadAt (line : ℕ) (left left' held held' : Option (List ℕ)) : Type 0 where
  pub front : Front
  pub place : line ≡ count_of front + 1
  pub spelled : AreSpelled front
  pub within : IsWithin front
  pub read : Tells left left'
      (λ input rest. (tail : List ℕ) × IsRead front input tail × IsRefused front tail)
  pub written : Tells held held' (Appends (text_of front))

-- the first line past a limit
pub record IsTooMuchAt (line : ℕ) (left left' held held' : Option (List ℕ)) : Type 0 where
  pub rack : Rack
  pub keys : List (List ℕ)
  pub events : List Event
  pub e : Event
  pub place : line ≡ length events + 2
  pub spelled : AreSpelled (Lines rack keys (events ++ e ∷ []))
  pub within : IsWithin (Lines rack keys events)
  pub past : IsWithin (Lines rack keys (events ++ e ∷ [])) → ⊥
  pub read : Tells left left'
      (λ input rest. (tail : List ℕ) × IsRead (Lines rack keys events) input tail
      × IsEventLine rack (line_of tail) e × (length (line_of tail) ≤ line_most rack.format))
  pub written : Tells held held' (Appends (text_of (Lines rack keys events)))

-- all whole lines that were read are written, each with its line feed, and what was taken behind
-- them is a part of a line
pub record IsUnread (left left' held held' : Option (List ℕ)) : Type 0 where
  pub front : Front
  pub spelled : AreSpelled front
  pub within : IsWithin front
  pub read : Tells left left'
      (λ input rest. (part : List ℕ) × IsRead front input (part ++ rest) × HasNoFeed part)
  pub fed : Tells left left' (λ input rest. AreFed (count_of front) input)
  pub written : Tells held held' (Appends (text_of front))

-- so much is written of the text of the lines that were read, or of the whole text
pub record IsCut (W : List ℕ → List ℕ → List ℕ → Type 0)
    (left left' held held' : Option (List ℕ)) : Type 0 where
  pub front : Front
  pub spelled : AreSpelled front
  pub within : IsWithin front
  pub is_ended : Bool
  pub read : Tells left left'
      (λ input rest. (tail : List ℕ) × IsRead front input tail
      × (is_ended ≡ true → line_of tail ≡ codes "end"))
  pub written : Tells held held' (W (if is_ended then whole_of front else text_of front))

-- fewer than all bytes of it
abbrev pub IsUnwritten :
    Option (List ℕ) → Option (List ℕ) → Option (List ℕ) → Option (List ℕ) → Type 0
IsUnwritten left left' held held' = IsCut WritesSome left left' held held'

-- a first part of it
abbrev pub IsOutOfMemory :
    Option (List ℕ) → Option (List ℕ) → Option (List ℕ) → Option (List ℕ) → Type 0
IsOutOfMemory left left' held held' = IsCut AppendsPart left left' held held'

-- ---- how far the bytes that were taken go

-- behind these lines and one more
abbrev pub IsNearLine : Front → List ℕ → List ℕ → Type 0
IsNearLine front input rest =
    (tail : List ℕ) × IsRead front input tail × IsNear (past_line tail) rest

-- where the one more is too long, behind the byte that makes it so
abbrev pub IsNearBad : Front → List ℕ → List ℕ → Type 0
IsNearBad front input rest =
    (tail : List ℕ) × IsRead front input tail
    × (length (line_of tail) ≤ limit_of front → IsNear (past_line tail) rest)
    × (limit_of front < length (line_of tail) → IsNear (drop (limit_of front + 1) tail) rest)

pub record IsNearDone (left left' : Option (List ℕ)) : Type 0 where
  pub front : Front
  pub near : Tells left left'
      (λ input rest. (tail : List ℕ) × IsRead front input tail × (line_of tail ≡ codes "end")
      × IsNear (past_line tail) rest)

pub record IsNearBadAt (line : ℕ) (left left' : Option (List ℕ)) : Type 0 where
  pub front : Front
  pub place : line ≡ count_of front + 1
  pub near : Tells left left' (IsNearBad front)

pub record IsNearTooMuchAt (line : ℕ) (left left' : Option (List ℕ)) : Type 0 where
  pub front : Front
  pub place : line ≡ count_of front + 1
  pub near : Tells left left' (IsNearLine front)

-- the lines of the front are wholly written, so that no line before the one behind them is the
-- first that isn't
pub record IsNearUnwritten (left left' held held' : Option (List ℕ)) : Type 0 where
  pub front : Front
  pub spelled : AreSpelled front
  pub near : Tells left left' (IsNearLine front)
  pub written : Tells held held' (AppendsMore (text_of front))

-- ---- by status

-- where a status speaks of lines, the bytes that were taken end at most 4,095 bytes past the line
-- feed of the last of them: of the line end, of the line at fault or past the limit, or of the
-- first line whose text isn't wholly written
abbrev pub IsAhead :
    Status → Option (List ℕ) → Option (List ℕ) → Option (List ℕ) → Option (List ℕ) → Type 0
IsAhead status.Done left left' held held' = IsNearDone left left'
IsAhead (status.BadInput line) left left' held held' = IsNearBadAt line left left'
IsAhead (status.TooMuch line) left left' held held' = IsNearTooMuchAt line left left'
IsAhead status.WriteFault left left' held held' = IsNearUnwritten left left' held held'
IsAhead _ left left' held held' = Unit {0}

abbrev pub Ended :
    Status → Option (List ℕ) → Option (List ℕ) → Option (List ℕ) → Option (List ℕ) → Type 0
Ended status.Done left left' held held' =
    IsDone left left' held held' × IsNearDone left left'
Ended status.OutOfMemory left left' held held' = IsOutOfMemory left left' held held'
Ended status.Usage left left' held held' = ⊥
Ended status.ReadFault left left' held held' = IsUnread left left' held held'
Ended status.WriteFault left left' held held' =
    IsUnwritten left left' held held' × IsNearUnwritten left left' held held'
Ended status.WireFault left left' held held' = ⊥
Ended (status.BadInput line) left left' held held' =
    IsBadAt line left left' held held' × IsNearBadAt line left left'
    × Tells left left' (λ input rest. HasSchedule input → ⊥)
Ended (status.TooMuch line) left left' held held' =
    IsTooMuchAt line left left' held held' × IsNearTooMuchAt line left left'
    × Tells left left' (λ input rest. HasSchedule input → ⊥)

abbrev pub HasCause : Status → ℕ → ℕ → ℕ → ℕ → Type 0
HasCause status.ReadFault reads reads' writes writes' = Rose reads reads'
HasCause status.WriteFault reads reads' writes writes' = Rose writes writes'
HasCause _ reads reads' writes writes' = Unit {0}
