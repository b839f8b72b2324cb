-- Lines of an input that is read ahead.
--     ReadAhead      the bytes that were taken and not given yet, the last line, and whether the
--         input has ended
--     line_of input      the bytes before the first line feed, or all of them
--     past_line input      the bytes after the first line feed, or none
--     has_feed input      whether a line feed is among them
--     past_lines n input      the bytes after the first n lines
--     AreFed n input      each of the first n lines ended with a line feed
--     Gives answer limit before now left, Keeps answer limit now      what an answer says of the
--         input before it, the line and the input after it
use Rattle.std.specs.Prelude.{◌≡◌, ◌≢◌, ◌<◌, ◌≤◌, ◌+◌, ◌==◌, ℕ, Bool, true, false, not, nat_lt}
use Rattle.std.specs.Prelude.{Option, Some, None, zero, suc}
use Rattle.std.specs.Prelude.{List, [], ◌∷◌, ◌++◌, length, slice_range, if◌then◌else◌}
use Rattle.std.specs.List.{AllByRecursion}
use Rattle.peg_io.specs.Outside.{Tells, Takes, AreNone, Stays}
use Rattle.peg_io.specs.declared.Got.{Got}
use Rattle.peg_io.specs.declared.Got.TheVariants as got
use Rattle.peg_io.specs.declared.lines.NextLine.{NextLine}
use Rattle.peg_io.specs.declared.lines.NextLine.TheVariants as next

pub record ReadAhead : Type 0 where
  pub held : List ℕ
  pub line : List ℕ
  pub ended : Bool

abbrev pub line_of : List ℕ → List ℕ
line_of [] = []
line_of (b ∷ input) = if b == 10 then [] else b ∷ line_of input

abbrev pub past_line : List ℕ → List ℕ
past_line [] = []
past_line (b ∷ input) = if b == 10 then input else past_line input

abbrev pub has_feed : List ℕ → Bool
has_feed input = nat_lt (length (line_of input)) (length input)

abbrev pub past_lines : ℕ → List ℕ → List ℕ
past_lines zero input = input
past_lines (suc n) input = past_line (past_lines n input)

abbrev pub AreFed : ℕ → List ℕ → Type 0
AreFed n input = (i : ℕ) → i < n → has_feed (past_lines i input) ≡ true

-- how a reader lies in memory; so many bytes stand before the first line feed
pub record InPlace (buf : List ℕ) (start end : ℕ) (line : List ℕ) (len feed : ℕ)
    (ended : Bool) : Type 0 where
  pub ordered : start ≤ end
  pub in_buffer : end ≤ 4096
  pub in_line : len ≤ 4096
  pub buffer : length buf ≡ 4096
  pub place : length line ≡ 4096
  pub ahead : feed ≡ length (line_of (slice_range buf start end))
  pub none : ended ≡ true → start ≡ end

-- bytes of one line
abbrev pub HasNoFeed : List ℕ → Type 0
HasNoFeed bytes = AllByRecursion (λ b. b ≢ 10) bytes

-- a line was there, and it and its line feed were taken; it has none where the input has ended
pub record GivesLine (limit : ℕ) (before : List ℕ) (now : ReadAhead) (left : List ℕ) :
    Type 0 where
  pub more : 0 < length before
  pub fits : length now.line ≤ limit
  pub bytes : now.line ≡ line_of before
  pub rest : now.held ++ left ≡ past_line before
  pub feed : has_feed before ≡ not now.ended

-- the line has more than `limit` bytes, so many of which were taken
pub record GivesTooLong (limit : ℕ) (before : List ℕ) (now : ReadAhead) (left : List ℕ) :
    Type 0 where
  pub long : limit < length (line_of before)
  pub taken : length now.line ≡ limit
  pub rest : before ≡ now.line ++ (now.held ++ left)

-- the source failed within a line, the taken bytes of which are kept
pub record GivesPart (limit : ℕ) (before : List ℕ) (now : ReadAhead) (left : List ℕ) :
    Type 0 where
  pub part : HasNoFeed now.line
  pub fits : length now.line ≤ limit
  pub rest : before ≡ now.line ++ (now.held ++ left)

abbrev pub Gives : NextLine → ℕ → List ℕ → ReadAhead → List ℕ → Type 0
Gives next.Line limit before now left = GivesLine limit before now left
Gives next.TooLong limit before now left = GivesTooLong limit before now left
Gives next.End limit before now left = (before ≡ []) × (now.held ++ left ≡ [])
Gives next.Failed limit before now left = GivesPart limit before now left

-- a line that lies in place, and how far the bytes taken go past its line feed
pub record HasLine (limit : ℕ) (now : ReadAhead) : Type 0 where
  pub part : HasNoFeed now.line
  pub fits : length now.line ≤ limit
  pub near : length now.held ≤ 4095
  pub none : now.ended ≡ true → now.held ≡ []

-- the front of a line that is too long; the byte that makes it so is the first of those read ahead
pub record HasFront (limit : ℕ) (now : ReadAhead) : Type 0 where
  pub part : HasNoFeed now.line
  pub full : length now.line ≡ limit
  pub more : 0 < length (line_of now.held)
  pub near : length now.held ≤ 4096
  pub goes_on : now.ended ≡ false

-- a part of a line whose rest could not be read
pub record HasPart (limit : ℕ) (now : ReadAhead) : Type 0 where
  pub none : now.held ≡ []
  pub part : HasNoFeed now.line
  pub fits : length now.line ≤ limit
  pub goes_on : now.ended ≡ false

-- what holds after an answer whether the source tells or not
abbrev pub Keeps : NextLine → ℕ → ReadAhead → Type 0
Keeps next.Line limit now = HasLine limit now
Keeps next.TooLong limit now = HasFront limit now
Keeps next.End limit now = now ≡ record { held = []; line = []; ended = true }
Keeps next.Failed limit now = HasPart limit now

-- ---- the parts of one call

-- what a read into an empty buffer left there
abbrev pub Fills : Got → List ℕ → Option (List ℕ) → Option (List ℕ) → Type 0
Fills (got.Bytes n) held before now =
    (0 < length held) × (length held ≤ 4096) × Tells before now (Takes held)
Fills got.End held before now = (held ≡ []) × Tells before now AreNone
Fills got.Failed held before now = (held ≡ []) × Tells before now Stays

-- whether a read says that the input has ended
abbrev pub EndsAt : Got → Bool → Type 0
EndsAt (got.Bytes n) ended = ended ≡ false
EndsAt got.End ended = ended ≡ true
EndsAt got.Failed ended = ended ≡ false

-- something is read ahead now
pub record HasMore (old now : ReadAhead) (before left : Option (List ℕ)) : Type 0 where
  pub more : 0 < length now.held
  pub goes_on : (old.ended ≡ false) × (now.ended ≡ false)
  pub line : now.line ≡ old.line
  pub same : Tells before left (λ b n. old.held ++ b ≡ now.held ++ n)

-- nothing is read ahead, and nothing could be read
pub record HasNoMore (old now : ReadAhead) : Type 0 where
  pub none : old.held ≡ []
  pub still : now.held ≡ []
  pub line : now.line ≡ old.line

abbrev pub IsReady : Got → ReadAhead → ReadAhead → Option (List ℕ) → Option (List ℕ) → Type 0
IsReady (got.Bytes n) old now before left = HasMore old now before left
IsReady got.End old now before left =
    HasNoMore old now × (now.ended ≡ true) × (old.ended ≡ false → Tells before left AreNone)
IsReady got.Failed old now before left =
    HasNoMore old now × (now.ended ≡ false) × Tells before left Stays

-- all that was read ahead belongs to the line
pub record TakesAll (limit : ℕ) (old now : ReadAhead) : Type 0 where
  pub part : HasNoFeed old.held
  pub line : now.line ≡ old.line ++ old.held
  pub none : now.held ≡ []
  pub fits : length now.line ≤ limit

-- the line ends within what was read ahead
pub record TakesLine (limit : ℕ) (old now : ReadAhead) : Type 0 where
  pub feed : length (line_of old.held) < length old.held
  pub line : now.line ≡ old.line ++ line_of old.held
  pub rest : now.held ≡ past_line old.held
  pub fits : length now.line ≤ limit
  pub near : length now.held ≤ 4095

-- the line has more bytes than the limit
pub record TakesFront (limit : ℕ) (old now : ReadAhead) : Type 0 where
  pub long : limit < length old.line + length (line_of old.held)
  pub rest : old.line ++ old.held ≡ now.line ++ now.held
  pub full : length now.line ≡ limit
  pub near : length now.held ≤ 4096

abbrev pub TakesPart : Option NextLine → ℕ → ReadAhead → ReadAhead → Type 0
TakesPart None limit old now = TakesAll limit old now
TakesPart (Some next.Line) limit old now = TakesLine limit old now
TakesPart (Some next.TooLong) limit old now = TakesFront limit old now
TakesPart (Some next.End) limit old now = ⊥
TakesPart (Some next.Failed) limit old now = ⊥
