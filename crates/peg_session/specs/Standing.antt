-- How a session stands between two steps. `before` is what was told when the call began, and `now`
-- what is told now.
--     IsFed      each line had its line feed, or the input has ended
--     IsAt      what was taken, where it stands, and what is written or lies on the page
--     Stands      between two steps
--     Waits      after a step, before its ports are bound and its datagrams sent
--     Steps      after a step: it stands again, or it ended
--     Stops      all on the page was written and the end is this, or the sink failed
--     IsMoored      what is known of the ports whatever is told
use Rattle.std.specs.Prelude.{◌≡◌, ◌≢◌, ◌⊎◌, ◌≤◌, ◌<◌, ◌+◌, ◌^◌, ℕ, Bool, true, false}
use Rattle.std.specs.Prelude.{Option, Some, None}
use Rattle.std.specs.Prelude.{List, [], ◌++◌, length}
use Rattle.peg_io.specs.Outside.{Tells, Appends, WritesSome}
use Rattle.peg_session.specs.Pages.{Moves}
use Rattle.peg_meaning.specs.Session.{Meaning, Came, Letter, Inputs, came_of, state_of, text_of}
use Rattle.peg_meaning.specs.Session.{lines_of, heard_of, carried_of}
use Rattle.peg_meaning.specs.Session.{Input, More}
use Rattle.peg_io.specs.Lines.{line_of, past_line, AreFed, ReadAhead}
use Rattle.peg_session.specs.Ends.{Told, IsRead, IsCarried, IsNearUnwritten, Ended, IsPart}
use Rattle.peg_meaning.specs.Session.{IsTaken}
use Rattle.peg_session.specs.Ends.{IsReadBy}
use Rattle.peg_meaning.specs.Session.{IsWanted}
use Rattle.peg_session.specs.declared.Stepped.{Stepped}
use Rattle.peg_session.specs.declared.Stepped.TheVariants as stepped
use Rattle.peg_meaning.specs.declared.Want.TheVariants as want
use Rattle.peg_session.specs.declared.End.{End}
use Rattle.peg_session.specs.declared.End.TheVariants as end
use Rattle.peg_session.specs.declared.desk.Desk.{Desk}

-- the input begins with the lines of these and of one more
abbrev pub IsReadOn :
    {S E : Type 0} → Meaning S E → Came S → Inputs E → Input E → List ℕ → List ℕ → Type 0
IsReadOn m start inputs x input tail =
    (mid : List ℕ) × IsRead m start inputs input mid
    × IsReadBy m (state_of m start inputs) x mid tail

-- each of so many lines had its line feed, unless the input has ended: then nothing is left
pub record IsFed (left left' : Option (List ℕ)) (lines : ReadAhead) (count : ℕ) : Type 0 where
  pub fed : lines.ended ≡ false → Tells left left' (λ input rest. AreFed count input)
  pub over : lines.ended ≡ true
      → (lines.held ≡ []) × Tells left left' (λ input rest. rest ≡ [])

module _ {S E : Type 0} (m : Meaning S E) (start : Came S) (before now : Told)
    (inputs : Inputs E) (s : S) (d : Desk) where
  pub record IsAt : Type 0 where
    pub taken : IsTaken m start inputs
    pub state : s ≡ state_of m start inputs
    pub place : d.place ≡ lines_of inputs
    pub slots : now.slots ≡ before.slots + d.bound
    pub written : Tells before.held now.held (Moves (text_of m start inputs) [] d.page)
    pub near : (d.page ≡ []) ⊎ IsNearUnwritten m start before now

  -- what is read ahead goes on behind what was taken
  pub record IsReadTo : Type 0 where
    pub bytes : Tells before.left now.left
        (λ input rest. IsRead m start inputs input (d.lines.held ++ rest))
    pub ahead : length d.lines.held ≤ 4095
    pub feeds : IsFed before.left now.left d.lines (lines_of inputs)

  pub record Stands : Type 0 where
    pub at : IsAt
    pub read : IsReadTo
    pub carried : IsCarried m start before now inputs

  pub record Waits (binds : List ℕ) (letters : List Letter) : Type 0 where
    pub at : IsAt
    pub read : IsReadTo
    pub to_bind : binds ≡ (came_of m start inputs).binds
    pub to_send : letters ≡ (came_of m start inputs).letters
    pub heard : Tells before.carried now.carried
        (λ c n. n ≡ heard_of m start before.slots c inputs)

  -- a line is in place; what is read ahead goes on behind it
  pub record HasLine : Type 0 where
    pub at : IsAt
    pub fresh : IsNearUnwritten m start before now
    pub limit : ℕ
    pub optional : Bool
    pub wanted : m.want (state_of m start inputs) ≡ want.Line limit optional
    pub short : length d.lines.line ≤ limit
    pub read : Tells before.left now.left
        (λ input rest. (tail : List ℕ) × IsRead m start inputs input tail × (0 < length tail)
        × (d.lines.line ≡ line_of tail) × (d.lines.held ++ rest ≡ past_line tail))
    pub ahead : length d.lines.held ≤ 4095
    pub feeds : IsFed before.left now.left d.lines (lines_of inputs + 1)
    pub carried : IsCarried m start before now inputs

  -- an input was taken, and not yet handed over
  pub record HasTaken (x : Input E) : Type 0 where
    pub at : IsAt
    pub fresh : IsNearUnwritten m start before now
    pub wanted : IsWanted m (state_of m start inputs) x
    pub read : Tells before.left now.left
        (λ input rest. IsReadOn m start inputs x input (d.lines.held ++ rest))
    pub ahead : length d.lines.held ≤ 4095
    pub feeds : IsFed before.left now.left d.lines (lines_of (More inputs x))
    pub heard : Tells before.carried now.carried
        (λ c n. n ≡ heard_of m start before.slots c (More inputs x))

abbrev pub Steps :
    {S E : Type 0} → Meaning S E → Came S → Told → Told → S → Desk → Option End → Type 0
Steps {S} {E} m start before now s d None =
    (inputs : Inputs E) × Stands m start before now inputs s d
Steps m start before now s d (Some e) = Ended m start before now e

abbrev pub Stops : End → End → List ℕ → Option (List ℕ) → Option (List ℕ) → Type 0
Stops wanted answer page held held' =
    ((answer ≡ wanted) × Tells held held' (Appends page))
    ⊎ ((answer ≡ end.WriteFault) × (page ≢ []) × Tells held held' (WritesSome page))

-- the session is to end so, once the page is written; if the sink fails, these were taken
pub record Closes {S E : Type 0} (m : Meaning S E) (start : Came S) (before now : Told)
    (page : List ℕ) (wanted : End) : Type 0 where
  pub inputs : Inputs E
  pub taken : IsTaken m start inputs
  pub read : Tells before.left now.left
      (λ input rest. (tail : List ℕ) × IsRead m start inputs input tail)
  pub written : Tells before.held now.held (Moves (text_of m start inputs) [] page)
  pub near : (page ≡ []) ⊎ IsNearUnwritten m start before now
  pub carried : Tells before.carried now.carried
      (λ c n. IsPart (carried_of m start before.slots c inputs) n)
  pub clean : (h : Option (List ℕ)) → Tells before.held h (Appends (text_of m start inputs))
      → Ended m start before (record now { held = h }) wanted

-- what a step came to, before the rest of it is carried out
abbrev pub Settles :
    {S E : Type 0} → Meaning S E → Came S → Told → Told → S → Desk → List ℕ → List Letter
    → Stepped → Type 0
Settles {S} {E} m start before now s d binds letters stepped.Goes =
    (inputs : Inputs E) × Waits m start before now inputs s d binds letters
Settles {S} {E} m start before now s d binds letters stepped.Refused =
    Closes m start before now d.page (end.BadInput d.place)
Settles {S} {E} m start before now s d binds letters stepped.Past =
    Closes m start before now d.page (end.TooMuch d.place)
Settles {S} {E} m start before now s d binds letters stepped.OutOfMemory =
    Closes m start before now d.page end.OutOfMemory
Settles {S} {E} m start before now s d binds letters stepped.Unwritten =
    Ended m start before now end.WriteFault

-- where a port is bound, the slots are the session's own from the first one on
abbrev pub IsMoored : ℕ → ℕ → ℕ → Type 0
IsMoored base bound slots =
    0 < bound → (slots ≡ base + bound) × (slots ≤ 2 ^ 32)

-- what the loop keeps whatever is told, where so many ports are still to be bound
pub record IsFit (pending ports rank slots : ℕ) (d : Desk) : Type 0 where
  pub all_ports : ports ≡ d.bound + pending
  pub few : d.place + rank + 1 < 2 ^ 64
  pub moored : IsMoored d.base d.bound slots
