-- What holds where a session ends.
--     Told      what the source, the sink and the wire tell, and how many ports are bound
--     IsRead m start inputs input tail      the input begins with their lines
--     IsDone, IsBadAt, IsTooMuchAt, IsUnread, IsUnwritten, IsUnheard, IsCut      the ends
--     IsNearUnwritten      how far the bytes that were taken go where the sink failed
--     Ended m start before now end      all that holds at this end
--     HasCause end ..      a fault has its cause
--     IsAccepted m start input      the session takes all of the input, whatever turns come
--     IsComplete end ..      where nothing fails it is done, or there was no memory
use Rattle.std.specs.Prelude.{◌≡◌, ◌≢◌, ◌⊎◌, ◌≤◌, ◌<◌, ◌+◌, ℕ, Bool, true, false, Option, List}
use Rattle.std.specs.Prelude.{[], ◌++◌, length, drop}
use Rattle.peg_io.specs.Outside.{Tells, Appends, WritesSome, Rose}
use Rattle.peg_meaning.specs.Wire.{Carried, Turn, Sent}
use Rattle.peg_io.specs.Lines.{line_of, past_line, HasNoFeed, AreFed}
use Rattle.peg_session.specs.Pages.{AppendsPart, AppendsMore}
use Rattle.peg_meaning.specs.Session.{Meaning, Came, Past, Input, Entry, Datagram, Quiet, Tick, Inputs}
use Rattle.peg_meaning.specs.Session.{Begin, More, came_of, state_of, text_of, lines_of}
use Rattle.peg_meaning.specs.Session.{carried_of, heard_of, bound_more}
use Rattle.peg_meaning.specs.Session.{IsTurn, Spells, IsWanted, IsTaken}
use Rattle.peg_meaning.specs.declared.Want.{Want}
use Rattle.peg_meaning.specs.declared.Want.TheVariants as want
use Rattle.peg_session.specs.declared.End.{End}
use Rattle.peg_session.specs.declared.End.TheVariants as end

pub record Told : Type 0 where
  pub left : Option (List ℕ)
  pub held : Option (List ℕ)
  pub carried : Option Carried
  pub slots : ℕ

abbrev pub told : Option (List ℕ) → Option (List ℕ) → Option Carried → ℕ → Told
told left held carried slots =
    record { left = left; held = held; carried = carried; slots = slots }

-- ---- what was taken

-- what is taken of the bytes
abbrev pub IsReadBy : {S E : Type 0} → Meaning S E → S → Input E → List ℕ → List ℕ → Type 0
IsReadBy m s (Entry e) mid tail =
    (0 < length mid) × Spells m s (line_of mid) e × (tail ≡ past_line mid)
IsReadBy m s (Datagram bytes) mid tail = tail ≡ mid
IsReadBy m s Quiet mid tail = tail ≡ mid
IsReadBy m s Tick mid tail = tail ≡ mid

-- the last line may end with the input
abbrev pub IsRead : {S E : Type 0} → Meaning S E → Came S → Inputs E → List ℕ → List ℕ → Type 0
IsRead m start Begin input tail = input ≡ tail
IsRead m start (More inputs x) input tail =
    (mid : List ℕ) × IsRead m start inputs input mid
    × IsReadBy m (state_of m start inputs) x mid tail

-- at most 4,095 bytes of these were taken
abbrev pub IsNear : List ℕ → List ℕ → Type 0
IsNear bytes rest = (ahead : List ℕ) × (bytes ≡ ahead ++ rest) × (length ahead ≤ 4095)

-- the line is missing, too long or not accepted
abbrev pub IsRefused : {S E : Type 0} → Meaning S E → S → ℕ → Bool → List ℕ → Type 0
IsRefused {S} {E} m s limit optional tail =
    ((tail ≡ []) × (optional ≡ false))
    ⊎ ((limit < length (line_of tail))
    ⊎ ((0 < length tail) × ((e : E) → m.Reads s (line_of tail) e → ⊥)))

-- a refused line was taken, or of one that is too long what shows that
abbrev pub IsNearRefused : ℕ → List ℕ → List ℕ → Type 0
IsNearRefused limit tail rest =
    (length (line_of tail) ≤ limit → IsNear (past_line tail) rest)
    × (limit < length (line_of tail) → IsNear (drop (limit + 1) tail) rest)

-- ---- where a session may end

abbrev pub MayEnd : Want → Type 0
MayEnd (want.Line limit optional) = optional ≡ true
MayEnd (want.Turn slot room) = ⊥
MayEnd want.Step = ⊥
MayEnd want.Over = Unit {0}

abbrev pub IsEnd : Want → List ℕ → Type 0
IsEnd (want.Line limit optional) tail = tail ≡ []
IsEnd (want.Turn slot room) tail = ⊥
IsEnd want.Step tail = ⊥
IsEnd want.Over tail = Unit {0}

-- some of the ports were bound, and the next was not
abbrev pub BindsSome : List ℕ → Carried → Carried → Type 0
BindsSome ports c now =
    (part : List ℕ) × (unbound : List ℕ) × (ports ≡ part ++ unbound) × (unbound ≢ [])
    × (now ≡ bound_more part c)

-- no more was bound or sent than there, and one turn more may have been taken
pub record IsPart (whole now : Carried) : Type 0 where
  pub unbound : List ℕ
  pub unsent : List Sent
  pub turn : List Turn
  pub bound : whole.bound ≡ now.bound ++ unbound
  pub attempted : whole.attempted ≡ now.attempted ++ unsent
  pub turns : now.turns ≡ whole.turns ++ turn
  pub one : length turn ≤ 1

-- the same datagrams were sent
abbrev pub HaveSameSends : Carried → Carried → Type 0
HaveSameSends c now = now.attempted ≡ c.attempted

abbrev pub IsNext : Want → List ℕ → List ℕ → Type 0
IsNext (want.Line limit optional) tail rest = IsNear (past_line tail) rest
IsNext (want.Turn slot room) tail rest = IsNear tail rest
IsNext want.Step tail rest = IsNear tail rest
IsNext want.Over tail rest = IsNear tail rest

module _ {S E : Type 0} (m : Meaning S E) (start : Came S) (before now : Told) where
  abbrev pub IsWritten : Inputs E → Type 0
  IsWritten inputs = Tells before.held now.held (Appends (text_of m start inputs))

  abbrev pub IsCarried : Inputs E → Type 0
  IsCarried inputs =
      Tells before.carried now.carried
      (λ c n. n ≡ carried_of m start before.slots c inputs)

  -- all was taken that the session wants
  pub record IsDone : Type 0 where
    pub inputs : Inputs E
    pub taken : IsTaken m start inputs
    pub over : MayEnd (m.want (state_of m start inputs))
    pub read : Tells before.left now.left
        (λ input rest. (tail : List ℕ) × IsRead m start inputs input tail
        × IsEnd (m.want (state_of m start inputs)) tail × IsNear tail rest)
    pub written : IsWritten inputs
    pub carried : IsCarried inputs

  -- the first line that isn't accepted
  pub record IsBadAt (line : ℕ) : Type 0 where
    pub inputs : Inputs E
    pub taken : IsTaken m start inputs
    pub place : line ≡ lines_of inputs + 1
    pub limit : ℕ
    pub optional : Bool
    pub wanted : m.want (state_of m start inputs) ≡ want.Line limit optional
    pub read : Tells before.left now.left
        (λ input rest. (tail : List ℕ) × IsRead m start inputs input tail
        × IsRefused m (state_of m start inputs) limit optional tail
        × IsNearRefused limit tail rest)
    pub written : IsWritten inputs
    pub carried : IsCarried inputs

  -- the first line past a limit, or the one that was carried out at a turn past it
  pub record IsTooMuchAt (line : ℕ) : Type 0 where
    pub inputs : Inputs E
    pub x : Input E
    pub taken : IsTaken m start inputs
    pub wanted : IsWanted m (state_of m start inputs) x
    pub past : m.on (state_of m start inputs) x ≡ Past
    pub place : line ≡ lines_of (More inputs x)
    pub read : Tells before.left now.left
        (λ input rest. (tail : List ℕ) × IsRead m start (More inputs x) input tail
        × IsNear tail rest)
    pub written : IsWritten inputs
    pub carried : Tells before.carried now.carried
        (λ c n. n ≡ heard_of m start before.slots c (More inputs x))

  -- the source failed within a line, and each line before it had its line feed
  pub record IsUnread : Type 0 where
    pub inputs : Inputs E
    pub taken : IsTaken m start inputs
    pub limit : ℕ
    pub optional : Bool
    pub wanted : m.want (state_of m start inputs) ≡ want.Line limit optional
    pub read : Tells before.left now.left
        (λ input rest. (part : List ℕ) × IsRead m start inputs input (part ++ rest)
        × HasNoFeed part)
    pub fed : Tells before.left now.left (λ input rest. AreFed (lines_of inputs) input)
    pub written : IsWritten inputs
    pub carried : IsCarried inputs

  -- the wire failed: no turn was heard, or a port was not bound
  pub record IsUnheard : Type 0 where
    pub inputs : Inputs E
    pub taken : IsTaken m start inputs
    pub read : Tells before.left now.left
        (λ input rest. (tail : List ℕ) × IsRead m start inputs input tail × IsNear tail rest)
    pub written : IsWritten inputs
    pub carried : (IsTurn (m.want (state_of m start inputs)) × IsCarried inputs)
        ⊎ (((came_of m start inputs).binds ≢ []) × Tells before.carried now.carried
        (λ c n. BindsSome (came_of m start inputs).binds
        (heard_of m start before.slots c inputs) n))

  -- the sink failed: fewer than all bytes of the text were written
  pub record IsUnwritten : Type 0 where
    pub inputs : Inputs E
    pub taken : IsTaken m start inputs
    pub read : Tells before.left now.left
        (λ input rest. (tail : List ℕ) × IsRead m start inputs input tail)
    pub written : Tells before.held now.held (WritesSome (text_of m start inputs))
    pub carried : Tells before.carried now.carried
        (λ c n. IsPart (carried_of m start before.slots c inputs) n)

  -- a first part of all was written, bound and sent, or all of it
  pub record IsCut : Type 0 where
    pub inputs : Inputs E
    pub taken : IsTaken m start inputs
    pub read : Tells before.left now.left
        (λ input rest. (tail : List ℕ) × IsRead m start inputs input tail)
    pub written : Tells before.held now.held (AppendsPart (text_of m start inputs))
    pub carried : Tells before.carried now.carried
        (λ c n. IsPart (carried_of m start before.slots c inputs) n)

  -- the text of these was wholly written, and at most one line more was taken than theirs; no
  -- datagram was sent of a step behind them
  pub record IsNearUnwritten : Type 0 where
    pub front : Inputs E
    pub taken : IsTaken m start front
    pub near : Tells before.left now.left
        (λ input rest. (tail : List ℕ) × IsRead m start front input tail
        × IsNext (m.want (state_of m start front)) tail rest)
    pub written : Tells before.held now.held (AppendsMore (text_of m start front))
    pub sent : Tells before.carried now.carried
        (λ c n. HaveSameSends (carried_of m start before.slots c front) n)

  abbrev pub Ended : End → Type 0
  Ended end.Done = IsDone
  Ended end.OutOfMemory = IsCut
  Ended end.ReadFault = IsUnread
  Ended end.WriteFault = IsUnwritten × IsNearUnwritten
  Ended end.WireFault = IsUnheard
  Ended (end.BadInput line) = IsBadAt line
  Ended (end.TooMuch line) = IsTooMuchAt line

-- a fault has its cause: the faults of the source, of the sink and of the wire, before and now
abbrev pub HasCause : End → ℕ → ℕ → ℕ → ℕ → ℕ → ℕ → Type 0
HasCause end.ReadFault reads reads' writes writes' wires wires' = Rose reads reads'
HasCause end.WriteFault reads reads' writes writes' wires wires' = Rose writes writes'
HasCause end.WireFault reads reads' writes writes' wires wires' = Rose wires wires'
HasCause _ reads reads' writes writes' wires wires' = Unit {0}

-- ---- an input that is accepted

-- whatever turns come, each line of it is one that the session takes, and no step is past a limit
pub record IsAccepted {S E : Type 0} (m : Meaning S E) (start : Came S) (input : List ℕ) :
    Type 0 where
  pub lines : (inputs : Inputs E) (tail : List ℕ) (limit : ℕ) (optional : Bool)
      → IsTaken m start inputs → IsRead m start inputs input tail
      → m.want (state_of m start inputs) ≡ want.Line limit optional
      → IsRefused m (state_of m start inputs) limit optional tail → ⊥
  pub steps : (inputs : Inputs E) (x : Input E) (tail : List ℕ) → IsTaken m start inputs
      → IsRead m start (More inputs x) input tail → m.on (state_of m start inputs) x ≡ Past → ⊥

abbrev pub IsComplete : End → ℕ → ℕ → ℕ → ℕ → ℕ → ℕ → Type 0
IsComplete e reads reads' writes writes' wires wires' =
    (Rose reads reads' → ⊥) → (Rose writes writes' → ⊥) → (Rose wires wires' → ⊥)
    → (e ≡ end.Done) ⊎ (e ≡ end.OutOfMemory)
