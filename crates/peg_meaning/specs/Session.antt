-- A word that reads lines and takes turns of a wire, as a session: it says what it wants next, and
-- what it makes of what it takes.
--     Letter      a datagram to be sent: the place of the port it leaves from, where it goes, bytes
--     Came      what a step came to: the state after, the text, the ports that it binds, and the
--         datagrams that it sends
--     Answer      that, or that a limit is passed
--     Input      what is taken: what a line says, a datagram, a pause, or nothing (a step of its
--         own)
--     Inputs      what was taken, the last at the end
--     Meaning      what is wanted in a state, what a line says there, and what comes of it
--     begun, at_port, quietly, saying, behind, port_of, room, posted      leaves that the words
--         share
--     came_of, state_of, text_of, carried_of, lines_of m start inputs      the fold: the last step,
--         the state after, the whole text, what the wire carried and how many lines were taken
--     binds_of, turns_of, sends_of, CarriesOn      what the wire carried, list by list
--     IsTaken m start inputs      these are inputs as the session wants them
--     listed inputs      a list as what was taken
--     entries_of, receipts_of inputs      what the lines said, and what the turns gave, in order
use Rattle.std.specs.Prelude.{◌≡◌, ◌≤◌, ◌+◌, ℕ, Bool, Option, Some, None, List, [], ◌∷◌, ◌++◌}
use Rattle.std.specs.Prelude.{length, map}
use Rattle.std.specs.Borrow.{Bor}
use Rattle.peg_name.specs.Name.{packet_most}
use Rattle.peg_name.specs.declared.Format.{Format}
use Rattle.peg_name.specs.declared.Node.{Node}
use Rattle.peg_name.specs.declared.Node.TheVariants as node
use Rattle.peg_meaning.specs.declared.Want.{Want}
use Rattle.peg_meaning.specs.declared.Want.TheVariants as want
use Rattle.peg_model.specs.Packet.{Packet}
use Rattle.peg_model.specs.Datagrams.{spelled}
use Rattle.peg_meaning.specs.Wire as wire
use Rattle.peg_meaning.specs.Wire.{Turn, Sent, Carried, with_turn}

pub record Letter : Type 0 where
  pub slot : ℕ
  pub port : ℕ
  pub bytes : List ℕ

-- a datagram as it is handed over
abbrev pub letter_read : (ℕ × ℕ × Bor (List ℕ)) → Letter
letter_read l = record { slot = l.0; port = l.1; bytes = l.2.now }

pub record Came (S : Type 0) : Type 0 where
  pub state : S
  pub text : List ℕ
  pub binds : List ℕ
  pub letters : List Letter

pub data Answer (S : Type 0) : Type 0 where
  Goes : (came : Came S) → Answer S
  Past : Answer S

pub data Input (E : Type 0) : Type 0 where
  Entry : (e : E) → Input E
  Datagram : (bytes : List ℕ) → Input E
  Quiet : Input E
  Tick : Input E

pub data Inputs (E : Type 0) : Type 0 where
  Begin : Inputs E
  More : (inputs : Inputs E) (input : Input E) → Inputs E

pub record Meaning (S E : Type 0) : Type 1 where
  pub want : S → Want
  pub Reads : S → List ℕ → E → Type 0
  pub on : S → Input E → Answer S

-- ---- leaves that the words share

-- a session as it begins: it has said nothing
abbrev pub begun : {S : Type 0} → S → List ℕ → List Letter → Came S
begun s binds letters = record { state = s; text = []; binds = binds; letters = letters }

abbrev pub quietly : {S : Type 0} → S → Came S
quietly s = begun s [] []

abbrev pub saying : {S : Type 0} → S → List ℕ → Came S
saying s text = record { state = s; text = text; binds = []; letters = [] }

-- what was written and sent first, and then this
abbrev pub behind : {S : Type 0} → List ℕ → List Letter → Came S → Came S
behind text letters came =
    record {
      state = came.state;
      text = text ++ came.text;
      binds = came.binds;
      letters = letters ++ came.letters;
    }

abbrev pub port_of : ℕ → Node → ℕ
port_of base node.Controller = base
port_of base (node.Switch id) = base + 1 + id
port_of base (node.Server id) = base + 8 + id
port_of base (node.Client id) = base + 128 + id

-- a node that begins by binding its port
abbrev pub at_port : {S : Type 0} → ℕ → Node → S → Came S
at_port base name s = begun s (port_of base name ∷ []) []

-- one byte more than a packet may have: the wire cuts a longer datagram to it
abbrev pub room : Format → ℕ
room format = packet_most format + 1

abbrev pub letter_to : ℕ → ℕ → (Node × List ℕ) → Letter
letter_to slot base item =
    record { slot = slot; port = port_of base item.0; bytes = item.1 }

-- an outbox goes out from one slot, each packet to the port of its node
abbrev pub posted : ℕ → ℕ → Format → List (Node × Packet) → List Letter
posted slot base format sent = map (letter_to slot base) (spelled format sent)

-- ---- the fold

abbrev pub after : {S : Type 0} → S → Answer S → Came S
after s (Goes came) = came
after s Past = begun s [] []

abbrev pub came_of : {S E : Type 0} → Meaning S E → Came S → Inputs E → Came S
came_of m start Begin = start
came_of m start (More inputs x) =
    after (came_of m start inputs).state (m.on (came_of m start inputs).state x)

abbrev pub state_of : {S E : Type 0} → Meaning S E → Came S → Inputs E → S
state_of m start inputs = (came_of m start inputs).state

abbrev pub text_of : {S E : Type 0} → Meaning S E → Came S → Inputs E → List ℕ
text_of m start Begin = start.text
text_of m start (More inputs x) =
    text_of m start inputs ++ (came_of m start (More inputs x)).text

abbrev pub lines_of : {E : Type 0} → Inputs E → ℕ
lines_of Begin = 0
lines_of (More inputs (Entry e)) = lines_of inputs + 1
lines_of (More inputs (Datagram bytes)) = lines_of inputs
lines_of (More inputs Quiet) = lines_of inputs
lines_of (More inputs Tick) = lines_of inputs

abbrev pub datagrams_in : {E : Type 0} → Inputs E → ℕ
datagrams_in Begin = 0
datagrams_in (More inputs (Entry e)) = datagrams_in inputs
datagrams_in (More inputs (Datagram bytes)) = datagrams_in inputs + 1
datagrams_in (More inputs Quiet) = datagrams_in inputs
datagrams_in (More inputs Tick) = datagrams_in inputs

-- ---- what the wire carries. `base` is how many ports were bound before the session

abbrev pub sent_from : ℕ → ℕ → Letter → Sent
sent_from base turn l =
    record { turn = turn; slot = base + l.slot; port = l.port; bytes = l.bytes }

abbrev pub bound_more : List ℕ → Carried → Carried
bound_more ports c = record c { bound = c.bound ++ ports }

abbrev pub sent_more : ℕ → List Letter → Carried → Carried
sent_more base letters c =
    record c { attempted = c.attempted ++ map (sent_from base (length c.turns)) letters }

abbrev pub puts : {S : Type 0} → ℕ → Came S → Carried → Carried
puts base came c = sent_more base came.letters (bound_more came.binds c)

abbrev pub hears : {E : Type 0} → ℕ → Want → Input E → Carried → Carried
hears base (want.Turn slot room) (Datagram bytes) c =
    with_turn c (wire.Datagram (base + slot) bytes)
hears base (want.Turn slot room) Quiet c = with_turn c (wire.Pause (base + slot))
hears base _ _ c = c

abbrev pub carried_of :
    {S E : Type 0} → Meaning S E → Came S → ℕ → Carried → Inputs E → Carried
carried_of m start base c Begin = puts base start c
carried_of m start base c (More inputs x) =
    puts base (came_of m start (More inputs x))
    (hears base (m.want (state_of m start inputs)) x (carried_of m start base c inputs))

-- before the ports and datagrams of the last step
abbrev pub heard_of :
    {S E : Type 0} → Meaning S E → Came S → ℕ → Carried → Inputs E → Carried
heard_of m start base c Begin = c
heard_of m start base c (More inputs x) =
    hears base (m.want (state_of m start inputs)) x (carried_of m start base c inputs)

-- ---- the same, list by list. `turn` is how many turns there were before the session

abbrev pub binds_of : {S E : Type 0} → Meaning S E → Came S → Inputs E → List ℕ
binds_of m start Begin = start.binds
binds_of m start (More inputs x) =
    binds_of m start inputs ++ (came_of m start (More inputs x)).binds

abbrev pub turn_of : {E : Type 0} → ℕ → Want → Input E → List Turn
turn_of base (want.Turn slot room) (Datagram bytes) = wire.Datagram (base + slot) bytes ∷ []
turn_of base (want.Turn slot room) Quiet = wire.Pause (base + slot) ∷ []
turn_of base _ _ = []

abbrev pub turns_of : {S E : Type 0} → Meaning S E → Came S → ℕ → Inputs E → List Turn
turns_of m start base Begin = []
turns_of m start base (More inputs x) =
    turns_of m start base inputs ++ turn_of base (m.want (state_of m start inputs)) x

abbrev pub sends_of : {S E : Type 0} → Meaning S E → Came S → ℕ → ℕ → Inputs E → List Sent
sends_of m start base turn Begin = map (sent_from base turn) start.letters
sends_of m start base turn (More inputs x) =
    sends_of m start base turn inputs
    ++ map (sent_from base (turn + length (turns_of m start base (More inputs x))))
    (came_of m start (More inputs x)).letters

-- the wire carried what the session asked of it, and no more
pub record CarriesOn {S E : Type 0} (m : Meaning S E) (start : Came S) (base : ℕ)
    (inputs : Inputs E) (before now : Carried) : Type 0 where
  pub bound : now.bound ≡ before.bound ++ binds_of m start inputs
  pub turns : now.turns ≡ before.turns ++ turns_of m start base inputs
  pub attempted :
      now.attempted ≡ before.attempted ++ sends_of m start base (length before.turns) inputs

-- ---- what a session takes

abbrev pub IsLineOf : Want → ℕ → Type 0
IsLineOf (want.Line limit optional) n = n ≤ limit
IsLineOf _ n = ⊥

abbrev pub IsTurn : Want → Type 0
IsTurn (want.Turn slot room) = Unit {0}
IsTurn _ = ⊥

-- a datagram of so many bytes
abbrev pub IsTurnOf : Want → ℕ → Type 0
IsTurnOf (want.Turn slot room) n = n ≤ room
IsTurnOf _ n = ⊥

abbrev pub IsStep : Want → Type 0
IsStep want.Step = Unit {0}
IsStep _ = ⊥

-- a line says this and nothing else
pub record IsOnly {S E : Type 0} (m : Meaning S E) (s : S) (line : List ℕ) (e : E) :
    Type 0 where
  pub is : m.Reads s line e
  pub only : (other : E) → m.Reads s line other → other ≡ e

-- a line that is wanted
pub record Spells {S E : Type 0} (m : Meaning S E) (s : S) (line : List ℕ) (e : E) :
    Type 0 where
  pub limit : ℕ
  pub optional : Bool
  pub wanted : m.want s ≡ want.Line limit optional
  pub only : IsOnly m s line e
  pub short : length line ≤ limit

abbrev pub IsWanted : {S E : Type 0} → Meaning S E → S → Input E → Type 0
IsWanted m s (Entry e) = (line : List ℕ) × Spells m s line e
IsWanted m s (Datagram bytes) = IsTurnOf (m.want s) (length bytes)
IsWanted m s Quiet = IsTurn (m.want s)
IsWanted m s Tick = IsStep (m.want s)

-- the step goes on
abbrev pub DoesGo : {S E : Type 0} → Meaning S E → S → Input E → Type 0
DoesGo {S} {E} m s x = (came : Came S) × (m.on s x ≡ Goes came)

abbrev pub IsTaken : {S E : Type 0} → Meaning S E → Came S → Inputs E → Type 0
IsTaken m start Begin = Unit {0}
IsTaken m start (More inputs x) =
    IsTaken m start inputs × IsWanted m (state_of m start inputs) x
    × DoesGo m (state_of m start inputs) x

-- ---- lists of inputs

abbrev pub listed_on : {E : Type 0} → Inputs E → List (Input E) → Inputs E
listed_on inputs [] = inputs
listed_on inputs (x ∷ xs) = listed_on (More inputs x) xs

abbrev pub listed : {E : Type 0} → List (Input E) → Inputs E
listed xs = listed_on Begin xs

-- ---- what was taken, of each kind

abbrev pub entry_in : {E : Type 0} → Input E → List E
entry_in (Entry e) = e ∷ []
entry_in _ = []

-- a datagram, or none for a pause
abbrev pub receipt_in : {E : Type 0} → Input E → List (Option (List ℕ))
receipt_in (Datagram bytes) = Some bytes ∷ []
receipt_in Quiet = None ∷ []
receipt_in _ = []

abbrev pub gathered : {E X : Type 0} → (Input E → List X) → Inputs E → List X
gathered f Begin = []
gathered f (More inputs x) = gathered f inputs ++ f x

abbrev pub entries_of : {E : Type 0} → Inputs E → List E
entries_of inputs = gathered entry_in inputs

abbrev pub receipts_of : {E : Type 0} → Inputs E → List (Option (List ℕ))
receipts_of inputs = gathered receipt_in inputs
