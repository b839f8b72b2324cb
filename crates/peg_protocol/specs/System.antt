-- The whole machine: clients, switches, servers, the controller, and every packet that was ever
-- sent.
-- What is known of a node is a function of its number, a function for each field.
use Rattle.std.specs.Prelude.{ℕ, zero, suc, ◌+◌, Bool, true, false, ◌&&◌, ◌||◌, not, if◌then◌else◌}
use Rattle.std.specs.Prelude.{nat_lt, nat_le, ◌==◌, List, [], ◌∷◌, ◌++◌, length, slice_get}
use Rattle.std.specs.Prelude.{slice_index, Option, Some, None, filter}
use Rattle.std.specs.List.{list_any}
use Rattle.peg_protocol.specs.Packet.{What, Promote, Demote, Copy, Seal, FenceKey, Clear, Outcome}
use Rattle.peg_protocol.specs.Packet.{Listed, Already, Full, Marked, NotListed, AlreadyMarked}
use Rattle.peg_protocol.specs.Packet.{Ordered, Holds, Activated, Fenced, NoBase, NoVersion, Cleared}
use Rattle.peg_protocol.specs.Packet.{Packet, Node, Item, item, Read, Write, ToServerRead}
use Rattle.peg_protocol.specs.Packet.{ToServerWrite, ReadReply, WriteReply, CopyOrder, CopyData}
use Rattle.peg_protocol.specs.Packet.{Held, Fence, Void, Command, Ack, Part, Announce, Other}
use Rattle.peg_protocol.specs.Packet.{Client, Switch, Server, Controller}
use Rattle.peg_protocol.specs.Core.{at_one, at_two, top, Rack, Entry, Core, entry_of, Stamp, New}
use Rattle.peg_protocol.specs.Core.{Same, Stale, Exhausted, stamp, read_server, write_server, note}
use Rattle.peg_protocol.specs.Core.{open_row, lists, promote, promotions, demote, first_entries}
use Rattle.peg_protocol.specs.Machine.{Act, Plan, Answer, Pair, Id, Guard, Applied, World, request}
use Rattle.peg_protocol.specs.Machine.{began, answered, is_read, is_write, newer, WriteDid, Takes}
use Rattle.peg_protocol.specs.Machine.{Keeps, Voids, Bars, write_did, raised_to, guarded}
use Rattle.peg_protocol.specs.Machine.{applied_fence}

pub data Mode : Type 0 where
  Idle : Mode
  Active : Mode
  Sealed : (target : ℕ) → Mode

-- the parts that a switch has of one epoch
pub record Gathered : Type 0 where
  pub epoch : ℕ
  pub has : ℕ → Bool

pub record System : Type 0 where
  pub rack : Rack
  -- switches
  pub modes : ℕ → Mode
  pub epochs : ℕ → ℕ
  pub cores : ℕ → Core
  pub outcomes : ℕ → Outcome
  pub gathered : ℕ → Gathered
  -- the controller
  pub number : ℕ
  pub command : Option What
  pub switch : ℕ
  pub epoch : ℕ
  pub known : List ℕ
  -- clients
  pub client_switch : ℕ → ℕ
  pub client_epoch : ℕ → ℕ
  pub issued : ℕ → ℕ
  pub pending : ℕ → Bool
  pub plans : ℕ → ℕ → Plan
  pub answers : ℕ → ℕ → Option Answer
  pub stamps : ℕ → ℕ → ℕ
  pub log : List Id
  -- servers
  pub held : ℕ → ℕ → Pair
  pub guards : ℕ → ℕ → Guard
  pub fences : List Applied
  pub promoted : List ℕ
  pub sent : List Item
  pub place : ℕ

-- what the law speaks of, with this core as the current one
abbrev pub ground : System → Core → World
ground s core =
    record {
      rack = s.rack;
      core = core;
      held = s.held;
      guards = s.guards;
      fences = s.fences;
      promoted = s.promoted;
      issued = s.issued;
      pending = s.pending;
      plans = s.plans;
      answers = s.answers;
      stamps = s.stamps;
      log = s.log;
      sent = s.sent;
      place = s.place;
    }

abbrev pub back : System → World → System
back s w =
    record s {
      held = w.held;
      guards = w.guards;
      fences = w.fences;
      promoted = w.promoted;
      issued = w.issued;
      pending = w.pending;
      plans = w.plans;
      answers = w.answers;
      stamps = w.stamps;
      log = w.log;
      sent = w.sent;
      place = w.place;
    }

abbrev pub post : System → Item → System
post s i = record s { sent = s.sent ++ i ∷ [] }

abbrev pub with_core : System → ℕ → Core → System
with_core s a core = record s { cores = at_one s.cores a core }

-- clients
abbrev pub issues : System → ℕ → ℕ → Act → System
issues s c k act =
    if s.pending c then s
    else (if s.issued c == top then s else
    back s (began (ground s (s.cores 0)) (s.client_switch c) c (s.issued c + 1) k act))

abbrev pub resends : System → ℕ → System
resends s c =
    if s.pending c
    then post s
    (item (Switch (s.client_switch c))
    (request c (s.issued c) (s.plans c (s.issued c)).key (s.plans c (s.issued c)).act))
    else s

abbrev pub gives_up : System → ℕ → System
gives_up s c = record s { pending = at_one s.pending c false }

abbrev pub takes_reply : System → ℕ → ℕ → ℕ → ℕ → ℕ → (Act → Bool) → Option ℕ → System
takes_reply s own c n k u kind content =
    if s.pending own &&
    (c == own && (n == s.issued own && ((s.plans own n).key == k && kind (s.plans own n).act)))
    then back s (answered (ground s (s.cores 0)) own n u content)
    else s

abbrev pub hears : System → ℕ → ℕ → ℕ → System
hears s own epoch switch =
    if nat_lt (s.client_epoch own) epoch
    then record s {
      client_epoch = at_one s.client_epoch own epoch;
      client_switch =
          at_one s.client_switch own switch;
    }
    else s

-- servers
abbrev pub copies : System → ℕ → ℕ → ℕ → Pair → System
copies s a target k p = if p.version == 0 then s else
    post s (item (Server target) (CopyData p.version a k p.content))

abbrev pub writes_at : System → ℕ → ℕ → ℕ → ℕ → ℕ → ℕ → Option ℕ → WriteDid → System
writes_at s t c n u a k x Takes =
    post (record s { held = at_two s.held t k (newer (s.held t k) u x) })
    (item (Switch a) (WriteReply c n u t a k))
writes_at s t c n u a k x Keeps = post s (item (Switch a) (WriteReply c n u t a k))
writes_at s t c n u a k x Voids = post s (item (Switch a) (Void c n u t a k))
writes_at s t c n u a k x Bars = s

abbrev pub fences_at : System → ℕ → ℕ → ℕ → ℕ → System
fences_at s t f a k =
    if t == s.rack.home k
    then (if nat_lt (s.held t k).version f
    then post
    (record s {
      held = at_two s.held t k (raised_to (s.held t k) f);
      guards = at_two s.guards t k (guarded (s.guards t k) (s.held t k).version f);
      fences = applied_fence s.fences k f (s.held t k).version ∷ s.fences;
    })
    (item (Switch a) (Held t f k))
    else post s (item (Switch a) (Held t f k)))
    else s

-- an active switch
abbrev pub writes_by : System → ℕ → ℕ → ℕ → ℕ → Option ℕ → ℕ → Stamp → System
writes_by s a c n k x pick (New u) =
    post
    (record s {
      cores = at_one s.cores a
          (record (s.cores a) {
            next = (s.cores a).next + 1;
            rows =
                at_one (s.cores a).rows c (record { seq = n; version = (s.cores a).next });
          });
      stamps = at_two s.stamps c n (s.cores a).next;
    })
    (item (Server (write_server s.rack k u pick (entry_of k (s.cores a).entries)))
    (ToServerWrite c n u a k x))
writes_by s a c n k x pick (Same u) =
    post s (item (Server (write_server s.rack k u pick (entry_of k (s.cores a).entries)))
    (ToServerWrite c n u a k x))
writes_by s a c n k x pick Stale = s
writes_by s a c n k x pick Exhausted = s

abbrev pub noted_core : System → ℕ → ℕ → ℕ → ℕ → Core
noted_core s a server u k = note s.rack server u k (entry_of k (s.cores a).entries) (s.cores a)

-- the outcomes of commands
abbrev pub promote_outcome : Rack → Option Entry → Core → Outcome
promote_outcome rack (Some e) core = Already e.listing
promote_outcome rack None core =
    if lists rack core then Listed (core.last + 1)
    else (if length core.entries == rack.room then Full (length core.entries) else
    NoVersion core.next)

abbrev pub mark_outcome : ℕ → Option ℕ → Outcome
mark_outcome next None = Marked next
mark_outcome next (Some m) = AlreadyMarked m

abbrev pub demote_outcome : ℕ → Option Entry → Outcome
demote_outcome next None = NotListed
demote_outcome next (Some e) = mark_outcome next e.mark

abbrev pub does : System → ℕ → Core → Outcome → System
does s a core outcome =
    post (record s { cores = at_one s.cores a core; outcomes = at_one s.outcomes a outcome })
    (item Controller (Ack core.last outcome))

abbrev pub copies_by : System → ℕ → ℕ → ℕ → Option Entry → System
copies_by s a target k None =
    does s a (record (s.cores a) { last = (s.cores a).last + 1 }) NotListed
copies_by s a target k (Some e) =
    if list_any (λ t. t == target) e.holders
    then does s a (record (s.cores a) { last = (s.cores a).last + 1 }) Holds
    else does (post s (item (Server (slice_index e.holders 0)) (CopyOrder a target k))) a
    (record (s.cores a) { last = (s.cores a).last + 1 }) (Ordered (slice_index e.holders 0))

abbrev pub fences_by : System → ℕ → ℕ → Option Entry → System
fences_by s a k None = does s a (record (s.cores a) { last = (s.cores a).last + 1 }) NotListed
fences_by s a k (Some e) =
    if e.base == 0
    then does s a (record (s.cores a) { last = (s.cores a).last + 1 }) NoBase
    else does (post s (item (Server (s.rack.home k)) (Fence e.base a k))) a
    (record (s.cores a) { last = (s.cores a).last + 1 }) (Fenced e.base)

-- the parts of a state, from the last one to the first
abbrev pub parts_of : ℕ → ℕ → ℕ → Core → ℕ → List Item
parts_of target epoch count core zero = []
parts_of target epoch count core (suc i) =
    parts_of target epoch count core i ++ item (Switch target) (Part epoch i count core) ∷ []

abbrev pub sends_parts : System → ℕ → ℕ → Core → System
sends_parts s target epoch core =
    record s { sent = s.sent ++ parts_of target epoch (s.rack.parts core) core (s.rack.parts core) }

abbrev pub seals : System → ℕ → ℕ → ℕ → System
seals s a target number =
    sends_parts
    (record s {
      modes = at_one s.modes a (Sealed target);
      cores =
          at_one s.cores a (record (s.cores a) { last = number });
    })
    target (s.epochs a + 1) (record (s.cores a) { last = number })

abbrev pub executes : System → ℕ → ℕ → What → System
executes s a number (Promote k) =
    does (record s
    { promoted = promotions s.rack (entry_of k (s.cores a).entries) (s.cores a) s.promoted }) a
    (promote s.rack k (entry_of k (s.cores a).entries) (s.cores a))
    (promote_outcome s.rack (entry_of k (s.cores a).entries) (s.cores a))
executes s a number (Demote k) =
    does s a (demote k (entry_of k (s.cores a).entries) (s.cores a))
    (demote_outcome (s.cores a).next (entry_of k (s.cores a).entries))
executes s a number (Copy target k) = copies_by s a target k (entry_of k (s.cores a).entries)
executes s a number (FenceKey k) = fences_by s a k (entry_of k (s.cores a).entries)
executes s a number Clear = does s a (record (s.cores a) { last = (s.cores a).last + 1 }) Cleared
executes s a number (Seal target epoch) = if not (target == a) && epoch == s.epochs a + 1 then
    seals s a target number else s

abbrev pub commands : System → ℕ → ℕ → What → System
commands s a number what =
    if number == (s.cores a).last + 1 then executes s a number what
    else (if number == (s.cores a).last then
    post s (item Controller (Ack number (s.outcomes a))) else s)

abbrev pub active_takes : System → ℕ → ℕ → Packet → System
active_takes s a pick (Read c n k) =
    post s (item (Server (read_server s.rack k pick (entry_of k (s.cores a).entries)))
    (ToServerRead c n a k))
active_takes s a pick (Write c n k x) = writes_by s a c n k x pick (stamp (s.cores a) c n)
active_takes s a pick (ReadReply c n u t b k content) =
    post (with_core s a (noted_core s a t u k)) (item (Client c) (ReadReply c n u t b k content))
active_takes s a pick (WriteReply c n u t b k) =
    post (with_core s a (noted_core s a t u k)) (item (Client c) (WriteReply c n u t b k))
active_takes s a pick (Held t u k) = with_core s a (noted_core s a t u k)
active_takes s a pick (Void c n u t b k) = with_core s a (open_row (s.cores a) c n u)
active_takes s a pick (Command number what) = commands s a number what
active_takes s a pick (Part epoch i count core) =
    if epoch == s.epochs a && nat_lt 0 (s.cores a).last then
    post s (item Controller (Ack (s.cores a).last (s.outcomes a))) else s
active_takes s a pick packet = s

-- an idle or sealed switch
abbrev pub all_below : (ℕ → Bool) → ℕ → Bool
all_below has zero = true
all_below has (suc n) = has n && all_below has n

abbrev pub gathers : Gathered → ℕ → ℕ → ℕ → Bool
gathers g epoch i = at_one (if epoch == g.epoch then g.has else (λ j. false)) i true

abbrev pub takes_part : System → ℕ → ℕ → ℕ → ℕ → Core → System
takes_part s b epoch i count core =
    if nat_le epoch (s.epochs b) || nat_lt epoch (s.gathered b).epoch then s
    else (if all_below (gathers (s.gathered b) epoch i) count
    then post
    (record s {
      modes = at_one s.modes b Active;
      epochs = at_one s.epochs b epoch;
      cores = at_one s.cores b core;
      outcomes = at_one s.outcomes b (Activated epoch);
      gathered = at_one s.gathered b (record { epoch = 0; has = λ j. false });
    })
    (item Controller (Ack core.last (Activated epoch)))
    else record s {
      gathered = at_one s.gathered b
          (record { epoch = epoch; has = gathers (s.gathered b) epoch i });
    })

abbrev pub sealed_takes : System → ℕ → ℕ → Packet → System
sealed_takes s a target (Command number what) = if number == (s.cores a).last then
    sends_parts s target (s.epochs a + 1) (s.cores a) else s
sealed_takes s a target (Part epoch i count core) = takes_part s a epoch i count core
sealed_takes s a target packet = s

abbrev pub idle_takes : System → ℕ → Packet → System
idle_takes s a (Part epoch i count core) = takes_part s a epoch i count core
idle_takes s a packet = s

abbrev pub switch_takes : System → ℕ → Mode → ℕ → Packet → System
switch_takes s a Active pick packet = active_takes s a pick packet
switch_takes s a (Sealed target) pick packet = sealed_takes s a target packet
switch_takes s a Idle pick packet = idle_takes s a packet

-- the controller
abbrev pub belongs : ℕ → What → Outcome → Bool
belongs number (Promote k) (Listed l) = l == number
belongs number (Promote k) (Already l) = true
belongs number (Promote k) (Full n) = true
belongs number (Promote k) (NoVersion n) = true
belongs number (Demote k) (Marked m) = true
belongs number (Demote k) NotListed = true
belongs number (Demote k) (AlreadyMarked m) = true
belongs number (Copy t k) (Ordered s) = true
belongs number (Copy t k) NotListed = true
belongs number (Copy t k) Holds = true
belongs number (FenceKey k) (Fenced b) = true
belongs number (FenceKey k) NotListed = true
belongs number (FenceKey k) NoBase = true
belongs number Clear Cleared = true
belongs number (Seal t e) (Activated f) = f == e
belongs number what outcome = false

abbrev pub known_after : What → Outcome → List ℕ → List ℕ
known_after (Promote k) (Listed l) known = if list_any (λ j. j == k) known then known else
    known ++ k ∷ []
known_after (Demote k) (Marked m) known = filter (λ j. not (j == k)) known
known_after what outcome known = known

abbrev pub announces : ℕ → ℕ → ℕ → List Item
announces epoch switch zero = []
announces epoch switch (suc c) =
    announces epoch switch c ++ item (Client c) (Announce epoch switch) ∷ []

abbrev pub moves : System → What → System
moves s (Seal target epoch) =
    record s {
      switch = target;
      epoch = epoch;
      sent =
          s.sent ++ announces epoch target s.rack.clients;
    }
moves s what = s

-- whether a listing is acknowledged while there is room for no more
abbrev pub overfull : Rack → Outcome → List ℕ → Bool
overfull rack (Listed l) known = length known == rack.room
overfull rack outcome known = false

abbrev pub settles : System → ℕ → Outcome → Option What → System
settles s number outcome None = s
settles s number outcome (Some what) =
    if number == s.number && (belongs number what outcome && not (overfull s.rack outcome s.known))
    then moves (record s { command = None; known = known_after what outcome s.known }) what
    else s

abbrev pub orders : System → What → Option What → System
orders s what None = post (record s { number = s.number + 1; command = Some what })
    (item (Switch s.switch) (Command (s.number + 1) what))
orders s what (Some other) = s

-- the pending command again, and where none is pending the announcement
abbrev pub repeats : System → Option What → System
repeats s None = record s { sent = s.sent ++ announces s.epoch s.switch s.rack.clients }
repeats s (Some what) = post s (item (Switch s.switch) (Command s.number what))

-- one delivery
abbrev pub takes : System → ℕ → Node → Packet → System
takes s pick (Switch a) packet = switch_takes s a (s.modes a) pick packet
takes s pick (Server t) (ToServerRead c n a k) =
    post s (item (Switch a) (ReadReply c n (s.held t k).version t a k (s.held t k).content))
takes s pick (Server t) (ToServerWrite c n u a k x) =
    writes_at s t c n u a k x (write_did (s.held t k).version (s.guards t k) u)
takes s pick (Server t) (Fence f a k) = fences_at s t f a k
takes s pick (Server t) (CopyOrder a target k) = if target == t then s else
    copies s a target k (s.held t k)
takes s pick (Server t) (CopyData u a k x) =
    post (record s { held = at_two s.held t k (newer (s.held t k) u x) })
    (item (Switch a) (Held t u k))
takes s pick (Client own) (ReadReply c n u t b k content) =
    takes_reply s own c n k u is_read content
takes s pick (Client own) (WriteReply c n u t b k) = takes_reply s own c n k u is_write None
takes s pick (Client own) (Announce epoch switch) = hears s own epoch switch
takes s pick Controller (Ack number outcome) = settles s number outcome s.command
takes s pick to packet = s

abbrev pub deliver : System → ℕ → Option Item → System
deliver s pick None = s
deliver s pick (Some i) = takes s pick i.to i.packet

-- what the controller is asked for
pub data Ask : Type 0 where
  ToPromote : (key : ℕ) → Ask
  ToDemote : (key : ℕ) → Ask
  ToCopy : (target key : ℕ) → Ask
  ToFence : (key : ℕ) → Ask
  ToClear : Ask
  ToHandOver : (target : ℕ) → Ask

abbrev pub gives : System → Ask → System
gives s (ToPromote k) = orders s (Promote k) s.command
gives s (ToDemote k) = orders s (Demote k) s.command
gives s (ToCopy target k) = orders s (Copy target k) s.command
gives s (ToFence k) = orders s (FenceKey k) s.command
gives s ToClear = orders s Clear s.command
gives s (ToHandOver target) = if target == s.switch then s else
    orders s (Seal target (s.epoch + 1)) s.command

pub data Event : Type 0 where
  Issue : (client key : ℕ) (act : Act) → Event
  Resend : (client : ℕ) → Event
  GiveUp : (client : ℕ) → Event
  Deliver : (which pick : ℕ) → Event
  Order : Ask → Event
  Repeat : Event
  Tell : Node → Event  -- a packet that the law says nothing of is sent
  Rest : Event  -- a line at which nothing happens
  Then : Event → Ask → Event  -- at the same line, the next of a queue of commands is asked for

abbrev pub happens_at : System → Event → System
happens_at s (Issue c k act) = issues s c k act
happens_at s (Resend c) = resends s c
happens_at s (GiveUp c) = gives_up s c
happens_at s (Deliver which pick) = deliver s pick (slice_get s.sent which)
happens_at s (Order ask) = gives s ask
happens_at s Repeat = repeats s s.command
happens_at s (Tell to) = post s (item to Other)
happens_at s Rest = s
happens_at s (Then e ask) = gives (happens_at s e) ask

abbrev pub happens : System → Event → System
happens s e = happens_at (record s { place = s.place + 1 }) e

abbrev pub run : List Event → System → System
run [] s = s
run (e ∷ es) s = run es (happens s e)

abbrev pub empty_core : Rack → Core
empty_core rack = record {
  next = rack.first;
  rows = λ c. record { seq = 0; version = 0 };
  entries =
      first_entries rack rack.keys;
  last = 0;
}

-- switch 0 has the keys of the rack listed, and the others have none
abbrev pub first_core : Rack → ℕ → Core
first_core rack zero = empty_core rack
first_core rack (suc a) =
    record {
      next = rack.first;
      rows = λ c. record { seq = 0; version = 0 };
      entries = [];
      last =
          0;
    }

abbrev pub first_mode : ℕ → Mode
first_mode zero = Active
first_mode (suc a) = Idle

abbrev pub first_epoch : ℕ → ℕ
first_epoch zero = 1
first_epoch (suc a) = 0

-- the start: switch 0 is active at epoch 1, the others idle at 0
abbrev pub start : Rack → System
start rack =
    record {
      rack = rack;
      modes = first_mode;
      epochs = first_epoch;
      cores = first_core rack;
      outcomes = λ a. NotListed;
      gathered = λ a. record { epoch = 0; has = λ j. false };
      number = 0;
      command = None;
      switch = 0;
      epoch = 1;
      known = rack.keys;
      client_switch = λ c. 0;
      client_epoch = λ c. 1;
      issued = λ c. 0;
      pending = λ c. false;
      plans = λ c n. record { key = 0; act = Act.Reads; issue = 0 };
      answers = λ c n. None;
      stamps = λ c n. 0;
      log = [];
      held = λ t k. record { version = 0; content = None };
      guards = λ t k. record { low = 0; floor = 0; old = 0 };
      fences = [];
      promoted = [];
      sent = [];
      place = 1;
    }
