-- What the law speaks of: clients, the current core, servers, and every packet that was ever sent;
-- and what a step may do to them.
use Rattle.std.specs.Prelude.{ℕ, ◌+◌, Bool, true, false, ◌&&◌, if◌then◌else◌, nat_lt, nat_le, ◌==◌}
use Rattle.std.specs.Prelude.{List, [], ◌∷◌, ◌++◌, slice_index, Option, Some, None}
use Rattle.std.specs.List.{list_any}
use Rattle.peg_protocol.specs.Packet.{Packet, Item, item, Read, Write, ToServerRead, ToServerWrite}
use Rattle.peg_protocol.specs.Packet.{CopyOrder, CopyData, Switch, Server}
use Rattle.peg_protocol.specs.Core.{at_one, at_two, top, Rack, Entry, Core, entry_of, Stamp, New}
use Rattle.peg_protocol.specs.Core.{Same, Stale, Exhausted, read_server, write_server, note}

-- a write of the content absent is a delete
pub data Act : Type 0 where
  Reads : Act
  Writes : Option ℕ → Act

-- what an operation is, from its issue on
pub record Plan : Type 0 where
  pub key : ℕ
  pub act : Act
  pub issue : ℕ

-- tag: the origin that the version had at the answer
pub record Answer : Type 0 where
  pub place : ℕ
  pub version : ℕ
  pub content : Option ℕ
  pub tag : ℕ

pub record Pair : Type 0 where
  pub version : ℕ
  pub content : Option ℕ

-- what a server keeps of a key's fences: what it held before the last one, the last one's version,
-- and the one's before
pub record Guard : Type 0 where
  pub low : ℕ
  pub floor : ℕ
  pub old : ℕ

-- a Fence that a server applied: its version, what the server held before, and that version's
-- origin
pub record Applied : Type 0 where
  pub key : ℕ
  pub version : ℕ
  pub before : ℕ
  pub origin : ℕ

-- the origin of a version is the version itself, but for the version of a Fence that was applied;
-- the newest of these stands first
abbrev pub origin_of : List Applied → ℕ → ℕ → ℕ
origin_of [] k u = u
origin_of (f ∷ fs) k u = if f.key == k && f.version == u then f.origin else origin_of fs k u

pub record Id : Type 0 where
  pub client : ℕ
  pub seq : ℕ

abbrev pub id : ℕ → ℕ → Id
id c n = record { client = c; seq = n }

-- An operation is named by its client and its number. What is known of it is a function of both.
pub record World : Type 0 where
  pub rack : Rack
  pub core : Core
  pub held : ℕ → ℕ → Pair  -- by server and key
  pub guards : ℕ → ℕ → Guard
  pub fences : List Applied
  pub promoted : List ℕ  -- the versions that were given to promotions
  pub issued : ℕ → ℕ  -- how many operations the client began
  pub pending : ℕ → Bool  -- whether the last of them is pending
  pub plans : ℕ → ℕ → Plan
  pub answers : ℕ → ℕ → Option Answer
  pub stamps : ℕ → ℕ → ℕ  -- the last version stamped for the operation, or 0
  pub log : List Id  -- the operations in the order of issue
  pub sent : List Item
  pub place : ℕ

abbrev pub send : World → Item → World
send w i = record w { sent = w.sent ++ i ∷ [] }

abbrev pub entry : World → ℕ → Option Entry
entry w k = entry_of k w.core.entries

-- clients
abbrev pub request : ℕ → ℕ → ℕ → Act → Packet
request c n k Reads = Read c n k
request c n k (Writes x) = Write c n k x

abbrev pub began : World → ℕ → ℕ → ℕ → ℕ → Act → World
began w a c n k act =
    record w {
      issued = at_one w.issued c n;
      pending = at_one w.pending c true;
      plans = at_two w.plans c n (record { key = k; act = act; issue = w.place });
      answers = at_two w.answers c n None;
      stamps = at_two w.stamps c n 0;
      log = w.log ++ id c n ∷ [];
      sent = w.sent ++ item (Switch a) (request c n k act) ∷ [];
    }

abbrev pub issue : World → ℕ → ℕ → ℕ → Act → World
issue w a c k act =
    if w.pending c then w
    else (if w.issued c == top then w else began w a c (w.issued c + 1) k act)

abbrev pub resend : World → ℕ → ℕ → World
resend w a c =
    if w.pending c
    then send w
    (item (Switch a)
    (request c (w.issued c) (w.plans c (w.issued c)).key (w.plans c (w.issued c)).act))
    else w

abbrev pub give_up : World → ℕ → World
give_up w c = record w { pending = at_one w.pending c false }

abbrev pub is_read : Act → Bool
is_read Reads = true
is_read (Writes x) = false

abbrev pub is_write : Act → Bool
is_write Reads = false
is_write (Writes x) = true

abbrev pub answered : World → ℕ → ℕ → ℕ → Option ℕ → World
answered w c n u content =
    record w {
      pending = at_one w.pending c false;
      answers = at_two w.answers c n
          (Some (record {
            place = w.place;
            version = u;
            content = content;
            tag =
                origin_of w.fences (w.plans c n).key u;
          }));
    }

-- own is the client that takes the reply; kind tells the acts that it can answer
abbrev pub take_reply : World → ℕ → ℕ → ℕ → ℕ → ℕ → (Act → Bool) → Option ℕ → World
take_reply w own c n k u kind content =
    if w.pending own &&
    (c == own && (n == w.issued own && ((w.plans own n).key == k && kind (w.plans own n).act)))
    then answered w own n u content
    else w

-- the switch
abbrev pub forward_read : World → ℕ → ℕ → ℕ → ℕ → ℕ → World
forward_read w a c n k pick =
    send w (item (Server (read_server w.rack k pick (entry w k))) (ToServerRead c n a k))

abbrev pub forward_write : World → ℕ → ℕ → ℕ → ℕ → Option ℕ → ℕ → ℕ → World
forward_write w a c n k x u pick =
    send w (item (Server (write_server w.rack k u pick (entry w k))) (ToServerWrite c n u a k x))

abbrev pub stamped : World → ℕ → ℕ → World
stamped w c n =
    record w {
      core = record w.core {
        next = w.core.next + 1;
        rows =
            at_one w.core.rows c (record { seq = n; version = w.core.next });
      };
      stamps = at_two w.stamps c n w.core.next;
    }

abbrev pub write_by : World → ℕ → ℕ → ℕ → ℕ → Option ℕ → ℕ → Stamp → World
write_by w a c n k x pick (New u) = forward_write (stamped w c n) a c n k x u pick
write_by w a c n k x pick (Same u) = forward_write w a c n k x u pick
write_by w a c n k x pick Stale = w
write_by w a c n k x pick Exhausted = w

abbrev pub notes : World → ℕ → ℕ → ℕ → World
notes w s u k = record w { core = note w.rack s u k (entry w k) w.core }

-- servers
abbrev pub newer : Pair → ℕ → Option ℕ → Pair
newer p u x = if nat_lt p.version u then record { version = u; content = x } else p

abbrev pub apply : World → ℕ → ℕ → ℕ → Option ℕ → World
apply w s k u x = record w { held = at_two w.held s k (newer (w.held s k) u x) }

-- what a write does at a server
pub data WriteDid : Type 0 where
  Takes : WriteDid
  Keeps : WriteDid
  Voids : WriteDid
  Bars : WriteDid

abbrev pub write_did : ℕ → Guard → ℕ → WriteDid
write_did held g u =
    if nat_lt held u then Takes
    else (if nat_le u g.old then Bars else
    (if nat_le u g.low then Keeps else (if nat_le u g.floor then Voids else Keeps)))

-- a Fence at its key's home
abbrev pub raised_to : Pair → ℕ → Pair
raised_to p f = record { version = f; content = p.content }

abbrev pub guarded : Guard → ℕ → ℕ → Guard
guarded g held f = record { low = held; floor = f; old = g.floor }

abbrev pub applied_fence : List Applied → ℕ → ℕ → ℕ → Applied
applied_fence fs k f held =
    record { key = k; version = f; before = held; origin = origin_of fs k held }

abbrev pub fence : World → ℕ → ℕ → ℕ → World
fence w s k f =
    record w {
      held = at_two w.held s k (raised_to (w.held s k) f);
      guards = at_two w.guards s k (guarded (w.guards s k) (w.held s k).version f);
      fences = applied_fence w.fences k f (w.held s k).version ∷ w.fences;
    }

abbrev pub copy_from : World → ℕ → ℕ → ℕ → Pair → World
copy_from w a target k p = if p.version == 0 then w else
    send w (item (Server target) (CopyData p.version a k p.content))

-- commands
abbrev pub order_copy : World → ℕ → ℕ → ℕ → Option Entry → World
order_copy w a k target None = w
order_copy w a k target (Some e) =
    if list_any (λ s. s == target) e.holders then w
    else send w (item (Server (slice_index e.holders 0)) (CopyOrder a target k))
