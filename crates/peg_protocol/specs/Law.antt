-- The law that every state of every run keeps.
use Rattle.std.specs.Prelude.{◌≡◌, ℕ, ◌+◌, ◌<◌, ◌≤◌, ◌≢◌, ◌⊎◌, ◌==◌, ◌&&◌, if◌then◌else◌, max, Bool}
use Rattle.std.specs.Prelude.{true, false, List, [], ◌∷◌, filter, Option, Some, None, All, Contains}
use Rattle.std.specs.List.{list_any}
use Rattle.peg_protocol.specs.Packet.{Packet, Node, Item, item, Read, Write, ToServerRead}
use Rattle.peg_protocol.specs.Packet.{ToServerWrite, ReadReply, WriteReply, CopyData, Held, Fence}
use Rattle.peg_protocol.specs.Packet.{Void, Client, Server}
use Rattle.peg_protocol.specs.Core.{Entry}
use Rattle.peg_protocol.specs.Machine.{Writes, Guard, Applied, origin_of, World, entry}

abbrev pub WasSent : World → Node → Packet → Type 0
WasSent w to packet = Contains w.sent (item to packet)

abbrev pub version_at : World → ℕ → ℕ → ℕ
version_at w s k = (w.held s k).version

-- the greatest version in a reply of the key that was sent to a client
abbrev pub reply_version : ℕ → Node → Packet → ℕ
reply_version k (Client c) (ReadReply d n u s a j content) = if j == k then u else 0
reply_version k (Client c) (WriteReply d n u s a j) = if j == k then u else 0
reply_version k to packet = 0

abbrev pub passed : ℕ → List Item → ℕ
passed k [] = 0
passed k (i ∷ is) = max (reply_version k i.to i.packet) (passed k is)

-- what was sent before the first request of an operation
abbrev pub asks : ℕ → ℕ → Packet → Bool
asks c n (Read d m k) = d == c && m == n
asks c n (Write d m k x) = d == c && m == n
asks c n packet = false

abbrev pub before : ℕ → ℕ → List Item → List Item
before c n [] = []
before c n (i ∷ is) = if asks c n i.packet then [] else i ∷ before c n is

abbrev pub passed_at_issue : World → ℕ → ℕ → ℕ
passed_at_issue w c n = passed (w.plans c n).key (before c n w.sent)

-- a write was stamped with a version exactly where a ToServerWrite with it was sent
abbrev pub stamps_as : ℕ → ℕ → ℕ → Packet → Bool
stamps_as c n u (ToServerWrite d m v a k x) = d == c && (m == n && v == u)
stamps_as c n u packet = false

abbrev pub stamped_in : ℕ → ℕ → ℕ → List Item → Bool
stamped_in c n u is = list_any (λ i. stamps_as c n u i.packet) is

abbrev pub voids : ℕ → Packet → Bool
voids u (Void c n v s a k) = v == u
voids u packet = false

abbrev pub voided_in : ℕ → List Item → Bool
voided_in u is = list_any (λ i. voids u i.packet) is

-- what was sent before the first ToServerWrite with a version
abbrev pub writes_as : ℕ → Packet → Bool
writes_as u (ToServerWrite c n v a k x) = v == u
writes_as u packet = false

abbrev pub before_write : ℕ → List Item → List Item
before_write u [] = []
before_write u (i ∷ is) = if writes_as u i.packet then [] else i ∷ before_write u is

-- how often a version was given to a promotion
abbrev pub times_in : ℕ → List ℕ → ℕ
times_in u [] = 0
times_in u (v ∷ vs) = (if v == u then 1 else 0) + times_in u vs

-- a write of this content to this key was stamped u
pub record IsStamped (w : World) (u k : ℕ) (x : Option ℕ) : Type 0 where
  pub client : ℕ
  pub seq : ℕ
  pub least : 1 ≤ seq
  pub most : seq ≤ w.issued client
  pub key : (w.plans client seq).key ≡ k
  pub act : (w.plans client seq).act ≡ Writes x
  pub stamp : stamped_in client seq u w.sent ≡ true

abbrev pub version_in : Packet → ℕ
version_in (ToServerWrite c n u a k x) = u
version_in (ReadReply c n u s a k o) = u
version_in (WriteReply c n u s a k) = u
version_in (CopyData u a k x) = u
version_in (Held s u k) = u
version_in (Fence u a k) = u
version_in (Void c n u s a k) = u
version_in packet = 0

-- a pair is of the write that was stamped with its origin, and is absent where that is 0
abbrev pub PairIs : World → ℕ → ℕ → Option ℕ → Type 0
PairIs w k u o = ((origin_of w.fences k u ≡ 0) × (o ≡ None))
    ⊎ ((1 ≤ origin_of w.fences k u) × IsStamped w (origin_of w.fences k u) k o)

abbrev pub BelowNext : World → Option Entry → Type 0
BelowNext w None = Unit {0}
BelowNext w (Some e) =
    record {
      base : e.base < w.core.next;
      completed : e.completed < w.core.next;
      mark : (m : ℕ) →
          e.mark ≡ Some m → m ≤ w.core.next;
    }

-- one write was given the version
pub record OneWrite (w : World) (u : ℕ) : Type 0 where
  pub client : ℕ
  pub seq : ℕ
  pub was : stamped_in client seq u w.sent ≡ true
  pub one : (d m : ℕ) → stamped_in d m u w.sent ≡ true → (d ≡ client) × (m ≡ seq)

-- to one write and no promotion, or to one promotion and no write
abbrev pub IsGiven : World → ℕ → Type 0
IsGiven w u = (OneWrite w u × (times_in u w.promoted ≡ 0))
    ⊎ ((times_in u w.promoted ≡ 1) × ((c n : ℕ) → stamped_in c n u w.sent ≡ true → ⊥))

pub record RowIs (w : World) (c : ℕ) : Type 0 where
  pub some : 1 ≤ w.stamps c (w.core.rows c).seq
  -- the last version for the row's number, or 0 where a Void of that version was sent
  pub version : ((w.core.rows c).version ≡ w.stamps c (w.core.rows c).seq)
      ⊎ (((w.core.rows c).version ≡ 0) × (voided_in (w.stamps c (w.core.rows c).seq) w.sent ≡ true))
  pub greatest : (n : ℕ) → 1 ≤ w.stamps c n → n ≤ (w.core.rows c).seq

pub record Versions (w : World) : Type 0 where
  pub held : (s k : ℕ) → version_at w s k < w.core.next
  pub sent : (to : Node) (p : Packet) → WasSent w to p → version_in p < w.core.next
  pub rows : (c : ℕ) → (w.core.rows c).version < w.core.next
  pub entries : (k : ℕ) → BelowNext w (entry w k)
  -- each version was given to exactly one write or promotion
  pub given : (u : ℕ) → w.rack.first ≤ u → u < w.core.next → IsGiven w u
  pub held_pair : (s k : ℕ) → PairIs w k (version_at w s k) (w.held s k).content
  pub read_pair : (to : Node) (c n u s a k : ℕ) (o : Option ℕ) →
      WasSent w to (ReadReply c n u s a k o) → PairIs w k u o
  pub write_pair : (to : Node) (c n u a k : ℕ) (x : Option ℕ) →
      WasSent w to (ToServerWrite c n u a k x) → PairIs w k u x
  pub copy_pair : (to : Node) (u a k : ℕ) (x : Option ℕ) → WasSent w to (CopyData u a k x) →
      PairIs w k u x
  -- a client's row has its greatest stamped number with its last version
  pub row : (c : ℕ) →
      (((w.core.rows c).seq ≡ 0) × ((w.core.rows c).version ≡ 0) × ((n : ℕ) → w.stamps c n ≡ 0))
      ⊎ RowIs w c
  -- the last version that an operation was stamped with
  pub last : (c n : ℕ) → 1 ≤ w.stamps c n → stamped_in c n (w.stamps c n) w.sent ≡ true
  pub lasts : (to : Node) (c n u a k : ℕ) (x : Option ℕ) →
      WasSent w to (ToServerWrite c n u a k x) → u ≤ w.stamps c n
  -- one version has one write
  pub one_write : (c n d m : ℕ) → 1 ≤ w.stamps c n → w.stamps c n ≡ w.stamps d m → (c ≡ d) × (n ≡ m)

-- server s sent a reply of the key with version u
pub data Reported (w : World) (s k u : ℕ) : Type 0 where
  By_read : (to : Node) (c n a : ℕ) (o : Option ℕ) → WasSent w to (ReadReply c n u s a k o) →
      Reported w s k u
  By_write : (to : Node) (c n a : ℕ) → WasSent w to (WriteReply c n u s a k) → Reported w s k u
  By_copy : (to : Node) → WasSent w to (Held s u k) → Reported w s k u

-- a version that the home of the key may lack
pub data Elsewhere (w : World) (k u : ℕ) : Type 0 where
  Is_held : (s : ℕ) → s ≢ w.rack.home k → version_at w s k ≡ u → Elsewhere w k u
  Is_sent : (s c n a : ℕ) (x : Option ℕ) → s ≢ w.rack.home k →
      WasSent w (Server s) (ToServerWrite c n u a k x) → Elsewhere w k u
  Is_copied : (to : Node) (a : ℕ) (x : Option ℕ) → WasSent w to (CopyData u a k x) → Elsewhere w k u

pub record UnlistedLaw (w : World) (k : ℕ) : Type 0 where
  pub elsewhere : (u : ℕ) → Elsewhere w k u → u ≤ version_at w (w.rack.home k) k
  pub passed : passed k w.sent ≤ version_at w (w.rack.home k) k

pub record HomePhase (w : World) (k : ℕ) (e : Entry) : Type 0 where
  pub completed : e.completed ≡ e.base
  pub holders : e.holders ≡ w.rack.home k ∷ []
  pub passed : passed k w.sent ≤ version_at w (w.rack.home k) k

abbrev pub MarkLaw : World → ℕ → Entry → Option ℕ → Type 0
MarkLaw w k e None = Unit {0}
MarkLaw w k e (Some m) = record {
  base : e.base < m;
  elsewhere : (u : ℕ) → Elsewhere w k u → (u < m) ⊎ (u ≤ version_at w (w.rack.home k) k);
  passed : (passed k w.sent < m) ⊎ (passed k w.sent ≤ version_at w (w.rack.home k) k);
  sent : (s c n u a : ℕ) (x : Option ℕ) → s ≢ w.rack.home k →
      WasSent w (Server s) (ToServerWrite c n u a k x) → u < m;
}

pub record ListedLaw (w : World) (k : ℕ) (e : Entry) : Type 0 where
  pub base : e.base ≤ e.completed
  pub passed : passed k w.sent ≤ e.completed
  pub elsewhere : (u : ℕ) → Elsewhere w k u → (e.base < u) ⊎ (u ≤ version_at w (w.rack.home k) k)
  pub reported : (s u : ℕ) → s ≢ w.rack.home k → Reported w s k u →
      (e.base < u) ⊎ (u ≤ version_at w (w.rack.home k) k)
  pub holders : ((s : ℕ) → Contains e.holders s → e.completed ≤ version_at w s k) ⊎ HomePhase w k e
  pub mark : MarkLaw w k e e.mark

abbrev pub KeyLaw : World → ℕ → Option Entry → Type 0
KeyLaw w k None = UnlistedLaw w k
KeyLaw w k (Some e) = ListedLaw w k e

-- the applied Fences of a key, the newest first
abbrev pub fences_of : ℕ → List Applied → List Applied
fences_of k fs = filter (λ f. f.key == k) fs

abbrev pub last_version : List Applied → ℕ
last_version [] = 0
last_version (f ∷ fs) = f.version

abbrev pub last_before : List Applied → ℕ
last_before [] = 0
last_before (f ∷ fs) = f.before

abbrev pub older : List Applied → List Applied
older [] = []
older (f ∷ fs) = fs

pub record NoFences (g : Guard) : Type 0 where
  pub low : g.low ≡ 0
  pub floor : g.floor ≡ 0
  pub old : g.old ≡ 0

pub record GuardIs (g : Guard) (fs : List Applied) : Type 0 where
  pub floor : g.floor ≡ last_version fs
  pub low : g.low ≡ last_before fs
  pub old : g.old ≡ last_version (older fs)

abbrev pub HasBase : Option Entry → ℕ → Type 0
HasBase None f = ⊥
HasBase (Some e) f = e.base ≡ f

abbrev pub AtMostBase : Option Entry → ℕ → Type 0
AtMostBase None f = Unit {0}
AtMostBase (Some e) f = f ≤ e.base

abbrev pub Between : Applied → ℕ → Type 0
Between f u = (f.before < u) × (u < f.version)

-- no version of the key that the Fence passed over is held or answered
pub record NothingBetween (w : World) (k : ℕ) (f : Applied) : Type 0 where
  pub held : (s : ℕ) → Between f (version_at w s k) → ⊥
  pub write : (s c n u a : ℕ) (x : Option ℕ) → s ≢ w.rack.home k →
      WasSent w (Server s) (ToServerWrite c n u a k x) → Between f u → ⊥
  pub copy : (to : Node) (u a : ℕ) (x : Option ℕ) → WasSent w to (CopyData u a k x) → Between f u →
      ⊥
  pub reported : (s u : ℕ) → Reported w s k u → Between f u → ⊥
  pub fence : (to : Node) (u a : ℕ) → WasSent w to (Fence u a k) → Between f u → ⊥

pub record FenceLaw (w : World) (k : ℕ) : Type 0 where
  pub sent : (to : Node) (f a : ℕ) → WasSent w to (Fence f a k) →
      (f ≤ version_at w (w.rack.home k) k) ⊎ HasBase (entry w k) f
  pub most : (to : Node) (f a : ℕ) → WasSent w to (Fence f a k) → AtMostBase (entry w k) f
  pub guard : GuardIs (w.guards (w.rack.home k) k) (fences_of k w.fences)
  pub low : (w.guards (w.rack.home k) k).old ≤ (w.guards (w.rack.home k) k).low
  pub floor : (w.guards (w.rack.home k) k).floor ≤ version_at w (w.rack.home k) k
  pub others : (s : ℕ) → s ≢ w.rack.home k → NoFences (w.guards s k)
  pub applied : All (λ f. f.key ≡ k → NothingBetween w k f) w.fences
  pub voided : (to : Node) (c n u s a : ℕ) → WasSent w to (Void c n u s a k) →
      (f : Applied) × Contains w.fences f × (f.key ≡ k) × Between f u

pub record Law (w : World) : Type 0 where
  pub versions : Versions w
  pub reports : (s k u : ℕ) → Reported w s k u → u ≤ version_at w s k
  pub keys : (k : ℕ) → KeyLaw w k (entry w k)
  pub reads_sent : (s c n a k : ℕ) → WasSent w (Server s) (ToServerRead c n a k) →
      passed_at_issue w c n ≤ version_at w s k
  pub reads_answered : (to : Node) (c n u s a k : ℕ) (o : Option ℕ) →
      WasSent w to (ReadReply c n u s a k o) → passed_at_issue w c n ≤ u
  pub stamps : (to : Node) (c n u a k : ℕ) (x : Option ℕ) →
      WasSent w to (ToServerWrite c n u a k x) → passed_at_issue w c n < u
  pub last_stamps : (c n : ℕ) → 1 ≤ w.stamps c n → passed_at_issue w c n < w.stamps c n
  pub fences : (k : ℕ) → FenceLaw w k

-- A request gets a further version only after its last one was voided, and a voided version is held
-- by no server and answered to no client.
pub record ActsOnce (w : World) : Type 0 where
  pub given : (u : ℕ) → w.rack.first ≤ u → u < w.core.next → IsGiven w u
  pub write : (to to' : Node) (c n u a k c' n' a' k' : ℕ) (x x' : Option ℕ) →
      WasSent w to (ToServerWrite c n u a k x) → WasSent w to' (ToServerWrite c' n' u a' k' x')
      → (c ≡ c') × (n ≡ n') × (k ≡ k') × (x ≡ x')
  -- a Void of the lesser version was sent before the first write with the greater
  pub again : (to to' : Node) (c n u a k u' a' k' : ℕ) (x x' : Option ℕ) →
      WasSent w to (ToServerWrite c n u a k x) → WasSent w to' (ToServerWrite c n u' a' k' x')
      → u < u' → voided_in u (before_write u' w.sent) ≡ true
  pub held : (to : Node) (c n u s a k : ℕ) → WasSent w to (Void c n u s a k) → (t j : ℕ) →
      version_at w t j ≢ u
  pub reported : (to : Node) (c n u s a k : ℕ) → WasSent w to (Void c n u s a k) → (t j : ℕ) →
      Reported w t j u → ⊥
  pub copied : (to to' : Node) (c n u s a k a' j : ℕ) (x : Option ℕ) →
      WasSent w to (Void c n u s a k) → WasSent w to' (CopyData u a' j x) → ⊥
