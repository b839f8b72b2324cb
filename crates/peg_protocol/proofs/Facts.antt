-- The facts that every step keeps. They speak of a view of the world without the packets, and of
-- each packet by itself.
use Rattle.std.proofs.Common.{Contains, ◌≡◌, ◌≢◌, ℕ, length, ◌+◌, ◌<◌, ◌≤◌, ◌⊎◌, Bool, true, List}
use Rattle.std.proofs.Common.{[], ◌∷◌, Option, Some, None}
use Rattle.std.specs.List.{AllByRecursion, list_any}
use Rattle.peg_protocol.specs.Packet.{Packet, Node, Item, Read, Write, ToServerRead, ToServerWrite}
use Rattle.peg_protocol.specs.Packet.{ReadReply, WriteReply, CopyOrder, CopyData, Held, Fence, Void}
use Rattle.peg_protocol.specs.Packet.{Command, Ack, Part, Announce, Other, Client, Switch, Server}
use Rattle.peg_protocol.specs.Packet.{Controller}
use Rattle.peg_protocol.specs.Core.{Row, Entry, entry_of}
use Rattle.peg_protocol.specs.Law.{passed, before, asks, times_in, stamped_in, voided_in}
use Rattle.peg_protocol.specs.Law.{before_write, fences_of, NoFences, GuardIs, HasBase, AtMostBase}
use Rattle.peg_protocol.specs.Machine.{Act, Reads, Writes, Plan, Answer, Pair, Guard, Applied}
use Rattle.peg_protocol.specs.Machine.{origin_of, Id, id, World}

-- one that is in a list
abbrev pub AnyOf : {X : Type 0} → (X → Type 0) → List X → Type 0
AnyOf P [] = ⊥
AnyOf P (x ∷ xs) = P x ⊎ AnyOf P xs

-- no Fence that was applied passed over the version
abbrev pub Outside : ℕ → ℕ → Applied → Type 0
Outside k u f = f.key ≡ k → (u ≤ f.before) ⊎ (f.version ≤ u)

abbrev pub Inside : ℕ → ℕ → Applied → Type 0
Inside k u f = (f.key ≡ k) × (f.before < u) × (u < f.version)

abbrev pub Alive : List Applied → ℕ → ℕ → Type 0
Alive fs k u = AllByRecursion (Outside k u) fs

abbrev pub Dead : List Applied → ℕ → ℕ → Type 0
Dead fs k u = AnyOf (Inside k u) fs

-- of a key, a Fence found a version at or above the Fence before it
abbrev pub Nested : List Applied → Type 0
Nested [] = Unit {0}
Nested (f ∷ fs) = AllByRecursion (λ g. g.key ≡ f.key → g.version ≤ f.before) fs
    × (f.before < f.version) × (f.origin ≡ origin_of fs f.key f.before) × Nested fs

-- what the facts on one packet, one server's pair or one entry may speak of.
-- who: the operation that was given a version, or the promotion, which is told as number 0 of its
-- key; bound: the greatest version that any client was sent for the key before the operation was
-- issued
pub record View : Type 0 where
  pub first : ℕ
  pub next : ℕ
  pub who : ℕ → Id
  pub plans : ℕ → ℕ → Plan
  pub issued : ℕ → ℕ
  pub bound : ℕ → ℕ → ℕ
  pub held : ℕ → ℕ → Pair
  pub dir : ℕ → Option Entry
  pub fences : List Applied

-- an operation that was issued
pub record Issued (v : View) (c n k : ℕ) : Type 0 where
  pub least : 1 ≤ n
  pub most : n ≤ v.issued c
  pub key : (v.plans c n).key ≡ k

pub record Reading (v : View) (c n k : ℕ) : Type 0 where
  pub issued : Issued v c n k
  pub act : (v.plans c n).act ≡ Reads

pub record Writing (v : View) (c n k : ℕ) (x : Option ℕ) : Type 0 where
  pub issued : Issued v c n k
  pub act : (v.plans c n).act ≡ Writes x

-- version u was given to this operation
pub record Given (v : View) (c n u : ℕ) : Type 0 where
  pub least : v.first ≤ u
  pub most : u < v.next
  pub who : v.who u ≡ id c n
  pub some : 1 ≤ n

-- version u was given to a promotion of k, or is the base of a key that was listed at the start
abbrev pub IsPromotion : View → ℕ → ℕ → Type 0
IsPromotion v k u = (u + 1 ≡ v.first) ⊎ ((v.first ≤ u) × (u < v.next) × (v.who u ≡ id k 0))

-- the content of origin o: absent at 0, or of the write that was given o
abbrev pub ContentIs : View → ℕ → ℕ → Option ℕ → Type 0
ContentIs v k o x = ((o ≡ 0) × (x ≡ None))
    ⊎ ((v.first ≤ o) × (o < v.next) × Writing v (v.who o).client (v.who o).seq k x)

pub record PairIs (v : View) (k u : ℕ) (o : Option ℕ) : Type 0 where
  pub most : u < v.next
  pub content : ContentIs v k (origin_of v.fences k u) o

abbrev pub BelowMark : Option ℕ → ℕ → Type 0
BelowMark None u = Unit {0}
BelowMark (Some m) u = u < m

-- a version that a listed key's servers may have while its home lacks it
abbrev pub Loose : Option Entry → ℕ → Type 0
Loose None u = ⊥
Loose (Some e) u = (e.base < u) × BelowMark e.mark u

abbrev pub UnderMark : Option Entry → ℕ → Type 0
UnderMark None u = Unit {0}
UnderMark (Some e) u = BelowMark e.mark u

abbrev pub Covers : ℕ → Option Entry → ℕ → Type 0
Covers held e u = (u ≤ held) ⊎ Loose e u

abbrev pub SettledBy : Option Entry → ℕ → Type 0
SettledBy None u = Unit {0}
SettledBy (Some e) u = u ≤ e.completed

abbrev pub OnServer : Node → (ℕ → Type 0) → Type 0
OnServer (Client c) P = Unit {0}
OnServer (Switch a) P = Unit {0}
OnServer (Server s) P = P s
OnServer Controller P = Unit {0}

abbrev pub OnClient : Node → Type 0 → Type 0
OnClient (Client c) P = P
OnClient (Switch a) P = Unit {0}
OnClient (Server s) P = Unit {0}
OnClient Controller P = Unit {0}

-- home is the same in every world of a run, so it is no part of a view
abbrev pub Ok : (ℕ → ℕ) → View → ℕ → ℕ → Type 0
Ok home v k u = Covers (v.held (home k) k).version (v.dir k) u × Alive v.fences k u

-- a Fence that was sent: its home has its version, or its key is listed with that base
pub record IsDue (home : ℕ → ℕ) (v : View) (k f : ℕ) : Type 0 where
  pub alive : Alive v.fences k f
  pub due : (f ≤ (v.held (home k) k).version) ⊎ HasBase (v.dir k) f
  pub most : AtMostBase (v.dir k) f

pub record IsFence (home : ℕ → ℕ) (v : View) (k f : ℕ) : Type 0 where
  pub least : 1 ≤ f
  pub most : f < v.next
  pub is : IsPromotion v k f
  pub due : IsDue home v k f

pub record Report (home : ℕ → ℕ) (v : View) (s k u : ℕ) : Type 0 where
  pub most : u < v.next
  pub held : u ≤ (v.held s k).version
  pub ok : Ok home v k u

abbrev pub PacketOk : (ℕ → ℕ) → View → Node → Packet → Type 0
PacketOk home v to (Read c n k) = Reading v c n k
PacketOk home v to (Write c n k x) = Writing v c n k x
PacketOk home v to (ToServerRead c n a k) =
    record { op : Reading v c n k; reaches : OnServer to (λ s. v.bound c n ≤ (v.held s k).version) }
PacketOk home v to (ToServerWrite c n u a k x) =
    record {
      op : Writing v c n k x;
      given : Given v c n u;
      ok : OnServer to (λ s. (s ≡ home k) ⊎ (Ok home v k u × UnderMark (v.dir k) u));
    }
PacketOk home v to (ReadReply c n u s a k content) =
    record {
      op : Reading v c n k;
      reaches : v.bound c n ≤ u;
      pair : PairIs v k u content;
      report : Report home v s k u;
      settled : OnClient to (SettledBy (v.dir k) u);
    }
PacketOk home v to (WriteReply c n u s a k) =
    record {
      op : (x : Option ℕ) × Writing v c n k x;
      given : Given v c n u;
      report : Report home v s k u;
      settled : OnClient to (SettledBy (v.dir k) u);
    }
PacketOk home v to (CopyOrder a target k) = Unit {0}
PacketOk home v to (CopyData u a k x) = record { pair : PairIs v k u x; ok : Ok home v k u }
PacketOk home v to (Held s u k) =
    record {
      report : Report home v s k u;
      of : IsPromotion v k u ⊎ ((x : Option ℕ) × PairIs v k u x);
    }
PacketOk home v to (Fence f a k) =
    record { fence : IsFence home v k f; at : OnServer to (λ s. s ≡ home k) }
PacketOk home v to (Void c n u s a k) =
    record {
      op : (x : Option ℕ) × Writing v c n k x;
      given : Given v c n u;
      dead : Dead v.fences k u;
    }
PacketOk home v to (Command number what) = Unit {0}
PacketOk home v to (Ack number outcome) = Unit {0}
PacketOk home v to (Part epoch index count core) = Unit {0}
PacketOk home v to (Announce epoch switch) = Unit {0}
PacketOk home v to Other = Unit {0}

abbrev pub ItemOk : (ℕ → ℕ) → View → Item → Type 0
ItemOk home v i = PacketOk home v i.to i.packet

pub record HeldOk (home : ℕ → ℕ) (v : View) (s k : ℕ) : Type 0 where
  pub pair : PairIs v k (v.held s k).version (v.held s k).content
  pub ok : Ok home v k (v.held s k).version

-- each holder has what was completed, or nothing was reported since the key was listed and its home
-- alone is a holder
abbrev pub Holding : (ℕ → ℕ) → View → ℕ → Entry → Type 0
Holding home v k e = (AllByRecursion (λ s. e.completed ≤ (v.held s k).version) e.holders)
    ⊎ ((e.completed ≡ e.base) × (e.holders ≡ home k ∷ []))

abbrev pub MarkOk : ℕ → ℕ → Option ℕ → Type 0
MarkOk next base None = Unit {0}
MarkOk next base (Some m) = (base < m) × (m ≤ next)

pub record IsEntryOk (home : ℕ → ℕ) (v : View) (k : ℕ) (e : Entry) : Type 0 where
  pub key : e.key ≡ k
  pub base : e.base ≤ e.completed
  pub most : e.completed < v.next
  pub is : IsPromotion v k e.base
  pub mark : MarkOk v.next e.base e.mark
  pub some : 0 < length e.holders
  pub holding : Holding home v k e

abbrev pub EntryOk : (ℕ → ℕ) → View → ℕ → Option Entry → Type 0
EntryOk home v k None = Unit {0}
EntryOk home v k (Some e) = IsEntryOk home v k e

-- a Fence that was applied
pub record FenceOk (home : ℕ → ℕ) (v : View) (f : Applied) : Type 0 where
  pub held : f.version ≤ (v.held (home f.key) f.key).version
  pub fence : IsFence home v f.key f.version

-- what a home server keeps of the Fences of a key
pub record HomeGuard (fs : List Applied) (k : ℕ) (g : Guard) (held : ℕ) : Type 0 where
  pub is : GuardIs g (fences_of k fs)
  pub floor : g.floor ≤ held
  pub ordered : g.old ≤ g.low
  pub top : AllByRecursion (λ f. f.key ≡ k → f.version ≤ g.floor) fs
  pub each : AllByRecursion
      (λ f. f.key ≡ k → (f.version ≤ g.old) ⊎ ((f.before ≡ g.low) × (f.version ≡ g.floor))) fs
  pub last : (g.floor ≡ 0)
      ⊎ AnyOf (λ f. (f.key ≡ k) × (f.before ≡ g.low) × (f.version ≡ g.floor)) fs

pub record GuardOk (home : ℕ → ℕ) (fs : List Applied) (s k : ℕ) (g : Guard) (held : ℕ) : Type 0
  where
    pub at : s ≡ home k → HomeGuard fs k g held
    pub off : s ≢ home k → NoFences g

-- the versions that were given, each to one write or promotion
pub record Version (v : View) (rows : ℕ → Row) (stamps : ℕ → ℕ → ℕ) (c n u : ℕ) : Type 0 where
  pub most : n ≤ v.issued c
  pub act : (x : Option ℕ) × ((v.plans c n).act ≡ Writes x)
  pub above : v.bound c n < u
  pub last : u ≤ stamps c n
  pub stamp : (stamps c n ≡ u) ⊎ Dead v.fences (v.plans c n).key u
  pub seq : n ≤ (rows c).seq

-- a client's row: of no write, or of the last version u of its last write, or open
abbrev pub RowAt : View → ℕ → Row → ℕ → Type 0
RowAt v c r u =
    ((r.seq ≡ 0) × (r.version ≡ 0))
    ⊎ (Given v c r.seq u ×
    ((r.version ≡ u) ⊎ ((r.version ≡ 0) × Dead v.fences (v.plans c r.seq).key u)))

abbrev pub RowOk : View → (ℕ → ℕ → ℕ) → ℕ → Row → Type 0
RowOk v stamps c r = RowAt v c r (stamps c r.seq)

pub record Stamps (v : View) (rows : ℕ → Row) (stamps : ℕ → ℕ → ℕ) : Type 0 where
  pub least : 1 ≤ v.first
  pub most : v.first ≤ v.next
  pub each : (u : ℕ) → v.first ≤ u → u < v.next → 1 ≤ (v.who u).seq →
      Version v rows stamps (v.who u).client (v.who u).seq u
  pub row : (c : ℕ) → RowOk v stamps c (rows c)
  pub stamp : (c n : ℕ) → (stamps c n ≡ 0) ⊎ Given v c n (stamps c n)

-- what the packets and the list of promotions tell of the versions that were given
pub record Owned (i : Id) (promoted : List ℕ) (sent : List Item) (u : ℕ) : Type 0 where
  pub promotion : i.seq ≡ 0 → times_in u promoted ≡ 1
  pub write : 1 ≤ i.seq → (times_in u promoted ≡ 0) × (stamped_in i.client i.seq u sent ≡ true)

pub record Traced (first next : ℕ) (who : ℕ → Id) (rows : ℕ → Row) (stamps : ℕ → ℕ → ℕ)
    (promoted : List ℕ) (sent : List Item) : Type 0 where
  pub none : (u : ℕ) → next ≤ u → times_in u promoted ≡ 0
  pub each : (u : ℕ) → first ≤ u → u < next → Owned (who u) promoted sent u
  pub open_row : (c : ℕ) → 1 ≤ (rows c).seq → (rows c).version ≡ 0 →
      voided_in (stamps c (rows c).seq) sent ≡ true
  pub again : (u v : ℕ) → first ≤ u → u < v → v < next → who u ≡ who v → 1 ≤ (who u).seq →
      voided_in u (before_write v sent) ≡ true

-- an operation's answer
abbrev pub AnswerFits : View → ℕ → ℕ → Answer → Act → Type 0
AnswerFits v c n a Reads =
    (v.bound c n ≤ a.version) × PairIs v (v.plans c n).key a.version a.content
AnswerFits v c n a (Writes x) = Given v c n a.version

abbrev pub AnswerOk : (ℕ → ℕ) → View → ℕ → List Item → ℕ → ℕ → Option Answer → Type 0
AnswerOk home v place sent c n None = Unit {0}
AnswerOk home v place sent c n (Some a) = record {
  later : (v.plans c n).issue < a.place;
  past : a.place ≤ place;
  passed : a.version ≤ passed (v.plans c n).key sent;
  most : a.version < v.next;
  ok : Ok home v (v.plans c n).key a.version;
  seen : (o : Option ℕ) × PairIs v (v.plans c n).key a.version o;
  tag : a.tag ≡ origin_of v.fences (v.plans c n).key a.version;
  fits : AnswerFits v c n a (v.plans c n).act;
}

abbrev pub asked : ℕ → ℕ → List Item → Bool
asked c n is = list_any (λ i. asks c n i.packet) is

-- the log has the operations that were issued
pub record LogOk (issued : ℕ → ℕ) (log : List Id) : Type 0 where
  pub each : AllByRecursion (λ i. (1 ≤ i.seq) × (i.seq ≤ issued i.client)) log
  pub all : (c n : ℕ) → 1 ≤ n → n ≤ issued c → Contains log (id c n)

pub record History (home : ℕ → ℕ) (v : View) (place : ℕ) (sent : List Item) (pending : ℕ → Bool)
    (answers : ℕ → ℕ → Option Answer) : Type 0 where
  pub past : (c n : ℕ) → 1 ≤ n → n ≤ v.issued c → (v.plans c n).issue ≤ place
  pub each : (c n : ℕ) → 1 ≤ n → n ≤ v.issued c → AnswerOk home v place sent c n (answers c n)
  pub under : (c n : ℕ) → 1 ≤ n → n ≤ v.issued c → v.bound c n ≤ passed (v.plans c n).key sent
  pub since : (c n : ℕ) → 1 ≤ n → n ≤ v.issued c →
      (asked c n sent ≡ true) × (v.bound c n ≡ passed (v.plans c n).key (before c n sent))
  pub order : (c n d m : ℕ) (a : Answer) → 1 ≤ n → n ≤ v.issued c → 1 ≤ m → m ≤ v.issued d →
      (v.plans d m).key ≡ (v.plans c n).key → answers d m ≡ Some a → a.place < (v.plans c n).issue →
      a.version ≤ v.bound c n
  pub waits : (c : ℕ) → pending c ≡ true → (1 ≤ v.issued c) × (answers c (v.issued c) ≡ None)

pub record Ghost : Type 0 where
  pub who : ℕ → Id
  pub bound : ℕ → ℕ → ℕ

abbrev pub view : World → Ghost → View
view w g =
    record {
      first = w.rack.first;
      next = w.core.next;
      who = g.who;
      plans = w.plans;
      issued = w.issued;
      bound = g.bound;
      held = w.held;
      dir = λ k. entry_of k w.core.entries;
      fences = w.fences;
    }

pub record Keeps (home : ℕ → ℕ) (v : View) (rows : ℕ → Row) (stamps : ℕ → ℕ → ℕ) (promoted : List ℕ)
    (guards : ℕ → ℕ → Guard) (sent : List Item) (place : ℕ) (pending : ℕ → Bool)
    (answers : ℕ → ℕ → Option Answer) (log : List Id) (fits : Type 0) : Type 0 where
  pub names : LogOk v.issued log
  pub versions : Stamps v rows stamps
  pub held : (s k : ℕ) → HeldOk home v s k
  pub entries : (k : ℕ) → EntryOk home v k (v.dir k)
  pub items : AllByRecursion (ItemOk home v) sent
  pub history : History home v place sent pending answers
  pub traced : Traced v.first v.next v.who rows stamps promoted sent
  pub fences : AllByRecursion (FenceOk home v) v.fences
  pub nested : Nested v.fences
  pub guard : (s k : ℕ) → GuardOk home v.fences s k (guards s k) (v.held s k).version
  pub room : fits

-- the entries are no more than may be listed
abbrev pub RoomLeft : World → Type 0
RoomLeft w = length w.rack.keys ≤ w.rack.room → length w.core.entries ≤ w.rack.room

abbrev pub Kept : World → Ghost → Type 0
Kept w g = Keeps w.rack.home (view w g) w.core.rows w.stamps w.promoted w.guards w.sent w.place
    w.pending w.answers w.log (RoomLeft w)
