-- What the packets, the rows and the list of applied Fences tell of one another.
use Rattle.std.specs.Prelude.{◌≡◌, ◌≢◌, ℕ, ◌≤◌, length, Option, Some, List, [], ◌∷◌, Contains}
use Rattle.std.specs.List.{AllByRecursion}
use Rattle.peg_protocol.specs.Packet.{Node, item, Write, ToServerRead, ReadReply, ToServerWrite}
use Rattle.peg_protocol.specs.Packet.{Void, Part, Switch}
use Rattle.peg_protocol.specs.Core.{Rack, Core, Entry, entry_of}
use Rattle.peg_protocol.specs.Machine.{Writes, Applied}
use Rattle.peg_protocol.specs.System.{System, Active}

-- no two Fences of one key and version were applied
abbrev pub AppliedOnce : List Applied → Type 0
AppliedOnce [] = Unit {0}
AppliedOnce (f ∷ fs) =
    AllByRecursion (λ g. g.key ≡ f.key → g.version ≢ f.version) fs × AppliedOnce fs

-- the numbers that a core has, below the next version and the number of the operations begun
pub record InRange (issued : ℕ → ℕ) (rack : Rack) (c : Core) : Type 0 where
  pub next : rack.first ≤ c.next
  pub seq : (client : ℕ) → (c.rows client).seq ≤ issued client
  pub version : (client : ℕ) → (c.rows client).version ≤ c.next
  pub completed : (k : ℕ) (e : Entry) → entry_of k c.entries ≡ Some e → e.completed ≤ c.next
  pub base : (k : ℕ) (e : Entry) → entry_of k c.entries ≡ Some e → e.base ≤ c.next
  pub mark :
      (k : ℕ) (e : Entry) → entry_of k c.entries ≡ Some e
      → (m : ℕ) → e.mark ≡ Some m → (1 ≤ m) × (m ≤ c.next)
  pub room : length rack.keys ≤ rack.room → length c.entries ≤ rack.room

pub record Told (s : System) : Type 0 where
  -- a write that was asked for is the operation's
  pub writes :
      (to : Node) (c n k : ℕ) (x : Option ℕ) → Contains s.sent (item to (Write c n k x))
      → (s.plans c n).act ≡ Writes x
  -- a row that isn't open has the last version of its operation
  pub rows :
      (a c n u : ℕ) → s.modes a ≡ Active → ((s.cores a).rows c).seq ≡ n
      → ((s.cores a).rows c).version ≡ u → 1 ≤ u → s.stamps c n ≡ u
  pub fences : AppliedOnce s.fences
  -- what is sent of an operation is of its key
  pub read_key :
      (to : Node) (c n a k : ℕ) → Contains s.sent (item to (ToServerRead c n a k))
      → (s.plans c n).key ≡ k
  pub reply_key :
      (to : Node) (c n u t a k : ℕ) (x : Option ℕ)
      → Contains s.sent (item to (ReadReply c n u t a k x)) → (s.plans c n).key ≡ k
  pub write_key :
      (to : Node) (c n u a k : ℕ) (x : Option ℕ)
      → Contains s.sent (item to (ToServerWrite c n u a k x)) → (s.plans c n).key ≡ k
  -- a Void of a version is of the write that was given it
  pub voids :
      (to to' : Node) (c n u t a k c' n' a' k' : ℕ) (x : Option ℕ)
      → Contains s.sent (item to (Void c n u t a k))
      → Contains s.sent (item to' (ToServerWrite c' n' u a' k' x)) → (c ≡ c') × (n ≡ n')
  pub ranges : (a : ℕ) → s.modes a ≡ Active → InRange s.issued s.rack (s.cores a)
  -- the parts of one epoch are of one state, and went to one switch
  pub one_state :
      (b b' epoch i i' n n' : ℕ) (core core' : Core)
      → Contains s.sent (item (Switch b) (Part epoch i n core))
      → Contains s.sent (item (Switch b') (Part epoch i' n' core')) → core ≡ core'
