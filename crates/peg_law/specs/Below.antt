-- The versions of a world are below the next one of the current stamps.
--     version_in item      the version that a packet carries, or 0
--     VersionsAreBelow w      each version that is held, sent, in a client's row or in an entry
use Rattle.std.specs.Prelude.{◌≡◌, ◌≤◌, ◌<◌, ℕ, List, Some, Contains}
use Rattle.peg_name.specs.declared.Node.{Node}
use Rattle.peg_event.specs.declared.answers.Listing.{Listing}
use Rattle.peg_model.specs.Packet.{Packet, ToServerWrite, ReadReply, WriteReply, CopyData, Held}
use Rattle.peg_model.specs.Packet.{Fence, Void}
use Rattle.peg_model.specs.Rules.{entry_of, row_of}
use Rattle.peg_model.specs.World.{World, switch_of}
use Rattle.peg_law.specs.Covered.{version_at, IsCurrent}

abbrev pub version_in : Packet → ℕ
version_in (ToServerWrite client seq version server switch key content) = version
version_in (ReadReply client seq version server switch key content) = version
version_in (WriteReply client seq version server switch key) = version
version_in (CopyData switch server version key content) = version
version_in (Held server version key) = version
version_in (Fence switch server version key) = version
version_in (Void client seq version server switch key) = version
version_in _ = 0

abbrev pub next_at : World → ℕ → ℕ
next_at w holder = (switch_of w holder).stamps.next

-- a mark is at most the next version
pub record EntryIsBelow (next : ℕ) (entry : Listing) : Type 0 where
  pub base : entry.base < next
  pub completed : entry.completed < next
  pub mark : (m : ℕ) → entry.mark ≡ Some m → m ≤ next

pub record VersionsAreBelow (w : World) : Type 0 where
  pub holder : ℕ
  pub current : IsCurrent w holder
  pub held : (server : ℕ) (key : List ℕ) → version_at w server key < next_at w holder
  pub sent :
      (to : Node) (p : Packet) → Contains w.packets (to, p) → version_in p < next_at w holder
  pub rows : (client : ℕ) → (row_of (switch_of w holder).stamps client).1 < next_at w holder
  pub entries :
      (key : List ℕ) (entry : Listing) → entry_of (switch_of w holder).entries key ≡ Some entry
      → EntryIsBelow (next_at w holder) entry
