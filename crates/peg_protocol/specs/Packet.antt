-- Typed packets, nodes, and what was sent.
use Rattle.std.specs.Prelude.{ℕ, Option}
use Rattle.peg_protocol.specs.Core.{Core}

pub data What : Type 0 where
  Promote : (key : ℕ) → What
  Demote : (key : ℕ) → What
  Copy : (target key : ℕ) → What
  Seal : (target epoch : ℕ) → What
  FenceKey : (key : ℕ) → What
  Clear : What

pub data Outcome : Type 0 where
  Listed : (listing : ℕ) → Outcome
  Already : (listing : ℕ) → Outcome
  Full : (count : ℕ) → Outcome
  Marked : (mark : ℕ) → Outcome
  NotListed : Outcome
  AlreadyMarked : (mark : ℕ) → Outcome
  Ordered : (server : ℕ) → Outcome
  Holds : Outcome
  Activated : (epoch : ℕ) → Outcome
  Fenced : (base : ℕ) → Outcome
  NoBase : Outcome
  NoVersion : (next : ℕ) → Outcome
  Cleared : Outcome

-- a switch stands in a packet as the one that sent it, or to which the reply goes
pub data Packet : Type 0 where
  Read : (client seq key : ℕ) → Packet
  Write : (client seq key : ℕ) (content : Option ℕ) → Packet
  ToServerRead : (client seq switch key : ℕ) → Packet
  ToServerWrite : (client seq version switch key : ℕ) (content : Option ℕ) → Packet
  ReadReply : (client seq version server switch key : ℕ) (content : Option ℕ) → Packet
  WriteReply : (client seq version server switch key : ℕ) → Packet
  CopyOrder : (switch target key : ℕ) → Packet
  CopyData : (version switch key : ℕ) (content : Option ℕ) → Packet
  Held : (server version key : ℕ) → Packet
  Fence : (version switch key : ℕ) → Packet
  Void : (client seq version server switch key : ℕ) → Packet
  Command : (number : ℕ) (what : What) → Packet
  Ack : (number : ℕ) (outcome : Outcome) → Packet
  Part : (epoch index count : ℕ) (core : Core) → Packet
  Announce : (epoch switch : ℕ) → Packet
  Other : Packet  -- one that the law says nothing of: a survey or a report of the counts

pub data Node : Type 0 where
  Client : ℕ → Node
  Switch : ℕ → Node
  Server : ℕ → Node
  Controller : Node

-- a packet that was sent to a node
pub record Item : Type 0 where
  pub to : Node
  pub packet : Packet

abbrev pub item : Node → Packet → Item
item to packet = record { to = to; packet = packet }
