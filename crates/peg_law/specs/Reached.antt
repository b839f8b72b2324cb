-- What was answered before an operation was issued, and that it is reached by what is sent of it.
--     answered_before w client seq key      the greatest version of the key in an answer that was
--         sent before the operation's first request
--     ReachesWhatWasAnswered w      reads reach it, and writes are above it
use Rattle.std.specs.Prelude.{◌≤◌, ◌<◌, ◌==◌, ◌&&◌, ℕ, Bool, false, List, [], ◌∷◌, Contains}
use Rattle.std.specs.Prelude.{if◌then◌else◌}
use Rattle.peg_name.specs.declared.value.Content.{Content}
use Rattle.peg_name.specs.declared.Node.{Node}
use Rattle.peg_name.specs.declared.Node.TheVariants as node
use Rattle.peg_model.specs.Packet.{Packet, Read, Write, ToServerRead, ToServerWrite, ReadReply}
use Rattle.peg_model.specs.World.{World}
use Rattle.peg_law.specs.Covered.{version_at, answered}

abbrev pub is_request_of : ℕ → ℕ → Packet → Bool
is_request_of client seq (Read c q key) = c == client && q == seq
is_request_of client seq (Write c q key content) = c == client && q == seq
is_request_of client seq _ = false

abbrev pub before_request : ℕ → ℕ → List (Node × Packet) → List (Node × Packet)
before_request client seq [] = []
before_request client seq (item ∷ packets) =
    if is_request_of client seq item.1 then []
    else item ∷ before_request client seq packets

abbrev pub answered_before : World → ℕ → ℕ → List ℕ → ℕ
answered_before w client seq key = answered key (before_request client seq w.packets)

pub record ReachesWhatWasAnswered (w : World) : Type 0 where
  -- a server to which a read was sent has what was answered before it was issued
  pub read_sent :
      (s client seq named switch : ℕ) (key : List ℕ)
      → Contains w.packets (node.Server s, ToServerRead client seq named switch key)
      → answered_before w client seq key ≤ version_at w s key
  pub read_answered :
      (to : Node) (client seq version server switch : ℕ) (key : List ℕ) (content : Content)
      → Contains w.packets (to, ReadReply client seq version server switch key content)
      → answered_before w client seq key ≤ version
  pub written :
      (to : Node) (client seq version server switch : ℕ) (key : List ℕ) (content : Content)
      → Contains w.packets (to, ToServerWrite client seq version server switch key content)
      → answered_before w client seq key < version
