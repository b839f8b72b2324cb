-- A world in the middle of an event.
--     Midway      the world without the packets that the event sends, these packets, and for how
--         many more packets, other entries and bytes of contents there is memory
--     at_place w place      the world with the place of the next line
--     Happened now after said      what has happened is all of the book's step but that its packets
--         go into flight, which they may and can
--     Stopped halt old now after      what holds where it did not happen
--     Comes old now after result      the event came so
--     Closes mid now place result      where the node has acted, the event is closed or the packets
--         are too many
--     Came old now place after result      the event came so, at its place
--     packet_at w number      the packet of a number
--     is_command event      whether the controller is told to order a command
use Rattle.std.specs.Prelude.{◌≡◌, ◌+◌, ◌<◌, ◌≤◌, ℕ, List, length, Result, Ok, Err, OnOk}
use Rattle.std.specs.Prelude.{slice_index_or, Bool, true, false}
use Rattle.peg_name.specs.declared.Node.{Node}
use Rattle.peg_name.specs.declared.Node.TheVariants as node
use Rattle.peg_event.specs.declared.Event.{Event}
use Rattle.peg_event.specs.declared.Event.TheVariants as event
use Rattle.peg_event.specs.declared.Line.{Line}
use Rattle.peg_event.specs.declared.Said.{Said}
use Rattle.peg_model.specs.Packet.{Packet, Survey}
use Rattle.peg_model.specs.World.{World, reports}
use Rattle.peg_world.specs.declared.Halt.{Halt}
use Rattle.peg_world.specs.declared.Halt.TheVariants as halt

pub record Midway : Type 0 where
  pub world : World
  pub sent : List (Node × Packet)
  pub spare : ℕ
  pub notes : ℕ
  pub room : ℕ

abbrev pub at_place : World → ℕ → World
at_place w place = record w { place = place }

pub record Happened (now : Midway) (after : World × Line) (said : Said) : Type 0 where
  pub is : reports now.world now.sent said ≡ after
  pub within : length now.world.packets + length now.sent ≤ 200000
  pub room : length now.sent ≤ now.spare

abbrev pub Stopped : Halt → Midway → Midway → World × Line → Type 0
Stopped halt.OutOfMemory old now after = (now.world ≡ old.world) × (now.sent ≡ old.sent)
Stopped halt.TooMuch old now after =
    (now.world.packets ≡ old.world.packets) × (now.world.operations ≡ old.world.operations)
    × (200000 < length after.0.packets) × (now.world.place ≡ old.world.place)

abbrev pub Comes : Midway → Midway → World × Line → Result Said Halt → Type 0
Comes old now after (Ok said) = Happened now after said
Comes old now after (Err halt) = Stopped halt old now after

-- an event is closed at its place, unless its packets pass the limit
abbrev pub Closes : Midway → Midway → ℕ → Result (Unit {0}) Halt → Type 0
Closes mid now place (Ok done) =
    (now ≡ record mid { world = at_place mid.world place })
    × (length mid.world.packets + length mid.sent ≤ 200000)
Closes mid now place (Err halt.OutOfMemory) = ⊥
Closes mid now place (Err halt.TooMuch) =
    (now ≡ mid) × (200000 < length mid.world.packets + length mid.sent)

-- a whole event, but that its packets are not in flight yet
pub record Came
    (old now : Midway) (place : ℕ) (after : World × Line) (result : Result Said Halt) : Type 0
  where
    pub comes : Comes old now after result
    pub at : OnOk result (now.world.place ≡ place)
    pub rack : now.world.rack ≡ old.world.rack
    pub packets : OnOk result (now.world.packets ≡ old.world.packets)
    pub counted : length now.world.operations ≤ length old.world.operations + 1

-- the packet of a number
abbrev pub packet_at : World → ℕ → Packet
packet_at w number = (slice_index_or w.packets number (node.Controller, Survey)).1

abbrev pub is_command : Event → Bool
is_command (event.Promote key) = true
is_command (event.Demote key) = true
is_command (event.Copy key target) = true
is_command (event.Fence key) = true
is_command (event.Handover target) = true
is_command event.Clear = true
is_command _ = false
