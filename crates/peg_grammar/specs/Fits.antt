-- Keys, contents and commands that have a place in a packet of either format.
--     FitsKey, FitsContent, FitsWhat, FitsPart, FitsRows      by their lengths
--     FitsPacket p      the parts of a packet
use Rattle.std.specs.Prelude.{ℕ, ◌≤◌, List, length}
use Rattle.std.specs.List.{flat_map}
use Rattle.peg_name.specs.declared.Row.{Row}
use Rattle.peg_name.specs.declared.value.Content.{Content}
use Rattle.peg_name.specs.declared.value.Content.TheVariants.{Absent, Present}
use Rattle.peg_model.specs.Packet.{What, Promote, Demote, Copy, Seal, Clear, FenceKey, Packet}
use Rattle.peg_model.specs.Packet.{Read, Write, ToServerRead, ToServerWrite, ReadReply, WriteReply}
use Rattle.peg_model.specs.Packet.{Command, CommandAck, CopyOrder, CopyData, Held, Part, Announce}
use Rattle.peg_model.specs.Packet.{Survey, Report, Fence, Void, row_bytes}

abbrev pub FitsKey : List ℕ → Type 0
FitsKey key = length key ≤ 32

abbrev pub FitsContent : Content → Type 0
FitsContent Absent = Unit {0}
FitsContent (Present value) = length value ≤ 1024

abbrev pub FitsWhat : What → Type 0
FitsWhat (Promote key) = FitsKey key
FitsWhat (Demote key) = FitsKey key
FitsWhat (Copy target key) = FitsKey key
FitsWhat (Seal target epoch) = Unit {0}
FitsWhat Clear = Unit {0}
FitsWhat (FenceKey key) = FitsKey key

abbrev pub FitsPart : List ℕ → Type 0
FitsPart bytes = length bytes ≤ 512

abbrev pub FitsRows : List Row → Type 0
FitsRows rows = (length rows ≤ 12) × (length (flat_map row_bytes rows) ≤ 588)

abbrev pub FitsPacket : Packet → Type 0
FitsPacket (Read client seq key) = FitsKey key
FitsPacket (Write client seq key content) = FitsKey key × FitsContent content
FitsPacket (ToServerRead client seq server switch key) = FitsKey key
FitsPacket (ToServerWrite client seq version server switch key content) =
    FitsKey key × FitsContent content
FitsPacket (ReadReply client seq version server switch key content) =
    FitsKey key × FitsContent content
FitsPacket (WriteReply client seq version server switch key) = FitsKey key
FitsPacket (Command number what) = FitsWhat what
FitsPacket (CommandAck number outcome) = Unit {0}
FitsPacket (CopyOrder switch server target key) = FitsKey key
FitsPacket (CopyData switch server version key content) = FitsKey key × FitsContent content
FitsPacket (Held server version key) = FitsKey key
FitsPacket (Part epoch index count bytes) = FitsPart bytes
FitsPacket (Announce epoch switch) = Unit {0}
FitsPacket Survey = Unit {0}
FitsPacket (Report epoch total rows) = FitsRows rows
FitsPacket (Fence switch server version key) = FitsKey key
FitsPacket (Void client seq version server switch key) = FitsKey key
