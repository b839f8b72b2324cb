-- Which packets are alike.
--     is_request packet      whether it asks for a read or a write
--     is_reply packet      whether it answers one, or says that it is void
--     is_copy packet      whether it is of a copy or of a fence
use Rattle.std.specs.Prelude.{Bool, true, false}
use Rattle.peg_packet.specs.declared.Packet.{Packet}
use Rattle.peg_packet.specs.declared.Packet.TheVariants.{Read, Write, ToServerRead}
use Rattle.peg_packet.specs.declared.Packet.TheVariants.{ToServerWrite, ReadReply, WriteReply}
use Rattle.peg_packet.specs.declared.Packet.TheVariants.{Void, CopyOrder, CopyData, Held, Fence}

abbrev pub is_request : Packet → Bool
is_request (Read client seq key) = true
is_request (Write client seq key content) = true
is_request (ToServerRead header key) = true
is_request (ToServerWrite header version key content) = true
is_request _ = false

abbrev pub is_reply : Packet → Bool
is_reply (ReadReply header version key content) = true
is_reply (WriteReply header version key) = true
is_reply (Void header version key) = true
is_reply _ = false

abbrev pub is_copy : Packet → Bool
is_copy (CopyOrder switch server target key) = true
is_copy (CopyData switch server version key content) = true
is_copy (Held server version key) = true
is_copy (Fence switch server version key) = true
is_copy _ = false
