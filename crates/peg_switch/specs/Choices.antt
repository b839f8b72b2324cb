-- To which servers a packet may go that is of the rack's format.
--     packet_allowed s p      as the book says it of the packet that bytes spell
use Rattle.std.specs.Prelude.{Some}
use Rattle.peg_model.specs.Packet.{Packet}
use Rattle.peg_model.specs.Switch.{Switch}
use Rattle.peg_meaning.specs.Balance as book

unfoldable pub packet_allowed : Switch → Packet → book.Allowed
packet_allowed s p = book.packet_allowed (Some (s.rack.format, p)) s
