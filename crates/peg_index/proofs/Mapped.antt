-- Packets as the book has them, and their bytes: a packet has the same number among both.
use Rattle.std.proofs.Common.{◌≡◌, ℕ, ◌+◌, List, [], ◌∷◌, refl, ap, Option, Some, None, ◌&&◌}
use Rattle.std.specs.Prelude.{if◌then◌else◌}
use Rattle.std.specs.Str.{bytes_eq}
use Rattle.peg_name.specs.declared.Format.{Format}
use Rattle.peg_name.specs.declared.Node.{Node}
use Rattle.peg_model.specs.Packet.{Packet, spelling}
use Rattle.peg_model.specs.Datagrams.{spelled}
use Rattle.peg_meaning.specs.RackWord as book
use Rattle.peg_meaning.specs.RackWord.{is_node}
use Rattle.peg_index.specs.Chain.{number_from, number_of, is_packet}

numbered_from :
    (number : ℕ) (format : Format) (packets : List (Node × Packet)) (to : Node) (bytes : List ℕ)
    → book.number_from number format packets to bytes
    ≡ number_from number (spelled format packets) to bytes
unfolding number_from is_packet
numbered_from number format [] to bytes = refl
numbered_from number format (item ∷ packets) to bytes =
    ap (λ rest. if is_node item.0 to && bytes_eq (spelling format item.1) bytes then Some number
    else rest)
    (numbered_from (number + 1) format packets to bytes)

pub numbered :
    (format : Format) (packets : List (Node × Packet)) (to : Node) (bytes : List ℕ)
    → book.number_of format packets to bytes ≡ number_of (spelled format packets) to bytes
numbered format packets to bytes = numbered_from 0 format packets to bytes
