-- What a sealed switch keeps of its state.
--     Sealed      the rack and the state's bytes; none before the first seal
--     state_with stamps last entries      the state of these
--     room_of rack      as many bytes as a state of the rack may have
--     IsSealed sealed      what the kept bytes always are: cut into parts, each has its place in a
--         packet
use Rattle.std.specs.Prelude.{◌+◌, ◌*◌, ◌^◌, ◌<◌, ◌≤◌, ℕ, IsTrue, List, [], length, slice_index_or}
use Rattle.peg_name.specs.Name.{Rack, parts_most}
use Rattle.peg_model.specs.Packet.{Part, in_range}
use Rattle.peg_model.specs.Rules.{Stamps, Directory}
use Rattle.peg_model.specs.Handover.{State, parts}

pub record Sealed : Type 0 where
  pub rack : Rack
  pub bytes : List ℕ

abbrev pub state_with : Stamps → ℕ → Directory → State
state_with stamps last entries = record { stamps = stamps; last = last; entries = entries }

-- the numbers and counts, a row for each client, and an entry for each key that may be listed
abbrev pub room_of : Rack → ℕ
room_of rack = 19 + 16 * rack.clients + 73 * rack.listed

pub record IsSealed (s : Sealed) : Type 0 where
  pub few : length (parts s.bytes) ≤ parts_most s.rack.format
  pub packets :
      (epoch index : ℕ) → 2 ≤ epoch → epoch < 2 ^ 64 → index < length (parts s.bytes)
      → IsTrue (in_range s.rack.format
      (Part epoch index (length (parts s.bytes)) (slice_index_or (parts s.bytes) index [])))
