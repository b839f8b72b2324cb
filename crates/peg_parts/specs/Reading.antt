-- What is read of a state, and what its entries are to be.
--     is_directory rack entries      few enough, each within the rack, and no key twice
--     Read      the rack, and the stamps and entries that were read last
use Rattle.std.specs.Prelude.{Bool, ◌&&◌, nat_le, length}
use Rattle.std.specs.List.{list_all}
use Rattle.std.specs.Map.{keys_of}
use Rattle.peg_name.specs.Name.{Rack}
use Rattle.peg_model.specs.Packet.{are_distinct}
use Rattle.peg_model.specs.Rules.{Stamps, Directory}
use Rattle.peg_model.specs.Handover.{is_entry}

abbrev pub is_directory : Rack → Directory → Bool
is_directory rack entries =
    nat_le (length entries) rack.listed && list_all (is_entry rack) entries
    && are_distinct (keys_of entries)

-- what was read last
pub record Read : Type 0 where
  pub rack : Rack
  pub stamps : Stamps
  pub entries : Directory
