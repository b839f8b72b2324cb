-- What a directory is seen as.
--     Table      the rack, and the entries in the order of listing
--     IsDirectory table      what every directory keeps
--     with_entries table entries      the table with these entries
--     IsAt key entries place entry      the key's entry is this one, at this place
use Rattle.std.specs.Prelude.{◌≡◌, ◌<◌, ◌≤◌, ℕ, true, Some, List, length}
use Rattle.std.specs.List.{list_all}
use Rattle.std.specs.Map.{keys_of, set_value}
use Rattle.std.specs.Str.{bytes_eq}
use Rattle.indexmap.specs.IndexMap.{set_value_at}
use Rattle.peg_name.specs.Name.{Rack}
use Rattle.peg_model.specs.Packet.{are_distinct}
use Rattle.peg_event.specs.declared.answers.Listing.{Listing}
use Rattle.peg_model.specs.Rules.{Directory, entry_of}
use Rattle.peg_model.specs.Handover.{is_entry}

pub record Table : Type 0 where
  pub rack : Rack
  pub entries : Directory

-- there is room for the entries, each is within the rack, and no key has two
pub record IsDirectory (t : Table) : Type 0 where
  pub few : length t.entries ≤ t.rack.listed
  pub within : list_all (is_entry t.rack) t.entries ≡ true
  pub distinct : are_distinct (keys_of t.entries) ≡ true

abbrev pub with_entries : Table → Directory → Table
with_entries t entries = record t { entries = entries }

-- what is found and changed by the key is what stands at the place
pub record IsAt (key : List ℕ) (entries : Directory) (place : ℕ) (entry : Listing) : Type 0 where
  pub within : place < length entries
  pub found : entry_of entries key ≡ Some entry
  pub put :
      (now : Listing) → set_value (bytes_eq key) entries now ≡ set_value_at entries place now
