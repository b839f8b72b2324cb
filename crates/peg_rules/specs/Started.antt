-- The core of a switch as it starts.
--     listed_at_start rack keys      the entries of the keys that are listed from the start on
--     started rack keys      with these, and nothing stamped
use Rattle.std.specs.Prelude.{ℕ, ◌-◌, List, map, replicate}
use Rattle.peg_name.specs.Name.{Rack, home_of}
use Rattle.peg_model.specs.Rules.{Directory, Core, new_listing}

abbrev pub listed_at_start : Rack → List (List ℕ) → Directory
listed_at_start rack keys =
    map (λ key. (key, new_listing 0 (home_of rack.servers key) (rack.first - 1))) keys

abbrev pub started : Rack → List (List ℕ) → Core
started rack keys = record {
  rack = rack;
  stamps = record { next = rack.first; rows = replicate rack.clients (0, 0) };
  entries = listed_at_start rack keys;
}
