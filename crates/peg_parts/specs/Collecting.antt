-- What a collector always keeps.
--     IsCollector rack read held room joined      its reader is of the rack, and there is room for
--         as many parts as a state has, at their places and joined
use Rattle.std.specs.Prelude.{◌≡◌, ◌≤◌, ◌*◌, ℕ}
use Rattle.peg_name.specs.Name.{Rack, parts_most}

pub record IsCollector (rack read : Rack) (held room joined : ℕ) : Type 0 where
  pub same : read ≡ rack
  pub few : held ≤ parts_most rack.format
  pub places : parts_most rack.format ≤ room
  pub bytes : 512 * parts_most rack.format ≤ joined
