-- Several worlds that are being run.
--     config_of r, worlds_of rs      the rack of a world, and the worlds as the book has them
--     taking rs e      the rack that takes an event
--     IsToBegin r, begun r      a rack line's rack with its keys, and its world at that line
--     AreKept configs rs      what is kept between two events
--     longest_of configs      the longest line of racks
--     line_in rs rack      the last line of a rack
--     Steps old now place e      what an event came to, at the one rack that takes it
--     Halts halt old now rack      the same of a halt
--     IsPastAt rs place e      the event is past a limit of the world that takes it
--     IsOverAt rs rack      the world of a rack is over
--     AreOrdersOf r orders      these are the printed orders of a world
use Rattle.std.specs.Prelude.{◌≡◌, ◌≢◌, ◌≤◌, ℕ, true, false, Option, Some, None, List, []}
use Rattle.std.specs.Prelude.{◌∷◌, length, map, option_map, slice_get, slice_set, AllPairs, nat_lt}
use Rattle.std.specs.Prelude.{if◌then◌else◌}
use Rattle.peg_name.specs.Name.{Rack, line_most}
use Rattle.peg_event.specs.declared.Event.{Event}
use Rattle.peg_event.specs.declared.Line.{Line}
use Rattle.peg_model.specs.World.{World, history}
use Rattle.peg_meaning.specs.Racks.{RacksEvent, rack_of, event_in}
use Rattle.peg_history.specs.declared.KeyOrder.{KeyOrder}
use Rattle.peg_history.specs.Groups.{key_orders}
use Rattle.peg_world.specs.Running as running
use Rattle.peg_world.specs.Running.{Running, started, Halted, AreHistories, is_past}
use Rattle.peg_world.specs.declared.Halt.{Halt}

abbrev pub config_of : Running → Rack
config_of r = r.world.rack

abbrev pub world_of : Running → World
world_of r = r.world

abbrev pub worlds_of : List Running → List World
worlds_of rs = map world_of rs

abbrev pub taking : List Running → RacksEvent → ℕ
taking rs e = rack_of (length rs) e

abbrev pub IsToBegin : Rack × List (List ℕ) → Type 0
IsToBegin r = AllPairs (λ key other. key ≢ other) r.1 × (length r.1 ≤ r.0.listed)

abbrev pub begun : Rack × List (List ℕ) → Running
begun r = started r.0 r.1

pub record AreKept (configs : List Rack) (rs : List Running) : Type 0 where
  pub configs_are : configs ≡ map config_of rs
  pub few : length rs ≤ 8

abbrev pub longest_of : List Rack → ℕ
longest_of [] = 0
longest_of (rack ∷ racks) =
    let most = longest_of racks in
    if nat_lt most (line_most rack.format) then line_most rack.format else most

abbrev pub line_in : List Running → ℕ → Option Line
line_in rs rack = option_map (λ (r : Running). r.line) (slice_get rs rack)

-- ---- what came of an event

pub record Steps (old now : List Running) (place : ℕ) (e : RacksEvent) : Type 0 where
  pub before : Running
  pub after : Running
  pub at : slice_get old (taking old e) ≡ Some before
  pub is : now ≡ slice_set old (taking old e) after
  pub did : after ≡ running.stepped before place (event_in e)
  pub placed : after.world.place ≡ place
  pub within : is_past before place (event_in e) ≡ false

pub record Halts (halt : Halt) (old now : List Running) (rack : ℕ) : Type 0 where
  pub before : Running
  pub after : Running
  pub at : slice_get old rack ≡ Some before
  pub is : now ≡ slice_set old rack after
  pub halted : Halted halt before after

abbrev pub IsPastIn : Option Running → ℕ → Event → Type 0
IsPastIn None place e = ⊥
IsPastIn (Some r) place e = is_past r place e ≡ true

abbrev pub IsPastAt : List Running → ℕ → RacksEvent → Type 0
IsPastAt rs place e = IsPastIn (slice_get rs (taking rs e)) place (event_in e)

abbrev pub IsOverIn : Option Running → Type 0
IsOverIn None = ⊥
IsOverIn (Some r) = r.is_over ≡ true

abbrev pub IsOverAt : List Running → ℕ → Type 0
IsOverAt rs rack = IsOverIn (slice_get rs rack)

-- ---- the orders

abbrev pub AreOrdersOf : Option Running → List KeyOrder → Type 0
AreOrdersOf None orders = ⊥
AreOrdersOf (Some r) orders =
    (orders ≡ key_orders (history r.world) (map (λ o. o.tag) r.world.operations))
    × AreHistories (history r.world) orders
