-- Several racks that are played, as a state of their meaning.
--     division_of p, word_of p, racks_word p      the racks so far, and the state
--     IsTied p, are_tied p      what holds of its parts between two lines
--     IsTaken rs e      there is a rack that takes an event, and has what it names
--     rank_of p, rank_in p      how many lines it may still take
use Rattle.std.specs.Prelude.{◌≡◌, ◌≤◌, ◌+◌, ◌-◌, ℕ, Bool, true, false, Option, Some, None, List}
use Rattle.std.specs.Prelude.{length, slice_get}
use Rattle.peg_model.specs.Schedule.{EventInRack}
use Rattle.peg_meaning.specs.Racks as word
use Rattle.peg_meaning.specs.Racks.{RacksWord, RacksEvent, Division, Starting, Finished, event_in}
use Rattle.peg_world.specs.Running.{Running}
use Rattle.peg_world.specs.Sound.{Each}
use Rattle.peg_racks.specs.Worlds.{worlds_of, taking}
use Rattle.peg_racks.specs.declared.play.Play.{Play}

abbrev pub division : List Running → ℕ → ℕ → ℕ → Division
division rs unnamed place lines =
    record { worlds = worlds_of rs; unnamed = unnamed; place = place; lines = lines }

abbrev pub division_of : Play → Division
division_of p = division p.racks p.unnamed p.place p.lines

abbrev pub word_at : Bool → Division → RacksWord
word_at true d = Finished d
word_at false d = word.Running d

abbrev pub word_of : Play → RacksWord
word_of p = word_at p.is_over (division_of p)

abbrev pub racks_word : Option Play → RacksWord
racks_word None = Starting
racks_word (Some p) = word_of p

-- a world that goes on, behind no more lines than these
pub record GoesOn (place lines : ℕ) (r : Running) : Type 0 where
  pub goes_on : r.is_over ≡ false
  pub before : r.world.place ≤ place
  pub few : r.events ≤ lines

pub record IsTied (p : Play) : Type 0 where
  pub each : Each (λ i. GoesOn p.place p.lines) p.racks
  pub counted : p.place ≡ 1 + length p.racks + p.lines
  pub some : 1 ≤ length p.racks + p.unnamed
  pub most : length p.racks + p.unnamed ≤ 8
  pub few : p.lines ≤ 1000000

abbrev pub are_tied : Option Play → Type 0
are_tied None = Unit {0}
are_tied (Some p) = IsTied p

pub record IsTaken (rs : List Running) (e : RacksEvent) : Type 0 where
  pub taker : Running
  pub at : slice_get rs (taking rs e) ≡ Some taker
  pub in_rack : EventInRack taker.world.rack (event_in e)

abbrev pub rank_at : Bool → ℕ → ℕ → ℕ
rank_at true unnamed lines = 0
rank_at false unnamed lines = 1 + unnamed + (1000000 - lines)

abbrev pub rank_of : Play → ℕ
rank_of p = rank_at p.is_over p.unnamed p.lines

abbrev pub rank_in : Option Play → ℕ
rank_in None = 1000010
rank_in (Some p) = rank_of p
