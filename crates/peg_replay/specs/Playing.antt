-- A replay as a state of its meaning.
--     ran_of r, word_of play, replay_word play      the world that it plays on, and the state
--     IsTied play, are_tied play      what holds of its parts between two lines
--     rank_of play      how many lines it may still take
--     SaysLine entry word line, InRack entry rack      what a line says
use Rattle.std.specs.Prelude.{◌≡◌, ◌≤◌, ◌+◌, ◌-◌, ℕ, Bool, true, false, Option, Some, None, List}
use Rattle.peg_name.specs.Name.{Rack}
use Rattle.peg_model.specs.Schedule.{EventInRack}
use Rattle.peg_meaning.specs.Session.{IsOnly}
use Rattle.peg_meaning.specs.ReplayWord as word
use Rattle.peg_meaning.specs.ReplayWord.{ReplayWord, ReplayEntry, Happens, Ends, Ran, IsReplayLine}
use Rattle.peg_meaning.specs.ReplayWord.{Starting, Finished, replays}
use Rattle.peg_text.specs.declared.event.Entry.{Entry}
use Rattle.peg_text.specs.declared.event.Entry.TheVariants as entry
use Rattle.peg_world.specs.Running.{Running}
use Rattle.peg_replay.specs.declared.play.Play.{Play}

abbrev pub ran_of : Running → Ran
ran_of r = record { world = r.world; events = r.events }

abbrev pub word_at : Bool → Rack → List (List ℕ) → Running → ReplayWord
word_at true rack keys r = Finished rack keys (ran_of r)
word_at false rack keys r = word.Running rack keys (ran_of r)

abbrev pub word_of : Play → ReplayWord
word_of p = word_at p.is_over p.rack.0 p.rack.1 p.world

abbrev pub replay_word : Option Play → ReplayWord
replay_word None = Starting
replay_word (Some p) = word_of p

pub record IsTied (p : Play) : Type 0 where
  pub is_rack : p.world.world.rack ≡ p.rack.0
  pub is_place : p.world.world.place ≡ p.place
  pub count : p.world.events + 1 ≡ p.place
  pub few : p.place ≤ 1000001
  pub goes_on : p.world.is_over ≡ false

abbrev pub are_tied : Option Play → Type 0
are_tied None = Unit {0}
are_tied (Some p) = IsTied p

abbrev pub rank_at : Bool → ℕ → ℕ
rank_at true place = 0
rank_at false place = 1000004 - place

abbrev pub rank_of : Option Play → ℕ
rank_of None = 1000005
rank_of (Some p) = rank_at p.is_over p.place

abbrev pub SaysLine : Option Entry → ReplayWord → List ℕ → Type 0
SaysLine None word line = (e : ReplayEntry) → IsReplayLine word line e → ⊥
SaysLine (Some (entry.Event e)) word line = IsOnly replays word line (Happens e)
SaysLine (Some entry.End) word line = IsOnly replays word line Ends

abbrev pub InRack : Option Entry → Rack → Type 0
InRack (Some (entry.Event e)) rack = EventInRack rack e
InRack _ rack = Unit {0}
