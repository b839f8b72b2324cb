-- A rack over a wire as a state of its meaning.
--     takes_of rack takes      what a line still has to take
--     racked_of g, word_of g, rack_word base g      the rack that it runs, and the state
--     binds_of g, letters_of g      what the last step bound and sent; binds_in and letters_in, also
--         before the rack line
--     IsTied g, AreTied base g      what holds of its parts between two inputs
--     HasRoom g      the place may rise once more
--     Stays old now      what no step of a running rack changes
--     rank_of g, rank_in g      how many inputs it may still take
--     IsNext takes most taken rest      what is taken first, with its pick, and the rest
--     InRack rack entry, AreIn rack takes      the nodes that they name are in the rack
--     Comes answer stepped ..      a step came to this answer
use Rattle.std.specs.Prelude.{◌≡◌, ◌≤◌, ◌+◌, ◌-◌, ◌*◌, ℕ, Bool, true, false, Option, Some, None}
use Rattle.std.specs.Prelude.{List, [], ◌∷◌, length, map, drop, unwrap_or, if◌then◌else◌}
use Rattle.peg_name.specs.Name.{Rack}
use Rattle.peg_name.specs.declared.Node.{Node}
use Rattle.peg_model.specs.Datagrams.{spelled}
use Rattle.peg_model.specs.Schedule.{EventInRack}
use Rattle.peg_packet.specs.Nodes.{is_in_rack}
use Rattle.peg_meaning.specs.Session.{Letter, letter_to, port_of, Answer, Came, Goes, Past}
use Rattle.peg_meaning.specs.RackWord as word
use Rattle.peg_meaning.specs.RackWord.{RackWord, Racked, Taking, Starting, Finished, nodes_of}
use Rattle.peg_meaning.specs.RackWord.{slot_of}
use Rattle.peg_index.specs.Chain.{IsIndexOf}
use Rattle.peg_session.specs.Pages.{Passes}
use Rattle.peg_session.specs.Took.{Kept}
use Rattle.peg_session.specs.declared.Stepped.{Stepped}
use Rattle.peg_session.specs.declared.Stepped.TheVariants as stepped
use Rattle.peg_text.specs.declared.taking.RackEntry.{RackEntry}
use Rattle.peg_text.specs.declared.taking.RackEntry.TheVariants as entry
use Rattle.peg_rack.specs.declared.takes.Takes.{Takes}
use Rattle.peg_rack.specs.declared.takes.Takes.TheVariants as takes
use Rattle.peg_rack.specs.declared.rig.Rig.{Rig}

-- ---- the state

abbrev pub takes_of : Rack → Takes → List Taking
takes_of rack takes.Nothing = []
takes_of rack (takes.One node pick) = (node, Some pick) ∷ []
takes_of rack (takes.Round next) = map (λ node. (node, None)) (drop next (nodes_of rack))

abbrev pub racked_of : Rig → Racked
racked_of g =
    record {
      base = g.base;
      world = g.world.world;
      place = g.place;
      events = g.world.events;
      foreign = g.foreign;
      lines = g.lines;
      takes = takes_of g.config g.takes;
    }

abbrev pub word_at : Bool → Racked → RackWord
word_at true r = Finished r
word_at false r = word.Running r

abbrev pub word_of : Rig → RackWord
word_of g = word_at g.is_over (racked_of g)

abbrev pub rack_word : ℕ → Option Rig → RackWord
rack_word base None = Starting base
rack_word base (Some g) = word_of g

-- ---- what the last step bound and sent

abbrev pub binds_of : Rig → List ℕ
binds_of g = if g.is_first then map (port_of g.base) (nodes_of g.config) else []

abbrev pub binds_in : Option Rig → List ℕ
binds_in None = []
binds_in (Some g) = binds_of g

abbrev pub letters_of : Rig → List Letter
letters_of g =
    map (letter_to (slot_of g.config g.actor) g.base)
    (drop g.sent_from (spelled g.config.format g.world.world.packets))

abbrev pub letters_in : Option Rig → List Letter
letters_in None = []
letters_in (Some g) = letters_of g

abbrev pub ports_in : Option Rig → ℕ
ports_in None = 0
ports_in (Some g) = length (nodes_of g.config)

-- ---- what holds

abbrev pub AreIn : Rack → Takes → Type 0
AreIn rack takes.Nothing = Unit {0}
AreIn rack (takes.One node pick) = is_in_rack rack node ≡ true
AreIn rack (takes.Round next) = next ≤ length (nodes_of rack)

pub record IsTied (g : Rig) : Type 0 where
  pub low : g.base ≤ 60000
  pub is_rack : g.world.world.rack ≡ g.config
  pub goes_on : g.world.is_over ≡ false
  pub behind : g.world.world.place ≤ g.place
  pub few : g.lines ≤ 1000000
  pub bounded : g.place + length (takes_of g.config g.takes) ≤ 1 + 1100 * g.lines
  pub counted : g.foreign ≤ g.place
  pub index : IsIndexOf (spelled g.config.format g.world.world.packets) g.index
  pub known : length g.index.older ≡ length g.world.world.packets
  pub actor : is_in_rack g.config g.actor ≡ true
  pub sent : g.sent_from ≤ length g.world.world.packets
  pub in_rack : AreIn g.config g.takes

abbrev pub AreTied : ℕ → Option Rig → Type 0
AreTied base None = base ≤ 60000
AreTied base (Some g) = IsTied g

abbrev pub HasRoom : Rig → Type 0
HasRoom g = g.place + length (takes_of g.config g.takes) + 1 ≤ 1 + 1100 * g.lines

pub record Stays (old now : Rig) : Type 0 where
  pub over : now.is_over ≡ old.is_over
  pub config : now.config ≡ old.config
  pub base : now.base ≡ old.base

abbrev pub rank_at : Bool → ℕ → ℕ → ℕ
rank_at true lines takes = 0
rank_at false lines takes = 1100 * (1000000 - lines) + takes + 1

abbrev pub rank_of : Rig → ℕ
rank_of g = rank_at g.is_over g.lines (length (takes_of g.config g.takes))

abbrev pub rank_in : Option Rig → ℕ
rank_in None = 2000000000
rank_in (Some g) = rank_of g

-- ---- what is taken next

pub record IsNext (all : List Taking) (most : ℕ) (taken : Node × ℕ) (rest : List Taking) : Type 0
  where
    pub pick : Option ℕ
    pub is : all ≡ (taken.0, pick) ∷ rest
    pub said : unwrap_or pick most ≡ taken.1

abbrev pub InRack : Rack → RackEntry → Type 0
InRack rack (entry.Event e) = EventInRack rack e
InRack rack (entry.Take node pick) = is_in_rack rack node ≡ true
InRack rack _ = Unit {0}

-- ---- what a step came to

pub record GoesTo (answer : Answer RackWord) (s' : RackWord) (letters : List Letter)
    (page page' : List ℕ) (held held' : Option (List ℕ)) : Type 0 where
  pub text : List ℕ
  pub is : answer ≡ Goes (record { state = s'; text = text; binds = []; letters = letters })
  pub over : Passes true text page page' held held'

pub record IsCutAt (answer : Answer RackWord) (page page' : List ℕ)
    (held held' : Option (List ℕ)) : Type 0 where
  pub came : Came RackWord
  pub is : answer ≡ Goes came
  pub over : Passes false came.text page page' held held'

abbrev pub Comes :
    Answer RackWord → Stepped → RackWord → List Letter → List ℕ → List ℕ → Option (List ℕ)
    → Option (List ℕ) → Type 0
Comes answer stepped.Goes s' letters page page' held held' =
    GoesTo answer s' letters page page' held held'
Comes answer stepped.Refused s' letters page page' held held' = ⊥
Comes answer stepped.Past s' letters page page' held held' =
    (answer ≡ Past) × Kept page page' held held'
Comes answer stepped.OutOfMemory s' letters page page' held held' = Kept page page' held held'
Comes answer stepped.Unwritten s' letters page page' held held' =
    IsCutAt answer page page' held held'
