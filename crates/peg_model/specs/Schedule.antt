-- The schedule: one rack line, event lines, and the line end.
--     rack_line rack keys      the rack line
--     event_lines e      the lines that spell an event: one, and two for a delivery with the pick
--         0
--     EventInRack rack e      its client and its junk's node are in the rack, and its format has
--         such an event
--     IsStart rack keys      a rack within its limits, and keys that its rack line may name
--     Schedule input rack keys events      the input begins with the lines of this schedule
use Rattle.std.specs.Prelude.{◌≡◌, ◌≢◌, ◌⊎◌, ◌≤◌, ◌<◌, ◌^◌, ℕ, ◌==◌, List, [], ◌∷◌, ◌++◌, length}
use Rattle.std.specs.Prelude.{flat_map, Contains, AllPairs, if◌then◌else◌, codes, decimal}
use Rattle.peg_name.specs.Name.{Rack, InLimits, IsKey, value_most, line_most}
use Rattle.peg_name.specs.declared.Format.{Format}
use Rattle.peg_name.specs.declared.Format.TheVariants.{One, Two}
use Rattle.peg_name.specs.declared.Node.{Node}
use Rattle.peg_name.specs.declared.Node.TheVariants as node
use Rattle.peg_event.specs.declared.Event.{Event}
use Rattle.peg_event.specs.declared.Event.TheVariants as event
use Rattle.std.specs.List.{AllByRecursion}
use Rattle.peg_model.specs.Text.{key_word, value_word, hex_word}

-- ---- the lines, without their line feeds

abbrev pub format_words : Format → List ℕ
format_words One = []
format_words Two = codes " format=2"

abbrev pub rack_line : Rack → List (List ℕ) → List ℕ
rack_line rack keys =
    codes "rack servers=" ++ decimal rack.servers ++ codes " clients=" ++ decimal rack.clients
    ++ codes " switches=" ++ decimal rack.switches
    ++ codes " listed=" ++ decimal rack.listed ++ codes " hot=" ++ decimal rack.hot
    ++ codes " first=" ++ decimal rack.first
    ++ format_words rack.format
    ++ flat_map (λ key. codes " +" ++ key_word key) keys

abbrev pub node_words : Node → List ℕ
node_words (node.Client id) = codes "client " ++ decimal id
node_words (node.Server id) = codes "server " ++ decimal id
node_words (node.Switch id) = codes "switch " ++ decimal id
node_words node.Controller = codes "controller"

abbrev pub deliver_lines : ℕ → ℕ → List (List ℕ)
deliver_lines number pick =
    let short = codes "deliver " ++ decimal number in
    let long = short ++ codes " " ++ decimal pick in
    if pick == 0 then short ∷ long ∷ [] else long ∷ []

abbrev pub event_lines : Event → List (List ℕ)
event_lines (event.Read client key) =
    (codes "read " ++ decimal client ++ codes " " ++ key_word key) ∷ []
event_lines (event.Write client key value) =
    (codes "write " ++ decimal client ++ codes " " ++ key_word key ++ codes " "
    ++ value_word value)
    ∷ []
event_lines (event.Delete client key) =
    (codes "delete " ++ decimal client ++ codes " " ++ key_word key) ∷ []
event_lines (event.Resend client) = (codes "resend " ++ decimal client) ∷ []
event_lines (event.GiveUp client) = (codes "giveup " ++ decimal client) ∷ []
event_lines (event.Deliver number pick) = deliver_lines number pick
event_lines (event.Junk to bytes) =
    (codes "junk " ++ node_words to ++ codes " " ++ hex_word bytes) ∷ []
event_lines (event.Promote key) = (codes "promote " ++ key_word key) ∷ []
event_lines (event.Demote key) = (codes "demote " ++ key_word key) ∷ []
event_lines (event.Copy key target) =
    (codes "copy " ++ key_word key ++ codes " " ++ decimal target) ∷ []
event_lines (event.Fence key) = (codes "fence " ++ key_word key) ∷ []
event_lines (event.Handover target) = (codes "handover " ++ decimal target) ∷ []
event_lines event.Clear = codes "clear" ∷ []
event_lines event.Retry = codes "retry" ∷ []
event_lines event.Survey = codes "survey" ∷ []
event_lines (event.Plan promote_at demote_below) =
    (codes "plan " ++ decimal promote_at ++ codes " " ++ decimal demote_below) ∷ []

-- ---- the ranges

abbrev pub NodeInRack : Rack → Node → Type 0
NodeInRack rack (node.Client id) = id < rack.clients
NodeInRack rack (node.Server id) = id < rack.servers
NodeInRack rack (node.Switch id) = id < rack.switches
NodeInRack rack node.Controller = Unit {0}

-- keys and other numbers are within their types
abbrev pub EventInRack : Rack → Event → Type 0
EventInRack rack (event.Read client key) = client < rack.clients
EventInRack rack (event.Write client key value) =
    (client < rack.clients) × (length value ≤ value_most rack.format)
EventInRack rack (event.Delete client key) = (client < rack.clients) × (rack.format ≡ Two)
EventInRack rack (event.Resend client) = client < rack.clients
EventInRack rack (event.GiveUp client) = client < rack.clients
EventInRack rack (event.Junk to bytes) = NodeInRack rack to
EventInRack rack _ = Unit {0}

abbrev pub AreBytes : List ℕ → Type 0
AreBytes bytes = AllByRecursion (λ b. b < 256) bytes

abbrev pub IsKeyOfBytes : List ℕ → Type 0
IsKeyOfBytes key = IsKey key × AreBytes key

-- what the types of an event hold. A list of numbers of which one is no byte is no key: its
-- spelling would be outside the grammar
abbrev pub EventInRange : Event → Type 0
EventInRange (event.Read client key) = IsKeyOfBytes key
EventInRange (event.Write client key value) = IsKeyOfBytes key × AreBytes value
EventInRange (event.Delete client key) = IsKeyOfBytes key
EventInRange (event.Deliver number pick) = (number < 2 ^ 64) × (pick < 2 ^ 64)
EventInRange (event.Junk to bytes) = (length bytes ≤ 1000) × AreBytes bytes
EventInRange (event.Promote key) = IsKeyOfBytes key
EventInRange (event.Demote key) = IsKeyOfBytes key
EventInRange (event.Copy key target) = IsKeyOfBytes key × (target < 256)
EventInRange (event.Fence key) = IsKeyOfBytes key
EventInRange (event.Handover target) = target < 256
EventInRange (event.Plan promote_at demote_below) = (promote_at < 2 ^ 64) × (demote_below < 2 ^ 64)
EventInRange _ = Unit {0}

-- ---- the whole

-- keys that a rack line may name
abbrev pub AreKeys : Rack → List (List ℕ) → Type 0
AreKeys rack keys =
    AllByRecursion IsKeyOfBytes keys × AllPairs (λ key other. key ≢ other) keys
    × (length keys ≤ rack.listed)

-- a rack and the keys that it lists at the start
pub record IsStart (rack : Rack) (keys : List (List ℕ)) : Type 0 where
  pub limits : InLimits rack
  pub named : AreKeys rack keys

pub record IsRackLine (line : List ℕ) (rack : Rack) (keys : List (List ℕ)) : Type 0 where
  pub limits : InLimits rack
  pub named : AreKeys rack keys
  pub spelled : line ≡ rack_line rack keys

pub record IsEventLine (rack : Rack) (line : List ℕ) (e : Event) : Type 0 where
  pub in_rack : EventInRack rack e
  pub in_range : EventInRange e
  pub spelled : Contains (event_lines e) line

-- a line with its line feed
abbrev pub fed : List ℕ → List ℕ
fed line = line ++ 10 ∷ []

-- the bytes are the lines of these events, and after them the line end, with which the input may
-- end
abbrev pub EventsThenEnd : Rack → List Event → List ℕ → Type 0
EventsThenEnd rack [] input =
    (input ≡ codes "end") ⊎ ((rest : List ℕ) × (input ≡ fed (codes "end") ++ rest))
EventsThenEnd rack (e ∷ events) input =
    (line : List ℕ) × (rest : List ℕ) × IsEventLine rack line e
    × (length line ≤ line_most rack.format) × (input ≡ fed line ++ rest)
    × EventsThenEnd rack events rest

-- a rack line has at most 2,048 bytes, and an event line what its format allows
abbrev pub Schedule : List ℕ → Rack → List (List ℕ) → List Event → Type 0
Schedule input rack keys events =
    (line : List ℕ) × (rest : List ℕ) × IsRackLine line rack keys × (length line ≤ 2048)
    × (input ≡ fed line ++ rest) × EventsThenEnd rack events rest
