-- A switch that spreads requests by the load of the servers.
--     Loads      a weight and a load for each server
--     is_lighter loads s t      whether s has less load for its weight than t
--     chosen loads servers      the lightest of the servers, and the least number among equals
--     charged loads server      one unit more
--     Allowed, allowed s packet      the servers to which a request may go
--     Balanced, balanced_on_bytes      a switch with its loads: each request goes to the lightest
--         server that it may go to, which is charged
--     balanced_word      its session
--     round loads servers, choices n loads servers      a choice and its charge, and whom so many
--         choose
use Rattle.std.specs.Prelude.{◌+◌, ◌*◌, ℕ, zero, suc, Bool, not, ◌&&◌, ◌==◌, nat_lt, Option, Some}
use Rattle.std.specs.Prelude.{None, is_some, List, [], ◌∷◌, length, replicate, slice_index_or}
use Rattle.std.specs.Prelude.{slice_set, if◌then◌else◌}
use Rattle.peg_name.specs.Name.{Rack, home_of}
use Rattle.peg_name.specs.declared.Format.{Format}
use Rattle.peg_name.specs.declared.Node.{Node}
use Rattle.peg_name.specs.declared.Node.TheVariants as node
use Rattle.peg_event.specs.declared.answers.Listing.{Listing}
use Rattle.peg_event.specs.declared.SwitchDid.{SwitchDid}
use Rattle.peg_event.specs.declared.SwitchDid.TheVariants as did
use Rattle.peg_event.specs.declared.answers.Stamp.{Stamp}
use Rattle.peg_event.specs.declared.answers.Stamp.TheVariants as stamp_did
use Rattle.peg_model.specs.Words.{last_number, below}
use Rattle.peg_model.specs.Packet.{Packet, Read, Write}
use Rattle.peg_model.specs.Reading.{packet_of, is_format}
use Rattle.peg_model.specs.Rules.{stamp, entry_of}
use Rattle.peg_model.specs.Switch.{Switch, new_switch, is_active, out_of_place}
use Rattle.peg_model.specs.Datagrams.{switch_on_bytes}
use Rattle.peg_meaning.specs.Session.{Meaning, Came, at_port}
use Rattle.peg_meaning.specs.Roles.{Serving, serving, serves}

-- ---- loads

pub record Loads : Type 0 where
  pub weights : List ℕ
  pub loads : List ℕ

abbrev pub unloaded : List ℕ → Loads
unloaded weights = record { weights = weights; loads = replicate (length weights) 0 }

abbrev pub load_of : Loads → ℕ → ℕ
load_of l server = slice_index_or l.loads server 0

abbrev pub weight_of : Loads → ℕ → ℕ
weight_of l server = slice_index_or l.weights server 0

-- load / weight is less, by products
abbrev pub is_lighter : Loads → ℕ → ℕ → Bool
is_lighter l s t = nat_lt (load_of l s * weight_of l t) (load_of l t * weight_of l s)

-- the servers stand in rising order
abbrev pub chosen_over : Loads → ℕ → List ℕ → ℕ
chosen_over l best [] = best
chosen_over l best (server ∷ servers) =
    chosen_over l (if is_lighter l server best then server else best) servers

abbrev pub chosen : Loads → List ℕ → ℕ
chosen l [] = 0
chosen l (server ∷ servers) = chosen_over l server servers

abbrev pub charged : Loads → ℕ → Loads
charged l server =
    if load_of l server == last_number then l
    else record l { loads = slice_set l.loads server (load_of l server + 1) }

-- ---- where a request may go

-- the holders of a read's key, any server for a write that the pick sends anywhere, or the home
pub data Allowed : Type 0 where
  Holders : (servers : List ℕ) → Allowed
  Any : Allowed
  Home : (server : ℕ) → Allowed
  Nothing : Allowed

abbrev pub read_allowed : Option Listing → Rack → List ℕ → Allowed
read_allowed None rack key = Home (home_of rack.servers key)
read_allowed (Some entry) rack key = Holders entry.holders

abbrev pub write_allowed : Option Listing → Rack → List ℕ → ℕ → Allowed
write_allowed None rack key version = Home (home_of rack.servers key)
write_allowed (Some entry) rack key version =
    if not (is_some entry.mark) && nat_lt entry.base version && nat_lt entry.completed version
    then Any
    else Home (home_of rack.servers key)

abbrev pub stamped_allowed : Stamp → Option Listing → Rack → List ℕ → Allowed
stamped_allowed (stamp_did.New version) entry rack key = write_allowed entry rack key version
stamped_allowed (stamp_did.Same version) entry rack key = write_allowed entry rack key version
stamped_allowed _ entry rack key = Nothing

abbrev pub request_allowed : Switch → Packet → Allowed
request_allowed s (Read client seq key) = read_allowed (entry_of s.entries key) s.rack key
request_allowed s (Write client seq key content) =
    stamped_allowed (stamp s.stamps client seq).0 (entry_of s.entries key) s.rack key
request_allowed s _ = Nothing

-- nothing is forwarded by a switch that isn't active, and no packet that is out of place
abbrev pub packet_allowed : Option (Format × Packet) → Switch → Allowed
packet_allowed None s = Nothing
packet_allowed (Some (format, p)) s =
    if is_format format s.rack.format && is_active s.mode && not (out_of_place s p)
    then request_allowed s p
    else Nothing

abbrev pub allowed : Switch → List ℕ → Allowed
allowed s bytes = packet_allowed (packet_of bytes) s

-- ---- the balanced switch

abbrev pub place_of : ℕ → List ℕ → ℕ
place_of server [] = 0
place_of server (holder ∷ holders) = if holder == server then 0 else 1 + place_of server holders

-- the pick with which the rule of requests gives the lightest server
abbrev pub pick_by : Loads → Rack → Allowed → ℕ
pick_by l rack (Holders servers) = place_of (chosen l servers) servers
pick_by l rack Any = chosen l (below rack.servers)
pick_by l rack _ = 0

-- a request that was forwarded charges its server
abbrev pub charged_by : SwitchDid → Loads → Loads
charged_by (did.Read server key) l = charged l server
charged_by (did.Wrote server key version) l = charged l server
charged_by _ l = l

pub record Balanced : Type 0 where
  pub switch : Switch
  pub loads : Loads

abbrev pub balanced_turn : Balanced → List ℕ → ℕ → Balanced × List (Node × Packet)
balanced_turn b bytes before =
    let pick = pick_by b.loads b.switch.rack (allowed b.switch bytes) in
    let step = switch_on_bytes b.switch bytes pick in
    (record { switch = step.state; loads = charged_by step.did b.loads }, step.sent)

abbrev pub balanced_word : Meaning (Serving Balanced) ⊥
balanced_word = serves balanced_turn

-- a weight for each server
abbrev pub balanced_start : ℕ → Rack → ℕ → ℕ → List ℕ → Came (Serving Balanced)
balanced_start base rack id turns weights =
    at_port base (node.Switch id)
    (serving (record { switch = new_switch rack [] id; loads = unloaded weights }) base rack.format
    turns)

-- ---- rounds

abbrev pub round : Loads → List ℕ → Loads
round l servers = charged l (chosen l servers)

-- whom so many rounds choose
abbrev pub choices : ℕ → Loads → List ℕ → List ℕ
choices zero l servers = []
choices (suc n) l servers = chosen l servers ∷ choices n (round l servers) servers
