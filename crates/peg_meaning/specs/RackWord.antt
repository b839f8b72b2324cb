-- The word `rack`: a whole rack in one process, each node at a port of its own, whose packets go
-- over the wire and are taken from it.
--     RackEntry, rack_entry_lines, IsRackWordLine      the rack line, an event, takes, a round, end
--     nodes_of rack, slot_of rack node      the nodes in the order of binding
--     number_of format packets node bytes      the least number of a packet to the node with these
--         bytes
--     actor_of e      the node that does what an event line says
--     sent_since before now      what a step of a world sent
--     Racked, RackWord, serves_rack      the states of the word, and its session
--     is_past_limits events w      a run with more events or packets than it may have
use Rattle.std.specs.Prelude.{◌≡◌, ◌<◌, ◌^◌, ◌+◌, ℕ, Bool, true, false, ◌&&◌, ◌||◌, ◌==◌, nat_lt}
use Rattle.std.specs.Prelude.{Option, Some, None, unwrap_or, List, [], ◌∷◌, ◌++◌, length, map, drop}
use Rattle.std.specs.Prelude.{if◌then◌else◌, codes, decimal, Contains}
use Rattle.std.specs.Str.{bytes_eq}
use Rattle.peg_name.specs.Name.{Rack, line_most}
use Rattle.peg_name.specs.declared.Format.{Format}
use Rattle.peg_name.specs.declared.Node.{Node}
use Rattle.peg_name.specs.declared.Node.TheVariants as node
use Rattle.peg_event.specs.declared.Event.{Event}
use Rattle.peg_event.specs.declared.Event.TheVariants as event
use Rattle.peg_event.specs.declared.Line.{Line}
use Rattle.peg_model.specs.Words.{below}
use Rattle.peg_model.specs.Packet.{Packet, spelling}
use Rattle.peg_model.specs.World.{World, start, history, step}
use Rattle.peg_model.specs.Order.{orders}
use Rattle.peg_model.specs.Schedule.{rack_line, event_lines, node_words, NodeInRack, IsRackLine}
use Rattle.peg_model.specs.Schedule.{IsEventLine, fed}
use Rattle.peg_model.specs.Trace.{line_text, tail_text}
use Rattle.peg_meaning.specs.Session.{Meaning, Input, Entry, Datagram, Quiet, Came, Answer, Goes}
use Rattle.peg_meaning.specs.Session.{Past, begun, quietly, saying, port_of, room, posted}
use Rattle.peg_meaning.specs.declared.Want.{Want}
use Rattle.peg_meaning.specs.declared.Want.TheVariants as want
use Rattle.peg_meaning.specs.Roles.{lines_most}

-- ---- the lines

pub data RackEntry : Type 0 where
  Named : (rack : Rack) (keys : List (List ℕ)) → RackEntry
  Happens : (e : Event) → RackEntry
  Takes : (node : Node) (pick : ℕ) → RackEntry
  Round : RackEntry
  End : RackEntry

abbrev pub take_lines : Node → ℕ → List (List ℕ)
take_lines node pick =
    let short = codes "take " ++ node_words node in
    let long = short ++ codes " " ++ decimal pick in
    if pick == 0 then short ∷ long ∷ [] else long ∷ []

abbrev pub rack_entry_lines : RackEntry → List (List ℕ)
rack_entry_lines (Named rack keys) = rack_line rack keys ∷ []
rack_entry_lines (Happens e) = event_lines e
rack_entry_lines (Takes node pick) = take_lines node pick
rack_entry_lines Round = codes "round" ∷ []
rack_entry_lines End = codes "end" ∷ []

-- the packets are carried by the wire, and no bytes are made up
abbrev pub IsOfNodes : Event → Type 0
IsOfNodes (event.Deliver number pick) = ⊥
IsOfNodes (event.Junk to bytes) = ⊥
IsOfNodes _ = Unit {0}

abbrev pub IsRackEntryLine : Rack → List ℕ → RackEntry → Type 0
IsRackEntryLine rack line (Named other keys) = ⊥
IsRackEntryLine rack line (Happens e) = IsEventLine rack line e × IsOfNodes e
IsRackEntryLine rack line (Takes node pick) =
    NodeInRack rack node × (pick < 2 ^ 64) × Contains (take_lines node pick) line
IsRackEntryLine rack line Round = line ≡ codes "round"
IsRackEntryLine rack line End = line ≡ codes "end"

-- ---- the nodes

-- in the order in which their ports are bound
abbrev pub nodes_of : Rack → List Node
nodes_of rack =
    node.Controller
    ∷ map node.Switch (below rack.switches)
    ++ map node.Server (below rack.servers)
    ++ map node.Client (below rack.clients)

abbrev pub slot_of : Rack → Node → ℕ
slot_of rack node.Controller = 0
slot_of rack (node.Switch id) = 1 + id
slot_of rack (node.Server id) = 1 + rack.switches + id
slot_of rack (node.Client id) = 1 + rack.switches + rack.servers + id

-- who does what a line says
abbrev pub actor_of : Event → Node
actor_of (event.Read client key) = node.Client client
actor_of (event.Write client key value) = node.Client client
actor_of (event.Delete client key) = node.Client client
actor_of (event.Resend client) = node.Client client
actor_of (event.GiveUp client) = node.Client client
actor_of _ = node.Controller

abbrev pub is_node : Node → Node → Bool
is_node (node.Client a) (node.Client b) = a == b
is_node (node.Server a) (node.Server b) = a == b
is_node (node.Switch a) (node.Switch b) = a == b
is_node node.Controller node.Controller = true
is_node _ _ = false

-- ---- packets that come back from the wire

abbrev pub number_from : ℕ → Format → List (Node × Packet) → Node → List ℕ → Option ℕ
number_from number format [] node bytes = None
number_from number format (item ∷ packets) node bytes =
    if is_node item.0 node && bytes_eq (spelling format item.1) bytes then Some number
    else number_from (number + 1) format packets node bytes

abbrev pub number_of : Format → List (Node × Packet) → Node → List ℕ → Option ℕ
number_of format packets node bytes = number_from 0 format packets node bytes

-- ---- the session

-- a take that a line asks for: its node, and the pick that the line names
abbrev pub Taking : Type 0
Taking = Node × Option ℕ

-- a rack that runs: the place of the last line of its text, the events and the foreign datagrams so
-- far, the lines that were read, and what the last of them still has to take
pub record Racked : Type 0 where
  pub base : ℕ
  pub world : World
  pub place : ℕ
  pub events : ℕ
  pub foreign : ℕ
  pub lines : ℕ
  pub takes : List Taking

pub data RackWord : Type 0 where
  Starting : (base : ℕ) → RackWord
  Running : (r : Racked) → RackWord
  Finished : (r : Racked) → RackWord

-- a line that may stand in this state
abbrev pub IsRackWordLine : RackWord → List ℕ → RackEntry → Type 0
IsRackWordLine (Starting base) line (Named rack keys) = IsRackLine line rack keys
IsRackWordLine (Running r) line e = IsRackEntryLine r.world.rack line e
IsRackWordLine _ line e = ⊥

abbrev pub racked : ℕ → Rack → List (List ℕ) → Racked
racked base rack keys =
    record {
      base = base;
      world = start rack keys;
      place = 1;
      events = 0;
      foreign = 0;
      lines = 0;
      takes = [];
    }

-- more than 1,000,000 events, or more than 200,000 packets
abbrev pub is_past_limits : ℕ → World → Bool
is_past_limits events w = nat_lt 1000000 events || nat_lt 200000 (length w.packets)

-- what a step sent
abbrev pub sent_since : World → World → List (Node × Packet)
sent_since before now = drop (length before.packets) now.packets

-- a step whose line has the next place; what it sent goes out from the actor's slot
abbrev pub stepped : Racked → Node → World × Line → Came RackWord
stepped r actor now =
    record {
      state = Running (record r { world = now.0; place = r.place + 1; events = r.events + 1 });
      text = fed (line_text (r.place + 1) now.1);
      binds = [];
      letters =
          posted (slot_of r.world.rack actor) r.base r.world.rack.format
          (sent_since r.world now.0);
    }

abbrev pub steps : Racked → Node → Event → Answer RackWord
steps r actor e =
    let now = step r.world (r.place + 1) e in
    if is_past_limits (r.events + 1) now.0 then Past else Goes (stepped r actor now)

-- a datagram that no packet to the node has changes nothing
abbrev pub foreign_text : ℕ → Node → List ℕ
foreign_text place node = fed (decimal place ++ codes " foreign " ++ node_words node)

abbrev pub takes_packet : Option ℕ → Racked → Taking → Answer RackWord
takes_packet None r (node, pick) =
    Goes (saying (Running (record r { place = r.place + 1; foreign = r.foreign + 1 }))
    (foreign_text (r.place + 1) node))
takes_packet (Some number) r (node, pick) =
    steps r node (event.Deliver number (unwrap_or pick (length r.world.packets)))

abbrev pub rack_datagram : List ℕ → Racked → Taking → Answer RackWord
rack_datagram bytes r taking =
    takes_packet (number_of r.world.rack.format r.world.packets taking.0 bytes) r taking

-- the first of what a line asks for
abbrev pub takes_first : List Taking → Racked → List ℕ → Answer RackWord
takes_first [] r bytes = Past
takes_first (taking ∷ takes) r bytes = rack_datagram bytes (record r { takes = takes }) taking

-- nothing came in its place
abbrev pub passes_first : List Taking → Racked → Answer RackWord
passes_first [] r = Past
passes_first (taking ∷ takes) r = Goes (quietly (Running (record r { takes = takes })))

abbrev pub end_text : Racked → List ℕ
end_text r =
    fed (decimal (r.place + 1) ++ codes " end foreign " ++ decimal r.foreign)
    ++ tail_text (history r.world) (orders r.world)

-- a round takes once from each node, and picks by the number of packets sent before
abbrev pub reads_line : RackEntry → Racked → Answer RackWord
reads_line (Happens e) r = steps r (actor_of e) e
reads_line (Takes node pick) r =
    Goes (quietly (Running (record r { takes = (node, Some pick) ∷ [] })))
reads_line Round r =
    Goes (quietly (Running
    (record r { takes = map (λ node. (node, None)) (nodes_of r.world.rack) })))
reads_line _ r = Past

abbrev pub reads_entry : RackEntry → Racked → Answer RackWord
reads_entry End r = Goes (saying (Finished r) (end_text r))
reads_entry e r =
    if r.lines == lines_most then Past else reads_line e (record r { lines = r.lines + 1 })

-- the rack line binds a port for each node
abbrev pub rack_named : ℕ → Rack → List (List ℕ) → Came RackWord
rack_named base rack keys =
    record {
      state = Running (racked base rack keys);
      text = fed (codes "1 rack");
      binds = map (port_of base) (nodes_of rack);
      letters = [];
    }

abbrev pub rack_on : RackWord → Input RackEntry → Answer RackWord
rack_on (Starting base) (Entry (Named rack keys)) = Goes (rack_named base rack keys)
rack_on (Running r) (Datagram bytes) = takes_first r.takes r bytes
rack_on (Running r) Quiet = passes_first r.takes r
rack_on (Running r) (Entry e) = reads_entry e r
rack_on _ input = Past

abbrev pub running_want : List Taking → Rack → Want
running_want [] rack = want.Line (line_most rack.format) false
running_want ((node, pick) ∷ takes) rack = want.Turn (slot_of rack node) (room rack.format)

abbrev pub rack_want : RackWord → Want
rack_want (Starting base) = want.Line 2048 false
rack_want (Running r) = running_want r.takes r.world.rack
rack_want (Finished r) = want.Over

abbrev pub serves_rack : Meaning RackWord RackEntry
serves_rack = record { want = rack_want; Reads = IsRackWordLine; on = rack_on }

abbrev pub rack_start : ℕ → Came RackWord
rack_start base = begun (Starting base) [] []
