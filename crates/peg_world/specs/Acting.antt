-- The nodes of a rack, one of which acts.
--     Acting      the nodes, and what the one that acted last sent
--     acting rack keys      at the rack line
--     client_at, server_at, switch_at nodes id      a node of a number
--     client_acts, server_acts, switch_acts, controller_acts nodes step      after a step of a node
--     packet_read bytes      the packet that the bytes spell
use Rattle.std.specs.Prelude.{ℕ, Option, Some, None, List, [], map, slice_set, slice_index_or}
use Rattle.peg_name.specs.Name.{Rack}
use Rattle.peg_name.specs.declared.Format.{Format}
use Rattle.peg_name.specs.declared.Node.{Node}
use Rattle.peg_model.specs.Words.{Step, below}
use Rattle.peg_model.specs.Packet.{Packet, Survey}
use Rattle.peg_model.specs.Reading.{packet_of}
use Rattle.peg_model.specs.Client.{Client, new_client}
use Rattle.peg_model.specs.Server.{Server, new_server}
use Rattle.peg_model.specs.Switch.{Switch, new_switch}
use Rattle.peg_model.specs.Controller.{Controller, new_controller}

pub record Acting : Type 0 where
  pub rack : Rack
  pub clients : List Client
  pub servers : List Server
  pub switches : List Switch
  pub controller : Controller
  pub sent : List (Node × Packet)

abbrev pub acting : Rack → List (List ℕ) → Acting
acting rack keys = record {
  rack = rack;
  clients = map (λ id. new_client rack.format id 1) (below rack.clients);
  servers = map (new_server rack) (below rack.servers);
  switches = map (new_switch rack keys) (below rack.switches);
  controller = new_controller rack keys;
  sent = [];
}

abbrev pub client_at : Acting → ℕ → Client
client_at nodes id = slice_index_or nodes.clients id (new_client nodes.rack.format id 1)

abbrev pub server_at : Acting → ℕ → Server
server_at nodes id = slice_index_or nodes.servers id (new_server nodes.rack id)

abbrev pub switch_at : Acting → ℕ → Switch
switch_at nodes id = slice_index_or nodes.switches id (new_switch nodes.rack [] id)

module _ {D : Type 0} (nodes : Acting) where
  abbrev pub client_acts : Step Client (Node × Packet) D → Acting
  client_acts step =
      record nodes {
        clients = slice_set nodes.clients step.state.id step.state;
        sent = step.sent;
      }

  abbrev pub server_acts : Step Server (Node × Packet) D → Acting
  server_acts step =
      record nodes {
        servers = slice_set nodes.servers step.state.id step.state;
        sent = step.sent;
      }

  abbrev pub switch_acts : Step Switch (Node × Packet) D → Acting
  switch_acts step =
      record nodes {
        switches = slice_set nodes.switches step.state.id step.state;
        sent = step.sent;
      }

  abbrev pub controller_acts : Step Controller (Node × Packet) D → Acting
  controller_acts step = record nodes { controller = step.state; sent = step.sent }

-- where bytes spell none this stands for it
abbrev pub read_or : Option (Format × Packet) → Packet
read_or None = Survey
read_or (Some read) = read.1

abbrev pub packet_read : List ℕ → Packet
packet_read bytes = read_or (packet_of bytes)
