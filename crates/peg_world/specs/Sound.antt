-- What holds of the nodes and of the packets between two steps.
--     packet_in item      a packet, as it is read from its bytes
--     IsFlown rack item      it is read back, and goes to a node of the rack
--     IsOutbox rack post      an outbox for any step of a node, with packets of the rack
--     IsClient, IsServer, IsSwitch rack id node      a node of a number
--     Each P xs      P holds of each place and its element
--     acting_of nodes, IsActing nodes      what the fields hold, and what each rack keeps
use Rattle.std.specs.Prelude.{◌≡◌, ◌<◌, ◌≤◌, ℕ, true, ◌&&◌, Some, List, length, map, slice_get}
use Rattle.std.specs.List.{AllByRecursion}
use Rattle.peg_name.specs.Name.{Rack, InLimits}
use Rattle.peg_name.specs.declared.Node.{Node}
use Rattle.peg_model.specs.Packet.{Packet}
use Rattle.peg_model.specs.Reading.{packet_of}
use Rattle.peg_model.specs.Client.{Client}
use Rattle.peg_model.specs.Server.{Server}
use Rattle.peg_model.specs.Switch.{Switch}
use Rattle.peg_packet.specs.Nodes.{is_in_rack, announces_in}
use Rattle.peg_packet.specs.Outbox.{Outbox}
use Rattle.peg_world.specs.Acting.{Acting, packet_read}
use Rattle.peg_world.specs.declared.nodes.Nodes.TheInside.{Inside}

abbrev pub packet_in : Node × List ℕ → Node × Packet
packet_in item = (item.0, packet_read item.1)

pub record IsFlown (rack : Rack) (item : Node × List ℕ) : Type 0 where
  pub reads : packet_of item.1 ≡ Some (rack.format, packet_read item.1)
  pub goes : (announces_in rack (packet_read item.1) && is_in_rack rack item.0) ≡ true

pub record IsOutbox (rack : Rack) (post : Outbox) : Type 0 where
  pub format : post.format ≡ rack.format
  pub parts : 64 ≤ post.slots
  pub announces : rack.clients < post.slots
  pub flown : AllByRecursion (IsFlown rack) post.items

pub record IsClient (rack : Rack) (id : ℕ) (c : Client) : Type 0 where
  pub named : c.id ≡ id
  pub speaks : c.format ≡ rack.format
  pub asks : c.switch < rack.switches

pub record IsServer (rack : Rack) (id : ℕ) (s : Server) : Type 0 where
  pub named : s.id ≡ id
  pub racked : s.rack ≡ rack

pub record IsSwitch (rack : Rack) (id : ℕ) (s : Switch) : Type 0 where
  pub named : s.id ≡ id
  pub racked : s.rack ≡ rack

abbrev pub Each : {A : Type 0} → (ℕ → A → Type 0) → List A → Type 0
Each P xs = (i : ℕ) (x : _) → slice_get xs i ≡ Some x → P i x

abbrev pub acting_of : Inside → Acting
acting_of nodes = record {
  rack = nodes.config;
  clients = nodes.clients.items;
  servers = nodes.servers.items;
  switches = nodes.switches.items;
  controller = nodes.controller;
  sent = map packet_in nodes.post.items;
}

pub record AreActing (nodes : Acting) (post : Outbox) : Type 0 where
  pub limits : InLimits nodes.rack
  pub clients : length nodes.clients ≡ nodes.rack.clients
  pub servers : length nodes.servers ≡ nodes.rack.servers
  pub switches : length nodes.switches ≡ nodes.rack.switches
  pub each_client : Each (IsClient nodes.rack) nodes.clients
  pub each_server : Each (IsServer nodes.rack) nodes.servers
  pub each_switch : Each (IsSwitch nodes.rack) nodes.switches
  pub controller : nodes.controller.rack ≡ nodes.rack
  pub outbox : IsOutbox nodes.rack post

abbrev pub IsActing : Inside → Type 0
IsActing nodes = AreActing (acting_of nodes) nodes.post
