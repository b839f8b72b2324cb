-- Where packets go, and what they name.
--     is_in_rack rack to      whether the rack has the node
--     announces_in rack packet      whether a switch that it announces is one of the rack
--     are_in_rack rack sent      each goes to a node of the rack, and announces no other switch
use Rattle.std.specs.Prelude.{Bool, true, ◌&&◌, nat_lt, List}
use Rattle.std.specs.List.{list_all}
use Rattle.peg_name.specs.Name.{Rack}
use Rattle.peg_name.specs.declared.Node.{Node}
use Rattle.peg_name.specs.declared.Node.TheVariants as node
use Rattle.peg_model.specs.Packet.{Packet, Announce}

abbrev pub is_in_rack : Rack → Node → Bool
is_in_rack rack (node.Client id) = nat_lt id rack.clients
is_in_rack rack (node.Server id) = nat_lt id rack.servers
is_in_rack rack (node.Switch id) = nat_lt id rack.switches
is_in_rack rack node.Controller = true

abbrev pub announces_in : Rack → Packet → Bool
announces_in rack (Announce epoch switch) = nat_lt switch rack.switches
announces_in rack _ = true

abbrev pub are_in_rack : Rack → List (Node × Packet) → Bool
are_in_rack rack sent = list_all (λ item. announces_in rack item.1 && is_in_rack rack item.0) sent
