-- The nodes at the rack line.
use Rattle.std.proofs.Common.{◌≡◌, ℕ, ◌<◌, ◌≤◌, List, [], map, ap, sym, ◌∙◌, refl, subst}
use Rattle.peg_name.specs.Name.{Rack, InLimits}
use Rattle.peg_model.specs.Words.{below}
use Rattle.peg_model.specs.Client.{Client, new_client}
use Rattle.peg_model.specs.Server.{Server, new_server}
use Rattle.peg_model.specs.Switch.{Switch, new_switch}
use Rattle.peg_model.specs.Controller.{Controller, new_controller}
use Rattle.peg_packet.specs.Outbox.{Outbox}
use Rattle.peg_world.specs.Acting.{Acting, acting}
use Rattle.peg_world.specs.Sound.{AreActing, IsClient, IsServer, IsSwitch, packet_in}
use Rattle.peg_world.proofs.Each.{each_made, length_made}

are_started :
    (rack : Rack) (keys : List (List ℕ)) (slots : ℕ)
    → InLimits rack → 64 ≤ slots → rack.clients < slots
    → AreActing (acting rack keys)
    (record { format = rack.format; slots = slots; items = [] })
are_started rack keys slots limits parts announces = record {
  limits = limits;
  clients = length_made (λ id. new_client rack.format id 1) rack.clients;
  servers = length_made (new_server rack) rack.servers;
  switches = length_made (new_switch rack keys) rack.switches;
  each_client =
      each_made (IsClient rack) (λ id. new_client rack.format id 1) rack.clients
      (λ id small. record { named = refl; speaks = refl; asks = limits.switches.0 });
  each_server =
      each_made (IsServer rack) (new_server rack) rack.servers
      (λ id small. record { named = refl; racked = refl });
  each_switch =
      each_made (IsSwitch rack) (new_switch rack keys) rack.switches
      (λ id small. record { named = refl; racked = refl });
  controller = refl;
  outbox =
      record { format = refl; parts = parts; announces = announces; flown = tt };
}

nodes_are :
    (rack : Rack) (keys : List (List ℕ)) (cs : List Client) (ss : List Server) (ws : List Switch)
    → (c : Controller) (post : Outbox) (slots : ℕ)
    → cs ≡ map (λ id. new_client rack.format id 1) (below rack.clients)
    → ss ≡ map (new_server rack) (below rack.servers)
    → ws ≡ map (new_switch rack keys) (below rack.switches)
    → c ≡ new_controller rack keys
    → post ≡ record { format = rack.format; slots = slots; items = [] }
    → record {
      rack = rack;
      clients = cs;
      servers = ss;
      switches = ws;
      controller = c;
      sent = map packet_in post.items;
    } ≡ acting rack keys
nodes_are rack keys cs ss ws c post slots clients servers switches controls empty =
    let n : Acting = acting rack keys in
    ap (λ x. record n {
      clients = x;
      servers = ss;
      switches = ws;
      controller = c;
      sent = map packet_in post.items;
    }) clients
    ∙ ap (λ x. record n {
      servers = x;
      switches = ws;
      controller = c;
      sent = map packet_in post.items;
    }) servers
    ∙ ap (λ x. record n { switches = x; controller = c; sent = map packet_in post.items }) switches
    ∙ ap (λ x. record n { controller = x; sent = map packet_in post.items }) controls
    ∙ ap (λ (o : Outbox). record n { sent = map packet_in o.items }) empty

pub nodes_started :
    (rack : Rack) (keys : List (List ℕ)) (cs : List Client) (ss : List Server) (ws : List Switch)
    → (c : Controller) (post : Outbox) (slots : ℕ)
    → InLimits rack → 64 ≤ slots → rack.clients < slots
    → cs ≡ map (λ id. new_client rack.format id 1) (below rack.clients)
    → ss ≡ map (new_server rack) (below rack.servers)
    → ws ≡ map (new_switch rack keys) (below rack.switches)
    → c ≡ new_controller rack keys
    → post ≡ record { format = rack.format; slots = slots; items = [] }
    → AreActing (record {
      rack = rack;
      clients = cs;
      servers = ss;
      switches = ws;
      controller = c;
      sent = map packet_in post.items;
    }) post
nodes_started rack keys cs ss ws c post slots limits parts announces clients servers switches
    controls empty =
    subst (λ n. AreActing n post)
    (sym (nodes_are rack keys cs ss ws c post slots clients servers switches controls empty))
    (subst (AreActing (acting rack keys)) (sym empty)
    (are_started rack keys slots limits parts announces))
