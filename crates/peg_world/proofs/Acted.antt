-- The nodes before and after a step of one of them.
use Rattle.std.proofs.Common.{◌≡◌, ℕ, ◌<◌, List, [], map, length, ap, sym, ◌∙◌, subst, Some}
use Rattle.std.proofs.Common.{slice_get, slice_set, arith}
use Rattle.std.proofs.lemmas.List.{length-set}
use Rattle.std.proofs.lemmas.Option.{get_or_from_slice_get}
use Rattle.peg_name.specs.declared.Node.{Node}
use Rattle.peg_model.specs.Words.{Step}
use Rattle.peg_model.specs.Packet.{Packet}
use Rattle.peg_model.specs.Client.{Client, new_client}
use Rattle.peg_model.specs.Server.{Server, new_server}
use Rattle.peg_model.specs.Switch.{Switch, new_switch}
use Rattle.peg_model.specs.Controller.{Controller}
use Rattle.peg_packet.specs.Outbox.{Outbox}
use Rattle.peg_world.specs.Acting.{Acting, client_at, server_at, switch_at, client_acts, server_acts}
use Rattle.peg_world.specs.Acting.{switch_acts, controller_acts}
use Rattle.peg_world.specs.Sound.{AreActing, IsOutbox, IsClient, IsServer, IsSwitch, packet_in}
use Rattle.peg_world.proofs.Each.{each_set}

-- ---- a client

client_found :
    (n now : Acting) (id : ℕ) (old : Client)
    → n ≡ now → slice_get n.clients id ≡ Some old → client_at now id ≡ old
client_found n now id old seen at =
    ap (λ (m : Acting). client_at m id) (sym seen)
    ∙ get_or_from_slice_get n.clients id old (new_client n.rack.format id 1) at

client_held :
    (n now : Acting) (id : ℕ) (old : Client)
    → n ≡ now → slice_get n.clients id ≡ Some old
    → slice_get now.clients id ≡ Some (client_at now id)
client_held n now id old seen at =
    ap (λ (m : Acting). slice_get m.clients id) (sym seen) ∙ at
    ∙ ap Some (sym (client_found n now id old seen at))

client_acted :
    {D : Type 0} (n now : Acting) (id : ℕ) (old new : Client)
    → (step : Client → Step Client (Node × Packet) D) (sent : List (Node × Packet))
    → n ≡ now → slice_get n.clients id ≡ Some old → new ≡ (step old).state
    → (step old).state.id ≡ id → sent ≡ (step old).sent
    → record n { clients = slice_set n.clients id new; sent = sent }
    ≡ client_acts now (step (client_at now id))
client_acted n now id old new step sent seen at is named sends =
    ap (λ x. record n { clients = slice_set n.clients id x; sent = sent }) is
    ∙ ap (λ xs. record n { clients = slice_set n.clients id (step old).state; sent = xs }) sends
    ∙ ap (λ i. record n {
      clients = slice_set n.clients i (step old).state;
      sent = (step old).sent;
    }) (sym named)
    ∙ ap (λ x. client_acts n (step x)) (sym (client_found n now id old seen at))
    ∙ ap (λ (m : Acting). client_acts m (step (client_at now id))) seen

client_kept :
    (n : Acting) (post0 post1 : Outbox) (id : ℕ) (new : Client) (sent : List (Node × Packet))
    → AreActing n post0 → IsClient n.rack id new → IsOutbox n.rack post1
    → AreActing (record n { clients = slice_set n.clients id new; sent = sent }) post1
client_kept n post0 post1 id new sent are is outbox = record {
  limits = are.limits;
  clients = length-set n.clients id new ∙ are.clients;
  servers = are.servers;
  switches = are.switches;
  each_client =
      each_set (IsClient n.rack) (IsClient n.rack) n.clients id new are.each_client is
      (λ j x other h. h);
  each_server = are.each_server;
  each_switch = are.each_switch;
  controller = are.controller;
  outbox = outbox;
}

-- ---- a server

pub server_found :
    (n now : Acting) (id : ℕ) (old : Server)
    → n ≡ now → slice_get n.servers id ≡ Some old → server_at now id ≡ old
server_found n now id old seen at =
    ap (λ (m : Acting). server_at m id) (sym seen)
    ∙ get_or_from_slice_get n.servers id old (new_server n.rack id) at

pub server_acted :
    {D : Type 0} (n now : Acting) (id : ℕ) (old new : Server)
    → (step : Server → Step Server (Node × Packet) D) (sent : List (Node × Packet))
    → n ≡ now → slice_get n.servers id ≡ Some old → new ≡ (step old).state
    → (step old).state.id ≡ id → sent ≡ (step old).sent
    → record n { servers = slice_set n.servers id new; sent = sent }
    ≡ server_acts now (step (server_at now id))
server_acted n now id old new step sent seen at is named sends =
    ap (λ x. record n { servers = slice_set n.servers id x; sent = sent }) is
    ∙ ap (λ xs. record n { servers = slice_set n.servers id (step old).state; sent = xs }) sends
    ∙ ap (λ i. record n {
      servers = slice_set n.servers i (step old).state;
      sent = (step old).sent;
    }) (sym named)
    ∙ ap (λ x. server_acts n (step x)) (sym (server_found n now id old seen at))
    ∙ ap (λ (m : Acting). server_acts m (step (server_at now id))) seen

pub server_kept :
    (n : Acting) (post0 post1 : Outbox) (id : ℕ) (new : Server) (sent : List (Node × Packet))
    → AreActing n post0 → IsServer n.rack id new → IsOutbox n.rack post1
    → AreActing (record n { servers = slice_set n.servers id new; sent = sent }) post1
server_kept n post0 post1 id new sent are is outbox = record {
  limits = are.limits;
  clients = are.clients;
  servers = length-set n.servers id new ∙ are.servers;
  switches = are.switches;
  each_client = are.each_client;
  each_server =
      each_set (IsServer n.rack) (IsServer n.rack) n.servers id new are.each_server is
      (λ j x other h. h);
  each_switch = are.each_switch;
  controller = are.controller;
  outbox = outbox;
}

-- ---- a switch

pub switch_found :
    (n now : Acting) (id : ℕ) (old : Switch)
    → n ≡ now → slice_get n.switches id ≡ Some old → switch_at now id ≡ old
switch_found n now id old seen at =
    ap (λ (m : Acting). switch_at m id) (sym seen)
    ∙ get_or_from_slice_get n.switches id old (new_switch n.rack [] id) at

pub switch_acted :
    {D : Type 0} (n now : Acting) (id : ℕ) (old new : Switch)
    → (step : Switch → Step Switch (Node × Packet) D) (sent : List (Node × Packet))
    → n ≡ now → slice_get n.switches id ≡ Some old → new ≡ (step old).state
    → (step old).state.id ≡ id → sent ≡ (step old).sent
    → record n { switches = slice_set n.switches id new; sent = sent }
    ≡ switch_acts now (step (switch_at now id))
switch_acted n now id old new step sent seen at is named sends =
    ap (λ x. record n { switches = slice_set n.switches id x; sent = sent }) is
    ∙ ap (λ xs. record n { switches = slice_set n.switches id (step old).state; sent = xs }) sends
    ∙ ap (λ i. record n {
      switches = slice_set n.switches i (step old).state;
      sent = (step old).sent;
    }) (sym named)
    ∙ ap (λ x. switch_acts n (step x)) (sym (switch_found n now id old seen at))
    ∙ ap (λ (m : Acting). switch_acts m (step (switch_at now id))) seen

pub switch_kept :
    (n : Acting) (post0 post1 : Outbox) (id : ℕ) (new : Switch) (sent : List (Node × Packet))
    → AreActing n post0 → IsSwitch n.rack id new → IsOutbox n.rack post1
    → AreActing (record n { switches = slice_set n.switches id new; sent = sent }) post1
switch_kept n post0 post1 id new sent are is outbox = record {
  limits = are.limits;
  clients = are.clients;
  servers = are.servers;
  switches = length-set n.switches id new ∙ are.switches;
  each_client = are.each_client;
  each_server = are.each_server;
  each_switch =
      each_set (IsSwitch n.rack) (IsSwitch n.rack) n.switches id new are.each_switch is
      (λ j x other h. h);
  controller = are.controller;
  outbox = outbox;
}

-- ---- the controller

pub controller_acted :
    {D : Type 0} (n now : Acting) (new : Controller)
    → (step : Controller → Step Controller (Node × Packet) D) (sent : List (Node × Packet))
    → n ≡ now → new ≡ (step n.controller).state → sent ≡ (step n.controller).sent
    → record n { controller = new; sent = sent } ≡ controller_acts now (step now.controller)
controller_acted n now new step sent seen is sends =
    ap (λ x. record n { controller = x; sent = sent }) is
    ∙ ap (λ xs. record n { controller = (step n.controller).state; sent = xs }) sends
    ∙ ap (λ (m : Acting). controller_acts m (step m.controller)) seen

pub controller_kept :
    (n : Acting) (post0 post1 : Outbox) (new : Controller) (sent : List (Node × Packet))
    → AreActing n post0 → new.rack ≡ n.rack → IsOutbox n.rack post1
    → AreActing (record n { controller = new; sent = sent }) post1
controller_kept n post0 post1 new sent are is outbox = record {
  limits = are.limits;
  clients = are.clients;
  servers = are.servers;
  switches = are.switches;
  each_client = are.each_client;
  each_server = are.each_server;
  each_switch = are.each_switch;
  controller = is;
  outbox = outbox;
}

-- ---- what a call of a client comes to

pub record ClientActed
    {D : Type 0} (n now : Acting) (post : Outbox) (id arg : ℕ) (new : Client)
    (did : D) (step : Client → Step Client (Node × Packet) D) : Type 0
  where
    pub kept :
        AreActing (record n {
          clients = slice_set n.clients id new;
          sent = map packet_in post.items;
        }) post
    pub held : slice_get now.clients arg ≡ Some (client_at now arg)
    pub named : (client_at now arg).id ≡ arg
    pub answer : did ≡ (step (client_at now arg)).did
    pub acts :
        record n { clients = slice_set n.clients id new; sent = map packet_in post.items }
        ≡ client_acts now (step (client_at now arg))

pub client_called :
    {D : Type 0} (n now : Acting) (post0 post1 : Outbox) (id arg : ℕ) (old new : Client) (did : D)
    → (step : Client → Step Client (Node × Packet) D)
    → AreActing n post0 → n ≡ now → id ≡ arg → arg < now.rack.clients
    → (id < length n.clients → slice_get n.clients id ≡ Some old)
    → new ≡ (step old).state → did ≡ (step old).did
    → (IsClient n.rack id old → IsClient n.rack id (step old).state)
    → (IsClient n.rack id old → IsOutbox n.rack post1)
    → (IsClient n.rack id old → map packet_in post1.items ≡ (step old).sent)
    → ClientActed n now post1 id arg new did step
client_called n now post0 post1 id arg old new did step are seen same within at_place is answered
    stays boxed sends =
    let small : id < length n.clients =
    omega (arith, same, within, are.clients, ap (λ (m : Acting). m.rack.clients) seen) in
    let at : slice_get n.clients id ≡ Some old = at_place small in
    let good : IsClient n.rack id old = are.each_client id old at in
    let after : IsClient n.rack id (step old).state = stays good in
    let found : client_at now id ≡ old = client_found n now id old seen at in
    let at_arg : client_at now id ≡ client_at now arg = ap (client_at now) same in
    record {
      kept =
          client_kept n post0 post1 id new (map packet_in post1.items) are
          (subst (IsClient n.rack id) (sym is) after) (boxed good);
      held =
          subst (λ i. slice_get now.clients i ≡ Some (client_at now i)) same
          (client_held n now id old seen at);
      named = ap (λ (x : Client). x.id) (sym at_arg ∙ found) ∙ good.named ∙ same;
      answer = answered ∙ ap (λ x. (step x).did) (sym found ∙ at_arg);
      acts =
          client_acted n now id old new step (map packet_in post1.items) seen at is after.named
          (sends good)
          ∙ ap (λ x. client_acts now (step x)) at_arg;
    }
