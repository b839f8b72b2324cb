-- What each call of a node comes to.
use Rattle.std.proofs.Common.{◌≡◌, ℕ, ◌+◌, ◌<◌, ◌≤◌, true, List, [], map, length, ap, sym, ◌∙◌, Some, subst}
use Rattle.std.proofs.Common.{slice_get, slice_set, slice_index_or, Option, arith}
use Rattle.std.specs.Prelude.{Result, Ok, Err, IfOk, OnOk, OnErr}
use Rattle.std.proofs.lemmas.Option.{get_or_from_slice_get}
use Rattle.peg_name.specs.Name.{Rack, parts_most}
use Rattle.peg_name.specs.declared.Format.{Format}
use Rattle.peg_name.specs.declared.Node.{Node}
use Rattle.peg_name.specs.declared.OutOfMemory.{OutOfMemory}
use Rattle.peg_event.specs.declared.answers.Ask.{Ask}
use Rattle.peg_event.specs.declared.ClientDid.{ClientDid}
use Rattle.peg_event.specs.declared.ClientDid.TheVariants as client_did
use Rattle.peg_event.specs.declared.ControlDid.{ControlDid}
use Rattle.peg_event.specs.declared.ControlDid.TheVariants as control_did
use Rattle.peg_event.specs.declared.answers.Issue.{Issue}
use Rattle.peg_event.specs.declared.ServerDid.{ServerDid}
use Rattle.peg_event.specs.declared.ServerDid.TheVariants as server_did
use Rattle.peg_event.specs.declared.SwitchDid.{SwitchDid}
use Rattle.peg_event.specs.declared.SwitchDid.TheVariants as switch_did
use Rattle.peg_model.specs.Words.{Step}
use Rattle.peg_model.specs.Packet.{Packet}
use Rattle.peg_model.specs.Reading.{packet_of}
use Rattle.peg_model.specs.Datagrams.{are_packets, client_on_bytes, server_on_bytes, switch_on_bytes}
use Rattle.peg_model.specs.Datagrams.{controller_on_bytes}
use Rattle.peg_model.specs.Client.{Client, begin_operation, resend, give_up, client_step}
use Rattle.peg_model.specs.Server.{Server, ServerStep, server_step}
use Rattle.peg_model.specs.Switch.{Switch, SwitchStep, new_switch, switch_step}
use Rattle.peg_model.specs.Controller.{Controller, controller_step}
use Rattle.peg_packet.specs.Nodes.{announces_in, are_in_rack}
use Rattle.peg_packet.specs.Outbox.{Outbox, posted}
use Rattle.peg_world.specs.Acting.{Acting, packet_read, server_at, server_acts, switch_at}
use Rattle.peg_world.specs.Acting.{switch_acts, controller_acts}
use Rattle.peg_world.specs.Sound.{AreActing, IsClient, IsOutbox, packet_in}
use Rattle.peg_world.proofs.Acted.{ClientActed, client_called, server_kept, server_acted}
use Rattle.peg_world.proofs.Acted.{server_found, switch_kept, switch_acted, switch_found}
use Rattle.peg_world.proofs.Acted.{controller_kept, controller_acted}
use Rattle.peg_world.proofs.Each.{set_same, set_there}
use Rattle.peg_world.proofs.Asking.{begin_goes, begin_is, resend_goes, resend_keeps, give_up_is}
use Rattle.peg_world.proofs.Asking.{give_up_sends}
use Rattle.peg_world.proofs.Flying.{Reads, Posted, outbox_after, sent_after, count_after}
use Rattle.peg_world.proofs.Handing.{on_read_bytes}
use Rattle.peg_world.proofs.Taking.{taken_is, taken_sends}

-- a client's call that may send something
sends_called :
    {D : Type 0} (n now : Acting) (post0 post1 : Outbox) (id arg : ℕ) (old new : Client) (did : D)
    → (step : Client → Step Client (Node × Packet) D)
    → Reads → AreActing n post0 → n ≡ now → n.sent ≡ map packet_in post0.items → id ≡ arg
    → arg < now.rack.clients → now.sent ≡ []
    → (id < length n.clients → slice_get n.clients id ≡ Some old)
    → new ≡ (step old).state → did ≡ (step old).did → post1 ≡ posted post0 (step old).sent
    → are_packets old.format (step old).sent ≡ true
    → (IsClient n.rack id old → IsClient n.rack id (step old).state)
    → (IsClient n.rack id old → are_in_rack n.rack (step old).sent ≡ true)
    → ClientActed n now post1 id arg new did step
sends_called n now post0 post1 id arg old new did step law are seen shown same within empty at_place
    is answered put fits stays goes =
    let box : IsClient n.rack id old → Posted n.rack (step old).sent post0 post1 =
    λ good. record {
      empty = sym shown ∙ ap (λ (m : Acting). m.sent) seen ∙ empty;
      put = put;
      fits = ap (λ f. are_packets f (step old).sent) (sym good.speaks) ∙ fits;
      goes = goes good;
    } in
    client_called n now post0 post1 id arg old new did step are seen same within at_place is answered
    stays (λ good. outbox_after n.rack (step old).sent post0 post1 law are.outbox (box good))
    (λ good. sent_after n.rack (step old).sent post0 post1 law are.outbox (box good))

pub issue_called :
    (n now : Acting) (post0 post1 : Outbox) (id arg : ℕ) (key : List ℕ) (ask : Ask)
    → (old new : Client) (did : Issue)
    → Reads → AreActing n post0 → n ≡ now → n.sent ≡ map packet_in post0.items → id ≡ arg
    → arg < now.rack.clients → now.sent ≡ []
    → (id < length n.clients → slice_get n.clients id ≡ Some old)
    → new ≡ (begin_operation old key ask).state → did ≡ (begin_operation old key ask).did
    → post1 ≡ posted post0 (begin_operation old key ask).sent
    → are_packets old.format (begin_operation old key ask).sent ≡ true
    → ClientActed n now post1 id arg new did (λ c. begin_operation c key ask)
issue_called n now post0 post1 id arg key ask old new did law are seen shown same within empty
    at_place is answered put fits =
    sends_called n now post0 post1 id arg old new did (λ c. begin_operation c key ask) law are seen
    shown same within empty at_place is answered put fits
    (λ good. begin_is n.rack id old key ask good)
    (λ good. begin_goes n.rack old key ask good.asks)

pub resend_called :
    (n now : Acting) (post0 post1 : Outbox) (id arg : ℕ) (old new : Client) (did : Option ℕ)
    → Reads → AreActing n post0 → n ≡ now → n.sent ≡ map packet_in post0.items → id ≡ arg
    → arg < now.rack.clients → now.sent ≡ []
    → (id < length n.clients → slice_get n.clients id ≡ Some old)
    → new ≡ (resend old).state → did ≡ (resend old).did → post1 ≡ posted post0 (resend old).sent
    → are_packets old.format (resend old).sent ≡ true
    → ClientActed n now post1 id arg new did resend
resend_called n now post0 post1 id arg old new did law are seen shown same within empty at_place is
    answered put fits =
    sends_called n now post0 post1 id arg old new did resend law are seen shown same within empty
    at_place is answered put fits
    (λ good. subst (IsClient n.rack id) (sym (resend_keeps old)) good)
    (λ good. resend_goes n.rack old good.asks)

-- and one that sends nothing
pub give_up_called :
    (n now : Acting) (post : Outbox) (id arg : ℕ) (old new : Client) (did : Option ℕ)
    → AreActing n post → n ≡ now → n.sent ≡ map packet_in post.items → id ≡ arg
    → arg < now.rack.clients → now.sent ≡ []
    → (id < length n.clients → slice_get n.clients id ≡ Some old)
    → new ≡ (give_up old).state → did ≡ (give_up old).did
    → ClientActed n now post id arg new did give_up
give_up_called n now post id arg old new did are seen shown same within empty at_place is answered =
    client_called n now post post id arg old new did give_up are seen same within at_place is
    answered (λ good. give_up_is n.rack id old good) (λ good. are.outbox)
    (λ good. sym shown ∙ ap (λ (m : Acting). m.sent) seen ∙ empty ∙ sym (give_up_sends old))

-- ---- packets that are read

client_reads :
    (format : Format) (c : Client) (bytes : List ℕ)
    → packet_of bytes ≡ Some (format, packet_read bytes) → c.format ≡ format
    → client_on_bytes c bytes ≡ client_step c (packet_read bytes)
client_reads format c bytes reads speaks =
    on_read_bytes (packet_of bytes) c.format (client_step c) c client_did.Ignored client_did.Ignored
    (packet_read bytes) (reads ∙ ap (λ f. Some (f, packet_read bytes)) (sym speaks))

pub client_handed :
    (n now : Acting) (post : Outbox) (id arg : ℕ) (bytes : List ℕ) (old new : Client)
    → (did : ClientDid)
    → AreActing n post → n ≡ now → n.sent ≡ map packet_in post.items → id ≡ arg
    → arg < now.rack.clients → now.sent ≡ []
    → packet_of bytes ≡ Some (now.rack.format, packet_read bytes)
    → announces_in now.rack (packet_read bytes) ≡ true
    → (id < length n.clients → slice_get n.clients id ≡ Some old)
    → new ≡ (client_on_bytes old bytes).state → did ≡ (client_on_bytes old bytes).did
    → ClientActed n now post id arg new did (λ c. client_step c (packet_read bytes))
client_handed n now post id arg bytes old new did are seen shown same within empty reads goes
    at_place is answered =
    let p : Packet = packet_read bytes in
    let goes_here : announces_in n.rack p ≡ true =
    ap (λ (m : Acting). announces_in m.rack p) seen ∙ goes in
    let small : id < length n.clients =
    omega (arith, same, within, are.clients, ap (λ (m : Acting). m.rack.clients) seen) in
    let read : client_on_bytes old bytes ≡ client_step old p =
    client_reads now.rack.format old bytes reads
    ((are.each_client id old (at_place small)).speaks
    ∙ ap (λ (m : Acting). m.rack.format) seen) in
    client_called n now post post id arg old new did (λ c. client_step c p) are seen same within
    at_place (is ∙ ap (λ (s : Step Client (Node × Packet) ClientDid). s.state) read)
    (answered ∙ ap (λ (s : Step Client (Node × Packet) ClientDid). s.did) read)
    (λ good. taken_is n.rack id old p goes_here good) (λ good. are.outbox)
    (λ good. sym shown ∙ ap (λ (m : Acting). m.sent) seen ∙ empty
    ∙ sym (taken_sends n.rack old p goes_here))

-- ---- a server

server_reads :
    (format : Format) (s : Server) (bytes : List ℕ)
    → packet_of bytes ≡ Some (format, packet_read bytes) → s.rack.format ≡ format
    → server_on_bytes s bytes ≡ server_step s (packet_read bytes)
server_reads format s bytes reads speaks =
    on_read_bytes (packet_of bytes) s.rack.format (server_step s) s server_did.Malformed
    server_did.OutOfPlace (packet_read bytes)
    (reads ∙ ap (λ f. Some (f, packet_read bytes)) (sym speaks))

pub record ServerActed
    (n now : Acting) (post : Outbox) (id arg : ℕ) (new : Server)
    (result : Result ServerDid OutOfMemory) (step : Server → ServerStep) : Type 0
  where
    pub kept :
        AreActing (record n {
          servers = slice_set n.servers id new;
          sent = map packet_in post.items;
        }) post
    pub answer : IfOk result (λ did. did ≡ (step (server_at now arg)).did)
    pub acts :
        OnOk result
        (record n { servers = slice_set n.servers id new; sent = map packet_in post.items }
        ≡ server_acts now (step (server_at now arg)))
    pub err :
        OnErr result
        (record n { servers = slice_set n.servers id new; sent = map packet_in post.items } ≡ now)
    pub few : OnOk result (length (map packet_in post.items) ≤ 1)

pub server_handed :
    (result : Result ServerDid OutOfMemory) (n now : Acting) (post0 post1 : Outbox) (id arg : ℕ)
    → (bytes : List ℕ) (old new : Server)
    → Reads → AreActing n post0 → n ≡ now → n.sent ≡ map packet_in post0.items → id ≡ arg
    → arg < now.rack.servers → now.sent ≡ []
    → packet_of bytes ≡ Some (now.rack.format, packet_read bytes)
    → (id < length n.servers → slice_get n.servers id ≡ Some old)
    → IfOk result (λ did. did ≡ (server_on_bytes old bytes).did)
    → OnOk result (new ≡ (server_on_bytes old bytes).state)
    → OnOk result (post1 ≡ posted post0 (server_on_bytes old bytes).sent)
    → OnOk result (are_packets old.rack.format (server_on_bytes old bytes).sent ≡ true)
    → OnOk result (are_in_rack old.rack (server_on_bytes old bytes).sent ≡ true)
    → OnOk result (length (server_on_bytes old bytes).sent ≤ 1)
    → new.rack ≡ old.rack → new.id ≡ old.id → OnErr result (new ≡ old)
    → OnErr result (post1 ≡ post0)
    → ServerActed n now post1 id arg new result (λ s. server_step s (packet_read bytes))
server_handed (Ok did) n now post0 post1 id arg bytes old new law are seen shown same within empty
    reads at_place answer after sent packets nodes few rack named err err_sent =
    let p : Packet = packet_read bytes in
    let small : id < length n.servers =
    omega (arith, same, within, are.servers, ap (λ (m : Acting). m.rack.servers) seen) in
    let at : slice_get n.servers id ≡ Some old = at_place small in
    let good = are.each_server id old at in
    let read : server_on_bytes old bytes ≡ server_step old p =
    server_reads now.rack.format old bytes reads
    (ap (λ (r : Rack). r.format) good.racked ∙ ap (λ (m : Acting). m.rack.format) seen) in
    let found : server_at now id ≡ old = server_found n now id old seen at in
    let at_arg : server_at now id ≡ server_at now arg = ap (server_at now) same in
    let box : Posted n.rack (server_step old p).sent post0 post1 =
    record {
      empty = sym shown ∙ ap (λ (m : Acting). m.sent) seen ∙ empty;
      put = sent ∙ ap (λ (s : ServerStep). posted post0 s.sent) read;
      fits =
          ap (λ (s : ServerStep). are_packets n.rack.format s.sent) (sym read)
          ∙ ap (λ (r : Rack). are_packets r.format (server_on_bytes old bytes).sent)
          (sym good.racked) ∙ packets;
      goes =
          ap (λ (s : ServerStep). are_in_rack n.rack s.sent) (sym read)
          ∙ ap (λ (r : Rack). are_in_rack r (server_on_bytes old bytes).sent) (sym good.racked)
          ∙ nodes;
    } in
    let is : new ≡ (server_step old p).state =
    after ∙ ap (λ (s : ServerStep). s.state) read in
    record {
      kept =
          server_kept n post0 post1 id new (map packet_in post1.items) are
          (record { named = named ∙ good.named; racked = rack ∙ good.racked })
          (outbox_after n.rack (server_step old p).sent post0 post1 law are.outbox box);
      answer =
          answer ∙ ap (λ (s : ServerStep). s.did) read
          ∙ ap (λ x. (server_step x p).did) (sym found ∙ at_arg);
      acts =
          server_acted n now id old new (λ s. server_step s p) (map packet_in post1.items) seen at is
          (ap (λ (s : Server). s.id) (sym is) ∙ named ∙ good.named)
          (sent_after n.rack (server_step old p).sent post0 post1 law are.outbox box)
          ∙ ap (λ x. server_acts now (server_step x p)) at_arg;
      err = tt;
      few = omega (arith, few, count_after post0 post1 (server_on_bytes old bytes).sent box.empty sent);
    }
server_handed (Err error) n now post0 post1 id arg bytes old new law are seen shown same within
    empty reads at_place answer after sent packets nodes few rack named err err_sent =
    let small : id < length n.servers =
    omega (arith, same, within, are.servers, ap (λ (m : Acting). m.rack.servers) seen) in
    let at : slice_get n.servers id ≡ Some old = at_place small in
    let good = are.each_server id old at in
    record {
      kept =
          server_kept n post0 post1 id new (map packet_in post1.items) are
          (record { named = named ∙ good.named; racked = rack ∙ good.racked })
          (subst (IsOutbox n.rack) (sym err_sent) are.outbox);
      answer = tt;
      acts = tt;
      err =
          ap (λ x. record n { servers = slice_set n.servers id x; sent = map packet_in post1.items })
          err
          ∙ ap (λ xs. record n { servers = xs; sent = map packet_in post1.items })
          (set_same n.servers id old at)
          ∙ ap (λ (o : Outbox). record n { sent = map packet_in o.items }) err_sent
          ∙ ap (λ xs. record n { sent = xs }) (sym shown) ∙ seen;
      few = tt;
    }

-- ---- a switch

switch_reads :
    (format : Format) (s : Switch) (bytes : List ℕ) (pick : ℕ)
    → packet_of bytes ≡ Some (format, packet_read bytes) → s.rack.format ≡ format
    → switch_on_bytes s bytes pick ≡ switch_step s (packet_read bytes) pick
switch_reads format s bytes pick reads speaks =
    on_read_bytes (packet_of bytes) s.rack.format (λ p. switch_step s p pick) s
    switch_did.Malformed switch_did.OutOfPlace (packet_read bytes)
    (reads ∙ ap (λ f. Some (f, packet_read bytes)) (sym speaks))

pub record SwitchActed
    (n now : Acting) (post : Outbox) (id arg : ℕ) (new : Switch) (did : SwitchDid)
    (step : Switch → SwitchStep) : Type 0
  where
    pub kept :
        AreActing (record n {
          switches = slice_set n.switches id new;
          sent = map packet_in post.items;
        }) post
    pub answer : did ≡ (step (switch_at now arg)).did
    pub acts :
        record n { switches = slice_set n.switches id new; sent = map packet_in post.items }
        ≡ switch_acts now (step (switch_at now arg))
    pub held :
        slice_index_or (slice_set n.switches id new) arg (new_switch n.rack [] arg)
        ≡ (step (switch_at now arg)).state
    pub few : length (map packet_in post.items) ≤ parts_most now.rack.format

pub switch_handed :
    (n now : Acting) (post0 post1 : Outbox) (id arg : ℕ) (bytes : List ℕ) (pick : ℕ)
    → (old new : Switch) (did : SwitchDid)
    → Reads → AreActing n post0 → n ≡ now → n.sent ≡ map packet_in post0.items → id ≡ arg
    → arg < now.rack.switches → now.sent ≡ []
    → packet_of bytes ≡ Some (now.rack.format, packet_read bytes)
    → (id < length n.switches → slice_get n.switches id ≡ Some old)
    → new ≡ (switch_on_bytes old bytes pick).state → did ≡ (switch_on_bytes old bytes pick).did
    → post1 ≡ posted post0 (switch_on_bytes old bytes pick).sent
    → are_packets old.rack.format (switch_on_bytes old bytes pick).sent ≡ true
    → are_in_rack old.rack (switch_on_bytes old bytes pick).sent ≡ true
    → length (switch_on_bytes old bytes pick).sent ≤ parts_most old.rack.format
    → new.rack ≡ old.rack → new.id ≡ old.id
    → SwitchActed n now post1 id arg new did (λ s. switch_step s (packet_read bytes) pick)
switch_handed n now post0 post1 id arg bytes pick old new did law are seen shown same within empty
    reads at_place after answer sent packets nodes few rack named =
    let p : Packet = packet_read bytes in
    let small : id < length n.switches =
    omega (arith, same, within, are.switches, ap (λ (m : Acting). m.rack.switches) seen) in
    let at : slice_get n.switches id ≡ Some old = at_place small in
    let good = are.each_switch id old at in
    let read : switch_on_bytes old bytes pick ≡ switch_step old p pick =
    switch_reads now.rack.format old bytes pick reads
    (ap (λ (r : Rack). r.format) good.racked ∙ ap (λ (m : Acting). m.rack.format) seen) in
    let found : switch_at now id ≡ old = switch_found n now id old seen at in
    let at_arg : switch_at now id ≡ switch_at now arg = ap (switch_at now) same in
    let box : Posted n.rack (switch_step old p pick).sent post0 post1 =
    record {
      empty = sym shown ∙ ap (λ (m : Acting). m.sent) seen ∙ empty;
      put = sent ∙ ap (λ (s : SwitchStep). posted post0 s.sent) read;
      fits =
          ap (λ (s : SwitchStep). are_packets n.rack.format s.sent) (sym read)
          ∙ ap (λ (r : Rack). are_packets r.format (switch_on_bytes old bytes pick).sent)
          (sym good.racked) ∙ packets;
      goes =
          ap (λ (s : SwitchStep). are_in_rack n.rack s.sent) (sym read)
          ∙ ap (λ (r : Rack). are_in_rack r (switch_on_bytes old bytes pick).sent)
          (sym good.racked) ∙ nodes;
    } in
    let is : new ≡ (switch_step old p pick).state =
    after ∙ ap (λ (s : SwitchStep). s.state) read in
    record {
      kept =
          switch_kept n post0 post1 id new (map packet_in post1.items) are
          (record { named = named ∙ good.named; racked = rack ∙ good.racked })
          (outbox_after n.rack (switch_step old p pick).sent post0 post1 law are.outbox box);
      answer =
          answer ∙ ap (λ (s : SwitchStep). s.did) read
          ∙ ap (λ x. (switch_step x p pick).did) (sym found ∙ at_arg);
      acts =
          switch_acted n now id old new (λ s. switch_step s p pick) (map packet_in post1.items) seen
          at is (ap (λ (s : Switch). s.id) (sym is) ∙ named ∙ good.named)
          (sent_after n.rack (switch_step old p pick).sent post0 post1 law are.outbox box)
          ∙ ap (λ x. switch_acts now (switch_step x p pick)) at_arg;
      held =
          ap (λ i. slice_index_or (slice_set n.switches id new) i (new_switch n.rack [] i)) (sym same)
          ∙ get_or_from_slice_get (slice_set n.switches id new) id new (new_switch n.rack [] id)
          (set_there n.switches id new small)
          ∙ is ∙ ap (λ x. (switch_step x p pick).state) (sym found ∙ at_arg);
      few =
          omega (
            arith,
            few,
            count_after post0 post1 (switch_on_bytes old bytes pick).sent box.empty sent,
            ap (λ (r : Rack). parts_most r.format) good.racked,
            ap (λ (m : Acting). parts_most m.rack.format) seen,
          );
    }

-- ---- the controller

pub record ControllerActed
    {D : Type 0} (n now : Acting) (post : Outbox) (new : Controller) (did : D)
    (step : Controller → Step Controller (Node × Packet) D) : Type 0
  where
    pub kept : AreActing (record n { controller = new; sent = map packet_in post.items }) post
    pub answer : did ≡ (step now.controller).did
    pub acts :
        record n { controller = new; sent = map packet_in post.items }
        ≡ controller_acts now (step now.controller)

pub controller_count :
    (n now : Acting) (post0 post1 : Outbox) (sent : List (Node × Packet)) (most : ℕ)
    → AreActing n post0 → n ≡ now → n.sent ≡ map packet_in post0.items → now.sent ≡ []
    → post1 ≡ posted post0 sent → length sent ≤ n.controller.rack.clients + most
    → length (map packet_in post1.items) ≤ now.rack.clients + most
controller_count n now post0 post1 sent most are seen shown empty put few =
    omega (
      arith,
      few,
      count_after post0 post1 sent (sym shown ∙ ap (λ (m : Acting). m.sent) seen ∙ empty) put,
      ap (λ (r : Rack). r.clients) are.controller,
      ap (λ (m : Acting). m.rack.clients) seen,
    )

pub controller_called :
    {D : Type 0} (n now : Acting) (post0 post1 : Outbox) (new : Controller) (did : D)
    → (step : Controller → Step Controller (Node × Packet) D)
    → Reads → AreActing n post0 → n ≡ now → n.sent ≡ map packet_in post0.items → now.sent ≡ []
    → new ≡ (step n.controller).state → did ≡ (step n.controller).did
    → post1 ≡ posted post0 (step n.controller).sent
    → are_packets n.controller.rack.format (step n.controller).sent ≡ true
    → are_in_rack n.controller.rack (step n.controller).sent ≡ true
    → new.rack ≡ n.controller.rack
    → ControllerActed n now post1 new did step
controller_called n now post0 post1 new did step law are seen shown empty after answer put packets
    nodes rack =
    let sent : List (Node × Packet) = (step n.controller).sent in
    let box : Posted n.rack sent post0 post1 =
    record {
      empty = sym shown ∙ ap (λ (m : Acting). m.sent) seen ∙ empty;
      put = put;
      fits = ap (λ (r : Rack). are_packets r.format sent) (sym are.controller) ∙ packets;
      goes = ap (λ (r : Rack). are_in_rack r sent) (sym are.controller) ∙ nodes;
    } in
    record {
      kept =
          controller_kept n post0 post1 new (map packet_in post1.items) are (rack ∙ are.controller)
          (outbox_after n.rack sent post0 post1 law are.outbox box);
      answer = answer ∙ ap (λ (m : Acting). (step m.controller).did) seen;
      acts =
          controller_acted n now new step (map packet_in post1.items) seen after
          (sent_after n.rack sent post0 post1 law are.outbox box);
    }

abbrev ControllerStep : Type 0
ControllerStep = Step Controller (Node × Packet) ControlDid

controller_reads :
    (n now : Acting) (post : Outbox) (bytes : List ℕ)
    → AreActing n post → n ≡ now → packet_of bytes ≡ Some (now.rack.format, packet_read bytes)
    → controller_on_bytes n.controller bytes ≡ controller_step n.controller (packet_read bytes)
controller_reads n now post bytes are seen reads =
    on_read_bytes (packet_of bytes) n.controller.rack.format (controller_step n.controller)
    n.controller control_did.Malformed control_did.OutOfPlace (packet_read bytes)
    (reads ∙ ap (λ (m : Acting). Some (m.rack.format, packet_read bytes)) (sym seen)
    ∙ ap (λ (r : Rack). Some (r.format, packet_read bytes)) (sym are.controller))

pub controller_handed :
    (n now : Acting) (post0 post1 : Outbox) (bytes : List ℕ) (new : Controller) (did : ControlDid)
    → Reads → AreActing n post0 → n ≡ now → n.sent ≡ map packet_in post0.items → now.sent ≡ []
    → packet_of bytes ≡ Some (now.rack.format, packet_read bytes)
    → new ≡ (controller_on_bytes n.controller bytes).state
    → did ≡ (controller_on_bytes n.controller bytes).did
    → post1 ≡ posted post0 (controller_on_bytes n.controller bytes).sent
    → are_packets n.controller.rack.format (controller_on_bytes n.controller bytes).sent ≡ true
    → are_in_rack n.controller.rack (controller_on_bytes n.controller bytes).sent ≡ true
    → new.rack ≡ n.controller.rack
    → ControllerActed n now post1 new did (λ c. controller_step c (packet_read bytes))
controller_handed n now post0 post1 bytes new did law are seen shown empty reads after answer put
    packets nodes rack =
    let read = controller_reads n now post0 bytes are seen reads in
    controller_called n now post0 post1 new did (λ c. controller_step c (packet_read bytes)) law are
    seen shown empty (after ∙ ap (λ (s : ControllerStep). s.state) read)
    (answer ∙ ap (λ (s : ControllerStep). s.did) read)
    (put ∙ ap (λ (s : ControllerStep). posted post0 s.sent) read)
    (ap (λ (s : ControllerStep). are_packets n.controller.rack.format s.sent) (sym read) ∙ packets)
    (ap (λ (s : ControllerStep). are_in_rack n.controller.rack s.sent) (sym read) ∙ nodes) rack
