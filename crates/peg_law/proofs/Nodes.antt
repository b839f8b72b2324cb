-- A world and a state that tell the same still do when one node of each changes alike, and when
-- both send the same packets.
use Rattle.std.proofs.Common.{◌≡◌, ◌≢◌, ◌<◌, ◌==◌, ◌&&◌, ℕ, Bool, true, false, List, [], ◌++◌}
use Rattle.std.proofs.Common.{cond, length, Option, refl, sym, ap, ◌∙◌, subst}
use Rattle.std.proofs.Common.{arith, ne_eqb, eqb-true, eq-eqb}
use Rattle.std.proofs.lemmas.Bool.{eqb-false}
use Rattle.std.proofs.lemmas.List.{get_or-set_same, get_or-set_other, length-set}
use Rattle.std.proofs.lemmas.List.Elements.{Contains-append_left}
use Rattle.std.specs.Prelude.{slice_index_or, slice_set}
use Rattle.peg_name.specs.Name.{Rack}
use Rattle.peg_name.specs.declared.Node.{Node}
use Rattle.peg_name.specs.declared.Node.TheVariants as node
use Rattle.peg_model.specs.Packet as packet
use Rattle.peg_model.specs.Packet.{Packet}
use Rattle.peg_model.specs.Server.{Server, new_server}
use Rattle.peg_model.specs.Client.{Client, new_client}
use Rattle.peg_model.specs.Switch.{Switch, new_switch}
use Rattle.peg_model.specs.World.{World, switch_of, with_client, with_server}
use Rattle.peg_model.specs.World.{with_switch, with_controller, Operation}
use Rattle.peg_model.specs.Controller.{Controller}
use Rattle.peg_law.specs.Mirrors.{Mirrors, Paired, ItemFits, ClientFits, ServerFits, SwitchFits}
use Rattle.peg_law.specs.Mirrors.{GatheredFits, ControllerFits, IsOperation}
use Rattle.peg_law.proofs.Tables.{paired_append}
use Rattle.peg_protocol.specs.Core.{at_one, at_two}
use Rattle.peg_protocol.specs.Core as core
use Rattle.peg_protocol.specs.Packet as law
use Rattle.peg_protocol.specs.Machine.{Pair, Guard, Plan, Answer, Id}
use Rattle.peg_protocol.specs.System.{System, Mode, Gathered}

-- ---- a function that changes at one place

pub at_one_off : {A : Type 0} (f : ℕ → A) (a : ℕ) (x : A) (j : ℕ) → j ≢ a → at_one f a x j ≡ f j
at_one_off f a x j other = ap (λ t. cond t x (f j)) (ne_eqb j a other)

pub at_one_here : {A : Type 0} (f : ℕ → A) (a : ℕ) (x : A) → at_one f a x a ≡ x
at_one_here f a x = ap (λ t. cond t x (f a)) (eq-eqb a a refl)

pub at_two_off :
    {A : Type 0} (f : ℕ → ℕ → A) (a b : ℕ) (x : A) (j : ℕ) → j ≢ a → at_two f a b x j ≡ f j
at_two_off f a b x j other =
    ap (λ t. λ d. cond (t && d == b) x (f j d)) (ne_eqb j a other)

pub at_two_here :
    {A : Type 0} (f : ℕ → ℕ → A) (a b : ℕ) (x : A) (d : ℕ)
    → at_two f a b x a d ≡ cond (d == b) x (f a d)
at_two_here f a b x d = ap (λ t. cond (t && d == b) x (f a d)) (eq-eqb a a refl)

-- ---- a table of nodes of which one changes

pub table_changed :
    {A : Type 0} (xs : List A) (i : ℕ) (y : A) (d : ℕ → A) (P : ℕ → A → Type 0) → i < length xs
    → P i y → ((j : ℕ) → j ≢ i → P j (slice_index_or xs j (d j)))
    → (j : ℕ) → P j (slice_index_or (slice_set xs i y) j (d j))
table_changed xs i y d P within here off j = by_test (j == i) refl
  where
    by_test : (b : Bool) → (j == i) ≡ b → P j (slice_index_or (slice_set xs i y) j (d j))
    by_test true e =
        let at : i ≡ j = sym (eqb-true j i e) in
        subst (λ k. P k (slice_index_or (slice_set xs i y) k (d k))) at
        (subst (P i) (sym (get_or-set_same xs i y (d i) within)) here)
    by_test false e =
        let other : j ≢ i = eqb-false j i e in
        subst (P j) (sym (get_or-set_other xs i j y (d j) other)) (off j other)

-- ---- packets more

gathered_more :
    (id : ℕ) (packets sent : List (Node × Packet)) (s : Switch) (g : Gathered)
    → GatheredFits id packets s.collected g → GatheredFits id (packets ++ sent) s.collected g
gathered_more id packets sent s g f =
    record {
      epoch_is = f.epoch_is;
      has = f.has;
      was_sent = λ index bytes e.
          Contains-append_left packets sent
          (node.Switch id, packet.Part s.collected.epoch index (length s.collected.parts) bytes)
          (f.was_sent index bytes e);
      missing = f.missing;
      some = f.some;
    }

pub switch_more :
    (rack : Rack) (id : ℕ) (packets sent : List (Node × Packet)) (s : Switch) (mode : Mode)
    (epoch : ℕ) (c : core.Core) (o : law.Outcome) (g : Gathered)
    → SwitchFits rack id packets s mode epoch c o g
    → SwitchFits rack id (packets ++ sent) s mode epoch c o g
switch_more rack id packets sent s mode epoch c o g f =
    record {
      rack_is = f.rack_is;
      id_is = f.id_is;
      mode_is = f.mode_is;
      target = f.target;
      epoch_is = f.epoch_is;
      core_is = f.core_is;
      kept_is = f.kept_is;
      gathered_is = gathered_more id packets sent s g f.gathered_is;
      counts = f.counts;
      handed = f.handed;
    }

module _ (keys : List (List ℕ)) (w : World) (s : System) (m : Mirrors keys w s) where
  pub posted :
      (sent : List (Node × Packet)) (items : List law.Item) → Paired (ItemFits w.rack) sent items
      → Mirrors keys (record w { packets = w.packets ++ sent })
      (record s { sent = s.sent ++ items })
  posted sent items fit =
      record {
        limits = m.limits;
        named = m.named;
        rack = m.rack;
        place = m.place;
        sent = paired_append (ItemFits w.rack) w.packets sent s.sent items m.sent fit;
        clients = m.clients;
        servers = m.servers;
        switches = λ id.
            switch_more w.rack id w.packets sent (switch_of w id) (s.modes id) (s.epochs id)
            (s.cores id) (s.outcomes id) (s.gathered id) (m.switches id);
        controller = m.controller;
        history = m.history;
        fences = m.fences;
        promoted = m.promoted;
        lengths = m.lengths;
      }

  -- ---- one node

  pub server_changes :
      (t : ℕ) (now : Server) (held : ℕ → ℕ → Pair) (guards : ℕ → ℕ → Guard) → t < w.rack.servers
      → now.id ≡ t → ServerFits w.rack t now (held t) (guards t)
      → ((j : ℕ) → j ≢ t → held j ≡ s.held j) → ((j : ℕ) → j ≢ t → guards j ≡ s.guards j)
      → Mirrors keys (with_server w now) (record s { held = held; guards = guards })
  server_changes t now held guards within at fits same same' =
      record {
        limits = m.limits;
        named = m.named;
        rack = m.rack;
        place = m.place;
        sent = m.sent;
        clients = m.clients;
        servers =
            subst
            (λ i.
            (j : ℕ)
            → ServerFits w.rack j
            (slice_index_or (slice_set w.servers i now) j (new_server w.rack j))
            (held j) (guards j))
            (sym at) each;
        switches = m.switches;
        controller = m.controller;
        history = m.history;
        fences = m.fences;
        promoted = m.promoted;
        lengths = (
          m.lengths.0,
          length-set w.servers now.id now ∙ m.lengths.1,
          m.lengths.2,
        );
      }
    where
      each :
          (j : ℕ)
          → ServerFits w.rack j (slice_index_or (slice_set w.servers t now) j (new_server w.rack j))
          (held j) (guards j)
      each =
          table_changed w.servers t now (new_server w.rack)
          (λ k x. ServerFits w.rack k x (held k) (guards k))
          (let l = m.lengths.1 in omega (arith, l, within)) fits
          (λ k other. rw (same k other, same' k other) (m.servers k))

  pub switch_changes :
      (a : ℕ) (now : Switch) (modes : ℕ → Mode) (epochs : ℕ → ℕ) (cores : ℕ → core.Core)
      (outcomes : ℕ → law.Outcome) (gathered : ℕ → Gathered) → a < w.rack.switches → now.id ≡ a
      → SwitchFits w.rack a w.packets now (modes a) (epochs a) (cores a) (outcomes a) (gathered a)
      → ((j : ℕ) → j ≢ a → modes j ≡ s.modes j) → ((j : ℕ) → j ≢ a → epochs j ≡ s.epochs j)
      → ((j : ℕ) → j ≢ a → cores j ≡ s.cores j) → ((j : ℕ) → j ≢ a → outcomes j ≡ s.outcomes j)
      → ((j : ℕ) → j ≢ a → gathered j ≡ s.gathered j)
      → Mirrors keys (with_switch w now)
      (record s {
        modes = modes;
        epochs = epochs;
        cores = cores;
        outcomes = outcomes;
        gathered = gathered;
      })
  switch_changes a now modes epochs cores outcomes gathered within at fits e1 e2 e3 e4 e5 =
      record {
        limits = m.limits;
        named = m.named;
        rack = m.rack;
        place = m.place;
        sent = m.sent;
        clients = m.clients;
        servers = m.servers;
        switches =
            subst
            (λ i.
            (j : ℕ)
            → SwitchFits w.rack j w.packets
            (slice_index_or (slice_set w.switches i now) j (new_switch w.rack [] j)) (modes j)
            (epochs j) (cores j) (outcomes j) (gathered j))
            (sym at)
            (table_changed w.switches a now (new_switch w.rack [])
            (λ k x.
            SwitchFits w.rack k w.packets x (modes k) (epochs k) (cores k) (outcomes k)
            (gathered k))
            (let l = m.lengths.2 in omega (arith, l, within)) fits
            (λ k other.
            rw (e1 k other, e2 k other, e3 k other, e4 k other, e5 k other) (m.switches k)));
        controller = m.controller;
        history = m.history;
        fences = m.fences;
        promoted = m.promoted;
        lengths = (
          m.lengths.0,
          m.lengths.1,
          length-set w.switches now.id now ∙ m.lengths.2,
        );
      }

  pub client_changes :
      (c : ℕ) (now : Client) (switches epochs issued : ℕ → ℕ) (pending : ℕ → Bool)
      (plans : ℕ → ℕ → Plan) (answers : ℕ → ℕ → Option Answer) (stamps : ℕ → ℕ → ℕ)
      (log : List Id) (operations : List Operation) → c < w.rack.clients → now.id ≡ c
      → ClientFits w.rack c now (switches c) (epochs c) (issued c) (pending c) (plans c (issued c))
      → ((j : ℕ) → j ≢ c → switches j ≡ s.client_switch j)
      → ((j : ℕ) → j ≢ c → epochs j ≡ s.client_epoch j)
      → ((j : ℕ) → j ≢ c → issued j ≡ s.issued j) → ((j : ℕ) → j ≢ c → pending j ≡ s.pending j)
      → ((j : ℕ) → j ≢ c → plans j ≡ s.plans j)
      → Paired (IsOperation issued plans answers stamps) operations log
      → Mirrors keys (record (with_client w now) { operations = operations })
      (record s {
        client_switch = switches;
        client_epoch = epochs;
        issued = issued;
        pending = pending;
        plans = plans;
        answers = answers;
        stamps = stamps;
        log = log;
      })
  client_changes c now switches epochs issued pending plans answers stamps log operations within at
      fits e1 e2 e3 e4 e5 history =
      record {
        limits = m.limits;
        named = m.named;
        rack = m.rack;
        place = m.place;
        sent = m.sent;
        clients =
            subst
            (λ i.
            (j : ℕ)
            → ClientFits w.rack j
            (slice_index_or (slice_set w.clients i now) j (new_client w.rack.format j 1))
            (switches j) (epochs j) (issued j) (pending j) (plans j (issued j)))
            (sym at)
            (table_changed w.clients c now (λ j. new_client w.rack.format j 1)
            (λ k x.
            ClientFits w.rack k x (switches k) (epochs k) (issued k) (pending k)
            (plans k (issued k)))
            (let l = m.lengths.0 in omega (arith, l, within)) fits
            (λ k other.
            rw (e1 k other, e2 k other, e3 k other, e4 k other, e5 k other) (m.clients k)));
        servers = m.servers;
        switches = m.switches;
        controller = m.controller;
        history = history;
        fences = m.fences;
        promoted = m.promoted;
        lengths = (
          length-set w.clients now.id now ∙ m.lengths.0,
          m.lengths.1,
          m.lengths.2,
        );
      }

  pub controller_changes :
      (now : Controller) (number : ℕ) (pending : Option law.What) (switch epoch : ℕ)
      (known : List ℕ)
      → ControllerFits w.rack now number pending switch epoch known
      → Mirrors keys (with_controller w now)
      (record s {
        number = number;
        command = pending;
        switch = switch;
        epoch = epoch;
        known = known;
      })
  controller_changes now number pending switch epoch known fits =
      record {
        limits = m.limits;
        named = m.named;
        rack = m.rack;
        place = m.place;
        sent = m.sent;
        clients = m.clients;
        servers = m.servers;
        switches = m.switches;
        controller = fits;
        history = m.history;
        fences = m.fences;
        promoted = m.promoted;
        lengths = m.lengths;
      }
