-- At the start of a rack both machines tell the same.
use Rattle.std.proofs.Common.{inl, ◌≡◌, ◌<◌, ◌≤◌, ◌-◌, ℕ, zero, suc, Bool, true, false, List, []}
use Rattle.std.proofs.Common.{◌∷◌}
use Rattle.std.proofs.Common.{length, map, None, refl, sym, ap, ◌∙◌, subst}
use Rattle.std.proofs.Common.{arith, ne_eqb, replicate, nat_lt, ltb-true, ltb-false}
use Rattle.std.proofs.lemmas.List.{length-map, length-replicate}
use Rattle.std.proofs.lemmas.Map.Made.{IsDistinct-from_AllPairs}
use Rattle.std.proofs.lemmas.Option.{slice_get-get_or, slice_get_within}
use Rattle.std.proofs.lemmas.Slice.Eq.{bytes_eq-Decides}
use Rattle.std.specs.Prelude.{slice_index_or}
use Rattle.std.specs.List.{AllByRecursion, IsDistinct}
use Rattle.std.specs.Map.{keys_of}
use Rattle.std.specs.Str.{bytes_eq}
use Rattle.peg_name.specs.Name.{Rack, home_of}
use Rattle.peg_model.specs.Words.{below, last_number}
use Rattle.peg_model.specs.Rules.{new_listing}
use Rattle.peg_model.specs.Client.{new_client}
use Rattle.peg_model.specs.Server.{new_server}
use Rattle.peg_model.specs.Switch.{new_switch}
use Rattle.peg_model.specs.Schedule.{IsStart, IsKeyOfBytes}
use Rattle.peg_model.specs.World.{start}
use Rattle.peg_law.specs.Codes.{number_of, entries_code}
use Rattle.peg_law.specs.Mirrors.{Mirrors, ClientFits, ServerFits, SwitchFits, IsListing, rack_code}
use Rattle.peg_law.proofs.Lists.{IsAt, In, Past, at_cases, map_at, below_at, length_below}
use Rattle.peg_law.proofs.Cores.{home_same, home_below}
use Rattle.peg_protocol.specs.Core as core
use Rattle.peg_protocol.specs.Packet as law
use Rattle.peg_protocol.specs.Machine as machine
use Rattle.peg_protocol.specs.System as system

-- the nodes as they are made
pub made :
    {A : Type 0} (f d : ℕ → A) (n j : ℕ) (P : A → Type 0) → (j < n → P (f j))
    → (n ≤ j → P (d j)) → P (slice_index_or (map f (below n)) j (d j))
made f d n j P within past = by_place (at_cases (map f (below n)) j (d j))
  where
    count : length (map f (below n)) ≡ n
    count = length-map (below n) f ∙ length_below n

    by_place : IsAt (map f (below n)) j (d j) → P (slice_index_or (map f (below n)) j (d j))
    by_place (In e) =
        let x = map_at f (below n) j (slice_index_or (map f (below n)) j (d j)) e in
        let at : x.0 ≡ j = below_at n j x.0 x.1 in
        let less = slice_get_within (map f (below n)) j (slice_index_or (map f (below n)) j (d j)) e
        in
        subst P (sym (x.2 ∙ ap f at)) (within (omega (arith, less, count)))
    by_place (Past none e) = subst P (sym e) (past (by_size (nat_lt j n) refl))
      where
        by_size : (b : Bool) → nat_lt j n ≡ b → n ≤ j
        by_size true t =
            let less = ltb-true j n t in
            let some = slice_get-get_or (map f (below n)) j (d j) (omega (arith, less, count)) in
            absurd (cc)
        by_size false t = ltb-false j n t

abbrev no_row : ℕ × ℕ
no_row = (0, 0)

no_rows : (n j : ℕ) → slice_index_or (replicate n no_row) j no_row ≡ no_row
no_rows zero j = refl
no_rows (suc n) zero = refl
no_rows (suc n) (suc j) = no_rows n j

first_entries_are :
    (rack : Rack) (all keys : List (List ℕ))
    → core.first_entries (rack_code rack all) (map number_of keys)
    ≡ entries_code
    (map (λ key. (key, new_listing 0 (home_of rack.servers key) (rack.first - 1))) keys)
first_entries_are rack all [] = refl
first_entries_are rack all (k ∷ ks) =
    ap
    (λ h.
    record {
      key = number_of k;
      listing = 0;
      base = rack.first - 1;
      completed = rack.first - 1;
      holders = h ∷ [];
      mark = None;
    } ∷ core.first_entries (rack_code rack all) (map number_of ks))
    (home_same rack all k)
    ∙ ap
    (λ l.
    record {
      key = number_of k;
      listing = 0;
      base = rack.first - 1;
      completed = rack.first - 1;
      holders = home_of rack.servers k ∷ [];
      mark = None;
    } ∷ l)
    (first_entries_are rack all ks)

first_servers :
    (rack : Rack) (keys : List (List ℕ)) → 1 ≤ rack.servers → AllByRecursion IsKeyOfBytes keys
    → AllByRecursion (IsListing rack)
    (map (λ key. (key, new_listing 0 (home_of rack.servers key) (rack.first - 1))) keys)
first_servers rack [] some all = tt
first_servers rack (k ∷ ks) some all = (
  ((omega arith, (home_below rack k some, tt)), refl, all.0.0, omega arith),
  first_servers rack ks some all.1,
)

first_keys :
    (rack : Rack) (keys : List (List ℕ))
    → keys_of (map (λ key. (key, new_listing 0 (home_of rack.servers key) (rack.first - 1))) keys)
    ≡ keys
first_keys rack [] = refl
first_keys rack (k ∷ ks) = ap (λ l. k ∷ l) (first_keys rack ks)

none_distinct : IsDistinct bytes_eq []
unfolding IsDistinct
none_distinct = tt

module _ (rack : Rack) (keys : List (List ℕ)) (is : IsStart rack keys) where
  distinct_keys : IsDistinct bytes_eq keys
  distinct_keys = IsDistinct-from_AllPairs bytes_eq-Decides keys is.named.1

  first_most : rack.first ≤ last_number
  first_most = let l = is.limits.first.1 in omega (arith, l)

  first_switch :
      SwitchFits rack 0 [] (new_switch rack keys 0) system.Active 1
      (system.empty_core (rack_code rack keys)) law.NotListed
      (record { epoch = 0; has = λ j. false })
  first_switch =
      record {
        rack_is = refl;
        id_is = refl;
        mode_is = refl;
        target = tt;
        epoch_is = refl;
        core_is = record {
          next_is = refl;
          count = length-replicate rack.clients no_row;
          rows = λ c. sym (no_rows rack.clients c);
          entries_is = first_entries_are rack keys keys;
          most = first_most;
          holders = first_servers rack keys is.limits.servers.0 is.named.0;
          distinct = subst (IsDistinct bytes_eq) (sym (first_keys rack keys)) distinct_keys;
          last_is = refl;
        };
        kept_is = refl;
        gathered_is = record {
          epoch_is = refl;
          has = λ j. refl;
          was_sent = λ j bytes e. absurd (cc);
          missing = λ e. refl;
          some = inl refl;
        };
        counts = tt;
        handed = tt;
      }

  idle_switch :
      (id : ℕ) (listed : List (List ℕ))
      → SwitchFits rack (suc id) [] (new_switch rack listed (suc id)) system.Idle 0
      (system.first_core (rack_code rack keys) (suc id)) law.NotListed
      (record { epoch = 0; has = λ j. false })
  idle_switch id listed =
      rw (ne_eqb (suc id) 0 (λ e. omega (arith, e)))
      (record {
        rack_is = refl;
        id_is = refl;
        mode_is = refl;
        target = tt;
        epoch_is = refl;
        core_is = record {
          next_is = refl;
          count = length-replicate rack.clients no_row;
          rows = λ c. sym (no_rows rack.clients c);
          entries_is = refl;
          most = first_most;
          holders = tt;
          distinct = none_distinct;
          last_is = refl;
        };
        kept_is = tt;
        gathered_is = record {
          epoch_is = refl;
          has = λ j. refl;
          was_sent = λ j bytes e. absurd (cc);
          missing = λ e. refl;
          some = inl refl;
        };
        counts = tt;
        handed = tt;
      })

  switches_fit :
      (id : ℕ)
      → SwitchFits rack id []
      (slice_index_or (map (new_switch rack keys) (below rack.switches)) id (new_switch rack [] id))
      (system.first_mode id) (system.first_epoch id) (system.first_core (rack_code rack keys) id)
      law.NotListed (record { epoch = 0; has = λ j. false })
  switches_fit zero =
      made (new_switch rack keys) (new_switch rack []) rack.switches 0
      (λ x.
      SwitchFits rack 0 [] x system.Active 1 (system.empty_core (rack_code rack keys))
      law.NotListed (record { epoch = 0; has = λ j. false }))
      (λ less. first_switch)
      (λ most. let some = is.limits.switches.0 in absurd (omega (arith, most, some)))
  switches_fit (suc id) =
      made (new_switch rack keys) (new_switch rack []) rack.switches (suc id)
      (λ x.
      SwitchFits rack (suc id) [] x system.Idle 0
      (system.first_core (rack_code rack keys) (suc id)) law.NotListed
      (record { epoch = 0; has = λ j. false }))
      (λ less. idle_switch id keys) (λ most. idle_switch id [])

  pub start_mirrors : Mirrors keys (start rack keys) (system.start (rack_code rack keys))
  start_mirrors =
      record {
        limits = is.limits;
        named = is.named.2;
        rack = refl;
        place = refl;
        sent = tt;
        clients = λ id.
            made (λ id. new_client rack.format id 1) (λ id. new_client rack.format id 1)
            rack.clients id
            (λ x.
            ClientFits rack id x 0 1 0 false
            (record { key = 0; act = machine.Reads; issue = 0 }))
            (λ less. client_fits id) (λ most. client_fits id);
        servers = λ id.
            made (new_server rack) (new_server rack) rack.servers id
            (λ x.
            ServerFits rack id x (λ k. record { version = 0; content = None })
            (λ k. record { low = 0; floor = 0; old = 0 }))
            (λ less. server_fits id) (λ most. server_fits id);
        switches = switches_fit;
        controller = record {
          rack_is = refl;
          number_is = refl;
          pending_is = refl;
          in_rack = tt;
          some = λ x. absurd (cc);
          switch_is = refl;
          switch_in_rack = is.limits.switches.0;
          epoch_is = refl;
          known_is = refl;
          room = is.named.2;
          queue = tt;
          idle = λ e. refl;
          most = omega arith;
          report = tt;
        };
        history = tt;
        fences = refl;
        promoted = refl;
        lengths = (
          length-map (below rack.clients) (λ id. new_client rack.format id 1)
              ∙ length_below rack.clients,
          length-map (below rack.servers) (new_server rack) ∙ length_below rack.servers,
          length-map (below rack.switches) (new_switch rack keys) ∙ length_below rack.switches,
        );
      }
    where
      client_fits :
          (id : ℕ)
          → ClientFits rack id (new_client rack.format id 1) 0 1 0 false
          (record { key = 0; act = machine.Reads; issue = 0 })
      client_fits id =
          record {
            id_is = refl;
            next_is = refl;
            most = omega arith;
            switch_is = refl;
            in_rack = is.limits.switches.0;
            epoch_is = refl;
            pending_is = refl;
          }

      server_fits :
          (id : ℕ)
          → ServerFits rack id (new_server rack id) (λ k. record { version = 0; content = None })
          (λ k. record { low = 0; floor = 0; old = 0 })
      server_fits id =
          record {
            rack_is = refl;
            id_is = refl;
            keys = λ key. record { pair_is = refl; guard_is = refl };
          }
