-- What an active switch does with requests, replies, reports and voids, in both machines.
use Rattle.std.proofs.Common.{◌≡◌, ◌<◌, ◌≤◌, ◌+◌, ◌==◌, ◌&&◌, ℕ, Bool, true, false, List, [], ◌∷◌}
use Rattle.std.proofs.Common.{◌++◌}
use Rattle.std.proofs.Common.{cond, length, Option, option_map, refl, sym, ap, ◌∙◌, subst, nat_lt}
use Rattle.std.proofs.Common.{arith, eqb-true}
use Rattle.std.proofs.lemmas.Bool.{cond_both, and_parts}
use Rattle.std.specs.Str.{bytes_eq}
use Rattle.peg_name.specs.Name.{IsKey}
use Rattle.peg_name.specs.declared.value.Content.{Content}
use Rattle.peg_name.specs.declared.Node.TheVariants as node
use Rattle.peg_event.specs.declared.answers.Stamp.{Stamp}
use Rattle.peg_event.specs.declared.answers.Stamp.TheVariants as stamp
use Rattle.peg_model.specs.Words.{last_number}
use Rattle.peg_model.specs.Packet as packet
use Rattle.peg_model.specs.Packet.{Packet}
use Rattle.peg_model.specs.Counts.{Counts, see, has_row, raised, least, taken_over, rows_after}
use Rattle.peg_name.specs.declared.Row.{Row}
use Rattle.peg_law.proofs.Lists.{all_append}
use Rattle.peg_model.specs.Rules.{Stamps, Directory, entry_of, row_of, server_of_read}
use Rattle.peg_model.specs.Rules.{server_of_write, read_request, stamped_request, stamp_over}
use Rattle.peg_model.specs.Switch as switch
use Rattle.peg_model.specs.Switch.{Switch, SwitchStep, core_of, counted, forwards_read}
use Rattle.peg_model.specs.Switch.{forwards_write, takes_void, on_reply, on_held}
use Rattle.peg_model.specs.World.{World, Operation, switch_of, with_switch, switch_stepped}
use Rattle.peg_model.specs.World.{changed_at, stamped_as}
use Rattle.peg_law.specs.Codes.{number_of, content_code, entry_code}
use Rattle.peg_law.specs.Mirrors.{Mirrors, Paired, CoreFits, ItemFits, IsOperation, IsListing}
use Rattle.peg_law.specs.Mirrors.{AreKeyed, HandsOver, rack_code}
use Rattle.peg_law.proofs.Histories.{history_stamped}
use Rattle.peg_law.proofs.Cores.{entry_is, found_all, read_same, write_same, read_below}
use Rattle.peg_law.proofs.Cores.{write_below}
use Rattle.peg_law.proofs.Stamps.{Stamped, IsNew, IsSame, IsStale, IsExhausted, stamped_is}
use Rattle.peg_law.proofs.Nodes.{at_one_off, at_one_here, posted, switch_changes}
use Rattle.peg_law.proofs.ClientSteps.{quiet}
use Rattle.peg_protocol.specs.Core as core
use Rattle.peg_protocol.specs.Core.{at_one, at_two}
use Rattle.peg_protocol.specs.Packet as law
use Rattle.peg_protocol.specs.Machine as machine
use Rattle.peg_protocol.specs.System as system
use Rattle.peg_protocol.specs.System.{System}

-- the keys that are counted are keys
raised_keyed : (key : List ℕ) (rows : List Row) → AreKeyed rows → AreKeyed (raised key rows)
raised_keyed key [] all = tt
raised_keyed key (row ∷ rows) all = (
  cond_both (bytes_eq row.key key)
      (record { key = row.key; count = row.count + 1; error = row.error }) row
      (λ (r : Row). IsKey r.key) (λ y. all.0) (λ n. all.0),
  raised_keyed key rows all.1,
)

taken_keyed : (key : List ℕ) (c : ℕ) (rows : List Row) → IsKey key → AreKeyed rows
    → AreKeyed (taken_over key c rows)
taken_keyed key c [] one all = tt
taken_keyed key c (row ∷ rows) one all =
    cond_both (row.count == c) (record { key = key; count = c + 1; error = c } ∷ rows)
    (row ∷ taken_over key c rows) AreKeyed (λ y. (one, all.1))
    (λ n. (all.0, taken_keyed key c rows one all.1))

see_keyed : (most : ℕ) (counts : Counts) (key : List ℕ) → IsKey key → AreKeyed counts.rows
    → AreKeyed (see most counts key).rows
see_keyed most counts key one all =
    cond_both (counts.total == last_number) counts
    (record { total = counts.total + 1; rows = rows_after most key counts.rows })
    (λ (c : Counts). AreKeyed c.rows) (λ y. all)
    (λ n.
    cond_both (has_row key counts.rows) (raised key counts.rows)
    (cond (nat_lt (length counts.rows) most)
    (counts.rows ++ record { key = key; count = 1; error = 0 } ∷ [])
    (taken_over key (least counts.rows) counts.rows))
    AreKeyed (λ y. raised_keyed key counts.rows all)
    (λ m.
    cond_both (nat_lt (length counts.rows) most)
    (counts.rows ++ record { key = key; count = 1; error = 0 } ∷ [])
    (taken_over key (least counts.rows) counts.rows) AreKeyed
    (λ y. all_append (λ (r : Row). IsKey r.key) counts.rows
    (record { key = key; count = 1; error = 0 } ∷ []) all (one, tt))
    (λ l. taken_keyed key (least counts.rows) counts.rows one all)))

-- the history changes alike in both
pub history_changes :
    (keys : List (List ℕ)) (w : World) (s : System) (stamps : ℕ → ℕ → ℕ) (os : List Operation)
    → Mirrors keys w s → Paired (IsOperation s.issued s.plans s.answers stamps) os s.log
    → Mirrors keys (record w { operations = os }) (record s { stamps = stamps })
history_changes keys w s stamps os m h =
    record {
      limits = m.limits;
      named = m.named;
      rack = m.rack;
      place = m.place;
      sent = m.sent;
      clients = m.clients;
      servers = m.servers;
      switches = m.switches;
      controller = m.controller;
      history = h;
      fences = m.fences;
      promoted = m.promoted;
      lengths = m.lengths;
    }

module _ (keys : List (List ℕ)) (w : World) (s : System) (m : Mirrors keys w s) (a : ℕ)
    (within : a < w.rack.switches) where
  abbrev sw : Switch
  sw = switch_of w a

  abbrev mine : core.Core
  mine = s.cores a

  -- the switch has other stamps, entries and counts
  pub core_changes :
      (counts : Counts) (stamps : Stamps) (entries : Directory) (c : core.Core)
      → CoreFits w.rack stamps entries sw.last c → AreKeyed counts.rows
      → sw.mode ≡ switch.Active
      → Mirrors keys
      (with_switch w (record sw { counts = counts; stamps = stamps; entries = entries }))
      (system.with_core s a c)
  core_changes counts stamps entries c fits keyed active =
      let f = m.switches a in
      switch_changes keys w s m a
      (record sw { counts = counts; stamps = stamps; entries = entries }) s.modes s.epochs
      (at_one s.cores a c) s.outcomes s.gathered within f.id_is
      (record {
        rack_is = f.rack_is;
        id_is = f.id_is;
        mode_is = f.mode_is;
        target = f.target;
        epoch_is = f.epoch_is;
        core_is = subst (CoreFits w.rack stamps entries sw.last) (sym (at_one_here s.cores a c))
            fits;
        kept_is = f.kept_is;
        gathered_is = f.gathered_is;
        counts = keyed;
        handed =
            subst
            (λ md.
            HandsOver w.rack md (record { stamps = stamps; last = sw.last; entries = entries }))
            (sym active) tt;
      })
      (λ j other. refl) (λ j other. refl) (at_one_off s.cores a c) (λ j other. refl)
      (λ j other. refl)

  -- only what isn't told changes
  pub unchanged :
      (counts : Counts) → AreKeyed counts.rows
      → Mirrors keys (with_switch w (record sw { counts = counts })) s
  unchanged counts keyed =
      let f = m.switches a in
      switch_changes keys w s m a (record sw { counts = counts }) s.modes s.epochs s.cores
      s.outcomes s.gathered within f.id_is
      (record {
        rack_is = f.rack_is;
        id_is = f.id_is;
        mode_is = f.mode_is;
        target = f.target;
        epoch_is = f.epoch_is;
        core_is = f.core_is;
        kept_is = f.kept_is;
        gathered_is = f.gathered_is;
        counts = keyed;
        handed = f.handed;
      })
      (λ j other. refl) (λ j other. refl) (λ j other. refl) (λ j other. refl) (λ j other. refl)

  pub switch_idle : Mirrors keys (record (with_switch w sw) { packets = w.packets ++ [] }) s
  switch_idle = quiet keys (with_switch w sw) s (unchanged sw.counts (m.switches a).counts)

  pub entry_here :
      (key : List ℕ)
      → core.entry_of (number_of key) mine.entries
      ≡ option_map (λ l. entry_code (key, l)) (entry_of sw.entries key)
  entry_here key =
      ap (core.entry_of (number_of key)) (m.switches a).core_is.entries_is
      ∙ entry_is key sw.entries

  some_servers : 1 ≤ w.rack.servers
  some_servers = m.limits.servers.0

  -- ---- reads

  read_server_is :
      (key : List ℕ) (pick : ℕ)
      → core.read_server s.rack (number_of key) pick (core.entry_of (number_of key) mine.entries)
      ≡ server_of_read sw.rack (entry_of sw.entries key) key pick
  read_server_is key pick =
      ap
      (λ r.
      core.read_server r (number_of key) pick (core.entry_of (number_of key) mine.entries)) m.rack
      ∙ ap (core.read_server (rack_code w.rack keys) (number_of key) pick) (entry_here key)
      ∙ read_same w.rack keys key pick (entry_of sw.entries key)
      ∙ ap (λ r. server_of_read r (entry_of sw.entries key) key pick) (sym (m.switches a).rack_is)

  pub read_forwarded :
      (client seq : ℕ) (key : List ℕ) (pick : ℕ) → client < w.rack.clients → IsKey key
      → Mirrors keys
      (switch_stepped w a (packet.Read client seq key)
      (forwards_read (read_request (core_of sw) key pick) sw client seq key)).0
      (system.active_takes s a pick (law.Read client seq (number_of key)))
  read_forwarded client seq key pick c is_key =
      let f = m.switches a in
      let server = server_of_read sw.rack (entry_of sw.entries key) key pick in
      let i = f.id_is in
      let e = ap (λ r. server_of_read r (entry_of sw.entries key) key pick) f.rack_is in
      let below =
      read_below w.rack (entry_of sw.entries key) key pick some_servers
      (λ l g. (found_all (IsListing w.rack) key l sw.entries f.core_is.holders g).0) in
      posted keys (with_switch w (counted sw key)) s (unchanged (see sw.rack.hot sw.counts key)
      (see_keyed sw.rack.hot sw.counts key is_key (m.switches a).counts))
      ((node.Server server, packet.ToServerRead client seq server sw.id key) ∷ [])
      (law.item
      (law.Server
      (core.read_server s.rack (number_of key) pick (core.entry_of (number_of key) mine.entries)))
      (law.ToServerRead client seq a (number_of key)) ∷ []) (
        record {
          sent = (refl, omega (arith, e, below), c, omega (arith, i, within));
          to = ap law.Server (read_server_is key pick);
          packet = ap (λ j. law.ToServerRead client seq j (number_of key)) (sym f.id_is);
        },
        tt,
      )

  -- ---- writes

  write_server_is :
      (key : List ℕ) (version pick : ℕ)
      → core.write_server s.rack (number_of key) version pick
      (core.entry_of (number_of key) mine.entries)
      ≡ server_of_write sw.rack (entry_of sw.entries key) key version pick
  write_server_is key version pick =
      ap
      (λ r.
      core.write_server r (number_of key) version pick
      (core.entry_of (number_of key) mine.entries)) m.rack
      ∙ ap (core.write_server (rack_code w.rack keys) (number_of key) version pick)
      (entry_here key)
      ∙ write_same w.rack keys key version pick (entry_of sw.entries key)
      ∙ ap (λ r. server_of_write r (entry_of sw.entries key) key version pick)
      (sym (m.switches a).rack_is)

  write_fits :
      (client seq version : ℕ) (key : List ℕ) (content : Content) (pick : ℕ)
      → client < w.rack.clients
      → let server = server_of_write sw.rack (entry_of sw.entries key) key version pick in
      ItemFits w.rack
      (node.Server server, packet.ToServerWrite client seq version server sw.id key content)
      (law.item
      (law.Server
      (core.write_server s.rack (number_of key) version pick
      (core.entry_of (number_of key) mine.entries)))
      (law.ToServerWrite client seq version a (number_of key) (content_code content)))
  write_fits client seq version key content pick c =
      let f = m.switches a in
      let i = f.id_is in
      let e = ap (λ r. server_of_write r (entry_of sw.entries key) key version pick) f.rack_is in
      let below =
      write_below w.rack (entry_of sw.entries key) key version pick some_servers in
      record {
        sent = (refl, omega (arith, e, below), c, omega (arith, i, within));
        to = ap law.Server (write_server_is key version pick);
        packet =
            ap
            (λ j. law.ToServerWrite client seq version j (number_of key) (content_code content))
            (sym f.id_is);
      }

  two_same :
      (client seq version : ℕ) → s.stamps client seq ≡ version
      → at_two s.stamps client seq version ≡ s.stamps
  two_same client seq version e =
      λ i c n. each c n i
    where
      each : (c n : ℕ) → at_two s.stamps client seq version c n ≡ s.stamps c n
      each c n =
          by_test (c == client && n == seq) refl
        where
          by_test :
              (b : Bool) → (c == client && n == seq) ≡ b
              → cond b version (s.stamps c n) ≡ s.stamps c n
          by_test true t =
              let p = and_parts (c == client) (n == seq) t in
              sym e ∙ ap (λ x. s.stamps x seq) (sym (eqb-true c client p.0))
              ∙ ap (s.stamps c) (sym (eqb-true n seq p.1))
          by_test false t = refl

  module _ (client seq : ℕ) (key : List ℕ) (content : Content) (pick : ℕ)
      (c : client < w.rack.clients) (is_key : IsKey key)
      (active : sw.mode ≡ switch.Active) (x : Option ℕ)
      (write : (s.plans client seq).act ≡ machine.Writes x)
      (last_stamp :
      (version : ℕ) → (mine.rows client).seq ≡ seq → (mine.rows client).version ≡ version
      → 1 ≤ version → s.stamps client seq ≡ version) where
    abbrev asked : Packet
    asked = packet.Write client seq key content

    new_written :
        (stamps : Stamps)
        → CoreFits w.rack stamps sw.entries sw.last
        (record mine {
          next = mine.next + 1;
          rows = at_one mine.rows client (record { seq = seq; version = mine.next });
        })
        → Mirrors keys
        (switch_stepped w a asked
        (forwards_write (stamped_request (stamp.New mine.next, stamps) (core_of sw) key pick) sw
        client seq key content)).0
        (system.writes_by s a client seq (number_of key) (content_code content) pick
        (core.New mine.next))
    new_written stamps fits =
        let now : core.Core = record mine {
          next = mine.next + 1;
          rows = at_one mine.rows client (record { seq = seq; version = mine.next });
        } in
        let server = server_of_write sw.rack (entry_of sw.entries key) key mine.next pick in
        let counts = see sw.rack.hot sw.counts key in
        let sw' : Switch = record sw { counts = counts; stamps = stamps } in
        let changed = core_changes counts stamps sw.entries now fits
        (see_keyed sw.rack.hot sw.counts key is_key (m.switches a).counts) active in
        let os = changed_at client seq (stamped_as mine.next) w.operations in
        let told =
        history_changes keys (with_switch w sw') (system.with_core s a now)
        (at_two s.stamps client seq mine.next) os changed
        (history_stamped client seq mine.next x w.operations s.log s.issued s.plans s.answers
        s.stamps write m.history) in
        posted keys (record (with_switch w sw') { operations = os })
        (record s {
          cores = at_one s.cores a now;
          stamps = at_two s.stamps client seq mine.next;
        })
        told
        ((
          node.Server server,
          packet.ToServerWrite client seq mine.next server sw.id key content,
        ) ∷ [])
        (law.item
        (law.Server
        (core.write_server s.rack (number_of key) mine.next pick
        (core.entry_of (number_of key) mine.entries)))
        (law.ToServerWrite client seq mine.next a (number_of key) (content_code content)) ∷ [])
        (write_fits client seq mine.next key content pick c, tt)

    same_written :
        (version : ℕ) (stamps : Stamps) → s.stamps client seq ≡ version
        → Mirrors keys
        (switch_stepped w a asked
        (forwards_write (stamped_request (stamp.Same version, stamps) (core_of sw) key pick) sw
        client seq key content)).0
        (system.writes_by s a client seq (number_of key) (content_code content) pick
        (core.Same version))
    same_written version stamps e =
        let server = server_of_write sw.rack (entry_of sw.entries key) key version pick in
        let counts = see sw.rack.hot sw.counts key in
        let sw' : Switch = record sw { counts = counts } in
        let os = changed_at client seq (stamped_as version) w.operations in
        let told =
        history_changes keys (with_switch w sw') s s.stamps os
        (unchanged counts (see_keyed sw.rack.hot sw.counts key is_key (m.switches a).counts))
        (subst (λ st. Paired (IsOperation s.issued s.plans s.answers st) os s.log)
        (two_same client seq version e)
        (history_stamped client seq version x w.operations s.log s.issued s.plans s.answers
        s.stamps write m.history)) in
        posted keys (record (with_switch w sw') { operations = os }) s told
        ((
          node.Server server,
          packet.ToServerWrite client seq version server sw.id key content,
        ) ∷ [])
        (law.item
        (law.Server
        (core.write_server s.rack (number_of key) version pick
        (core.entry_of (number_of key) mine.entries)))
        (law.ToServerWrite client seq version a (number_of key) (content_code content)) ∷ [])
        (write_fits client seq version key content pick c, tt)

    by_stamp :
        (st : core.Stamp) (b : Stamp × Stamps)
        → Stamped w.rack sw.entries sw.last mine client seq st b
        → Mirrors keys
        (switch_stepped w a asked
        (forwards_write (stamped_request b (core_of sw) key pick) sw client seq key content)).0
        (system.writes_by s a client seq (number_of key) (content_code content) pick st)
    by_stamp st b (IsNew e1 e2 fits) =
        rw e1
        (subst
        (λ t.
        Mirrors keys
        (switch_stepped w a asked
        (forwards_write (stamped_request (t, b.1) (core_of sw) key pick) sw client seq key
        content)).0
        (system.writes_by s a client seq (number_of key) (content_code content) pick
        (core.New mine.next)))
        (sym e2) (new_written b.1 fits))
    by_stamp st b (IsSame version e1 e2 e3 e4 some) =
        rw e1
        (subst
        (λ t.
        Mirrors keys
        (switch_stepped w a asked
        (forwards_write (stamped_request (t, b.1) (core_of sw) key pick) sw client seq key
        content)).0
        (system.writes_by s a client seq (number_of key) (content_code content) pick
        (core.Same version)))
        (sym e2) (same_written version b.1 (last_stamp version e3 e4 some)))
    by_stamp st b (IsStale row e1 e2) =
        rw e1
        (subst
        (λ t.
        Mirrors keys
        (switch_stepped w a asked
        (forwards_write (stamped_request (t, b.1) (core_of sw) key pick) sw client seq key
        content)).0
        s)
        (sym e2) switch_idle)
    by_stamp st b (IsExhausted e1 e2) =
        rw e1
        (subst
        (λ t.
        Mirrors keys
        (switch_stepped w a asked
        (forwards_write (stamped_request (t, b.1) (core_of sw) key pick) sw client seq key
        content)).0
        s)
        (sym e2) switch_idle)

    pub write_forwarded :
        Mirrors keys
        (switch_stepped w a asked
        (forwards_write
        (stamped_request (stamp_over (row_of sw.stamps client) sw.stamps client seq) (core_of sw)
        key pick)
        sw client seq key content)).0
        (system.active_takes s a pick
        (law.Write client seq (number_of key) (content_code content)))
    write_forwarded =
        by_stamp (core.stamp mine client seq)
        (stamp_over (row_of sw.stamps client) sw.stamps client seq)
        (stamped_is w.rack sw.stamps sw.entries sw.last mine (m.switches a).core_is client c seq)
