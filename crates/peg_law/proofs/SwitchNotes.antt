-- What an active switch notes of replies, reports and voids, in both machines.
use Rattle.std.proofs.Common.{◌≡◌, ◌<◌, ◌==◌, ◌&&◌, ℕ, Bool, true, false, List, [], ◌∷◌}
use Rattle.std.proofs.Common.{cond, length, refl, sym, ap, ◌∙◌, subst}
use Rattle.std.proofs.Common.{arith}
use Rattle.std.proofs.lemmas.List.{length-set, set-get_or}
use Rattle.std.specs.Prelude.{slice_set, slice_index_or}
use Rattle.peg_name.specs.Name.{Rack, home_of}
use Rattle.peg_name.specs.declared.value.Content.{Content}
use Rattle.peg_name.specs.declared.Node.TheVariants as node
use Rattle.peg_model.specs.Packet as packet
use Rattle.peg_model.specs.Packet.{Packet}
use Rattle.peg_model.specs.Rules as rules
use Rattle.peg_model.specs.Rules.{Stamps, Directory, row_of, void_over, note_reply, on_void}
use Rattle.peg_model.specs.Switch as switch
use Rattle.peg_model.specs.Switch.{Switch, SwitchStep, core_of, takes_void, on_reply, on_held}
use Rattle.peg_model.specs.World.{World, switch_of, with_switch, switch_stepped}
use Rattle.peg_law.specs.Codes.{number_of, content_code}
use Rattle.peg_law.specs.Mirrors.{Mirrors, CoreFits, row_told}
use Rattle.peg_law.proofs.Stamps.{row_is}
use Rattle.peg_law.proofs.Reports.{noted_is}
use Rattle.peg_law.proofs.Nodes.{at_one_off, at_one_here, posted, table_changed}
use Rattle.peg_law.proofs.ClientSteps.{quiet}
use Rattle.peg_law.proofs.SwitchSteps.{core_changes}
use Rattle.peg_protocol.specs.Core as core
use Rattle.peg_protocol.specs.Core.{at_one, voided_row}
use Rattle.peg_protocol.specs.Packet as law
use Rattle.peg_protocol.specs.System as system
use Rattle.peg_protocol.specs.System.{System}

module _ (keys : List (List ℕ)) (w : World) (s : System) (m : Mirrors keys w s) (a : ℕ)
    (within : a < w.rack.switches) (active : (switch_of w a).mode ≡ switch.Active) where
  abbrev sw : Switch
  sw = switch_of w a

  abbrev mine : core.Core
  mine = s.cores a

  abbrev noted_entries : ℕ → List ℕ → ℕ → Directory
  noted_entries server key version =
      (note_reply sw.entries key (home_of sw.rack.servers key) server version).1

  noted_core_is :
      (server version : ℕ) (key : List ℕ) → server < w.rack.servers
      → CoreFits w.rack sw.stamps (noted_entries server key version) sw.last
      (system.noted_core s a server version (number_of key))
  noted_core_is server version key below =
      let f = m.switches a in
      subst
      (λ (r : Rack).
      CoreFits w.rack sw.stamps
      (note_reply sw.entries key (home_of r.servers key) server version).1 sw.last
      (system.noted_core s a server version (number_of key)))
      (sym f.rack_is)
      (subst
      (λ r.
      CoreFits w.rack sw.stamps
      (note_reply sw.entries key (home_of w.rack.servers key) server version).1 sw.last
      (core.note r server version (number_of key)
      (core.entry_of (number_of key) mine.entries) mine))
      (sym m.rack)
      (noted_is w.rack keys sw.stamps sw.entries sw.last mine f.core_is server version key below))

  notes :
      (server version : ℕ) (key : List ℕ) → server < w.rack.servers
      → Mirrors keys
      (with_switch w (record sw { entries = noted_entries server key version }))
      (system.with_core s a (system.noted_core s a server version (number_of key)))
  notes server version key below =
      core_changes keys w s m a within sw.counts sw.stamps (noted_entries server key version)
      (system.noted_core s a server version (number_of key))
      (noted_core_is server version key below)
      (m.switches a).counts active

  pub read_reply_noted :
      (client seq version server switch : ℕ) (key : List ℕ) (content : Content) (pick : ℕ)
      → client < w.rack.clients → server < w.rack.servers
      → let reply = packet.ReadReply client seq version server switch key content in
      Mirrors keys (switch_stepped w a reply (on_reply sw client seq version server key reply)).0
      (system.active_takes s a pick
      (law.ReadReply client seq version server switch (number_of key) (content_code content)))
  read_reply_noted client seq version server switch key content pick c below =
      posted keys (with_switch w (record sw { entries = noted_entries server key version }))
      (system.with_core s a (system.noted_core s a server version (number_of key)))
      (notes server version key below)
      ((node.Client client, packet.ReadReply client seq version server switch key content) ∷ [])
      (law.item (law.Client client)
      (law.ReadReply client seq version server switch (number_of key) (content_code content)) ∷ [])
      (record { sent = c; to = refl; packet = refl }, tt)

  pub write_reply_noted :
      (client seq version server switch : ℕ) (key : List ℕ) (pick : ℕ)
      → client < w.rack.clients → server < w.rack.servers
      → let reply = packet.WriteReply client seq version server switch key in
      Mirrors keys (switch_stepped w a reply (on_reply sw client seq version server key reply)).0
      (system.active_takes s a pick
      (law.WriteReply client seq version server switch (number_of key)))
  write_reply_noted client seq version server switch key pick c below =
      posted keys (with_switch w (record sw { entries = noted_entries server key version }))
      (system.with_core s a (system.noted_core s a server version (number_of key)))
      (notes server version key below)
      ((node.Client client, packet.WriteReply client seq version server switch key) ∷ [])
      (law.item (law.Client client)
      (law.WriteReply client seq version server switch (number_of key)) ∷ [])
      (record { sent = c; to = refl; packet = refl }, tt)

  pub held_noted :
      (server version : ℕ) (key : List ℕ) (pick : ℕ) → server < w.rack.servers
      → Mirrors keys
      (switch_stepped w a (packet.Held server version key) (on_held sw server version key)).0
      (system.active_takes s a pick (law.Held server version (number_of key)))
  held_noted server version key pick below =
      quiet keys (with_switch w (record sw { entries = noted_entries server key version }))
      (system.with_core s a (system.noted_core s a server version (number_of key)))
      (notes server version key below)

  -- ---- a void

  opened :
      (client seq version : ℕ) → client < w.rack.clients → (stamps : Stamps)
      → (length stamps.rows ≡ w.rack.clients)
      → ((j : ℕ)
      → row_told (at_one mine.rows client (voided_row (mine.rows client) seq version) j)
      ≡ row_of stamps j)
      → stamps.next ≡ sw.stamps.next
      → CoreFits w.rack stamps sw.entries sw.last (core.open_row mine client seq version)
  opened client seq version c stamps count rows next =
      let f = (m.switches a).core_is in
      record {
        next_is = f.next_is ∙ sym next;
        count = count;
        rows = rows;
        entries_is = f.entries_is;
        most = let e = next in let x = f.most in omega (arith, e, x);
        holders = f.holders;
        distinct = f.distinct;
        last_is = f.last_is;
      }

  pub void_taken :
      (client seq version server switch : ℕ) (key : List ℕ) (pick : ℕ)
      → client < w.rack.clients
      → Mirrors keys
      (switch_stepped w a (packet.Void client seq version server switch key)
      (takes_void (on_void (core_of sw) client seq version) sw client seq version)).0
      (system.active_takes s a pick
      (law.Void client seq version server switch (number_of key)))
  void_taken client seq version server switch key pick c =
      by_test (row.0 == seq && row.1 == version) refl
    where
      row : ℕ × ℕ
      row = row_of sw.stamps client

      voided_is :
          (b : Bool) → (row.0 == seq && row.1 == version) ≡ b
          → row_told (voided_row (mine.rows client) seq version) ≡ cond b (seq, 0) row
      voided_is b e =
          let r = row_is w.rack sw.stamps sw.entries sw.last mine (m.switches a).core_is client c in
          rw (r.0, r.1, e) (out b)
        where
          out : (b : Bool)
              → row_told (cond b (record { seq = seq; version = 0 }) (mine.rows client))
              ≡ cond b (seq, 0) row
          out true = refl
          out false = (m.switches a).core_is.rows client

      rows_set :
          (b : Bool) → (row.0 == seq && row.1 == version) ≡ b → (j : ℕ)
          → row_told (at_one mine.rows client (voided_row (mine.rows client) seq version) j)
          ≡ slice_index_or (slice_set sw.stamps.rows client (cond b (seq, 0) row)) j (0, 0)
      rows_set b e =
          let now = voided_row (mine.rows client) seq version in
          table_changed sw.stamps.rows client (cond b (seq, 0) row) (λ j. (0, 0))
          (λ j x. row_told (at_one mine.rows client now j) ≡ x)
          (let l = (m.switches a).core_is.count in omega (arith, l, c))
          (ap row_told (at_one_here mine.rows client now) ∙ voided_is b e)
          (λ j other.
          ap row_told (at_one_off mine.rows client now j other) ∙ (m.switches a).core_is.rows j)

      rows_same : (row.0 == seq && row.1 == version) ≡ false → (j : ℕ)
          → row_told (at_one mine.rows client (voided_row (mine.rows client) seq version) j)
          ≡ row_of sw.stamps j
      rows_same e j =
          rows_set false e j
          ∙ ap (λ l. slice_index_or l j (0, 0)) (set-get_or sw.stamps.rows client (0, 0))

      by_test :
          (b : Bool) → (row.0 == seq && row.1 == version) ≡ b
          → Mirrors keys
          (switch_stepped w a (packet.Void client seq version server switch key)
          (takes_void (
            (cond {A = Bool × Stamps} b (true, rules.with_row sw.stamps client seq 0)
                (false, sw.stamps)).0,
            record (core_of sw) {
              stamps =
                  (cond {A = Bool × Stamps} b (true, rules.with_row sw.stamps client seq 0)
                  (false, sw.stamps)).1;
            },
          )
          sw client seq version)).0
          (system.with_core s a (core.open_row mine client seq version))
      by_test true e =
          let stamps = rules.with_row sw.stamps client seq 0 in
          quiet keys (with_switch w (record sw { stamps = stamps }))
          (system.with_core s a (core.open_row mine client seq version))
          (core_changes keys w s m a within sw.counts stamps sw.entries
          (core.open_row mine client seq version)
          (opened client seq version c stamps
          (length-set sw.stamps.rows client (seq, 0) ∙ (m.switches a).core_is.count)
          (rows_set true e) refl) (m.switches a).counts active)
      by_test false e =
          quiet keys (with_switch w sw)
          (system.with_core s a (core.open_row mine client seq version))
          (core_changes keys w s m a within sw.counts sw.stamps sw.entries
          (core.open_row mine client seq version)
          (opened client seq version c sw.stamps (m.switches a).core_is.count (rows_same e) refl)
          (m.switches a).counts active)
