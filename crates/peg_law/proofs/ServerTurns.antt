-- What a server does with each packet that it is sent, in both machines.
use Rattle.std.proofs.Common.{◌≡◌, ◌<◌, ◌==◌, ℕ, Bool, true, false, List, [], ◌∷◌, ◌++◌}
use Rattle.std.proofs.Common.{cond, map, refl, sym, ap, ◌∙◌, subst, nat_lt, nat_le}
use Rattle.std.proofs.Common.{arith}
use Rattle.std.proofs.lemmas.Bool.{cond-true, cond-false}
use Rattle.std.proofs.lemmas.Grind.{reverse_onto}
use Rattle.std.proofs.lemmas.List.{map-append}
use Rattle.std.specs.Prelude.{reverse}
use Rattle.std.specs.Str.{bytes_eq}
use Rattle.peg_name.specs.declared.value.Content.{Content}
use Rattle.peg_name.specs.declared.Node.TheVariants as node
use Rattle.peg_event.specs.declared.answers.Stored.{Stored}
use Rattle.peg_event.specs.declared.ServerDid.TheVariants as did
use Rattle.peg_event.specs.declared.answers.Apply.TheVariants as apply
use Rattle.peg_event.specs.declared.answers.WriteDid.TheVariants as write_did
use Rattle.peg_event.specs.declared.answers.FenceDid.TheVariants as fence_did
use Rattle.peg_model.specs.Words.{refuse}
use Rattle.peg_model.specs.Packet as packet
use Rattle.peg_model.specs.Packet.{Packet}
use Rattle.peg_model.specs.Server.{Server, ServerStep, held, with_stored, with_pair, with_fence}
use Rattle.peg_model.specs.Server.{applied, apply_over, write_over, fence_over, fenced}
use Rattle.peg_model.specs.Server.{serve_read, serve_write, serve_copy, serve_fence, serve_order}
use Rattle.peg_model.specs.World.{World, server_of, with_server, server_stepped, AppliedFence}
use Rattle.peg_model.specs.World.{origin_of}
use Rattle.peg_law.specs.Codes.{number_of, content_code, pair_code, guard_code}
use Rattle.peg_law.specs.Mirrors.{Mirrors, ServerFits, ItemFits, fence_code}
use Rattle.peg_law.proofs.Nodes.{at_two_off, posted, server_changes}
use Rattle.peg_law.proofs.ClientSteps.{quiet}
use Rattle.peg_law.proofs.Replies.{SameOrigins}
use Rattle.peg_law.proofs.ServerSteps.{two_at, updated, applied_fits}
use Rattle.peg_protocol.specs.Core.{at_two}
use Rattle.peg_protocol.specs.Packet as law
use Rattle.peg_protocol.specs.Machine as machine
use Rattle.peg_protocol.specs.Machine.{Pair, Guard, newer, raised_to, guarded}
use Rattle.peg_protocol.specs.System as system
use Rattle.peg_protocol.specs.System.{System, writes_at, fences_at, copies}

module _ (keys : List (List ℕ)) (w : World) (s : System) (m : Mirrors keys w s) (t : ℕ)
    (within : t < w.rack.servers) where
  abbrev sv : Server
  sv = server_of w t

  at_id : sv.id ≡ t
  at_id = (m.servers t).id_is

  idle : Mirrors keys (with_server w sv) s
  idle =
      server_changes keys w s m t sv s.held s.guards within at_id (m.servers t) (λ j other. refl)
      (λ j other. refl)

  pub server_idle : Mirrors keys (record (with_server w sv) { packets = w.packets ++ [] }) s
  server_idle = quiet keys (with_server w sv) s idle

  -- a version and a content come, and the greater stays
  pub comes :
      (key : List ℕ) (version : ℕ) (content : Content)
      → Mirrors keys (with_server w (record sv { store = applied sv.store key version content }))
      (record s {
        held =
            at_two s.held t (number_of key)
            (newer (s.held t (number_of key)) version (content_code content));
      })
  comes key version content =
      let now = newer (s.held t (number_of key)) version (content_code content) in
      server_changes keys w s m t (record sv { store = applied sv.store key version content })
      (at_two s.held t (number_of key) now) s.guards within at_id
      (applied_fits w.rack t sv (s.held t) (s.guards t) (m.servers t) key version content
      (at_two s.held t (number_of key) now t) (λ q. two_at s.held t key q now))
      (at_two_off s.held t (number_of key) now) (λ j other. refl)

  -- ---- replies

  read_reply_fits :
      (client seq switch : ℕ) (key : List ℕ) → client < w.rack.clients → switch < w.rack.switches
      → ItemFits w.rack (
        node.Switch switch,
        packet.ReadReply client seq (held sv.store key).version sv.id switch key
            (held sv.store key).content,
      )
      (law.item (law.Switch switch)
      (law.ReadReply client seq (s.held t (number_of key)).version t switch (number_of key)
      (s.held t (number_of key)).content))
  read_reply_fits client seq switch key c a =
      let i = at_id in
      record {
        sent = (a, c, omega (arith, i, within), a);
        to = refl;
        packet =
            ap
            (λ (p : Pair).
            law.ReadReply client seq p.version t switch (number_of key) p.content)
            ((m.servers t).keys key).pair_is
            ∙ ap
            (λ j.
            law.ReadReply client seq (held sv.store key).version j switch (number_of key)
            (content_code (held sv.store key).content))
            (sym at_id);
      }

  write_reply_fits :
      (client seq version switch : ℕ) (key : List ℕ) → client < w.rack.clients
      → switch < w.rack.switches
      → ItemFits w.rack (node.Switch switch, packet.WriteReply client seq version sv.id switch key)
      (law.item (law.Switch switch) (law.WriteReply client seq version t switch (number_of key)))
  write_reply_fits client seq version switch key c a =
      let i = at_id in
      record {
        sent = (a, c, omega (arith, i, within), a);
        to = refl;
        packet = ap (λ j. law.WriteReply client seq version j switch (number_of key)) (sym at_id);
      }

  void_fits :
      (client seq version switch : ℕ) (key : List ℕ) → client < w.rack.clients
      → switch < w.rack.switches
      → ItemFits w.rack (node.Switch switch, packet.Void client seq version sv.id switch key)
      (law.item (law.Switch switch) (law.Void client seq version t switch (number_of key)))
  void_fits client seq version switch key c a =
      let i = at_id in
      record {
        sent = (a, c, omega (arith, i, within), a);
        to = refl;
        packet = ap (λ j. law.Void client seq version j switch (number_of key)) (sym at_id);
      }

  held_fits :
      (version switch : ℕ) (key : List ℕ) → switch < w.rack.switches
      → ItemFits w.rack (node.Switch switch, packet.Held sv.id version key)
      (law.item (law.Switch switch) (law.Held t version (number_of key)))
  held_fits version switch key a =
      let i = at_id in
      record {
        sent = (a, omega (arith, i, within));
        to = refl;
        packet = ap (λ j. law.Held j version (number_of key)) (sym at_id);
      }

  -- ---- the turns

  pub reads :
      (client seq switch : ℕ) (key : List ℕ) → client < w.rack.clients → switch < w.rack.switches
      → Mirrors keys
      (server_stepped w t (serve_read (held sv.store key) sv client seq switch key)).0
      (system.post s
      (law.item (law.Switch switch)
      (law.ReadReply client seq (s.held t (number_of key)).version t switch (number_of key)
      (s.held t (number_of key)).content)))
  reads client seq switch key c a =
      posted keys (with_server w sv) s idle
      ((
        node.Switch switch,
        packet.ReadReply client seq (held sv.store key).version sv.id switch key
            (held sv.store key).content,
      ) ∷ [])
      (law.item (law.Switch switch)
      (law.ReadReply client seq (s.held t (number_of key)).version t switch (number_of key)
      (s.held t (number_of key)).content) ∷ [])
      (read_reply_fits client seq switch key c a, tt)

  pub writes :
      (client seq version switch : ℕ) (key : List ℕ) (content : Content)
      → client < w.rack.clients → switch < w.rack.switches
      → Mirrors keys
      (server_stepped w t
      (serve_write (write_over (held sv.store key) version) sv client seq version switch key
      content)).0
      (writes_at s t client seq version switch (number_of key) (content_code content)
      (machine.write_did (s.held t (number_of key)).version (s.guards t (number_of key)) version))
  writes client seq version switch key content c a =
      subst
      (λ d.
      Mirrors keys
      (server_stepped w t
      (serve_write (write_over was version) sv client seq version switch key content)).0
      (writes_at s t client seq version switch (number_of key) (content_code content) d))
      (sym same)
      (by_tests (nat_lt was.version version) (nat_le version was.old) (nat_le version was.low)
      (nat_le version was.floor))
    where
      was : Stored
      was = held sv.store key

      same :
          machine.write_did (s.held t (number_of key)).version (s.guards t (number_of key)) version
          ≡ machine.write_did was.version (guard_code was) version
      same =
          ap (λ (p : Pair). machine.write_did p.version (s.guards t (number_of key)) version)
          ((m.servers t).keys key).pair_is
          ∙ ap (λ g. machine.write_did was.version g version) ((m.servers t).keys key).guard_is

      replied :
          Mirrors keys
          (server_stepped w t
          (serve_write (write_did.Kept was.version) sv client seq version switch key content)).0
          (system.post s
          (law.item (law.Switch switch)
          (law.WriteReply client seq version t switch (number_of key))))
      replied =
          posted keys (with_server w sv) s idle
          ((node.Switch switch, packet.WriteReply client seq version sv.id switch key) ∷ [])
          (law.item (law.Switch switch)
          (law.WriteReply client seq version t switch (number_of key)) ∷ [])
          (write_reply_fits client seq version switch key c a, tt)

      by_tests :
          (b1 b2 b3 b4 : Bool)
          → Mirrors keys
          (server_stepped w t
          (serve_write
          (cond b1 write_did.Applied
          (cond b2 (write_did.Barred was.old)
          (cond b3 (write_did.Kept was.version)
          (cond b4 (write_did.Void was.floor) (write_did.Kept was.version)))))
          sv client seq version switch key content)).0
          (writes_at s t client seq version switch (number_of key) (content_code content)
          (cond b1 machine.Takes
          (cond b2 machine.Bars (cond b3 machine.Keeps (cond b4 machine.Voids machine.Keeps)))))
      by_tests true b2 b3 b4 =
          posted keys (with_server w (record sv { store = applied sv.store key version content }))
          (record s {
            held =
                at_two s.held t (number_of key)
                (newer (s.held t (number_of key)) version (content_code content));
          })
          (comes key version content)
          ((node.Switch switch, packet.WriteReply client seq version sv.id switch key) ∷ [])
          (law.item (law.Switch switch)
          (law.WriteReply client seq version t switch (number_of key)) ∷ [])
          (write_reply_fits client seq version switch key c a, tt)
      by_tests false true b3 b4 = server_idle
      by_tests false false true b4 = replied
      by_tests false false false true =
          posted keys (with_server w sv) s idle
          ((node.Switch switch, packet.Void client seq version sv.id switch key) ∷ [])
          (law.item (law.Switch switch) (law.Void client seq version t switch (number_of key)) ∷ [])
          (void_fits client seq version switch key c a, tt)
      by_tests false false false false = replied

  pub copies_in :
      (version switch : ℕ) (key : List ℕ) (content : Content) → switch < w.rack.switches
      → Mirrors keys
      (server_stepped w t
      (serve_copy (apply_over (held sv.store key) version) sv version switch key content)).0
      (system.post
      (record s {
        held =
            at_two s.held t (number_of key)
            (newer (s.held t (number_of key)) version (content_code content));
      })
      (law.item (law.Switch switch) (law.Held t version (number_of key))))
  copies_in version switch key content a =
      by_test (nat_lt was.version version) refl
    where
      was : Stored
      was = held sv.store key

      now : System
      now =
          record s {
            held =
                at_two s.held t (number_of key)
                (newer (s.held t (number_of key)) version (content_code content));
          }

      by_test :
          (b : Bool) → nat_lt was.version version ≡ b
          → Mirrors keys
          (server_stepped w t
          (serve_copy (cond b apply.Applied (apply.Kept was.version)) sv version switch key
          content)).0
          (system.post now (law.item (law.Switch switch) (law.Held t version (number_of key))))
      by_test true e =
          posted keys (with_server w (record sv { store = applied sv.store key version content }))
          now
          (comes key version content)
          ((node.Switch switch, packet.Held sv.id version key) ∷ [])
          (law.item (law.Switch switch) (law.Held t version (number_of key)) ∷ [])
          (held_fits version switch key a, tt)
      by_test false e =
          let stays : applied sv.store key version content ≡ sv.store =
          cond-false (nat_lt was.version version)
          (with_stored sv.store key (with_pair was version content)) sv.store e in
          posted keys (with_server w sv) now
          (subst (λ st. Mirrors keys (with_server w (record sv { store = st })) now) stays
          (comes key version content))
          ((node.Switch switch, packet.Held sv.id version key) ∷ [])
          (law.item (law.Switch switch) (law.Held t version (number_of key)) ∷ [])
          (held_fits version switch key a, tt)

  data_fits :
      (version switch target : ℕ) (key : List ℕ) (content : Content) → switch < w.rack.switches
      → target < w.rack.servers
      → ItemFits w.rack
      (node.Server target, packet.CopyData switch target version key content)
      (law.item (law.Server target)
      (law.CopyData version switch (number_of key) (content_code content)))
  data_fits version switch target key content a b =
      record { sent = (refl, b, a); to = refl; packet = refl }

  pub copies_out :
      (switch target : ℕ) (key : List ℕ) → switch < w.rack.switches → target < w.rack.servers
      → Mirrors keys
      (server_stepped w t (serve_order (held sv.store key) sv switch target key)).0
      (copies s switch target (number_of key) (s.held t (number_of key)))
  copies_out switch target key a b =
      subst
      (λ p.
      Mirrors keys (server_stepped w t (serve_order was sv switch target key)).0
      (copies s switch target (number_of key) p))
      (sym ((m.servers t).keys key).pair_is) (by_test (was.version == 0))
    where
      was : Stored
      was = held sv.store key

      by_test :
          (b : Bool)
          → let step : ServerStep =
          cond b (refuse sv (did.HasNone key))
          (record {
            state = sv;
            sent =
                (node.Server target, packet.CopyData switch target was.version key was.content)
                ∷ [];
            did = did.Copied key was.version target;
          }) in
          Mirrors keys (server_stepped w t step).0
          (cond b s
          (system.post s
          (law.item (law.Server target)
          (law.CopyData was.version switch (number_of key) (content_code was.content)))))
      by_test true = server_idle
      by_test false =
          posted keys (with_server w sv) s idle
          ((node.Server target, packet.CopyData switch target was.version key was.content) ∷ [])
          (law.item (law.Server target)
          (law.CopyData was.version switch (number_of key) (content_code was.content)) ∷ [])
          (data_fits was.version switch target key was.content a b, tt)

  -- ---- a fence

  module _ (origins : SameOrigins w s) (key : List ℕ) (version : ℕ) where
    abbrev before : Stored
    before = held sv.store key

    abbrev fence_here : AppliedFence
    fence_here =
        record {
          key = key;
          version = version;
          held = before.version;
          origin = origin_of w.fences key before.version;
        }

    fence_is :
        fence_code fence_here
        ≡ machine.applied_fence s.fences (number_of key) version (s.held t (number_of key)).version
    fence_is =
        ap
        (λ o.
        record { key = number_of key; version = version; before = before.version; origin = o })
        (sym (origins key before.version))
        ∙ ap (λ (p : Pair). machine.applied_fence s.fences (number_of key) version p.version)
        (sym ((m.servers t).keys key).pair_is)

    fences_are :
        map fence_code (w.fences ++ fence_here ∷ [])
        ≡ reverse
        (machine.applied_fence s.fences (number_of key) version (s.held t (number_of key)).version
        ∷ s.fences)
    fences_are =
        map-append fence_code w.fences (fence_here ∷ [])
        ∙ ap (λ fs. fs ++ fence_code fence_here ∷ []) m.fences
        ∙ ap (λ f. reverse s.fences ++ f ∷ []) fence_is
        ∙ sym
        (reverse_onto s.fences
        (machine.applied_fence s.fences (number_of key) version (s.held t (number_of key)).version)
        [])

    fence_comes :
        (nat_lt before.version version ≡ true)
        → Mirrors keys
        (record (with_server w (record sv { store = fenced sv.store key version })) {
          fences = w.fences ++ fence_here ∷ [];
        })
        (record s {
          held =
              at_two s.held t (number_of key) (raised_to (s.held t (number_of key)) version);
          guards =
              at_two s.guards t (number_of key)
              (guarded (s.guards t (number_of key)) (s.held t (number_of key)).version version);
          fences =
              machine.applied_fence s.fences (number_of key) version
              (s.held t (number_of key)).version
              ∷ s.fences;
        })
    fence_comes less =
        let p = ((m.servers t).keys key).pair_is in
        let g = ((m.servers t).keys key).guard_is in
        let now = raised_to (s.held t (number_of key)) version in
        let guard =
        guarded (s.guards t (number_of key)) (s.held t (number_of key)).version version in
        let is_now : now ≡ pair_code (with_fence before version) =
        ap (λ x. raised_to x version) p in
        let is_guard : guard ≡ guard_code (with_fence before version) =
        ap (λ (x : Pair). guarded (s.guards t (number_of key)) x.version version) p
        ∙ ap (λ x. guarded x before.version version) g in
        let fits =
        updated w.rack t sv (s.held t) (s.guards t) (m.servers t) key (with_fence before version)
        (at_two s.held t (number_of key) now t) (at_two s.guards t (number_of key) guard t)
        (λ q.
        two_at s.held t key q now
        ∙ ap (λ x. cond (bytes_eq q key) x (s.held t (number_of q))) is_now)
        (λ q.
        two_at s.guards t key q guard
        ∙ ap (λ x. cond (bytes_eq q key) x (s.guards t (number_of q))) is_guard) in
        let store : fenced sv.store key version
        ≡ with_stored sv.store key (with_fence before version) =
        cond-true (nat_lt before.version version)
        (with_stored sv.store key (with_fence before version)) sv.store less in
        let h =
        server_changes keys w s m t (record sv { store = fenced sv.store key version })
        (at_two s.held t (number_of key) now) (at_two s.guards t (number_of key) guard) within
        at_id
        (subst
        (λ st.
        ServerFits w.rack t (record sv { store = st }) (at_two s.held t (number_of key) now t)
        (at_two s.guards t (number_of key) guard t))
        (sym store) fits)
        (at_two_off s.held t (number_of key) now) (at_two_off s.guards t (number_of key) guard) in
        record {
          limits = h.limits;
          named = h.named;
          rack = h.rack;
          place = h.place;
          sent = h.sent;
          clients = h.clients;
          servers = h.servers;
          switches = h.switches;
          controller = h.controller;
          history = h.history;
          fences = fences_are;
          promoted = h.promoted;
          lengths = h.lengths;
        }

    pub fences_in :
        (switch : ℕ) → switch < w.rack.switches → (t == s.rack.home (number_of key)) ≡ true
        → Mirrors keys
        (server_stepped w t (serve_fence (fence_over before version) sv version switch key)).0
        (fences_at s t version switch (number_of key))
    fences_in switch a at =
        rw (at, ((m.servers t).keys key).pair_is)
        (by_test (nat_lt before.version version) refl)
      where
        by_test :
            (b : Bool) → nat_lt before.version version ≡ b
            → Mirrors keys
            (server_stepped w t
            (serve_fence (cond b (fence_did.Fenced before.version) (fence_did.Kept before.version))
            sv version switch key)).0
            (cond b
            (system.post
            (record s {
              held =
                  at_two s.held t (number_of key)
                  (raised_to (pair_code before) version);
              guards =
                  at_two s.guards t (number_of key)
                  (guarded (s.guards t (number_of key)) before.version version);
              fences =
                  machine.applied_fence s.fences (number_of key) version before.version
                  ∷ s.fences;
            })
            (law.item (law.Switch switch) (law.Held t version (number_of key))))
            (system.post s (law.item (law.Switch switch) (law.Held t version (number_of key)))))
        by_test true e =
            subst
            (λ p.
            Mirrors keys
            (server_stepped w t
            (serve_fence (fence_did.Fenced before.version) sv version switch key)).0
            (system.post
            (record s {
              held = at_two s.held t (number_of key) (raised_to p version);
              guards =
                  at_two s.guards t (number_of key)
                  (guarded (s.guards t (number_of key)) p.version version);
              fences =
                  machine.applied_fence s.fences (number_of key) version p.version ∷ s.fences;
            })
            (law.item (law.Switch switch) (law.Held t version (number_of key)))))
            ((m.servers t).keys key).pair_is
            (posted keys
            (record (with_server w (record sv { store = fenced sv.store key version })) {
              fences = w.fences ++ fence_here ∷ [];
            })
            (record s {
              held =
                  at_two s.held t (number_of key) (raised_to (s.held t (number_of key)) version);
              guards =
                  at_two s.guards t (number_of key)
                  (guarded (s.guards t (number_of key)) (s.held t (number_of key)).version version);
              fences =
                  machine.applied_fence s.fences (number_of key) version
                  (s.held t (number_of key)).version
                  ∷ s.fences;
            })
            (fence_comes e) ((node.Switch switch, packet.Held sv.id version key) ∷ [])
            (law.item (law.Switch switch) (law.Held t version (number_of key)) ∷ [])
            (held_fits version switch key a, tt))
        by_test false e =
            posted keys (with_server w sv) s idle
            ((node.Switch switch, packet.Held sv.id version key) ∷ [])
            (law.item (law.Switch switch) (law.Held t version (number_of key)) ∷ [])
            (held_fits version switch key a, tt)
