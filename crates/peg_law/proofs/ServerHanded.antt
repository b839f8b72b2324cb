-- A server that is handed a packet, in both machines.
use Rattle.std.proofs.Common.{◌≡◌, ◌<◌, ◌==◌, ◌&&◌, ℕ, Bool, true, false, not, List}
use Rattle.std.proofs.Common.{cond, refl, sym, ap, ◌∙◌, subst, nat_lt}
use Rattle.std.proofs.Common.{eq-eqb, lt-ltb}
use Rattle.std.proofs.lemmas.Bool.{and_from}
use Rattle.peg_name.specs.Name.{Rack, home_of}
use Rattle.peg_name.specs.declared.Node.TheVariants as node
use Rattle.peg_event.specs.declared.ServerDid.TheVariants as did
use Rattle.peg_model.specs.Words.{refuse}
use Rattle.peg_model.specs.Packet as packet
use Rattle.peg_model.specs.Packet.{Packet}
use Rattle.peg_model.specs.Server.{Server, ServerStep, server_takes, serve, server_step}
use Rattle.peg_model.specs.World.{World, server_of, server_stepped}
use Rattle.peg_law.specs.Codes.{number_of, packet_code}
use Rattle.peg_law.specs.Mirrors.{Mirrors, IsSent}
use Rattle.peg_law.proofs.Codes.{bytes_of-number}
use Rattle.peg_law.proofs.Replies.{SameOrigins, flip}
use Rattle.peg_law.proofs.ServerTurns.{server_idle, reads, writes, copies_in, copies_out, fences_in}
use Rattle.peg_protocol.specs.Packet as law
use Rattle.peg_protocol.specs.Core as core
use Rattle.peg_protocol.specs.System.{System, takes}

pub step_by :
    (sv : Server) (p : Packet) (b : Bool) → server_takes sv.rack sv.id p ≡ b
    → server_step sv p ≡ cond b (serve sv p) (refuse sv did.OutOfPlace)
unfolding server_step
step_by sv p b e = ap (λ t. cond t (serve sv p) (refuse sv did.OutOfPlace)) e

pub home_is :
    (keys : List (List ℕ)) (w : World) (s : System) → Mirrors keys w s → (key : List ℕ)
    → s.rack.home (number_of key) ≡ home_of w.rack.servers key
home_is keys w s m key =
    ap (λ (r : core.Rack). r.home (number_of key)) m.rack
    ∙ ap (home_of w.rack.servers) (bytes_of-number key)

pub two_named : (n t a b : ℕ) (rack : Rack) → n ≡ t → a < rack.clients → b < rack.switches
    → (n == t && nat_lt a rack.clients && nat_lt b rack.switches) ≡ true
two_named n t a b rack e x y =
    and_from (n == t && nat_lt a rack.clients) (nat_lt b rack.switches)
    (and_from (n == t) (nat_lt a rack.clients) (eq-eqb n t e) (lt-ltb a rack.clients x))
    (lt-ltb b rack.switches y)

pub one_named : (n t b : ℕ) (rack : Rack) → n ≡ t → b < rack.switches
    → (n == t && nat_lt b rack.switches) ≡ true
one_named n t b rack e y =
    and_from (n == t) (nat_lt b rack.switches) (eq-eqb n t e) (lt-ltb b rack.switches y)

module _ (keys : List (List ℕ)) (w : World) (s : System) (m : Mirrors keys w s)
    (origins : SameOrigins w s) (pick t : ℕ) where
  abbrev here : Server
  here = server_of w t

  abbrev Handed : Packet → law.Packet → Type 0
  Handed p q = Mirrors keys (server_stepped w t (server_step here p)).0
      (takes s pick (law.Server t) q)

  -- the test is of the rack and of the server's number
  pub taken : (p : Packet) (b : Bool) → server_takes w.rack t p ≡ b →
      server_takes here.rack here.id p ≡ b
  taken p b e =
      ap (λ r. server_takes r here.id p) (m.servers t).rack_is
      ∙ ap (λ i. server_takes w.rack i p) (m.servers t).id_is ∙ e

  by_steps :
      (p : Packet) (q : law.Packet) (b : Bool) → server_takes w.rack t p ≡ b
      → Mirrors keys (server_stepped w t (cond b (serve here p) (refuse here did.OutOfPlace))).0
      (takes s pick (law.Server t) q)
      → Handed p q
  by_steps p q b e h =
      subst (λ (x : ServerStep). Mirrors keys (server_stepped w t x).0
      (takes s pick (law.Server t) q))
      (sym (step_by here p b (taken p b e))) h

  pub server_handed : (p : Packet) → IsSent w.rack (node.Server t) p → Handed p (packet_code p)
  server_handed (packet.ToServerRead client seq server switch key) x =
      by_steps (packet.ToServerRead client seq server switch key)
      (law.ToServerRead client seq switch (number_of key)) true
      (two_named server t client switch w.rack x.0 x.2 x.3)
      (reads keys w s m t x.1 client seq switch key x.2 x.3)
  server_handed (packet.ToServerWrite client seq version server switch key content) x =
      by_steps (packet.ToServerWrite client seq version server switch key content)
      (packet_code (packet.ToServerWrite client seq version server switch key content)) true
      (two_named server t client switch w.rack x.0 x.2 x.3)
      (writes keys w s m t x.1 client seq version switch key content x.2 x.3)
  server_handed (packet.CopyData switch server version key content) x =
      by_steps (packet.CopyData switch server version key content)
      (packet_code (packet.CopyData switch server version key content)) true
      (one_named server t switch w.rack x.0 x.2)
      (copies_in keys w s m t x.1 version switch key content x.2)
  server_handed (packet.CopyOrder switch server target key) x = by_test (target == t) refl
    where
      front : (b : Bool) → (target == t) ≡ b
          → server_takes w.rack t (packet.CopyOrder switch server target key) ≡ not b
      front b e =
          ap (λ y. server == t && nat_lt switch w.rack.switches && nat_lt target w.rack.servers
          && not y) e
          ∙ ap (λ y. y && not b)
          (and_from (server == t && nat_lt switch w.rack.switches) (nat_lt target w.rack.servers)
          (one_named server t switch w.rack x.0 x.2) (lt-ltb target w.rack.servers x.3))

      by_test :
          (b : Bool) → (target == t) ≡ b
          → Handed (packet.CopyOrder switch server target key)
          (law.CopyOrder switch target (number_of key))
      by_test true e =
          by_steps (packet.CopyOrder switch server target key)
          (law.CopyOrder switch target (number_of key)) false (front true e)
          (rw e (server_idle keys w s m t x.1))
      by_test false e =
          by_steps (packet.CopyOrder switch server target key)
          (law.CopyOrder switch target (number_of key)) true (front false e)
          (rw e (copies_out keys w s m t x.1 switch target key x.2 x.3))
  server_handed (packet.Fence switch server version key) x =
      by_test (t == s.rack.home (number_of key)) refl
    where
      front : (b : Bool) → (t == s.rack.home (number_of key)) ≡ b
          → server_takes w.rack t (packet.Fence switch server version key) ≡ b
      front b e =
          ap (λ y. y && home_of w.rack.servers key == t) (one_named server t switch w.rack x.0 x.2)
          ∙ ap (λ h. h == t) (sym (home_is keys w s m key))
          ∙ flip (s.rack.home (number_of key)) t ∙ e

      by_test :
          (b : Bool) → (t == s.rack.home (number_of key)) ≡ b
          → Handed (packet.Fence switch server version key)
          (law.Fence version switch (number_of key))
      by_test true e =
          by_steps (packet.Fence switch server version key)
          (law.Fence version switch (number_of key)) true (front true e)
          (fences_in keys w s m t x.1 origins key version switch x.2 e)
      by_test false e =
          by_steps (packet.Fence switch server version key)
          (law.Fence version switch (number_of key)) false (front false e)
          (rw e (server_idle keys w s m t x.1))
  server_handed (packet.Read client seq key) x = absurd x
  server_handed (packet.Write client seq key content) x = absurd x
  server_handed (packet.ReadReply client seq version server switch key content) x = absurd x
  server_handed (packet.WriteReply client seq version server switch key) x = absurd x
  server_handed (packet.Command number what) x = absurd x
  server_handed (packet.CommandAck number outcome) x = absurd x
  server_handed (packet.Held server version key) x = absurd x
  server_handed (packet.Part epoch index count bytes) x = absurd x
  server_handed (packet.Announce epoch switch) x = absurd x
  server_handed packet.Survey x = absurd x
  server_handed (packet.Report epoch total rows) x = absurd x
  server_handed (packet.Void client seq version server switch key) x = absurd x
