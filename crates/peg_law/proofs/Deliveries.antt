-- Each delivery is one event of the protocol machine.
use Rattle.std.proofs.Common.{◌≡◌, ◌<◌, ℕ, false, List, [], ◌∷◌}
use Rattle.std.proofs.Common.{Option, Some, None, refl, sym, ap, ◌∙◌, subst, slice_get, Contains}
use Rattle.std.proofs.lemmas.Option.{get_or_from_slice_get, slice_get_within}
use Rattle.peg_name.specs.Name.{Rack}
use Rattle.peg_name.specs.declared.Node.{Node}
use Rattle.peg_name.specs.declared.Node.TheVariants as node
use Rattle.peg_model.specs.Packet as packet
use Rattle.peg_model.specs.Packet.{Packet, What}
use Rattle.peg_model.specs.Controller.{controller_step}
use Rattle.peg_model.specs.Switch as switch
use Rattle.peg_model.specs.Switch.{Switch, SwitchStep, in_mode, switch_step}
use Rattle.peg_model.specs.World.{World, switch_of, with_switch, switch_stepped, with_controller}
use Rattle.peg_model.specs.World.{delivers, delivers_item}
use Rattle.peg_law.specs.Codes.{number_of, content_code, node_code, packet_code, outcome_code}
use Rattle.peg_law.specs.Mirrors.{Mirrors, IsSent, PacketFits, PartFits, ItemFits}
use Rattle.peg_law.proofs.Tables.{PairedAt, paired_at}
use Rattle.peg_law.proofs.Nodes.{posted}
use Rattle.peg_law.proofs.ClientSteps.{Follows, quiet}
use Rattle.peg_law.proofs.Replies.{SameOrigins}
use Rattle.peg_law.proofs.ClientHanded.{client_handed}
use Rattle.peg_law.proofs.ServerHanded.{server_handed}
use Rattle.peg_law.proofs.SwitchSteps.{unchanged, switch_idle}
use Rattle.peg_law.proofs.SwitchHanded.{stepped, read_handed, write_handed, read_reply_handed}
use Rattle.peg_law.proofs.SwitchHanded.{write_reply_handed, held_handed, void_handed}
use Rattle.peg_law.proofs.Commanding.{commanded}
use Rattle.peg_law.proofs.Gathering.{ReadsStates}
use Rattle.peg_law.proofs.Taking.{part_handed}
use Rattle.peg_law.proofs.ControllerSteps.{same_controller}
use Rattle.peg_law.proofs.ControllerHanded.{Took, Alone, AndAsks, acknowledgement_handed}
use Rattle.peg_law.proofs.Origins.{same_origins}
use Rattle.peg_protocol.specs.Packet as law
use Rattle.peg_protocol.specs.System as system
use Rattle.peg_protocol.specs.System.{System, Event, happens_at, takes}
use Rattle.peg_protocol.specs.Told.{Told}

-- but for parts a packet is told in one way
abbrev pub IsPart : Packet → Type 0
IsPart (packet.Part epoch index count bytes) = Unit {0}
IsPart p = ⊥

pub plain_packet :
    (rack : Rack) (to : Node) (p : Packet) (q : law.Packet) → (IsPart p → ⊥)
    → PacketFits rack p q → q ≡ packet_code p
plain_packet rack to (packet.Part epoch index count bytes) q x f = absurd (x tt)
plain_packet rack to (packet.Read client seq key) q x f = f
plain_packet rack to (packet.Write client seq key content) q x f = f
plain_packet rack to (packet.ToServerRead client seq server named key) q x f = f
plain_packet rack to (packet.ToServerWrite client seq version server named key content) q x f = f
plain_packet rack to (packet.ReadReply client seq version server named key content) q x f = f
plain_packet rack to (packet.WriteReply client seq version server named key) q x f = f
plain_packet rack to (packet.Command number what) q x f = f
plain_packet rack to (packet.CommandAck number o) q x f = f
plain_packet rack to (packet.CopyOrder named server target key) q x f = f
plain_packet rack to (packet.CopyData named server version key content) q x f = f
plain_packet rack to (packet.Held server version key) q x f = f
plain_packet rack to (packet.Announce epoch named) q x f = f
plain_packet rack to packet.Survey q x f = f
plain_packet rack to (packet.Report epoch total rows) q x f = f
plain_packet rack to (packet.Fence named server version key) q x f = f
plain_packet rack to (packet.Void client seq version server named key) q x f = f

module _ (keys : List (List ℕ)) (w : World) (s : System) (m : Mirrors keys w s) (told : Told s)
    (reads : ReadsStates) (n pick : ℕ) where
  origins : SameOrigins w s
  origins = same_origins keys w s m told.fences

  -- what the delivery leads to, where this is the packet
  abbrev Handed : Node → Packet → Type 0
  Handed to p = Follows keys s (delivers w to p pick)

  abbrev Is : Node → law.Packet → Type 0
  Is to q = slice_get s.sent n ≡ Some (law.item (node_code to) q)

  event_is :
      (to : Node) (q : law.Packet) → Is to q
      → happens_at s (system.Deliver n pick) ≡ takes s pick (node_code to) q
  event_is to q at = ap (system.deliver s pick) at

  by_delivery :
      (to : Node) (p : Packet) (q : law.Packet) → Is to q
      → Mirrors keys (delivers w to p pick).0 (takes s pick (node_code to) q) → Handed to p
  by_delivery to p q at h = (
    system.Deliver n pick,
    subst (Mirrors keys (delivers w to p pick).0) (sym (event_is to q at)) h,
  )

  -- ---- at a switch

  surveyed_at : (a : ℕ) → a < w.rack.switches → Handed (node.Switch a) packet.Survey
  surveyed_at a within = by_mode (switch_of w a).mode refl
    where
      sw : Switch
      sw = switch_of w a

      by_mode : (mode : switch.Mode) → sw.mode ≡ mode → Handed (node.Switch a) packet.Survey
      by_mode switch.Active e =
          let step : SwitchStep = in_mode switch.Active sw packet.Survey pick in
          let is : switch_step sw packet.Survey pick ≡ step =
          stepped sw packet.Survey pick false refl ∙ ap (λ d. in_mode d sw packet.Survey pick) e
          in (
            system.Tell law.Controller,
            subst
                (λ (x : SwitchStep).
                Mirrors keys (switch_stepped w a packet.Survey x).0
                (system.post s (law.item law.Controller law.Other)))
                (sym is)
                (posted keys (with_switch w sw) s
                (unchanged keys w s m a within sw.counts (m.switches a).counts)
                step.sent
                (law.item law.Controller law.Other ∷ [])
                (record { sent = (m.switches a).counts; to = refl; packet = refl }, tt)),
          )
      by_mode switch.Idle e =
          let is : switch_step sw packet.Survey pick ≡ in_mode switch.Idle sw packet.Survey pick =
          stepped sw packet.Survey pick false refl ∙ ap (λ d. in_mode d sw packet.Survey pick) e
          in (
            system.Rest,
            subst (λ (x : SwitchStep). Mirrors keys (switch_stepped w a packet.Survey x).0 s)
                (sym is) (switch_idle keys w s m a within),
          )
      by_mode (switch.Sealed target) e =
          let is :
          switch_step sw packet.Survey pick
          ≡ in_mode (switch.Sealed target) sw packet.Survey pick =
          stepped sw packet.Survey pick false refl ∙ ap (λ d. in_mode d sw packet.Survey pick) e
          in (
            system.Rest,
            subst (λ (x : SwitchStep). Mirrors keys (switch_stepped w a packet.Survey x).0 s)
                (sym is) (switch_idle keys w s m a within),
          )

  was_sent : (to : Node) (q : law.Packet) → Is to q → Contains s.sent (law.item (node_code to) q)
  was_sent to q at = (
    n,
    slice_get_within s.sent n (law.item (node_code to) q) at,
    get_or_from_slice_get s.sent n (law.item (node_code to) q) (law.item (node_code to) q) at,
  )

  at_switch :
      (a : ℕ) (p : Packet) → IsSent w.rack (node.Switch a) p → (IsPart p → ⊥)
      → Is (node.Switch a) (packet_code p) → Handed (node.Switch a) p
  at_switch a (packet.Read client seq key) x plain at =
      by_delivery (node.Switch a) (packet.Read client seq key)
      (law.Read client seq (number_of key)) at
      (read_handed keys w s m pick a x.0 client seq key x.1 x.2)
  at_switch a (packet.Write client seq key content) x plain at =
      by_delivery (node.Switch a) (packet.Write client seq key content)
      (law.Write client seq (number_of key) (content_code content)) at
      (write_handed keys w s m pick a x.0 client seq key content (content_code content) x.1
      x.2 (told.writes (law.Switch a) client seq (number_of key) (content_code content)
      (was_sent (node.Switch a) (law.Write client seq (number_of key) (content_code content)) at))
      (λ active version seq_is version_is some.
      told.rows a client seq version active seq_is version_is some))
  at_switch a (packet.ReadReply client seq version server named key content) x plain at =
      by_delivery (node.Switch a) (packet.ReadReply client seq version server named key content)
      (law.ReadReply client seq version server named (number_of key) (content_code content)) at
      (read_reply_handed keys w s m pick a x.0 client seq version server named key content x.1 x.2
      x.3)
  at_switch a (packet.WriteReply client seq version server named key) x plain at =
      by_delivery (node.Switch a) (packet.WriteReply client seq version server named key)
      (law.WriteReply client seq version server named (number_of key)) at
      (write_reply_handed keys w s m pick a x.0 client seq version server named key x.1 x.2 x.3)
  at_switch a (packet.Held server version key) x plain at =
      by_delivery (node.Switch a) (packet.Held server version key)
      (law.Held server version (number_of key)) at
      (held_handed keys w s m pick a x.0 server version key x.1)
  at_switch a (packet.Void client seq version server named key) x plain at =
      by_delivery (node.Switch a) (packet.Void client seq version server named key)
      (law.Void client seq version server named (number_of key)) at
      (void_handed keys w s m pick a x.0 client seq version server named key x.1 x.2 x.3)
  at_switch a (packet.Command number what) x plain at =
      by_delivery (node.Switch a) (packet.Command number what)
      (packet_code (packet.Command number what)) at
      (commanded keys w s m pick a x.0 number what x.1 x.2 x.3 told.ranges)
  at_switch a packet.Survey x plain at = surveyed_at a x
  at_switch a (packet.ToServerRead client seq server named key) x plain at = absurd x
  at_switch a (packet.ToServerWrite client seq version server named key content) x plain at =
      absurd x
  at_switch a (packet.CommandAck number o) x plain at = absurd x
  at_switch a (packet.CopyOrder named server target key) x plain at = absurd x
  at_switch a (packet.CopyData named server version key content) x plain at = absurd x
  at_switch a (packet.Announce epoch named) x plain at = absurd x
  at_switch a (packet.Report epoch total rows) x plain at = absurd x
  at_switch a (packet.Fence named server version key) x plain at = absurd x
  at_switch a (packet.Part epoch index count bytes) x plain at = absurd (plain tt)

  -- ---- at the controller

  by_took :
      (r : World) (to : Node) (q : law.Packet) → Is to q
      → Took keys r (takes s pick (node_code to) q) → (e : Event) × Mirrors keys r (happens_at s e)
  by_took r to q at (Alone h) = (
    system.Deliver n pick,
    subst (Mirrors keys r) (sym (event_is to q at)) h,
  )
  by_took r to q at (AndAsks ask h) = (
    system.Then (system.Deliver n pick) ask,
    subst (λ x. Mirrors keys r (system.gives x ask)) (sym (event_is to q at)) h,
  )

  at_controller :
      (p : Packet) → IsSent w.rack node.Controller p → Is node.Controller (packet_code p)
      → Handed node.Controller p
  unfolding controller_step
  at_controller (packet.CommandAck number o) x at =
      by_took (delivers w node.Controller (packet.CommandAck number o) pick).0 node.Controller
      (law.Ack number (outcome_code o)) at (acknowledgement_handed keys w s m number o)
  at_controller (packet.Report epoch total rows) x at = (
    system.Rest,
    quiet keys (with_controller w (record w.controller { report = Some rows })) s
        (same_controller keys w s m (Some rows) x),
  )
  at_controller (packet.Read client seq key) x at = absurd x
  at_controller (packet.Write client seq key content) x at = absurd x
  at_controller (packet.ToServerRead client seq server named key) x at = absurd x
  at_controller (packet.ToServerWrite client seq version server named key content) x at = absurd x
  at_controller (packet.ReadReply client seq version server named key content) x at = absurd x
  at_controller (packet.WriteReply client seq version server named key) x at = absurd x
  at_controller (packet.Command number what) x at = absurd x
  at_controller (packet.CopyOrder named server target key) x at = absurd x
  at_controller (packet.CopyData named server version key content) x at = absurd x
  at_controller (packet.Held server version key) x at = absurd x
  at_controller (packet.Part epoch index count bytes) x at = absurd x
  at_controller (packet.Announce epoch named) x at = absurd x
  at_controller packet.Survey x at = absurd x
  at_controller (packet.Fence named server version key) x at = absurd x
  at_controller (packet.Void client seq version server named key) x at = absurd x

  -- ---- at any node

  at_node :
      (to : Node) (p : Packet) → IsSent w.rack to p → (IsPart p → ⊥) → Is to (packet_code p)
      → Handed to p
  at_node (node.Client c) p x plain at =
      by_delivery (node.Client c) p (packet_code p) at
      (client_handed keys w s m origins pick c p x)
  at_node (node.Server t) p x plain at =
      by_delivery (node.Server t) p (packet_code p) at
      (server_handed keys w s m origins pick t p x)
  at_node (node.Switch a) p x plain at = at_switch a p x plain at
  at_node node.Controller p x plain at = at_controller p x at

  -- a part, which goes to a switch
  part_at :
      (to : Node) (epoch index count : ℕ) (bytes : List ℕ) (q : law.Packet)
      → slice_get w.packets n ≡ Some (to, packet.Part epoch index count bytes) → Is to q
      → IsSent w.rack to (packet.Part epoch index count bytes)
      → PartFits w.rack epoch index count bytes q
      → Handed to (packet.Part epoch index count bytes)
  part_at (node.Switch a) epoch index count bytes q in_book at x f =
      by_delivery (node.Switch a) (packet.Part epoch index count bytes) q at
      (part_handed keys w s m pick a x reads told.one_state epoch index count bytes q f (
        n,
        slice_get_within w.packets n (node.Switch a, packet.Part epoch index count bytes) in_book,
        get_or_from_slice_get w.packets n (node.Switch a, packet.Part epoch index count bytes)
            (node.Switch a, packet.Part epoch index count bytes) in_book,
      )
      (was_sent (node.Switch a) q at))
  part_at (node.Client c) epoch index count bytes q in_book at x f = absurd x
  part_at (node.Server t) epoch index count bytes q in_book at x f = absurd x
  part_at node.Controller epoch index count bytes q in_book at x f = absurd x

  other_handed :
      (to : Node) (p : Packet) (q : law.Packet) → (IsPart p → ⊥) → Is to q → IsSent w.rack to p
      → PacketFits w.rack p q → Handed to p
  other_handed to p q plain at x f =
      at_node to p x plain
      (at ∙ ap (λ y. Some (law.item (node_code to) y)) (plain_packet w.rack to p q plain f))

  packet_handed :
      (to : Node) (p : Packet) (q : law.Packet) → slice_get w.packets n ≡ Some (to, p) → Is to q
      → IsSent w.rack to p → PacketFits w.rack p q → Handed to p
  packet_handed to (packet.Part epoch index count bytes) q in_book at x f =
      part_at to epoch index count bytes q in_book at x f
  packet_handed to (packet.Read client seq key) q in_book at x f =
      other_handed to (packet.Read client seq key) q (λ y. y) at x f
  packet_handed to (packet.Write client seq key content) q in_book at x f =
      other_handed to (packet.Write client seq key content) q (λ y. y) at x f
  packet_handed to (packet.ToServerRead client seq server named key) q in_book at x f =
      other_handed to (packet.ToServerRead client seq server named key) q (λ y. y) at x f
  packet_handed to (packet.ToServerWrite client seq version server named key content) q in_book at x
      f =
      other_handed to (packet.ToServerWrite client seq version server named key content) q (λ y. y)
      at x f
  packet_handed to (packet.ReadReply client seq version server named key content) q in_book at x f =
      other_handed to (packet.ReadReply client seq version server named key content) q (λ y. y) at x
      f
  packet_handed to (packet.WriteReply client seq version server named key) q in_book at x f =
      other_handed to (packet.WriteReply client seq version server named key) q (λ y. y) at x f
  packet_handed to (packet.Command number what) q in_book at x f =
      other_handed to (packet.Command number what) q (λ y. y) at x f
  packet_handed to (packet.CommandAck number o) q in_book at x f =
      other_handed to (packet.CommandAck number o) q (λ y. y) at x f
  packet_handed to (packet.CopyOrder named server target key) q in_book at x f =
      other_handed to (packet.CopyOrder named server target key) q (λ y. y) at x f
  packet_handed to (packet.CopyData named server version key content) q in_book at x f =
      other_handed to (packet.CopyData named server version key content) q (λ y. y) at x f
  packet_handed to (packet.Held server version key) q in_book at x f =
      other_handed to (packet.Held server version key) q (λ y. y) at x f
  packet_handed to (packet.Announce epoch named) q in_book at x f =
      other_handed to (packet.Announce epoch named) q (λ y. y) at x f
  packet_handed to packet.Survey q in_book at x f =
      other_handed to packet.Survey q (λ y. y) at x f
  packet_handed to (packet.Report epoch total rows) q in_book at x f =
      other_handed to (packet.Report epoch total rows) q (λ y. y) at x f
  packet_handed to (packet.Fence named server version key) q in_book at x f =
      other_handed to (packet.Fence named server version key) q (λ y. y) at x f
  packet_handed to (packet.Void client seq version server named key) q in_book at x f =
      other_handed to (packet.Void client seq version server named key) q (λ y. y) at x f

  item_handed :
      (o : Option (Node × Packet)) (i : Option law.Item) → slice_get w.packets n ≡ o
      → slice_get s.sent n ≡ i → PairedAt (ItemFits w.rack) o i
      → Follows keys s (delivers_item w n o pick)
  item_handed None None in_book at f = (system.Rest, quiet keys w s m)
  item_handed None (Some i) in_book at f = absurd f
  item_handed (Some item) None in_book at f = absurd f
  item_handed (Some item) (Some i) in_book at f =
      packet_handed item.0 item.1 i.packet in_book
      (at ∙ ap (λ t. Some (law.item t i.packet)) f.to) f.sent f.packet

  pub delivered : Follows keys s (delivers_item w n (slice_get w.packets n) pick)
  delivered =
      item_handed (slice_get w.packets n) (slice_get s.sent n) refl refl
      (paired_at (ItemFits w.rack) w.packets s.sent n m.sent)
