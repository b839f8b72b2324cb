-- A client that is handed a packet, in both machines.
use Rattle.std.proofs.Common.{ℕ, List}
use Rattle.peg_name.specs.declared.Node.TheVariants as node
use Rattle.peg_model.specs.Packet as packet
use Rattle.peg_model.specs.Packet.{Packet}
use Rattle.peg_model.specs.Client.{client_step}
use Rattle.peg_model.specs.World.{World, client_of, client_stepped}
use Rattle.peg_law.specs.Codes.{packet_code}
use Rattle.peg_law.specs.Mirrors.{Mirrors, IsSent}
use Rattle.peg_law.proofs.Replies.{SameOrigins, took_read, took_write, moved}
use Rattle.peg_protocol.specs.Packet as law
use Rattle.peg_protocol.specs.System.{System, takes}

module _ (keys : List (List ℕ)) (w : World) (s : System) (m : Mirrors keys w s)
    (origins : SameOrigins w s) (pick c : ℕ) where
  pub client_handed :
      (p : Packet) → IsSent w.rack (node.Client c) p
      → Mirrors keys (client_stepped w c (client_step (client_of w c) p)).0
      (takes s pick (law.Client c) (packet_code p))
  unfolding client_step
  client_handed (packet.ReadReply client seq version server switch key content) x =
      took_read keys w s m origins c x client seq version key content (client_of w c).pending
      (m.clients c).pending_is
  client_handed (packet.WriteReply client seq version server switch key) x =
      took_write keys w s m origins c x client seq version key (client_of w c).pending
      (m.clients c).pending_is
  client_handed (packet.Announce epoch switch) x = moved keys w s m origins c x.0 epoch switch x.1
  client_handed (packet.Read client seq key) x = absurd x
  client_handed (packet.Write client seq key content) x = absurd x
  client_handed (packet.ToServerRead client seq server switch key) x = absurd x
  client_handed (packet.ToServerWrite client seq version server switch key content) x = absurd x
  client_handed (packet.Command number what) x = absurd x
  client_handed (packet.CommandAck number outcome) x = absurd x
  client_handed (packet.CopyOrder switch server target key) x = absurd x
  client_handed (packet.CopyData switch server version key content) x = absurd x
  client_handed (packet.Held server version key) x = absurd x
  client_handed (packet.Part epoch index count bytes) x = absurd x
  client_handed packet.Survey x = absurd x
  client_handed (packet.Report epoch total rows) x = absurd x
  client_handed (packet.Fence switch server version key) x = absurd x
  client_handed (packet.Void client seq version server switch key) x = absurd x
