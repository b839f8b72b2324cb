-- What a node does with the bytes of a datagram, whatever they are.
--     spelled format sent, are_packets format sent      the packets that were sent, as bytes, and
--         whether each is in its ranges
--     server_on_bytes, client_on_bytes, controller_on_bytes, switch_on_bytes      a step on bytes:
--         bytes that no packet spells are malformed, and a packet of the other format is out of
--         place
use Rattle.std.specs.Prelude.{ℕ, Bool, Option, Some, None, List, map, if◌then◌else◌}
use Rattle.std.specs.List.{list_all}
use Rattle.peg_name.specs.declared.Format.{Format}
use Rattle.peg_name.specs.declared.Node.{Node}
use Rattle.peg_event.specs.declared.SwitchDid.TheVariants as switch_did
use Rattle.peg_event.specs.declared.ServerDid.TheVariants as server_did
use Rattle.peg_event.specs.declared.ClientDid.{ClientDid}
use Rattle.peg_event.specs.declared.ClientDid.TheVariants as client_did
use Rattle.peg_event.specs.declared.ControlDid.{ControlDid}
use Rattle.peg_event.specs.declared.ControlDid.TheVariants as control_did
use Rattle.peg_model.specs.Words.{Step, refuse}
use Rattle.peg_model.specs.Packet.{Packet, spelling, in_range}
use Rattle.peg_model.specs.Reading.{packet_of, is_format}
use Rattle.peg_model.specs.Server.{Server, ServerStep, server_step}
use Rattle.peg_model.specs.Client.{Client, client_step}
use Rattle.peg_model.specs.Controller.{Controller, controller_step}
use Rattle.peg_model.specs.Switch.{Switch, SwitchStep, switch_step}

abbrev pub spelled : Format → List (Node × Packet) → List (Node × List ℕ)
spelled format sent = map (λ item. (item.0, spelling format item.1)) sent

-- whether each is in the ranges of the format, and so is read back from its bytes
abbrev pub are_packets : Format → List (Node × Packet) → Bool
are_packets format sent = list_all (λ item. in_range format item.1) sent

-- bytes that no packet spells are malformed, and a packet of the other format is out of place
abbrev pub on_bytes :
    {S D : Type 0} → Option (Format × Packet) → Format → (Packet → Step S (Node × Packet) D) → S
    → D → D → Step S (Node × Packet) D
on_bytes None format step s malformed misplaced = refuse s malformed
on_bytes (Some (other, p)) format step s malformed misplaced =
    if is_format other format then step p else refuse s misplaced

abbrev pub server_on_bytes : Server → List ℕ → ServerStep
server_on_bytes s bytes =
    on_bytes (packet_of bytes) s.rack.format (server_step s) s server_did.Malformed
    server_did.OutOfPlace

-- a client ignores both
abbrev pub client_on_bytes : Client → List ℕ → Step Client (Node × Packet) ClientDid
client_on_bytes c bytes =
    on_bytes (packet_of bytes) c.format (client_step c) c client_did.Ignored client_did.Ignored

abbrev pub controller_on_bytes : Controller → List ℕ → Step Controller (Node × Packet) ControlDid
controller_on_bytes c bytes =
    on_bytes (packet_of bytes) c.rack.format (controller_step c) c control_did.Malformed
    control_did.OutOfPlace

abbrev pub switch_on_bytes : Switch → List ℕ → ℕ → SwitchStep
switch_on_bytes s bytes pick =
    on_bytes (packet_of bytes) s.rack.format (λ p. switch_step s p pick) s switch_did.Malformed
    switch_did.OutOfPlace
