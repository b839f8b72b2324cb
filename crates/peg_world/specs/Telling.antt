-- What a line says, where the content of an answered read is that of the packet which gave it.
--     number_at w number, number_in event w      the number, or that of the packet that is delivered,
--         if there is such a packet
--     content_in packet      the content that a reply gives a reader
--     said_told number w said      what is said, with the content of the packet of the number
--     told number w result      the same of what an event came to
--     without did      what a client did, without the content that it was given
--     IsTold, IsControl said      what is said of an operation or of what the controller was told,
--         and of the latter alone
use Rattle.std.specs.Prelude.{ℕ, Option, Some, None, Result, Ok, Err, if◌then◌else◌, nat_lt, length}
use Rattle.peg_name.specs.declared.value.Content.{Content}
use Rattle.peg_name.specs.declared.value.Content.TheVariants.{Absent}
use Rattle.peg_event.specs.declared.ClientDid.{ClientDid}
use Rattle.peg_event.specs.declared.ClientDid.TheVariants as client_did
use Rattle.peg_event.specs.declared.Event.{Event}
use Rattle.peg_event.specs.declared.Event.TheVariants as event
use Rattle.peg_event.specs.declared.Said.{Said}
use Rattle.peg_event.specs.declared.Said.TheVariants as said
use Rattle.peg_model.specs.Packet.{Packet, ReadReply}
use Rattle.peg_model.specs.World.{World}
use Rattle.peg_world.specs.Midway.{packet_at}
use Rattle.peg_world.specs.declared.Halt.{Halt}

abbrev pub number_at : World → ℕ → Option ℕ
number_at w number = if nat_lt number (length w.packets) then Some number else None

abbrev pub number_in : Event → World → Option ℕ
number_in (event.Deliver number pick) w = number_at w number
number_in _ w = None

abbrev pub content_in : Packet → Content
content_in (ReadReply client seq version server switch key content) = content
content_in _ = Absent

abbrev pub content_told : Option ℕ → World → Content → Content
content_told None w content = content
content_told (Some number) w content = content_in (packet_at w number)

abbrev pub did_told : Option ℕ → World → ClientDid → ClientDid
did_told number w (client_did.Read seq version content) =
    client_did.Read seq version (content_told number w content)
did_told number w did = did

abbrev pub said_told : Option ℕ → World → Said → Said
said_told number w (said.Client client did) = said.Client client (did_told number w did)
said_told number w s = s

abbrev pub told : Option ℕ → World → Result Said Halt → Result Said Halt
told None w result = result
told (Some number) w (Ok s) = Ok (said_told (Some number) w s)
told (Some number) w (Err halt) = Err halt

abbrev pub without : ClientDid → ClientDid
without (client_did.Read seq version content) = client_did.Read seq version Absent
without did = did

abbrev pub IsTold : Said → Type 0
IsTold said.Rack = ⊥
IsTold said.End = ⊥
IsTold said.Forged = ⊥
IsTold (said.NoSuchPacket number count) = ⊥
IsTold (said.Switch switch did) = ⊥
IsTold (said.Server server did) = ⊥
IsTold (said.Client client did) = ⊥
IsTold (said.Controller did) = ⊥
IsTold _ = Unit {0}

abbrev pub IsControl : Said → Type 0
IsControl (said.Orders number command) = Unit {0}
IsControl (said.ControlBusy pending) = Unit {0}
IsControl (said.ControlSpent last) = Unit {0}
IsControl (said.NoSuch target) = Unit {0}
IsControl (said.SameSwitch switch) = Unit {0}
IsControl (said.Retries number) = Unit {0}
IsControl (said.Announces epoch) = Unit {0}
IsControl said.Surveys = Unit {0}
IsControl (said.Plans demotes promotes) = Unit {0}
IsControl said.NoReport = Unit {0}
IsControl _ = ⊥
