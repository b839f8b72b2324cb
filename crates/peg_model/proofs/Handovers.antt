-- Runs in which one switch hands its state to another. Each is a schedule and its whole trace.
use Rattle.std.specs.Prelude.{◌≡◌, true, List, [], ◌∷◌, refl, codes}
use Rattle.std.specs.Fmt.{digits}
use Rattle.peg_name.specs.Holders.{servers_from, servers_of}
use Rattle.peg_name.specs.declared.Format.TheVariants.{One}
use Rattle.peg_event.specs.declared.Event.{Event}
use Rattle.peg_event.specs.declared.Event.TheVariants.{Read, Resend, Deliver, Handover}
use Rattle.peg_model.specs.Packet.{in_range, spelling}
use Rattle.peg_model.specs.Reading.{packet_of}
use Rattle.peg_model.specs.Handover.{state_bytes, state_of}
use Rattle.peg_model.specs.Server.{server_step}
use Rattle.peg_model.specs.Client.{client_step}
use Rattle.peg_model.specs.Controller.{controller_step}
use Rattle.peg_model.specs.Switch.{switch_step}
use Rattle.peg_model.specs.World.{happens, run}
use Rattle.peg_model.specs.Order.{order_of}
use Rattle.peg_model.specs.Trace.{said_text, replay_text}
use Rattle.peg_model.proofs.Computed.{rack_with, lines, is_schedule}

-- a state in two parts, of which the second comes first
unfoldable pub in_parts_events : List Event
in_parts_events =
    Handover 1 ∷ Deliver 0 0 ∷ Deliver 2 0 ∷ Deliver 2 0 ∷ Read 0 (codes "k") ∷ Deliver 3 0
    ∷ Deliver 1 0 ∷ Deliver 1 0 ∷ Deliver 4 0 ∷ Deliver 6 0 ∷ Resend 0 ∷ Deliver 46 0
    ∷ Deliver 47 0 ∷ Deliver 48 0 ∷ Deliver 49 0 ∷ []

in_parts_schedule : is_schedule (rack_with One 3 40 2 4 4 1) [] in_parts_events (
    codes "rack servers=3 clients=40 switches=2 listed=4 hot=4 first=1"
    ∷ codes "handover 1"
    ∷ codes "deliver 0"
    ∷ codes "deliver 2"
    ∷ codes "deliver 2"
    ∷ codes "read 0 k"
    ∷ codes "deliver 3"
    ∷ codes "deliver 1"
    ∷ codes "deliver 1"
    ∷ codes "deliver 4"
    ∷ codes "deliver 6"
    ∷ codes "resend 0"
    ∷ codes "deliver 46"
    ∷ codes "deliver 47"
    ∷ codes "deliver 48"
    ∷ codes "deliver 49"
    ∷ []
    ) ≡ true
unfolding digits in_parts_events
in_parts_schedule = refl

in_parts_trace : replay_text (rack_with One 3 40 2 4 4 1) [] in_parts_events ≡ lines (
    codes "1 rack"
    ∷ codes "2 controller orders 1 handover to switch 1 sends 0"
    ∷ codes "3 switch 0 seals epoch 2 to switch 1 sends 1..2"
    ∷ codes "4 switch 1 collects 1 of 2"
    ∷ codes "5 switch 1 has part 1"
    ∷ codes "6 read 0 seq 1 sends 3"
    ∷ codes "7 switch 0 not active epoch 1"
    ∷ codes "8 switch 1 active epoch 2 sends 4"
    ∷ codes "9 switch 1 repeats 1 sends 5"
    ∷ codes "10 controller takes 1 activated 2 sends 6..45"
    ∷ codes "11 client 0 moves to switch 1 epoch 2"
    ∷ codes "12 resend 0 seq 1 sends 46"
    ∷ codes "13 switch 1 forwards read k to server 2 sends 47"
    ∷ codes "14 server 2 reads k version 0 sends 48"
    ∷ codes "15 switch 1 answers client 0 seq 1 version 0 unlisted sends 49"
    ∷ codes "16 client 0 answered 1 version 0 -"
    ∷ codes "17 end"
    ∷ codes "history 1"
    ∷ codes "op 0 client 0 read k issued 6 answered 16 -"
    ∷ codes "order k 1"
    ∷ codes "at 0"
    ∷ codes "done"
    ∷ []
    )
unfolding
    digits servers_from servers_of spelling in_range packet_of state_bytes state_of server_step
    client_step controller_step switch_step happens run order_of said_text in_parts_events
in_parts_trace = refl

-- handovers to and fro
unfoldable pub to_and_fro_events : List Event
to_and_fro_events =
    Handover 0 ∷ Handover 2 ∷ Handover 1 ∷ Deliver 0 0 ∷ Deliver 0 0 ∷ Deliver 1 0 ∷ Deliver 3 0
    ∷ Handover 0 ∷ Deliver 5 0 ∷ Deliver 2 0 ∷ Deliver 6 0 ∷ Deliver 0 0 ∷ []

to_and_fro_schedule : is_schedule (rack_with One 3 1 2 1 1 1) [] to_and_fro_events (
    codes "rack servers=3 clients=1 switches=2 listed=1 hot=1 first=1"
    ∷ codes "handover 0"
    ∷ codes "handover 2"
    ∷ codes "handover 1"
    ∷ codes "deliver 0"
    ∷ codes "deliver 0"
    ∷ codes "deliver 1"
    ∷ codes "deliver 3"
    ∷ codes "handover 0"
    ∷ codes "deliver 5"
    ∷ codes "deliver 2"
    ∷ codes "deliver 6"
    ∷ codes "deliver 0"
    ∷ []
    ) ≡ true
unfolding digits to_and_fro_events
to_and_fro_schedule = refl

to_and_fro_trace : replay_text (rack_with One 3 1 2 1 1 1) [] to_and_fro_events ≡ lines (
    codes "1 rack"
    ∷ codes "2 controller same switch 0"
    ∷ codes "3 controller no such 2"
    ∷ codes "4 controller orders 1 handover to switch 1 sends 0"
    ∷ codes "5 switch 0 seals epoch 2 to switch 1 sends 1"
    ∷ codes "6 switch 0 repeats 1 sends 2"
    ∷ codes "7 switch 1 active epoch 2 sends 3"
    ∷ codes "8 controller takes 1 activated 2 sends 4"
    ∷ codes "9 controller orders 2 handover to switch 0 sends 5"
    ∷ codes "10 switch 1 seals epoch 3 to switch 0 sends 6"
    ∷ codes "11 switch 1 old part of epoch 2"
    ∷ codes "12 switch 0 active epoch 3 sends 7"
    ∷ codes "13 switch 0 skips 1 at 2"
    ∷ codes "14 end"
    ∷ codes "history 0"
    ∷ codes "done"
    ∷ []
    )
unfolding
    digits servers_from servers_of spelling in_range packet_of state_bytes state_of server_step
    client_step controller_step switch_step happens run order_of said_text to_and_fro_events
to_and_fro_trace = refl
