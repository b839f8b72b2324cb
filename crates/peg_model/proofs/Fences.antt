-- Runs with fences. Each is a schedule and its whole trace.
use Rattle.std.specs.Prelude.{◌≡◌, true, List, [], ◌∷◌, refl, codes}
use Rattle.std.specs.Fmt.{digits}
use Rattle.peg_name.specs.Holders.{servers_from, servers_of}
use Rattle.peg_name.specs.declared.Format.TheVariants.{One}
use Rattle.peg_event.specs.declared.Event.{Event}
use Rattle.peg_event.specs.declared.Event.TheVariants.{Read, Write, Resend, GiveUp, Deliver}
use Rattle.peg_event.specs.declared.Event.TheVariants.{Promote, Copy, Fence}
use Rattle.peg_model.specs.Packet.{in_range, spelling}
use Rattle.peg_model.specs.Reading.{packet_of}
use Rattle.peg_model.specs.Handover.{state_bytes, state_of}
use Rattle.peg_model.specs.Server.{server_step}
use Rattle.peg_model.specs.Client.{client_step}
use Rattle.peg_model.specs.Controller.{controller_step}
use Rattle.peg_model.specs.Switch.{switch_step}
use Rattle.peg_model.specs.World.{happens, run}
use Rattle.peg_model.specs.Order.{order_of}
use Rattle.peg_model.specs.Trace.{said_text, replay_text}
use Rattle.peg_model.proofs.Computed.{rack_with, lines, is_schedule}

-- a late write is voided and stamped anew
unfoldable pub voided_events : List Event
voided_events =
    Write 0 (codes "k") (codes "x") ∷ Deliver 0 0 ∷ Promote (codes "k") ∷ Deliver 2 0 ∷ Deliver 3 0
    ∷ Fence (codes "k") ∷ Deliver 4 0 ∷ Deliver 5 0 ∷ Deliver 7 0 ∷ Deliver 1 0 ∷ Deliver 8 0
    ∷ Resend 0 ∷ Deliver 9 0 ∷ Deliver 10 0 ∷ Deliver 11 0 ∷ Deliver 12 0 ∷ Deliver 8 0 ∷ []

voided_schedule : is_schedule (rack_with One 3 2 2 4 4 1) [] voided_events (
    codes "rack servers=3 clients=2 switches=2 listed=4 hot=4 first=1"
    ∷ codes "write 0 k =x"
    ∷ codes "deliver 0"
    ∷ codes "promote k"
    ∷ codes "deliver 2"
    ∷ codes "deliver 3"
    ∷ codes "fence k"
    ∷ codes "deliver 4"
    ∷ codes "deliver 5"
    ∷ codes "deliver 7"
    ∷ codes "deliver 1"
    ∷ codes "deliver 8"
    ∷ codes "resend 0"
    ∷ codes "deliver 9 0"
    ∷ codes "deliver 10"
    ∷ codes "deliver 11"
    ∷ codes "deliver 12"
    ∷ codes "deliver 8"
    ∷ []
    ) ≡ true
unfolding digits voided_events
voided_schedule = refl

voided_trace : replay_text (rack_with One 3 2 2 4 4 1) [] voided_events ≡ lines (
    codes "1 rack"
    ∷ codes "2 write 0 seq 1 sends 0"
    ∷ codes "3 switch 0 forwards write k version 1 to server 2 sends 1"
    ∷ codes "4 controller orders 1 promote k sends 2"
    ∷ codes "5 switch 0 applies 1 listed 1 sends 3"
    ∷ codes "6 controller takes 1 listed 1"
    ∷ codes "7 controller orders 2 fence k sends 4"
    ∷ codes "8 switch 0 applies 2 fenced 2 sends 5..6"
    ∷ codes "9 server 2 fences k version 2 from 0 sends 7"
    ∷ codes "10 switch 0 notes server 2 version 2 kept"
    ∷ codes "11 server 2 voids k version 1 under 2 sends 8"
    ∷ codes "12 switch 0 voids client 0 seq 1 version 1"
    ∷ codes "13 resend 0 seq 1 sends 9"
    ∷ codes "14 switch 0 forwards write k version 3 to server 0 sends 10"
    ∷ codes "15 server 0 applies k version 3 sends 11"
    ∷ codes "16 switch 0 answers client 0 seq 1 version 3 raised sends 12"
    ∷ codes "17 client 0 answered 1 version 3"
    ∷ codes "18 switch 0 skips void of client 0 seq 1"
    ∷ codes "19 end"
    ∷ codes "history 1"
    ∷ codes "op 0 client 0 write k =x issued 2 answered 17"
    ∷ codes "order k 1"
    ∷ codes "at 0"
    ∷ codes "done"
    ∷ []
    )
unfolding
    digits servers_from servers_of spelling in_range packet_of state_bytes state_of server_step
    client_step controller_step switch_step happens run order_of said_text voided_events
voided_trace = refl

-- a key that nobody writes any more is copied
unfoldable pub copied_quietly_events : List Event
copied_quietly_events =
    Write 0 (codes "k") (codes "x") ∷ Deliver 0 0 ∷ Deliver 1 0 ∷ GiveUp 0 ∷ Promote (codes "k")
    ∷ Deliver 3 0 ∷ Deliver 4 0 ∷ Fence (codes "k") ∷ Deliver 5 0 ∷ Deliver 6 0 ∷ Deliver 8 0
    ∷ Deliver 7 0 ∷ Copy (codes "k") 0 ∷ Deliver 9 0 ∷ Deliver 10 0 ∷ Deliver 12 0 ∷ Deliver 13 0
    ∷ Read 1 (codes "k") ∷ Deliver 14 0 ∷ Deliver 15 0 ∷ Deliver 16 0 ∷ Deliver 17 0 ∷ []

copied_quietly_schedule : is_schedule (rack_with One 3 2 2 4 4 1) [] copied_quietly_events (
    codes "rack servers=3 clients=2 switches=2 listed=4 hot=4 first=1"
    ∷ codes "write 0 k =x"
    ∷ codes "deliver 0"
    ∷ codes "deliver 1"
    ∷ codes "giveup 0"
    ∷ codes "promote k"
    ∷ codes "deliver 3"
    ∷ codes "deliver 4"
    ∷ codes "fence k"
    ∷ codes "deliver 5"
    ∷ codes "deliver 6"
    ∷ codes "deliver 8"
    ∷ codes "deliver 7"
    ∷ codes "copy k 0"
    ∷ codes "deliver 9"
    ∷ codes "deliver 10"
    ∷ codes "deliver 12"
    ∷ codes "deliver 13"
    ∷ codes "read 1 k"
    ∷ codes "deliver 14 0"
    ∷ codes "deliver 15"
    ∷ codes "deliver 16"
    ∷ codes "deliver 17"
    ∷ []
    ) ≡ true
unfolding digits copied_quietly_events
copied_quietly_schedule = refl

copied_quietly_trace :
    replay_text (rack_with One 3 2 2 4 4 1) [] copied_quietly_events ≡ lines (
    codes "1 rack"
    ∷ codes "2 write 0 seq 1 sends 0"
    ∷ codes "3 switch 0 forwards write k version 1 to server 2 sends 1"
    ∷ codes "4 server 2 applies k version 1 sends 2"
    ∷ codes "5 giveup 0 seq 1"
    ∷ codes "6 controller orders 1 promote k sends 3"
    ∷ codes "7 switch 0 applies 1 listed 1 sends 4"
    ∷ codes "8 controller takes 1 listed 1"
    ∷ codes "9 controller orders 2 fence k sends 5"
    ∷ codes "10 switch 0 applies 2 fenced 2 sends 6..7"
    ∷ codes "11 server 2 fences k version 2 from 1 sends 8"
    ∷ codes "12 switch 0 notes server 2 version 2 kept"
    ∷ codes "13 controller takes 2 fenced 2"
    ∷ codes "14 controller orders 3 copy k to server 0 sends 9"
    ∷ codes "15 switch 0 applies 3 ordered 2 sends 10..11"
    ∷ codes "16 server 2 copies k version 2 to server 0 sends 12"
    ∷ codes "17 server 0 applies k version 2 sends 13"
    ∷ codes "18 switch 0 notes server 0 version 2 added"
    ∷ codes "19 read 1 seq 1 sends 14"
    ∷ codes "20 switch 0 forwards read k to server 0 sends 15"
    ∷ codes "21 server 0 reads k version 2 sends 16"
    ∷ codes "22 switch 0 answers client 1 seq 1 version 2 kept sends 17"
    ∷ codes "23 client 1 answered 1 version 2 =x"
    ∷ codes "24 end"
    ∷ codes "history 2"
    ∷ codes "op 0 client 0 write k =x issued 2 open"
    ∷ codes "op 1 client 1 read k issued 19 answered 23 =x"
    ∷ codes "order k 2"
    ∷ codes "at 0"
    ∷ codes "at 1"
    ∷ codes "done"
    ∷ []
    )
unfolding
    digits servers_from servers_of spelling in_range packet_of state_bytes state_of server_step
    client_step controller_step switch_step happens run order_of said_text copied_quietly_events
copied_quietly_trace = refl
