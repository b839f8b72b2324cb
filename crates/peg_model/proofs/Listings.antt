-- Runs with listed keys: promotions, demotions, copies, counts and plans. Each is a schedule and
-- its whole trace.
use Rattle.std.specs.Prelude.{◌≡◌, true, List, [], ◌∷◌, refl, codes}
use Rattle.std.specs.Fmt.{digits}
use Rattle.peg_name.specs.Holders.{servers_from, servers_of}
use Rattle.peg_name.specs.declared.Format.TheVariants.{One}
use Rattle.peg_event.specs.declared.Event.{Event}
use Rattle.peg_event.specs.declared.Event.TheVariants.{Read, Write, Resend, GiveUp, Deliver}
use Rattle.peg_event.specs.declared.Event.TheVariants.{Promote, Demote, Copy, Clear, Retry, Survey}
use Rattle.peg_event.specs.declared.Event.TheVariants.{Plan}
use Rattle.peg_model.specs.Packet.{in_range, spelling}
use Rattle.peg_model.specs.Reading.{packet_of}
use Rattle.peg_model.specs.Handover.{state_bytes, state_of}
use Rattle.peg_model.specs.Server.{server_step}
use Rattle.peg_model.specs.Client.{client_step}
use Rattle.peg_model.specs.Controller.{controller_step}
use Rattle.peg_model.specs.Switch.{switch_step}
use Rattle.peg_model.specs.World.{happens, run}
use Rattle.peg_model.specs.Order.{order_of}
use Rattle.peg_model.specs.Trace.{said_text, replay_text}
use Rattle.peg_model.proofs.Computed.{rack_with, lines, is_schedule}

-- a write and a read of a listed key
unfoldable pub listed_events : List Event
listed_events =
    Write 0 (codes "k") (codes "x") ∷ Deliver 0 0 ∷ Deliver 1 0 ∷ Deliver 2 0 ∷ Deliver 3 0
    ∷ Read 1 (codes "k") ∷ Deliver 4 5 ∷ Deliver 5 0 ∷ Deliver 6 0 ∷ Deliver 7 0 ∷ []

listed_schedule : is_schedule (rack_with One 3 2 2 4 4 1) ((codes "k") ∷ []) listed_events (
    codes "rack servers=3 clients=2 switches=2 listed=4 hot=4 first=1 +k"
    ∷ codes "write 0 k =x"
    ∷ codes "deliver 0 0"
    ∷ codes "deliver 1"
    ∷ codes "deliver 2"
    ∷ codes "deliver 3"
    ∷ codes "read 1 k"
    ∷ codes "deliver 4 5"
    ∷ codes "deliver 5"
    ∷ codes "deliver 6"
    ∷ codes "deliver 7"
    ∷ []
    ) ≡ true
unfolding digits listed_events
listed_schedule = refl

listed_trace :
    replay_text (rack_with One 3 2 2 4 4 1) ((codes "k") ∷ []) listed_events ≡ lines (
    codes "1 rack"
    ∷ codes "2 write 0 seq 1 sends 0"
    ∷ codes "3 switch 0 forwards write k version 1 to server 0 sends 1"
    ∷ codes "4 server 0 applies k version 1 sends 2"
    ∷ codes "5 switch 0 answers client 0 seq 1 version 1 raised sends 3"
    ∷ codes "6 client 0 answered 1 version 1"
    ∷ codes "7 read 1 seq 1 sends 4"
    ∷ codes "8 switch 0 forwards read k to server 0 sends 5"
    ∷ codes "9 server 0 reads k version 1 sends 6"
    ∷ codes "10 switch 0 answers client 1 seq 1 version 1 kept sends 7"
    ∷ codes "11 client 1 answered 1 version 1 =x"
    ∷ codes "12 end"
    ∷ codes "history 2"
    ∷ codes "op 0 client 0 write k =x issued 2 answered 6"
    ∷ codes "op 1 client 1 read k issued 7 answered 11 =x"
    ∷ codes "order k 2"
    ∷ codes "at 0"
    ∷ codes "at 1"
    ∷ codes "done"
    ∷ []
    )
unfolding
    digits servers_from servers_of spelling in_range packet_of state_bytes state_of server_step
    client_step controller_step switch_step happens run order_of said_text listed_events
listed_trace = refl

-- a copy to a further holder
unfoldable pub copied_events : List Event
copied_events =
    Write 0 (codes "k") (codes "x") ∷ Deliver 0 0 ∷ Deliver 1 0 ∷ Deliver 2 0 ∷ Deliver 3 0
    ∷ Copy (codes "k") 1 ∷ Deliver 4 0 ∷ Deliver 5 0 ∷ Deliver 7 0 ∷ Deliver 8 0 ∷ Deliver 6 0
    ∷ Read 0 (codes "k") ∷ Deliver 9 0 ∷ Deliver 9 1 ∷ Deliver 11 0 ∷ Deliver 12 0 ∷ Deliver 13 0
    ∷ []

copied_schedule : is_schedule (rack_with One 3 2 2 4 4 1) ((codes "k") ∷ []) copied_events (
    codes "rack servers=3 clients=2 switches=2 listed=4 hot=4 first=1 +k"
    ∷ codes "write 0 k =x"
    ∷ codes "deliver 0 0"
    ∷ codes "deliver 1"
    ∷ codes "deliver 2"
    ∷ codes "deliver 3"
    ∷ codes "copy k 1"
    ∷ codes "deliver 4"
    ∷ codes "deliver 5"
    ∷ codes "deliver 7"
    ∷ codes "deliver 8"
    ∷ codes "deliver 6"
    ∷ codes "read 0 k"
    ∷ codes "deliver 9 0"
    ∷ codes "deliver 9 1"
    ∷ codes "deliver 11"
    ∷ codes "deliver 12"
    ∷ codes "deliver 13"
    ∷ []
    ) ≡ true
unfolding digits copied_events
copied_schedule = refl

copied_trace :
    replay_text (rack_with One 3 2 2 4 4 1) ((codes "k") ∷ []) copied_events ≡ lines (
    codes "1 rack"
    ∷ codes "2 write 0 seq 1 sends 0"
    ∷ codes "3 switch 0 forwards write k version 1 to server 0 sends 1"
    ∷ codes "4 server 0 applies k version 1 sends 2"
    ∷ codes "5 switch 0 answers client 0 seq 1 version 1 raised sends 3"
    ∷ codes "6 client 0 answered 1 version 1"
    ∷ codes "7 controller orders 1 copy k to server 1 sends 4"
    ∷ codes "8 switch 0 applies 1 ordered 0 sends 5..6"
    ∷ codes "9 server 0 copies k version 1 to server 1 sends 7"
    ∷ codes "10 server 1 applies k version 1 sends 8"
    ∷ codes "11 switch 0 notes server 1 version 1 added"
    ∷ codes "12 controller takes 1 ordered 0"
    ∷ codes "13 read 0 seq 2 sends 9"
    ∷ codes "14 switch 0 forwards read k to server 0 sends 10"
    ∷ codes "15 switch 0 forwards read k to server 1 sends 11"
    ∷ codes "16 server 1 reads k version 1 sends 12"
    ∷ codes "17 switch 0 answers client 0 seq 2 version 1 kept sends 13"
    ∷ codes "18 client 0 answered 2 version 1 =x"
    ∷ codes "19 end"
    ∷ codes "history 2"
    ∷ codes "op 0 client 0 write k =x issued 2 answered 6"
    ∷ codes "op 1 client 0 read k issued 13 answered 18 =x"
    ∷ codes "order k 2"
    ∷ codes "at 0"
    ∷ codes "at 1"
    ∷ codes "done"
    ∷ []
    )
unfolding
    digits servers_from servers_of spelling in_range packet_of state_bytes state_of server_step
    client_step controller_step switch_step happens run order_of said_text copied_events
copied_trace = refl

-- an old reply after a newer one
unfoldable pub old_reply_events : List Event
old_reply_events =
    Write 0 (codes "k") (codes "x") ∷ Deliver 0 0 ∷ Deliver 1 0 ∷ Deliver 2 0 ∷ Deliver 3 0
    ∷ Write 0 (codes "k") (codes "y") ∷ Deliver 4 1 ∷ Deliver 5 0 ∷ Deliver 6 0 ∷ Deliver 2 0
    ∷ Deliver 8 0 ∷ Read 1 (codes "k") ∷ Deliver 9 7 ∷ Deliver 7 0 ∷ []

old_reply_schedule :
    is_schedule (rack_with One 3 2 2 4 4 1) ((codes "k") ∷ []) old_reply_events (
    codes "rack servers=3 clients=2 switches=2 listed=4 hot=4 first=1 +k"
    ∷ codes "write 0 k =x"
    ∷ codes "deliver 0 0"
    ∷ codes "deliver 1"
    ∷ codes "deliver 2"
    ∷ codes "deliver 3"
    ∷ codes "write 0 k =y"
    ∷ codes "deliver 4 1"
    ∷ codes "deliver 5"
    ∷ codes "deliver 6"
    ∷ codes "deliver 2"
    ∷ codes "deliver 8"
    ∷ codes "read 1 k"
    ∷ codes "deliver 9 7"
    ∷ codes "deliver 7"
    ∷ []
    ) ≡ true
unfolding digits old_reply_events
old_reply_schedule = refl

old_reply_trace :
    replay_text (rack_with One 3 2 2 4 4 1) ((codes "k") ∷ []) old_reply_events ≡ lines (
    codes "1 rack"
    ∷ codes "2 write 0 seq 1 sends 0"
    ∷ codes "3 switch 0 forwards write k version 1 to server 0 sends 1"
    ∷ codes "4 server 0 applies k version 1 sends 2"
    ∷ codes "5 switch 0 answers client 0 seq 1 version 1 raised sends 3"
    ∷ codes "6 client 0 answered 1 version 1"
    ∷ codes "7 write 0 seq 2 sends 4"
    ∷ codes "8 switch 0 forwards write k version 2 to server 1 sends 5"
    ∷ codes "9 server 1 applies k version 2 sends 6"
    ∷ codes "10 switch 0 answers client 0 seq 2 version 2 raised sends 7"
    ∷ codes "11 switch 0 answers client 0 seq 1 version 1 kept sends 8"
    ∷ codes "12 client 0 ignores"
    ∷ codes "13 read 1 seq 1 sends 9"
    ∷ codes "14 switch 0 forwards read k to server 1 sends 10"
    ∷ codes "15 client 0 answered 2 version 2"
    ∷ codes "16 end"
    ∷ codes "history 3"
    ∷ codes "op 0 client 0 write k =x issued 2 answered 6"
    ∷ codes "op 1 client 0 write k =y issued 7 answered 15"
    ∷ codes "op 2 client 1 read k issued 13 open"
    ∷ codes "order k 2"
    ∷ codes "at 0"
    ∷ codes "at 1"
    ∷ codes "done"
    ∷ []
    )
unfolding
    digits servers_from servers_of spelling in_range packet_of state_bytes state_of server_step
    client_step controller_step switch_step happens run order_of said_text old_reply_events
old_reply_trace = refl

-- a write stamped before a promotion and sent again after it goes home
unfoldable pub goes_home_events : List Event
goes_home_events =
    Write 0 (codes "k") (codes "x") ∷ Deliver 0 0 ∷ Promote (codes "k") ∷ Deliver 2 0 ∷ Deliver 3 0
    ∷ Resend 0 ∷ Deliver 4 0 ∷ Deliver 5 0 ∷ Deliver 6 0 ∷ Deliver 7 0 ∷ Read 1 (codes "k")
    ∷ Deliver 8 0 ∷ Deliver 9 0 ∷ Deliver 10 0 ∷ Deliver 11 0 ∷ []

goes_home_schedule : is_schedule (rack_with One 3 2 2 4 4 1) [] goes_home_events (
    codes "rack servers=3 clients=2 switches=2 listed=4 hot=4 first=1"
    ∷ codes "write 0 k =x"
    ∷ codes "deliver 0"
    ∷ codes "promote k"
    ∷ codes "deliver 2"
    ∷ codes "deliver 3"
    ∷ codes "resend 0"
    ∷ codes "deliver 4 0"
    ∷ codes "deliver 5"
    ∷ codes "deliver 6"
    ∷ codes "deliver 7"
    ∷ codes "read 1 k"
    ∷ codes "deliver 8"
    ∷ codes "deliver 9"
    ∷ codes "deliver 10"
    ∷ codes "deliver 11"
    ∷ []
    ) ≡ true
unfolding digits goes_home_events
goes_home_schedule = refl

goes_home_trace : replay_text (rack_with One 3 2 2 4 4 1) [] goes_home_events ≡ lines (
    codes "1 rack"
    ∷ codes "2 write 0 seq 1 sends 0"
    ∷ codes "3 switch 0 forwards write k version 1 to server 2 sends 1"
    ∷ codes "4 controller orders 1 promote k sends 2"
    ∷ codes "5 switch 0 applies 1 listed 1 sends 3"
    ∷ codes "6 controller takes 1 listed 1"
    ∷ codes "7 resend 0 seq 1 sends 4"
    ∷ codes "8 switch 0 forwards write k version 1 to server 2 sends 5"
    ∷ codes "9 server 2 applies k version 1 sends 6"
    ∷ codes "10 switch 0 answers client 0 seq 1 version 1 kept sends 7"
    ∷ codes "11 client 0 answered 1 version 1"
    ∷ codes "12 read 1 seq 1 sends 8"
    ∷ codes "13 switch 0 forwards read k to server 2 sends 9"
    ∷ codes "14 server 2 reads k version 1 sends 10"
    ∷ codes "15 switch 0 answers client 1 seq 1 version 1 kept sends 11"
    ∷ codes "16 client 1 answered 1 version 1 =x"
    ∷ codes "17 end"
    ∷ codes "history 2"
    ∷ codes "op 0 client 0 write k =x issued 2 answered 11"
    ∷ codes "op 1 client 1 read k issued 12 answered 16 =x"
    ∷ codes "order k 2"
    ∷ codes "at 0"
    ∷ codes "at 1"
    ∷ codes "done"
    ∷ []
    )
unfolding
    digits servers_from servers_of spelling in_range packet_of state_bytes state_of server_step
    client_step controller_step switch_step happens run order_of said_text goes_home_events
goes_home_trace = refl

-- a demotion, ended by a reply of the home server
unfoldable pub demoted_events : List Event
demoted_events =
    Demote (codes "k") ∷ Deliver 0 0 ∷ Deliver 1 0 ∷ Read 0 (codes "k") ∷ Deliver 2 0 ∷ Deliver 3 0
    ∷ Deliver 4 0 ∷ Deliver 5 0 ∷ Write 1 (codes "k") (codes "x") ∷ Deliver 6 0 ∷ Deliver 7 0
    ∷ Deliver 8 0 ∷ Deliver 9 0 ∷ []

demoted_schedule : is_schedule (rack_with One 3 2 2 4 4 1) ((codes "k") ∷ []) demoted_events (
    codes "rack servers=3 clients=2 switches=2 listed=4 hot=4 first=1 +k"
    ∷ codes "demote k"
    ∷ codes "deliver 0"
    ∷ codes "deliver 1"
    ∷ codes "read 0 k"
    ∷ codes "deliver 2"
    ∷ codes "deliver 3"
    ∷ codes "deliver 4"
    ∷ codes "deliver 5"
    ∷ codes "write 1 k =x"
    ∷ codes "deliver 6 0"
    ∷ codes "deliver 7"
    ∷ codes "deliver 8"
    ∷ codes "deliver 9"
    ∷ []
    ) ≡ true
unfolding digits demoted_events
demoted_schedule = refl

demoted_trace :
    replay_text (rack_with One 3 2 2 4 4 1) ((codes "k") ∷ []) demoted_events ≡ lines (
    codes "1 rack"
    ∷ codes "2 controller orders 1 demote k sends 0"
    ∷ codes "3 switch 0 applies 1 marked 1 sends 1"
    ∷ codes "4 controller takes 1 marked 1"
    ∷ codes "5 read 0 seq 1 sends 2"
    ∷ codes "6 switch 0 forwards read k to server 2 sends 3"
    ∷ codes "7 server 2 reads k version 0 sends 4"
    ∷ codes "8 switch 0 answers client 0 seq 1 version 0 kept sends 5"
    ∷ codes "9 client 0 answered 1 version 0 -"
    ∷ codes "10 write 1 seq 1 sends 6"
    ∷ codes "11 switch 0 forwards write k version 1 to server 2 sends 7"
    ∷ codes "12 server 2 applies k version 1 sends 8"
    ∷ codes "13 switch 0 answers client 1 seq 1 version 1 removed 0 sends 9"
    ∷ codes "14 client 1 answered 1 version 1"
    ∷ codes "15 end"
    ∷ codes "history 2"
    ∷ codes "op 0 client 0 read k issued 5 answered 9 -"
    ∷ codes "op 1 client 1 write k =x issued 10 answered 14"
    ∷ codes "order k 2"
    ∷ codes "at 0"
    ∷ codes "at 1"
    ∷ codes "done"
    ∷ []
    )
unfolding
    digits servers_from servers_of spelling in_range packet_of state_bytes state_of server_step
    client_step controller_step switch_step happens run order_of said_text demoted_events
demoted_trace = refl

-- a read in flight across a demotion
unfoldable pub across_events : List Event
across_events =
    Write 0 (codes "k") (codes "x") ∷ Deliver 0 0 ∷ Deliver 1 0 ∷ Deliver 2 0 ∷ Deliver 3 0
    ∷ Read 1 (codes "k") ∷ Deliver 4 0 ∷ Demote (codes "k") ∷ Deliver 6 0
    ∷ Write 0 (codes "k") (codes "y") ∷ Deliver 8 0 ∷ Deliver 9 0 ∷ Deliver 10 0 ∷ Deliver 11 0
    ∷ Deliver 5 0 ∷ Deliver 12 0 ∷ Deliver 13 0 ∷ []

across_schedule : is_schedule (rack_with One 3 2 2 4 4 1) ((codes "k") ∷ []) across_events (
    codes "rack servers=3 clients=2 switches=2 listed=4 hot=4 first=1 +k"
    ∷ codes "write 0 k =x"
    ∷ codes "deliver 0 0"
    ∷ codes "deliver 1"
    ∷ codes "deliver 2"
    ∷ codes "deliver 3"
    ∷ codes "read 1 k"
    ∷ codes "deliver 4"
    ∷ codes "demote k"
    ∷ codes "deliver 6"
    ∷ codes "write 0 k =y"
    ∷ codes "deliver 8"
    ∷ codes "deliver 9"
    ∷ codes "deliver 10"
    ∷ codes "deliver 11"
    ∷ codes "deliver 5"
    ∷ codes "deliver 12"
    ∷ codes "deliver 13"
    ∷ []
    ) ≡ true
unfolding digits across_events
across_schedule = refl

across_trace :
    replay_text (rack_with One 3 2 2 4 4 1) ((codes "k") ∷ []) across_events ≡ lines (
    codes "1 rack"
    ∷ codes "2 write 0 seq 1 sends 0"
    ∷ codes "3 switch 0 forwards write k version 1 to server 0 sends 1"
    ∷ codes "4 server 0 applies k version 1 sends 2"
    ∷ codes "5 switch 0 answers client 0 seq 1 version 1 raised sends 3"
    ∷ codes "6 client 0 answered 1 version 1"
    ∷ codes "7 read 1 seq 1 sends 4"
    ∷ codes "8 switch 0 forwards read k to server 0 sends 5"
    ∷ codes "9 controller orders 1 demote k sends 6"
    ∷ codes "10 switch 0 applies 1 marked 2 sends 7"
    ∷ codes "11 write 0 seq 2 sends 8"
    ∷ codes "12 switch 0 forwards write k version 2 to server 2 sends 9"
    ∷ codes "13 server 2 applies k version 2 sends 10"
    ∷ codes "14 switch 0 answers client 0 seq 2 version 2 removed 0 sends 11"
    ∷ codes "15 client 0 answered 2 version 2"
    ∷ codes "16 server 0 reads k version 1 sends 12"
    ∷ codes "17 switch 0 answers client 1 seq 1 version 1 unlisted sends 13"
    ∷ codes "18 client 1 answered 1 version 1 =x"
    ∷ codes "19 end"
    ∷ codes "history 3"
    ∷ codes "op 0 client 0 write k =x issued 2 answered 6"
    ∷ codes "op 1 client 1 read k issued 7 answered 18 =x"
    ∷ codes "op 2 client 0 write k =y issued 11 answered 15"
    ∷ codes "order k 3"
    ∷ codes "at 0"
    ∷ codes "at 1"
    ∷ codes "at 2"
    ∷ codes "done"
    ∷ []
    )
unfolding
    digits servers_from servers_of spelling in_range packet_of state_bytes state_of server_step
    client_step controller_step switch_step happens run order_of said_text across_events
across_trace = refl

-- commands that come again, and late
unfoldable pub again_events : List Event
again_events =
    Promote (codes "k") ∷ Deliver 0 0 ∷ Deliver 1 0 ∷ Deliver 0 0 ∷ Demote (codes "k")
    ∷ Deliver 3 0 ∷ Deliver 0 0 ∷ Deliver 2 0 ∷ Promote (codes "k") ∷ Deliver 4 0 ∷ []

again_schedule : is_schedule (rack_with One 3 2 2 4 4 1) [] again_events (
    codes "rack servers=3 clients=2 switches=2 listed=4 hot=4 first=1"
    ∷ codes "promote k"
    ∷ codes "deliver 0"
    ∷ codes "deliver 1"
    ∷ codes "deliver 0"
    ∷ codes "demote k"
    ∷ codes "deliver 3"
    ∷ codes "deliver 0"
    ∷ codes "deliver 2"
    ∷ codes "promote k"
    ∷ codes "deliver 4"
    ∷ []
    ) ≡ true
unfolding digits again_events
again_schedule = refl

again_trace : replay_text (rack_with One 3 2 2 4 4 1) [] again_events ≡ lines (
    codes "1 rack"
    ∷ codes "2 controller orders 1 promote k sends 0"
    ∷ codes "3 switch 0 applies 1 listed 1 sends 1"
    ∷ codes "4 controller takes 1 listed 1"
    ∷ codes "5 switch 0 repeats 1 sends 2"
    ∷ codes "6 controller orders 2 demote k sends 3"
    ∷ codes "7 switch 0 applies 2 marked 2 sends 4"
    ∷ codes "8 switch 0 skips 1 at 2"
    ∷ codes "9 controller ignores"
    ∷ codes "10 controller busy 2"
    ∷ codes "11 controller takes 2 marked 2"
    ∷ codes "12 end"
    ∷ codes "history 0"
    ∷ codes "done"
    ∷ []
    )
unfolding
    digits servers_from servers_of spelling in_range packet_of state_bytes state_of server_step
    client_step controller_step switch_step happens run order_of said_text again_events
again_trace = refl

-- a directory with no room
unfoldable pub full_events : List Event
full_events =
    Promote (codes "a") ∷ Deliver 0 0 ∷ []

full_schedule : is_schedule (rack_with One 3 2 2 1 4 1) ((codes "k") ∷ []) full_events (
    codes "rack servers=3 clients=2 switches=2 listed=1 hot=4 first=1 +k"
    ∷ codes "promote a"
    ∷ codes "deliver 0"
    ∷ []
    ) ≡ true
unfolding digits full_events
full_schedule = refl

full_trace : replay_text (rack_with One 3 2 2 1 4 1) ((codes "k") ∷ []) full_events ≡ lines (
    codes "1 rack"
    ∷ codes "2 controller orders 1 promote a sends 0"
    ∷ codes "3 switch 0 applies 1 full 1 sends 1"
    ∷ codes "4 end"
    ∷ codes "history 0"
    ∷ codes "done"
    ∷ []
    )
unfolding
    digits servers_from servers_of spelling in_range packet_of state_bytes state_of server_step
    client_step controller_step switch_step happens run order_of said_text full_events
full_trace = refl

-- counts, a report and a plan
unfoldable pub planned_events : List Event
planned_events =
    Read 0 (codes "k") ∷ Deliver 0 0 ∷ Deliver 0 0 ∷ Deliver 0 0 ∷ Read 1 (codes "a") ∷ Deliver 4 0
    ∷ GiveUp 1 ∷ Read 1 (codes "c") ∷ Deliver 6 0 ∷ Survey ∷ Deliver 8 0 ∷ Plan 3 1 ∷ Deliver 9 0
    ∷ Plan 3 1 ∷ Deliver 10 0 ∷ Deliver 11 0 ∷ Clear ∷ Deliver 12 0 ∷ []

planned_schedule : is_schedule (rack_with One 3 2 1 4 2 1) [] planned_events (
    codes "rack servers=3 clients=2 switches=1 listed=4 hot=2 first=1"
    ∷ codes "read 0 k"
    ∷ codes "deliver 0"
    ∷ codes "deliver 0"
    ∷ codes "deliver 0"
    ∷ codes "read 1 a"
    ∷ codes "deliver 4"
    ∷ codes "giveup 1"
    ∷ codes "read 1 c"
    ∷ codes "deliver 6"
    ∷ codes "survey"
    ∷ codes "deliver 8"
    ∷ codes "plan 3 1"
    ∷ codes "deliver 9"
    ∷ codes "plan 3 1"
    ∷ codes "deliver 10"
    ∷ codes "deliver 11"
    ∷ codes "clear"
    ∷ codes "deliver 12"
    ∷ []
    ) ≡ true
unfolding digits planned_events
planned_schedule = refl

planned_trace : replay_text (rack_with One 3 2 1 4 2 1) [] planned_events ≡ lines (
    codes "1 rack"
    ∷ codes "2 read 0 seq 1 sends 0"
    ∷ codes "3 switch 0 forwards read k to server 2 sends 1"
    ∷ codes "4 switch 0 forwards read k to server 2 sends 2"
    ∷ codes "5 switch 0 forwards read k to server 2 sends 3"
    ∷ codes "6 read 1 seq 1 sends 4"
    ∷ codes "7 switch 0 forwards read a to server 1 sends 5"
    ∷ codes "8 giveup 1 seq 1"
    ∷ codes "9 read 1 seq 2 sends 6"
    ∷ codes "10 switch 0 forwards read c to server 0 sends 7"
    ∷ codes "11 controller surveys sends 8"
    ∷ codes "12 switch 0 reports 2 rows sends 9"
    ∷ codes "13 controller has no report"
    ∷ codes "14 controller has report of 2 rows"
    ∷ codes "15 controller plans 0 demote 1 promote sends 10"
    ∷ codes "16 switch 0 applies 1 listed 1 sends 11"
    ∷ codes "17 controller takes 1 listed 1"
    ∷ codes "18 controller orders 2 clear sends 12"
    ∷ codes "19 switch 0 applies 2 cleared sends 13"
    ∷ codes "20 end"
    ∷ codes "history 3"
    ∷ codes "op 0 client 0 read k issued 2 open"
    ∷ codes "op 1 client 1 read a issued 6 open"
    ∷ codes "op 2 client 1 read c issued 9 open"
    ∷ codes "order k 0"
    ∷ codes "order a 0"
    ∷ codes "order c 0"
    ∷ codes "done"
    ∷ []
    )
unfolding
    digits servers_from servers_of spelling in_range packet_of state_bytes state_of server_step
    client_step controller_step switch_step happens run order_of said_text planned_events
planned_trace = refl

-- announcements, and commands that are sent again
unfoldable pub retried_events : List Event
retried_events =
    Retry ∷ Deliver 0 0 ∷ Promote (codes "k") ∷ Retry ∷ Deliver 2 0 ∷ Deliver 1 0 ∷ Deliver 3 0
    ∷ Deliver 4 0 ∷ Demote (codes "a") ∷ Deliver 5 0 ∷ Promote (codes "k") ∷ Deliver 6 0
    ∷ Promote (codes "k") ∷ Deliver 7 0 ∷ Deliver 8 0 ∷ []

retried_schedule : is_schedule (rack_with One 3 1 2 1 1 1) [] retried_events (
    codes "rack servers=3 clients=1 switches=2 listed=1 hot=1 first=1"
    ∷ codes "retry"
    ∷ codes "deliver 0"
    ∷ codes "promote k"
    ∷ codes "retry"
    ∷ codes "deliver 2"
    ∷ codes "deliver 1"
    ∷ codes "deliver 3"
    ∷ codes "deliver 4"
    ∷ codes "demote a"
    ∷ codes "deliver 5"
    ∷ codes "promote k"
    ∷ codes "deliver 6"
    ∷ codes "promote k"
    ∷ codes "deliver 7"
    ∷ codes "deliver 8"
    ∷ []
    ) ≡ true
unfolding digits retried_events
retried_schedule = refl

retried_trace : replay_text (rack_with One 3 1 2 1 1 1) [] retried_events ≡ lines (
    codes "1 rack"
    ∷ codes "2 controller announces epoch 1 sends 0"
    ∷ codes "3 client 0 ignores"
    ∷ codes "4 controller orders 1 promote k sends 1"
    ∷ codes "5 controller retries 1 sends 2"
    ∷ codes "6 switch 0 applies 1 listed 1 sends 3"
    ∷ codes "7 switch 0 repeats 1 sends 4"
    ∷ codes "8 controller takes 1 listed 1"
    ∷ codes "9 controller ignores"
    ∷ codes "10 controller orders 2 demote a sends 5"
    ∷ codes "11 switch 0 applies 2 not listed sends 6"
    ∷ codes "12 controller busy 2"
    ∷ codes "13 controller takes 2 not listed"
    ∷ codes "14 controller orders 3 promote k sends 7"
    ∷ codes "15 switch 0 applies 3 already 1 sends 8"
    ∷ codes "16 controller takes 3 already 1"
    ∷ codes "17 end"
    ∷ codes "history 0"
    ∷ codes "done"
    ∷ []
    )
unfolding
    digits servers_from servers_of spelling in_range packet_of state_bytes state_of server_step
    client_step controller_step switch_step happens run order_of said_text retried_events
retried_trace = refl

-- copies that are not needed, and of nothing
unfoldable pub needless_events : List Event
needless_events =
    Copy (codes "k") 2 ∷ Deliver 0 0 ∷ Deliver 1 0 ∷ Copy (codes "k") 0 ∷ Deliver 2 0 ∷ Deliver 3 0
    ∷ Deliver 4 0 ∷ Copy (codes "a") 0 ∷ Deliver 5 0 ∷ Copy (codes "k") 3 ∷ Deliver 6 0
    ∷ Copy (codes "k") 3 ∷ []

needless_schedule : is_schedule (rack_with One 3 2 2 4 4 1) ((codes "k") ∷ []) needless_events (
    codes "rack servers=3 clients=2 switches=2 listed=4 hot=4 first=1 +k"
    ∷ codes "copy k 2"
    ∷ codes "deliver 0"
    ∷ codes "deliver 1"
    ∷ codes "copy k 0"
    ∷ codes "deliver 2"
    ∷ codes "deliver 3"
    ∷ codes "deliver 4"
    ∷ codes "copy a 0"
    ∷ codes "deliver 5"
    ∷ codes "copy k 3"
    ∷ codes "deliver 6"
    ∷ codes "copy k 3"
    ∷ []
    ) ≡ true
unfolding digits needless_events
needless_schedule = refl

needless_trace :
    replay_text (rack_with One 3 2 2 4 4 1) ((codes "k") ∷ []) needless_events ≡ lines (
    codes "1 rack"
    ∷ codes "2 controller orders 1 copy k to server 2 sends 0"
    ∷ codes "3 switch 0 applies 1 holds sends 1"
    ∷ codes "4 controller takes 1 holds"
    ∷ codes "5 controller orders 2 copy k to server 0 sends 2"
    ∷ codes "6 switch 0 applies 2 ordered 2 sends 3..4"
    ∷ codes "7 server 2 has no k"
    ∷ codes "8 controller takes 2 ordered 2"
    ∷ codes "9 controller orders 3 copy a to server 0 sends 5"
    ∷ codes "10 switch 0 applies 3 not listed sends 6"
    ∷ codes "11 controller busy 3"
    ∷ codes "12 controller takes 3 not listed"
    ∷ codes "13 controller no such 3"
    ∷ codes "14 end"
    ∷ codes "history 0"
    ∷ codes "done"
    ∷ []
    )
unfolding
    digits servers_from servers_of spelling in_range packet_of state_bytes state_of server_step
    client_step controller_step switch_step happens run order_of said_text needless_events
needless_trace = refl
