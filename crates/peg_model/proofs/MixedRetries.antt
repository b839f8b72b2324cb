-- Random runs with repeats, resends and plans. An independent model of the same rules, in another
-- language, gave the text of each.
use Rattle.std.specs.Prelude.{◌≡◌, List, [], ◌∷◌, ◌++◌, refl, codes, replicate}
use Rattle.std.specs.Fmt.{digits}
use Rattle.peg_name.specs.Holders.{servers_from, servers_of}
use Rattle.peg_name.specs.declared.Format.TheVariants.{One, Two}
use Rattle.peg_event.specs.declared.Event.{Event}
use Rattle.peg_event.specs.declared.Event.TheVariants.{Read, Write, Delete, Resend, GiveUp}
use Rattle.peg_event.specs.declared.Event.TheVariants.{Deliver, Promote, Demote, Copy, Fence}
use Rattle.peg_event.specs.declared.Event.TheVariants.{Clear, Survey, Plan}
use Rattle.peg_model.specs.Packet.{in_range, spelling}
use Rattle.peg_model.specs.Reading.{packet_of}
use Rattle.peg_model.specs.Handover.{state_bytes, state_of}
use Rattle.peg_model.specs.Server.{server_step}
use Rattle.peg_model.specs.Client.{client_step}
use Rattle.peg_model.specs.Controller.{controller_step}
use Rattle.peg_model.specs.Switch.{switch_step}
use Rattle.peg_model.specs.World.{happens, run}
use Rattle.peg_model.specs.Order.{order_of}
use Rattle.peg_model.specs.Trace.{said_text, replay_text}
use Rattle.peg_model.proofs.Computed.{rack_with, lines}

-- packets that come again, in format 1
unfoldable pub repeats_one_events : List Event
repeats_one_events =
    Promote (codes "%") ∷ Deliver 0 2 ∷ Deliver 1 3 ∷ Deliver 1 0 ∷ Deliver 0 2 ∷ Deliver 2 5
    ∷ Deliver 0 2 ∷ Deliver 3 2 ∷ Deliver 0 0 ∷ Deliver 4 5 ∷ Deliver 2 4 ∷ Deliver 0 0
    ∷ Demote (codes "%") ∷ Deliver 2 2 ∷ GiveUp 0 ∷ Deliver 1 5 ∷ Deliver 0 3 ∷ Deliver 5 0
    ∷ Deliver 0 1 ∷ Deliver 8 4 ∷ Deliver 7 5 ∷ Deliver 6 2 ∷ Deliver 2 3 ∷ Deliver 9 0
    ∷ Deliver 9 4 ∷ Deliver 7 1 ∷ Deliver 2 5 ∷ Deliver 6 0 ∷ Deliver 3 2 ∷ Deliver 10 2
    ∷ Deliver 8 1 ∷ Copy (codes "%") 2 ∷ Read 1 (codes "k") ∷ Deliver 2 3 ∷ Deliver 4 3
    ∷ Deliver 11 3 ∷ Deliver 4 0 ∷ Deliver 13 2 ∷ Deliver 14 1 ∷ Deliver 12 0 ∷ Deliver 15 5
    ∷ Deliver 9 2 ∷ Deliver 14 4 ∷ Deliver 4 3 ∷ Write 0 (codes "%") (codes "v1") ∷ Deliver 5 1
    ∷ Deliver 8 4 ∷ Deliver 8 4 ∷ Deliver 7 3 ∷ Deliver 8 0 ∷ Deliver 10 0 ∷ Deliver 10 4
    ∷ Deliver 17 2 ∷ Deliver 10 1 ∷ Deliver 18 3 ∷ Deliver 19 2 ∷ Deliver 9 5 ∷ Deliver 8 2
    ∷ Deliver 9 3 ∷ Deliver 20 0 ∷ Deliver 16 1 ∷ Demote (codes "k") ∷ Deliver 22 2 ∷ Deliver 8 3
    ∷ Deliver 6 0 ∷ Deliver 21 0 ∷ Deliver 6 4 ∷ Deliver 23 3 ∷ Deliver 16 2
    ∷ Write 2 (codes "k") (codes "v2") ∷ Resend 2 ∷ Deliver 24 1 ∷ Read 0 (codes "%")
    ∷ Deliver 26 0 ∷ Deliver 2 0 ∷ Deliver 1 2 ∷ Deliver 7 1 ∷ Deliver 20 3 ∷ Deliver 11 1
    ∷ Deliver 25 1 ∷ Deliver 14 3 ∷ Deliver 29 0 ∷ Deliver 3 1 ∷ Deliver 13 2 ∷ Deliver 27 4 ∷ []

repeats_one_trace : replay_text (rack_with One 3 3 2 1 1 1) [] repeats_one_events ≡ lines (
    codes "1 rack"
    ∷ codes "2 controller orders 1 promote %25 sends 0"
    ∷ codes "3 switch 0 applies 1 listed 1 sends 1"
    ∷ codes "4 controller takes 1 listed 1"
    ∷ codes "5 controller ignores"
    ∷ codes "6 switch 0 repeats 1 sends 2"
    ∷ codes "7 controller ignores"
    ∷ codes "8 switch 0 repeats 1 sends 3"
    ∷ codes "9 controller ignores"
    ∷ codes "10 switch 0 repeats 1 sends 4"
    ∷ codes "11 controller ignores"
    ∷ codes "12 controller ignores"
    ∷ codes "13 switch 0 repeats 1 sends 5"
    ∷ codes "14 controller orders 2 demote %25 sends 6"
    ∷ codes "15 controller ignores"
    ∷ codes "16 nothing open 0"
    ∷ codes "17 controller ignores"
    ∷ codes "18 switch 0 repeats 1 sends 7"
    ∷ codes "19 controller ignores"
    ∷ codes "20 switch 0 repeats 1 sends 8"
    ∷ codes "21 controller ignores"
    ∷ codes "22 controller ignores"
    ∷ codes "23 switch 0 applies 2 marked 2 sends 9"
    ∷ codes "24 controller ignores"
    ∷ codes "25 controller takes 2 marked 2"
    ∷ codes "26 controller ignores"
    ∷ codes "27 controller ignores"
    ∷ codes "28 controller ignores"
    ∷ codes "29 switch 0 repeats 2 sends 10"
    ∷ codes "30 controller ignores"
    ∷ codes "31 controller ignores"
    ∷ codes "32 controller ignores"
    ∷ codes "33 controller orders 3 copy %25 to server 2 sends 11"
    ∷ codes "34 read 1 seq 1 sends 12"
    ∷ codes "35 controller ignores"
    ∷ codes "36 controller ignores"
    ∷ codes "37 switch 0 applies 3 ordered 1 sends 13..14"
    ∷ codes "38 controller ignores"
    ∷ codes "39 server 1 has no %25"
    ∷ codes "40 controller takes 3 ordered 1"
    ∷ codes "41 switch 0 forwards read k to server 2 sends 15"
    ∷ codes "42 server 2 reads k version 0 sends 16"
    ∷ codes "43 controller ignores"
    ∷ codes "44 controller ignores"
    ∷ codes "45 controller ignores"
    ∷ codes "46 write 0 seq 1 sends 17"
    ∷ codes "47 controller ignores"
    ∷ codes "48 controller ignores"
    ∷ codes "49 controller ignores"
    ∷ codes "50 controller ignores"
    ∷ codes "51 controller ignores"
    ∷ codes "52 controller ignores"
    ∷ codes "53 controller ignores"
    ∷ codes "54 switch 0 forwards write %25 version 2 to server 1 sends 18"
    ∷ codes "55 controller ignores"
    ∷ codes "56 server 1 applies %25 version 2 sends 19"
    ∷ codes "57 switch 0 answers client 0 seq 1 version 2 removed 1 sends 20"
    ∷ codes "58 controller ignores"
    ∷ codes "59 controller ignores"
    ∷ codes "60 controller ignores"
    ∷ codes "61 client 0 answered 1 version 2"
    ∷ codes "62 switch 0 answers client 1 seq 1 version 0 unlisted sends 21"
    ∷ codes "63 controller orders 4 demote k sends 22"
    ∷ codes "64 switch 0 applies 4 not listed sends 23"
    ∷ codes "65 controller ignores"
    ∷ codes "66 switch 0 skips 2 at 4"
    ∷ codes "67 client 1 answered 1 version 0 -"
    ∷ codes "68 switch 0 skips 2 at 4"
    ∷ codes "69 controller takes 4 not listed"
    ∷ codes "70 switch 0 answers client 1 seq 1 version 0 unlisted sends 24"
    ∷ codes "71 write 2 seq 1 sends 25"
    ∷ codes "72 resend 2 seq 1 sends 26"
    ∷ codes "73 client 1 ignores"
    ∷ codes "74 read 0 seq 2 sends 27"
    ∷ codes "75 switch 0 forwards write k version 3 to server 2 sends 28"
    ∷ codes "76 controller ignores"
    ∷ codes "77 controller ignores"
    ∷ codes "78 controller ignores"
    ∷ codes "79 client 0 ignores"
    ∷ codes "80 switch 0 skips 3 at 4"
    ∷ codes "81 switch 0 forwards write k version 3 to server 2 sends 29"
    ∷ codes "82 controller ignores"
    ∷ codes "83 server 2 applies k version 3 sends 30"
    ∷ codes "84 controller ignores"
    ∷ codes "85 server 1 copies %25 version 2 to server 2 sends 31"
    ∷ codes "86 switch 0 forwards read %25 to server 1 sends 32"
    ∷ codes "87 end"
    ∷ codes "history 4"
    ∷ codes "op 0 client 1 read k issued 34 answered 67 -"
    ∷ codes "op 1 client 0 write %25 =v1 issued 46 answered 61"
    ∷ codes "op 2 client 2 write k =v2 issued 71 open"
    ∷ codes "op 3 client 0 read %25 issued 74 open"
    ∷ codes "order k 1"
    ∷ codes "at 0"
    ∷ codes "order %25 1"
    ∷ codes "at 1"
    ∷ codes "done"
    ∷ []
    )
unfolding
    digits servers_from servers_of spelling in_range packet_of state_bytes state_of server_step
    client_step controller_step switch_step happens run order_of said_text repeats_one_events
repeats_one_trace = refl

-- packets that come again, in format 2
unfoldable pub repeats_two_events : List Event
repeats_two_events =
    Fence (replicate 32 100) ∷ Deliver 0 5 ∷ Deliver 1 2 ∷ Write 2 (replicate 32 100) (codes "v0")
    ∷ Promote (replicate 32 100) ∷ Deliver 1 2 ∷ Deliver 3 0 ∷ GiveUp 2 ∷ Deliver 0 4 ∷ Deliver 4 0
    ∷ Deliver 2 4 ∷ Deliver 5 2 ∷ Deliver 6 0 ∷ Deliver 5 1 ∷ Deliver 4 1 ∷ Deliver 3 3
    ∷ Read 2 (replicate 32 100) ∷ Deliver 10 5 ∷ Read 1 (replicate 32 100) ∷ Deliver 2 3
    ∷ Copy (replicate 32 100) 1 ∷ Deliver 2 1 ∷ Deliver 8 3 ∷ Deliver 14 3
    ∷ Delete 0 (replicate 32 100) ∷ Deliver 17 5 ∷ Deliver 18 1 ∷ Deliver 12 2 ∷ Deliver 8 4
    ∷ Deliver 9 5 ∷ Deliver 3 0 ∷ Deliver 2 2 ∷ Deliver 7 4 ∷ Deliver 0 4
    ∷ Promote (replicate 32 100) ∷ Deliver 5 4 ∷ Deliver 19 2 ∷ Deliver 1 2 ∷ Deliver 4 1
    ∷ Deliver 23 5 ∷ Deliver 12 5 ∷ Deliver 5 5 ∷ Deliver 27 1 ∷ Deliver 20 4 ∷ Deliver 7 5
    ∷ Deliver 26 4 ∷ Deliver 18 2 ∷ Deliver 10 0 ∷ Deliver 15 0 ∷ Deliver 9 1 ∷ Deliver 13 2
    ∷ Deliver 33 2 ∷ Deliver 22 4 ∷ Deliver 16 2 ∷ Deliver 3 1 ∷ Deliver 36 0 ∷ Deliver 8 1
    ∷ Deliver 0 3 ∷ Deliver 4 0 ∷ Deliver 21 2 ∷ Deliver 7 5 ∷ Deliver 38 3 ∷ Deliver 21 5
    ∷ Deliver 38 5 ∷ Deliver 11 3 ∷ Deliver 12 3 ∷ Deliver 14 2 ∷ Deliver 39 0 ∷ Deliver 37 0
    ∷ Read 2 (replicate 32 100) ∷ Copy (replicate 32 100) 0 ∷ Deliver 3 2 ∷ Resend 2 ∷ Deliver 6 5
    ∷ Deliver 0 4 ∷ Deliver 42 2 ∷ Deliver 12 5 ∷ Deliver 41 3 ∷ Deliver 46 5 ∷ Deliver 25 1
    ∷ Deliver 3 5 ∷ Deliver 26 3 ∷ Copy (replicate 32 100) 0 ∷ Deliver 19 4 ∷ Deliver 30 0
    ∷ Deliver 1 0 ∷ Deliver 2 3 ∷ Deliver 49 1 ∷ Deliver 45 4 ∷ Deliver 12 0 ∷ []

repeats_two_trace : replay_text (rack_with Two 3 3 2 1 3 2) [] repeats_two_events ≡ lines (
    codes "1 rack"
    ∷ (codes "2 controller orders 1 fence " ++ replicate 32 100 ++ codes " sends 0")
    ∷ codes "3 switch 0 applies 1 not listed sends 1"
    ∷ codes "4 controller takes 1 not listed"
    ∷ codes "5 write 2 seq 1 sends 2"
    ∷ (codes "6 controller orders 2 promote " ++ replicate 32 100 ++ codes " sends 3")
    ∷ codes "7 controller ignores"
    ∷ codes "8 switch 0 applies 2 listed 2 sends 4"
    ∷ codes "9 giveup 2 seq 1"
    ∷ codes "10 switch 0 skips 1 at 2"
    ∷ codes "11 controller takes 2 listed 2"
    ∷ (codes "12 switch 0 forwards write " ++ replicate 32 100
    ++ codes " version 3 to server 1 sends 5")
    ∷ (codes "13 server 1 applies " ++ replicate 32 100 ++ codes " version 3 sends 6")
    ∷ codes "14 switch 0 answers client 2 seq 1 version 3 raised sends 7"
    ∷ (codes "15 server 1 keeps " ++ replicate 32 100 ++ codes " version 3 sends 8")
    ∷ codes "16 controller ignores"
    ∷ codes "17 switch 0 repeats 2 sends 9"
    ∷ codes "18 read 2 seq 2 sends 10"
    ∷ (codes "19 switch 0 forwards read " ++ replicate 32 100 ++ codes " to server 1 sends 11")
    ∷ codes "20 read 1 seq 1 sends 12"
    ∷ (codes "21 switch 0 forwards write " ++ replicate 32 100
    ++ codes " version 3 to server 1 sends 13")
    ∷ (codes "22 controller orders 3 copy " ++ replicate 32 100 ++ codes " to server 1 sends 14")
    ∷ (codes "23 switch 0 forwards write " ++ replicate 32 100
    ++ codes " version 3 to server 1 sends 15")
    ∷ codes "24 switch 0 answers client 2 seq 1 version 3 kept sends 16"
    ∷ codes "25 switch 0 applies 3 holds sends 17"
    ∷ codes "26 delete 0 seq 1 sends 18"
    ∷ codes "27 controller takes 3 holds"
    ∷ (codes "28 switch 0 forwards write " ++ replicate 32 100
    ++ codes " version 4 to server 1 sends 19")
    ∷ (codes "29 switch 0 forwards read " ++ replicate 32 100 ++ codes " to server 1 sends 20")
    ∷ codes "30 switch 0 answers client 2 seq 1 version 3 kept sends 21"
    ∷ codes "31 controller ignores"
    ∷ codes "32 switch 0 skips 2 at 3"
    ∷ (codes "33 switch 0 forwards write " ++ replicate 32 100
    ++ codes " version 3 to server 1 sends 22")
    ∷ codes "34 client 2 ignores"
    ∷ codes "35 switch 0 skips 1 at 3"
    ∷ (codes "36 controller orders 4 promote " ++ replicate 32 100 ++ codes " sends 23")
    ∷ (codes "37 server 1 keeps " ++ replicate 32 100 ++ codes " version 3 sends 24")
    ∷ (codes "38 server 1 applies " ++ replicate 32 100 ++ codes " version 4 sends 25")
    ∷ codes "39 controller ignores"
    ∷ codes "40 controller ignores"
    ∷ codes "41 switch 0 applies 4 already 2 sends 26"
    ∷ (codes "42 switch 0 forwards read " ++ replicate 32 100 ++ codes " to server 1 sends 27")
    ∷ (codes "43 server 1 keeps " ++ replicate 32 100 ++ codes " version 4 sends 28")
    ∷ (codes "44 server 1 reads " ++ replicate 32 100 ++ codes " version 4 sends 29")
    ∷ (codes "45 server 1 reads " ++ replicate 32 100 ++ codes " version 4 sends 30")
    ∷ codes "46 client 2 ignores"
    ∷ codes "47 controller takes 4 already 2"
    ∷ (codes "48 switch 0 forwards write " ++ replicate 32 100
    ++ codes " version 4 to server 2 sends 31")
    ∷ (codes "49 switch 0 forwards read " ++ replicate 32 100 ++ codes " to server 1 sends 32")
    ∷ (codes "50 server 1 keeps " ++ replicate 32 100 ++ codes " version 4 sends 33")
    ∷ codes "51 controller ignores"
    ∷ (codes "52 server 1 keeps " ++ replicate 32 100 ++ codes " version 4 sends 34")
    ∷ codes "53 switch 0 answers client 2 seq 1 version 3 kept sends 35"
    ∷ (codes "54 server 1 keeps " ++ replicate 32 100 ++ codes " version 4 sends 36")
    ∷ codes "55 client 2 ignores"
    ∷ codes "56 switch 0 skips 2 at 4"
    ∷ codes "57 switch 0 answers client 2 seq 1 version 3 kept sends 37"
    ∷ codes "58 switch 0 answers client 2 seq 1 version 3 kept sends 38"
    ∷ codes "59 switch 0 skips 1 at 4"
    ∷ codes "60 controller ignores"
    ∷ codes "61 client 2 ignores"
    ∷ codes "62 client 2 ignores"
    ∷ codes "63 client 2 ignores"
    ∷ codes "64 client 2 ignores"
    ∷ codes "65 client 2 ignores"
    ∷ (codes "66 server 1 reads " ++ replicate 32 100 ++ codes " version 4 sends 39")
    ∷ (codes "67 switch 0 forwards read " ++ replicate 32 100 ++ codes " to server 1 sends 40")
    ∷ codes "68 switch 0 skips 3 at 4"
    ∷ codes "69 switch 0 answers client 2 seq 2 version 4 raised sends 41"
    ∷ codes "70 client 2 ignores"
    ∷ codes "71 busy 2 seq 2"
    ∷ (codes "72 controller orders 5 copy " ++ replicate 32 100 ++ codes " to server 0 sends 42")
    ∷ codes "73 switch 0 skips 2 at 4"
    ∷ codes "74 resend 2 seq 2 sends 43"
    ∷ codes "75 switch 0 answers client 2 seq 1 version 3 kept sends 44"
    ∷ codes "76 switch 0 skips 1 at 4"
    ∷ codes "77 switch 0 applies 5 ordered 1 sends 45..46"
    ∷ (codes "78 switch 0 forwards read " ++ replicate 32 100 ++ codes " to server 1 sends 47")
    ∷ codes "79 client 2 answered 2 version 4 -"
    ∷ codes "80 controller takes 5 ordered 1"
    ∷ codes "81 switch 0 answers client 0 seq 1 version 4 kept sends 48"
    ∷ codes "82 switch 0 skips 2 at 5"
    ∷ codes "83 controller ignores"
    ∷ (codes "84 controller orders 6 copy " ++ replicate 32 100 ++ codes " to server 0 sends 49")
    ∷ (codes "85 server 1 keeps " ++ replicate 32 100 ++ codes " version 4 sends 50")
    ∷ codes "86 switch 0 answers client 1 seq 1 version 4 kept sends 51"
    ∷ codes "87 controller ignores"
    ∷ (codes "88 switch 0 forwards write " ++ replicate 32 100
    ++ codes " version 3 to server 1 sends 52")
    ∷ codes "89 switch 0 applies 6 ordered 1 sends 53..54"
    ∷ (codes "90 server 1 copies " ++ replicate 32 100 ++ codes " version 4 to server 0 sends 55")
    ∷ (codes "91 switch 0 forwards read " ++ replicate 32 100 ++ codes " to server 1 sends 56")
    ∷ codes "92 end"
    ∷ codes "history 4"
    ∷ (codes "op 0 client 2 write " ++ replicate 32 100 ++ codes " =v0 issued 5 open")
    ∷ (codes "op 1 client 2 read " ++ replicate 32 100 ++ codes " issued 18 answered 79 -")
    ∷ (codes "op 2 client 1 read " ++ replicate 32 100 ++ codes " issued 20 open")
    ∷ (codes "op 3 client 0 write " ++ replicate 32 100 ++ codes " - issued 26 open")
    ∷ (codes "order " ++ replicate 32 100 ++ codes " 2")
    ∷ codes "at 3"
    ∷ codes "at 1"
    ∷ codes "done"
    ∷ []
    )
unfolding
    digits servers_from servers_of spelling in_range packet_of state_bytes state_of server_step
    client_step controller_step switch_step happens run order_of said_text repeats_two_events
repeats_two_trace = refl

-- requests sent again, in format 1
unfoldable pub resends_one_events : List Event
resends_one_events =
    Copy (codes "a") 1 ∷ Deliver 0 1 ∷ Write 2 (codes "a") (codes "v0") ∷ Deliver 1 2 ∷ Resend 2
    ∷ Promote (codes "a") ∷ Resend 2 ∷ Deliver 5 3 ∷ Deliver 3 5 ∷ GiveUp 2 ∷ Deliver 4 0
    ∷ Deliver 8 5 ∷ Fence (codes "a") ∷ Promote (codes "a") ∷ Deliver 9 1 ∷ Deliver 10 3
    ∷ Deliver 11 1 ∷ Deliver 12 2 ∷ Deliver 2 2 ∷ Deliver 4 1 ∷ Deliver 7 4 ∷ Read 0 (codes "a")
    ∷ Deliver 14 3 ∷ Deliver 15 3 ∷ Deliver 4 5 ∷ Deliver 13 5 ∷ Deliver 17 3 ∷ Resend 2
    ∷ Deliver 15 0 ∷ Write 1 (codes "a") (codes "v2") ∷ Deliver 5 4 ∷ Deliver 2 1 ∷ Deliver 21 5
    ∷ GiveUp 1 ∷ Deliver 22 3 ∷ Promote (codes "a") ∷ Write 1 (codes "a") (codes "v3")
    ∷ Deliver 25 4 ∷ Write 2 (codes "a") (codes "v4") ∷ Deliver 14 2 ∷ Deliver 6 1 ∷ Deliver 27 2
    ∷ Deliver 24 5 ∷ Deliver 28 2 ∷ Deliver 29 2 ∷ Deliver 30 1 ∷ Resend 1 ∷ Resend 0
    ∷ Deliver 32 4 ∷ Deliver 34 5 ∷ Deliver 33 0 ∷ Deliver 35 5 ∷ Deliver 19 1 ∷ Deliver 3 5
    ∷ Demote (codes "a") ∷ Deliver 20 1 ∷ Deliver 38 3 ∷ Deliver 40 4 ∷ Resend 2 ∷ Deliver 23 0
    ∷ Deliver 39 0 ∷ Deliver 39 1 ∷ Deliver 43 4 ∷ Deliver 42 4 ∷ Deliver 37 0 ∷ Deliver 29 4
    ∷ Resend 2 ∷ Deliver 31 4 ∷ Copy (codes "a") 1 ∷ Deliver 44 0 ∷ Deliver 48 4 ∷ Deliver 27 3
    ∷ Deliver 41 2 ∷ Demote (codes "a") ∷ Deliver 12 5 ∷ []

resends_one_trace : replay_text (rack_with One 3 3 2 1 1 1) [] resends_one_events ≡ lines (
    codes "1 rack"
    ∷ codes "2 controller orders 1 copy a to server 1 sends 0"
    ∷ codes "3 switch 0 applies 1 not listed sends 1"
    ∷ codes "4 write 2 seq 1 sends 2"
    ∷ codes "5 controller takes 1 not listed"
    ∷ codes "6 resend 2 seq 1 sends 3"
    ∷ codes "7 controller orders 2 promote a sends 4"
    ∷ codes "8 resend 2 seq 1 sends 5"
    ∷ codes "9 switch 0 forwards write a version 1 to server 1 sends 6"
    ∷ codes "10 switch 0 forwards write a version 1 to server 1 sends 7"
    ∷ codes "11 giveup 2 seq 1"
    ∷ codes "12 switch 0 applies 2 listed 2 sends 8"
    ∷ codes "13 controller takes 2 listed 2"
    ∷ codes "14 controller orders 3 fence a sends 9"
    ∷ codes "15 controller busy 3"
    ∷ codes "16 switch 0 applies 3 fenced 2 sends 10..11"
    ∷ codes "17 server 1 fences a version 2 from 0 sends 12"
    ∷ codes "18 controller takes 3 fenced 2"
    ∷ codes "19 switch 0 notes server 1 version 2 kept"
    ∷ codes "20 switch 0 forwards write a version 1 to server 1 sends 13"
    ∷ codes "21 switch 0 skips 2 at 3"
    ∷ codes "22 server 1 voids a version 1 under 2 sends 14"
    ∷ codes "23 read 0 seq 1 sends 15"
    ∷ codes "24 switch 0 voids client 2 seq 1 version 1"
    ∷ codes "25 switch 0 forwards read a to server 1 sends 16"
    ∷ codes "26 switch 0 skips 2 at 3"
    ∷ codes "27 server 1 voids a version 1 under 2 sends 17"
    ∷ codes "28 switch 0 skips void of client 2 seq 1"
    ∷ codes "29 nothing open 2"
    ∷ codes "30 switch 0 forwards read a to server 1 sends 18"
    ∷ codes "31 write 1 seq 1 sends 19"
    ∷ codes "32 switch 0 forwards write a version 3 to server 1 sends 20"
    ∷ codes "33 switch 0 forwards write a version 3 to server 1 sends 21"
    ∷ codes "34 server 1 applies a version 3 sends 22"
    ∷ codes "35 giveup 1 seq 1"
    ∷ codes "36 switch 0 answers client 2 seq 1 version 3 raised sends 23"
    ∷ codes "37 controller orders 4 promote a sends 24"
    ∷ codes "38 write 1 seq 2 sends 25"
    ∷ codes "39 switch 0 forwards write a version 4 to server 1 sends 26"
    ∷ codes "40 write 2 seq 2 sends 27"
    ∷ codes "41 switch 0 skips void of client 2 seq 1"
    ∷ codes "42 server 1 voids a version 1 under 2 sends 28"
    ∷ codes "43 switch 0 forwards write a version 5 to server 2 sends 29"
    ∷ codes "44 switch 0 applies 4 already 2 sends 30"
    ∷ codes "45 switch 0 skips void of client 2 seq 1"
    ∷ codes "46 server 2 applies a version 5 sends 31"
    ∷ codes "47 controller takes 4 already 2"
    ∷ codes "48 resend 1 seq 2 sends 32"
    ∷ codes "49 resend 0 seq 1 sends 33"
    ∷ codes "50 switch 0 forwards write a version 4 to server 1 sends 34"
    ∷ codes "51 server 1 applies a version 4 sends 35"
    ∷ codes "52 switch 0 forwards read a to server 1 sends 36"
    ∷ codes "53 switch 0 answers client 1 seq 2 version 4 raised sends 37"
    ∷ codes "54 switch 0 stale 2"
    ∷ codes "55 switch 0 stale 2"
    ∷ codes "56 controller orders 5 demote a sends 38"
    ∷ codes "57 server 1 keeps a version 4 sends 39"
    ∷ codes "58 switch 0 applies 5 marked 6 sends 40"
    ∷ codes "59 controller takes 5 marked 6"
    ∷ codes "60 resend 2 seq 2 sends 41"
    ∷ codes "61 client 2 ignores"
    ∷ codes "62 switch 0 answers client 2 seq 1 version 3 kept sends 42"
    ∷ codes "63 switch 0 answers client 2 seq 1 version 3 kept sends 43"
    ∷ codes "64 client 2 ignores"
    ∷ codes "65 client 2 ignores"
    ∷ codes "66 client 1 answered 2 version 4"
    ∷ codes "67 server 2 keeps a version 5 sends 44"
    ∷ codes "68 resend 2 seq 2 sends 45"
    ∷ codes "69 switch 0 answers client 2 seq 2 version 5 raised sends 46"
    ∷ codes "70 controller orders 6 copy a to server 1 sends 47"
    ∷ codes "71 switch 0 answers client 2 seq 2 version 5 kept sends 48"
    ∷ codes "72 client 2 answered 2 version 5"
    ∷ codes "73 switch 0 forwards write a version 5 to server 1 sends 49"
    ∷ codes "74 switch 0 forwards write a version 5 to server 1 sends 50"
    ∷ codes "75 controller busy 6"
    ∷ codes "76 switch 0 notes server 1 version 2 kept"
    ∷ codes "77 end"
    ∷ codes "history 5"
    ∷ codes "op 0 client 2 write a =v0 issued 4 open"
    ∷ codes "op 1 client 0 read a issued 23 open"
    ∷ codes "op 2 client 1 write a =v2 issued 31 open"
    ∷ codes "op 3 client 1 write a =v3 issued 38 answered 66"
    ∷ codes "op 4 client 2 write a =v4 issued 40 answered 72"
    ∷ codes "order a 2"
    ∷ codes "at 3"
    ∷ codes "at 4"
    ∷ codes "done"
    ∷ []
    )
unfolding
    digits servers_from servers_of spelling in_range packet_of state_bytes state_of server_step
    client_step controller_step switch_step happens run order_of said_text resends_one_events
resends_one_trace = refl

-- requests sent again, in format 2
unfoldable pub resends_two_events : List Event
resends_two_events =
    Copy (replicate 32 100) 0 ∷ Write 2 (replicate 32 100) (codes "v0") ∷ Deliver 0 1 ∷ Deliver 2 3
    ∷ Deliver 1 5 ∷ Deliver 0 1 ∷ Deliver 1 5 ∷ Write 1 (replicate 32 100) (codes "v1")
    ∷ Deliver 5 3 ∷ Delete 0 (replicate 32 100) ∷ Deliver 6 5 ∷ Resend 2 ∷ Deliver 7 2
    ∷ Deliver 9 3 ∷ Deliver 12 5 ∷ Read 1 (replicate 32 100) ∷ Deliver 3 3 ∷ Deliver 6 4 ∷ Resend 0
    ∷ Fence (replicate 32 100) ∷ Deliver 17 5 ∷ Deliver 16 3 ∷ Deliver 19 2 ∷ Deliver 10 0
    ∷ Deliver 20 4 ∷ Deliver 18 0 ∷ Deliver 22 2 ∷ Demote (replicate 32 100) ∷ GiveUp 2
    ∷ Deliver 13 5 ∷ Deliver 4 2 ∷ GiveUp 0 ∷ Deliver 15 5 ∷ Deliver 21 2 ∷ Deliver 14 5
    ∷ Read 0 (replicate 32 100) ∷ Deliver 26 5 ∷ Deliver 23 0 ∷ Read 1 (replicate 32 100)
    ∷ GiveUp 1 ∷ Deliver 28 1 ∷ Deliver 24 0 ∷ Resend 0 ∷ Deliver 30 5
    ∷ Write 1 (replicate 32 100) (codes "v5") ∷ Deliver 32 4 ∷ Deliver 27 3
    ∷ Read 2 (replicate 32 100) ∷ Deliver 27 2 ∷ Deliver 8 5 ∷ Deliver 21 4 ∷ Deliver 18 4
    ∷ Deliver 38 1 ∷ Resend 1 ∷ Deliver 0 0 ∷ Deliver 3 0 ∷ Promote (replicate 32 100)
    ∷ Deliver 42 1 ∷ Deliver 41 4 ∷ Resend 0 ∷ Deliver 45 4 ∷ Deliver 46 4 ∷ Deliver 39 5
    ∷ Deliver 43 2 ∷ Resend 1 ∷ Deliver 30 1 ∷ Deliver 16 2 ∷ Deliver 48 1
    ∷ Write 0 (replicate 32 100) (codes "v7") ∷ Deliver 46 4 ∷ Deliver 51 5
    ∷ Promote (replicate 32 100) ∷ Deliver 49 5 ∷ GiveUp 1
    ∷ Write 1 (replicate 32 100) (codes "v7") ∷ Deliver 53 5 ∷ GiveUp 2 ∷ []

resends_two_trace : replay_text (rack_with Two 3 3 2 1 1 1) [] resends_two_events ≡ lines (
    codes "1 rack"
    ∷ (codes "2 controller orders 1 copy " ++ replicate 32 100 ++ codes " to server 0 sends 0")
    ∷ codes "3 write 2 seq 1 sends 1"
    ∷ codes "4 switch 0 applies 1 not listed sends 2"
    ∷ codes "5 controller takes 1 not listed"
    ∷ (codes "6 switch 0 forwards write " ++ replicate 32 100
    ++ codes " version 1 to server 1 sends 3")
    ∷ codes "7 switch 0 repeats 1 sends 4"
    ∷ (codes "8 switch 0 forwards write " ++ replicate 32 100
    ++ codes " version 1 to server 1 sends 5")
    ∷ codes "9 write 1 seq 1 sends 6"
    ∷ (codes "10 server 1 applies " ++ replicate 32 100 ++ codes " version 1 sends 7")
    ∷ codes "11 delete 0 seq 1 sends 8"
    ∷ (codes "12 switch 0 forwards write " ++ replicate 32 100
    ++ codes " version 2 to server 1 sends 9")
    ∷ codes "13 resend 2 seq 1 sends 10"
    ∷ codes "14 switch 0 answers client 2 seq 1 version 1 unlisted sends 11"
    ∷ (codes "15 server 1 applies " ++ replicate 32 100 ++ codes " version 2 sends 12")
    ∷ codes "16 switch 0 answers client 1 seq 1 version 2 unlisted sends 13"
    ∷ codes "17 busy 1 seq 1"
    ∷ (codes "18 server 1 keeps " ++ replicate 32 100 ++ codes " version 2 sends 14")
    ∷ (codes "19 switch 0 forwards write " ++ replicate 32 100
    ++ codes " version 2 to server 1 sends 15")
    ∷ codes "20 resend 0 seq 1 sends 16"
    ∷ (codes "21 controller orders 2 fence " ++ replicate 32 100 ++ codes " sends 17")
    ∷ codes "22 switch 0 applies 2 not listed sends 18"
    ∷ (codes "23 switch 0 forwards write " ++ replicate 32 100
    ++ codes " version 3 to server 1 sends 19")
    ∷ (codes "24 server 1 applies " ++ replicate 32 100 ++ codes " version 3 sends 20")
    ∷ (codes "25 switch 0 forwards write " ++ replicate 32 100
    ++ codes " version 1 to server 1 sends 21")
    ∷ codes "26 switch 0 answers client 0 seq 1 version 3 unlisted sends 22"
    ∷ codes "27 controller takes 2 not listed"
    ∷ codes "28 client 0 answered 1 version 3"
    ∷ (codes "29 controller orders 3 demote " ++ replicate 32 100 ++ codes " sends 23")
    ∷ codes "30 giveup 2 seq 1"
    ∷ codes "31 client 1 answered 1 version 2"
    ∷ codes "32 controller ignores"
    ∷ codes "33 nothing open 0"
    ∷ (codes "34 server 1 keeps " ++ replicate 32 100 ++ codes " version 3 sends 24")
    ∷ (codes "35 server 1 keeps " ++ replicate 32 100 ++ codes " version 3 sends 25")
    ∷ codes "36 switch 0 answers client 2 seq 1 version 1 unlisted sends 26"
    ∷ codes "37 read 0 seq 2 sends 27"
    ∷ codes "38 client 2 ignores"
    ∷ codes "39 switch 0 applies 3 not listed sends 28"
    ∷ codes "40 read 1 seq 2 sends 29"
    ∷ codes "41 giveup 1 seq 2"
    ∷ codes "42 controller takes 3 not listed"
    ∷ codes "43 switch 0 answers client 1 seq 1 version 2 unlisted sends 30"
    ∷ codes "44 resend 0 seq 2 sends 31"
    ∷ codes "45 client 1 ignores"
    ∷ codes "46 write 1 seq 3 sends 32"
    ∷ (codes "47 switch 0 forwards write " ++ replicate 32 100
    ++ codes " version 4 to server 1 sends 33")
    ∷ (codes "48 switch 0 forwards read " ++ replicate 32 100 ++ codes " to server 1 sends 34")
    ∷ codes "49 read 2 seq 2 sends 35"
    ∷ (codes "50 switch 0 forwards read " ++ replicate 32 100 ++ codes " to server 1 sends 36")
    ∷ (codes "51 switch 0 forwards write " ++ replicate 32 100
    ++ codes " version 3 to server 1 sends 37")
    ∷ (codes "52 server 1 keeps " ++ replicate 32 100 ++ codes " version 3 sends 38")
    ∷ codes "53 controller ignores"
    ∷ codes "54 switch 0 answers client 2 seq 1 version 1 unlisted sends 39"
    ∷ codes "55 resend 1 seq 3 sends 40"
    ∷ codes "56 switch 0 skips 1 at 3"
    ∷ (codes "57 server 1 keeps " ++ replicate 32 100 ++ codes " version 3 sends 41")
    ∷ (codes "58 controller orders 4 promote " ++ replicate 32 100 ++ codes " sends 42")
    ∷ codes "59 switch 0 applies 4 listed 4 sends 43"
    ∷ codes "60 switch 0 answers client 2 seq 1 version 1 kept sends 44"
    ∷ codes "61 resend 0 seq 2 sends 45"
    ∷ (codes "62 switch 0 forwards read " ++ replicate 32 100 ++ codes " to server 1 sends 46")
    ∷ (codes "63 server 1 reads " ++ replicate 32 100 ++ codes " version 3 sends 47")
    ∷ codes "64 client 2 ignores"
    ∷ codes "65 controller takes 4 listed 4"
    ∷ codes "66 resend 1 seq 3 sends 48"
    ∷ codes "67 client 1 ignores"
    ∷ (codes "68 switch 0 forwards write " ++ replicate 32 100
    ++ codes " version 3 to server 1 sends 49")
    ∷ (codes "69 switch 0 forwards write " ++ replicate 32 100
    ++ codes " version 4 to server 1 sends 50")
    ∷ codes "70 busy 0 seq 2"
    ∷ (codes "71 server 1 reads " ++ replicate 32 100 ++ codes " version 3 sends 51")
    ∷ codes "72 switch 0 answers client 0 seq 2 version 3 kept sends 52"
    ∷ (codes "73 controller orders 5 promote " ++ replicate 32 100 ++ codes " sends 53")
    ∷ (codes "74 server 1 keeps " ++ replicate 32 100 ++ codes " version 3 sends 54")
    ∷ codes "75 giveup 1 seq 3"
    ∷ codes "76 write 1 seq 4 sends 55"
    ∷ codes "77 switch 0 applies 5 already 4 sends 56"
    ∷ codes "78 giveup 2 seq 2"
    ∷ codes "79 end"
    ∷ codes "history 8"
    ∷ (codes "op 0 client 2 write " ++ replicate 32 100 ++ codes " =v0 issued 3 open")
    ∷ (codes "op 1 client 1 write " ++ replicate 32 100 ++ codes " =v1 issued 9 answered 31")
    ∷ (codes "op 2 client 0 write " ++ replicate 32 100 ++ codes " - issued 11 answered 28")
    ∷ (codes "op 3 client 0 read " ++ replicate 32 100 ++ codes " issued 37 open")
    ∷ (codes "op 4 client 1 read " ++ replicate 32 100 ++ codes " issued 40 open")
    ∷ (codes "op 5 client 1 write " ++ replicate 32 100 ++ codes " =v5 issued 46 open")
    ∷ (codes "op 6 client 2 read " ++ replicate 32 100 ++ codes " issued 49 open")
    ∷ (codes "op 7 client 1 write " ++ replicate 32 100 ++ codes " =v7 issued 76 open")
    ∷ (codes "order " ++ replicate 32 100 ++ codes " 2")
    ∷ codes "at 1"
    ∷ codes "at 2"
    ∷ codes "done"
    ∷ []
    )
unfolding
    digits servers_from servers_of spelling in_range packet_of state_bytes state_of server_step
    client_step controller_step switch_step happens run order_of said_text resends_two_events
resends_two_trace = refl

-- many clients, in format 1
unfoldable pub many_clients_one_events : List Event
many_clients_one_events =
    Read 5 (0 ∷ 32 ∷ 122 ∷ []) ∷ Read 1 (replicate 32 100) ∷ Deliver 1 0 ∷ Resend 1 ∷ Deliver 1 5
    ∷ Write 3 (replicate 32 100) (codes "v2") ∷ Deliver 2 4 ∷ Deliver 6 2 ∷ Deliver 4 1
    ∷ Deliver 3 2 ∷ Write 4 (replicate 32 100) (codes "v3") ∷ Deliver 10 5 ∷ Deliver 0 2
    ∷ Read 0 (replicate 32 100) ∷ Deliver 1 1 ∷ Deliver 8 2 ∷ Deliver 2 1 ∷ Deliver 16 1
    ∷ Deliver 15 4 ∷ Write 1 (replicate 32 100) (codes "v5") ∷ Deliver 17 0 ∷ Deliver 18 1
    ∷ Deliver 11 3 ∷ Deliver 19 5 ∷ Deliver 8 3 ∷ Deliver 7 3 ∷ Deliver 3 2 ∷ Deliver 22 1
    ∷ Resend 3 ∷ Deliver 13 3 ∷ Deliver 25 5 ∷ Deliver 25 1 ∷ Deliver 27 4 ∷ GiveUp 1
    ∷ Deliver 20 4 ∷ Deliver 26 1 ∷ Deliver 30 2 ∷ Deliver 29 1 ∷ Deliver 12 2 ∷ Deliver 28 5
    ∷ Deliver 23 5 ∷ Read 2 (replicate 32 100) ∷ Deliver 14 1 ∷ Deliver 33 1
    ∷ Read 0 (replicate 32 100) ∷ Resend 2 ∷ Deliver 32 0 ∷ Deliver 35 3
    ∷ Copy (replicate 32 100) 0 ∷ Deliver 40 2 ∷ Deliver 41 1
    ∷ Write 4 (0 ∷ 32 ∷ 122 ∷ []) (codes "v8") ∷ Deliver 6 5 ∷ Deliver 43 3
    ∷ Copy (0 ∷ 32 ∷ 122 ∷ []) 0 ∷ Deliver 44 3 ∷ Deliver 45 3 ∷ Deliver 46 4 ∷ Deliver 9 0
    ∷ Write 1 (0 ∷ 32 ∷ 122 ∷ []) (codes "v9") ∷ Deliver 48 0 ∷ Deliver 24 0 ∷ Deliver 15 3
    ∷ Deliver 5 2 ∷ Write 2 (0 ∷ 32 ∷ 122 ∷ []) (codes "v10") ∷ GiveUp 0 ∷ Deliver 45 1
    ∷ Deliver 51 5 ∷ Deliver 42 3 ∷ Write 3 (replicate 32 100) (codes "v10")
    ∷ Demote (replicate 32 100) ∷ Deliver 54 5 ∷ Deliver 55 0 ∷ Promote (0 ∷ 32 ∷ 122 ∷ [])
    ∷ Deliver 50 4 ∷ Deliver 56 2 ∷ Deliver 36 2 ∷ Write 1 (0 ∷ 32 ∷ 122 ∷ []) (codes "v10")
    ∷ Write 4 (replicate 32 100) (codes "v10") ∷ Write 0 (replicate 32 100) (codes "v10")
    ∷ Deliver 58 0 ∷ Write 4 (0 ∷ 32 ∷ 122 ∷ []) (codes "v11") ∷ Demote (0 ∷ 32 ∷ 122 ∷ [])
    ∷ Deliver 61 5 ∷ Deliver 62 5 ∷ Deliver 52 4 ∷ Deliver 37 3 ∷ []

many_clients_one_trace :
    replay_text (rack_with One 3 6 1 1 1 1) ((0 ∷ 32 ∷ 122 ∷ []) ∷ []) many_clients_one_events
    ≡ lines (
    codes "1 rack"
    ∷ codes "2 read 5 seq 1 sends 0"
    ∷ codes "3 read 1 seq 1 sends 1"
    ∷ (codes "4 switch 0 forwards read " ++ replicate 32 100 ++ codes " to server 1 sends 2")
    ∷ codes "5 resend 1 seq 1 sends 3"
    ∷ (codes "6 switch 0 forwards read " ++ replicate 32 100 ++ codes " to server 1 sends 4")
    ∷ codes "7 write 3 seq 1 sends 5"
    ∷ (codes "8 server 1 reads " ++ replicate 32 100 ++ codes " version 0 sends 6")
    ∷ codes "9 switch 0 answers client 1 seq 1 version 0 unlisted sends 7"
    ∷ (codes "10 server 1 reads " ++ replicate 32 100 ++ codes " version 0 sends 8")
    ∷ (codes "11 switch 0 forwards read " ++ replicate 32 100 ++ codes " to server 1 sends 9")
    ∷ codes "12 write 4 seq 1 sends 10"
    ∷ (codes "13 switch 0 forwards write " ++ replicate 32 100
    ++ codes " version 1 to server 1 sends 11")
    ∷ codes "14 switch 0 forwards read %00%20z to server 1 sends 12"
    ∷ codes "15 read 0 seq 1 sends 13"
    ∷ (codes "16 switch 0 forwards read " ++ replicate 32 100 ++ codes " to server 1 sends 14")
    ∷ codes "17 switch 0 answers client 1 seq 1 version 0 unlisted sends 15"
    ∷ (codes "18 server 1 reads " ++ replicate 32 100 ++ codes " version 0 sends 16")
    ∷ codes "19 switch 0 answers client 1 seq 1 version 0 unlisted sends 17"
    ∷ codes "20 client 1 answered 1 version 0 -"
    ∷ codes "21 write 1 seq 2 sends 18"
    ∷ codes "22 client 1 ignores"
    ∷ (codes "23 switch 0 forwards write " ++ replicate 32 100
    ++ codes " version 2 to server 1 sends 19")
    ∷ (codes "24 server 1 applies " ++ replicate 32 100 ++ codes " version 1 sends 20")
    ∷ (codes "25 server 1 applies " ++ replicate 32 100 ++ codes " version 2 sends 21")
    ∷ codes "26 switch 0 answers client 1 seq 1 version 0 unlisted sends 22"
    ∷ codes "27 client 1 ignores"
    ∷ (codes "28 switch 0 forwards read " ++ replicate 32 100 ++ codes " to server 1 sends 23")
    ∷ codes "29 client 1 ignores"
    ∷ codes "30 resend 3 seq 1 sends 24"
    ∷ (codes "31 switch 0 forwards read " ++ replicate 32 100 ++ codes " to server 1 sends 25")
    ∷ (codes "32 server 1 reads " ++ replicate 32 100 ++ codes " version 2 sends 26")
    ∷ (codes "33 server 1 reads " ++ replicate 32 100 ++ codes " version 2 sends 27")
    ∷ codes "34 switch 0 answers client 0 seq 1 version 2 unlisted sends 28"
    ∷ codes "35 giveup 1 seq 2"
    ∷ codes "36 switch 0 answers client 4 seq 1 version 1 unlisted sends 29"
    ∷ codes "37 switch 0 answers client 0 seq 1 version 2 unlisted sends 30"
    ∷ codes "38 client 0 answered 1 version 2 =v5"
    ∷ codes "39 client 4 answered 1 version 1"
    ∷ codes "40 server 1 reads %00%20z version 0 sends 31"
    ∷ codes "41 client 0 ignores"
    ∷ (codes "42 server 1 reads " ++ replicate 32 100 ++ codes " version 2 sends 32")
    ∷ codes "43 read 2 seq 1 sends 33"
    ∷ (codes "44 server 1 reads " ++ replicate 32 100 ++ codes " version 2 sends 34")
    ∷ (codes "45 switch 0 forwards read " ++ replicate 32 100 ++ codes " to server 1 sends 35")
    ∷ codes "46 read 0 seq 2 sends 36"
    ∷ codes "47 resend 2 seq 1 sends 37"
    ∷ codes "48 switch 0 answers client 1 seq 1 version 2 unlisted sends 38"
    ∷ (codes "49 server 1 reads " ++ replicate 32 100 ++ codes " version 2 sends 39")
    ∷ (codes "50 controller orders 1 copy " ++ replicate 32 100 ++ codes " to server 0 sends 40")
    ∷ codes "51 switch 0 applies 1 not listed sends 41"
    ∷ codes "52 controller takes 1 not listed"
    ∷ codes "53 write 4 seq 2 sends 42"
    ∷ codes "54 switch 0 answers client 1 seq 1 version 0 unlisted sends 43"
    ∷ codes "55 client 1 ignores"
    ∷ codes "56 controller orders 2 copy %00%20z to server 0 sends 44"
    ∷ codes "57 switch 0 applies 2 ordered 1 sends 45..46"
    ∷ codes "58 server 1 has no %00%20z"
    ∷ codes "59 controller takes 2 ordered 1"
    ∷ (codes "60 server 1 reads " ++ replicate 32 100 ++ codes " version 2 sends 47")
    ∷ codes "61 write 1 seq 3 sends 48"
    ∷ codes "62 switch 0 forwards write %00%20z version 3 to server 0 sends 49"
    ∷ (codes "63 switch 0 forwards write " ++ replicate 32 100
    ++ codes " version 4 to server 1 sends 50")
    ∷ codes "64 client 1 ignores"
    ∷ (codes "65 switch 0 forwards write " ++ replicate 32 100
    ++ codes " version 4 to server 1 sends 51")
    ∷ codes "66 busy 2 seq 1"
    ∷ codes "67 giveup 0 seq 2"
    ∷ codes "68 server 1 has no %00%20z"
    ∷ (codes "69 server 1 applies " ++ replicate 32 100 ++ codes " version 4 sends 52")
    ∷ codes "70 switch 0 forwards write %00%20z version 5 to server 0 sends 53"
    ∷ codes "71 busy 3 seq 1"
    ∷ (codes "72 controller orders 3 demote " ++ replicate 32 100 ++ codes " sends 54")
    ∷ codes "73 switch 0 applies 3 not listed sends 55"
    ∷ codes "74 controller takes 3 not listed"
    ∷ codes "75 controller orders 4 promote %00%20z sends 56"
    ∷ (codes "76 server 1 keeps " ++ replicate 32 100 ++ codes " version 4 sends 57")
    ∷ codes "77 switch 0 applies 4 already 0 sends 58"
    ∷ (codes "78 switch 0 forwards read " ++ replicate 32 100 ++ codes " to server 1 sends 59")
    ∷ codes "79 busy 1 seq 3"
    ∷ codes "80 busy 4 seq 2"
    ∷ codes "81 write 0 seq 3 sends 60"
    ∷ codes "82 controller takes 4 already 0"
    ∷ codes "83 busy 4 seq 2"
    ∷ codes "84 controller orders 5 demote %00%20z sends 61"
    ∷ codes "85 switch 0 applies 5 marked 6 sends 62"
    ∷ codes "86 controller takes 5 marked 6"
    ∷ codes "87 switch 0 answers client 3 seq 1 version 4 unlisted sends 63"
    ∷ (codes "88 switch 0 forwards read " ++ replicate 32 100 ++ codes " to server 1 sends 64")
    ∷ codes "89 end"
    ∷ codes "history 11"
    ∷ codes "op 0 client 5 read %00%20z issued 2 open"
    ∷ (codes "op 1 client 1 read " ++ replicate 32 100 ++ codes " issued 3 answered 20 -")
    ∷ (codes "op 2 client 3 write " ++ replicate 32 100 ++ codes " =v2 issued 7 open")
    ∷ (codes "op 3 client 4 write " ++ replicate 32 100 ++ codes " =v3 issued 12 answered 39")
    ∷ (codes "op 4 client 0 read " ++ replicate 32 100 ++ codes " issued 15 answered 38 =v5")
    ∷ (codes "op 5 client 1 write " ++ replicate 32 100 ++ codes " =v5 issued 21 open")
    ∷ (codes "op 6 client 2 read " ++ replicate 32 100 ++ codes " issued 43 open")
    ∷ (codes "op 7 client 0 read " ++ replicate 32 100 ++ codes " issued 46 open")
    ∷ codes "op 8 client 4 write %00%20z =v8 issued 53 open"
    ∷ codes "op 9 client 1 write %00%20z =v9 issued 61 open"
    ∷ (codes "op 10 client 0 write " ++ replicate 32 100 ++ codes " =v10 issued 81 open")
    ∷ codes "order %00%20z 0"
    ∷ (codes "order " ++ replicate 32 100 ++ codes " 4")
    ∷ codes "at 1"
    ∷ codes "at 3"
    ∷ codes "at 5"
    ∷ codes "at 4"
    ∷ codes "done"
    ∷ []
    )
unfolding
    digits servers_from servers_of spelling in_range packet_of state_bytes state_of server_step
    client_step controller_step switch_step happens run order_of said_text many_clients_one_events
many_clients_one_trace = refl

-- many clients, in format 2
unfoldable pub many_clients_two_events : List Event
many_clients_two_events =
    Write 5 (replicate 32 100) (codes "v0") ∷ Deliver 0 0 ∷ Write 4 (replicate 32 100) (codes "v1")
    ∷ Deliver 2 0 ∷ Read 0 (replicate 32 100) ∷ Deliver 3 5 ∷ Deliver 4 2 ∷ Deliver 0 2
    ∷ Deliver 5 3 ∷ Read 2 (replicate 32 100) ∷ Deliver 9 2 ∷ GiveUp 1 ∷ Copy (replicate 32 100) 0
    ∷ Deliver 11 2 ∷ Deliver 8 1 ∷ Deliver 10 2 ∷ Deliver 12 3 ∷ Deliver 7 4 ∷ Deliver 14 4
    ∷ Deliver 2 3 ∷ Deliver 15 1 ∷ Deliver 13 2 ∷ Deliver 9 1 ∷ Deliver 6 3 ∷ Deliver 11 1
    ∷ Delete 5 (replicate 32 100) ∷ Read 3 (replicate 32 100) ∷ Deliver 20 2 ∷ Deliver 7 2
    ∷ Deliver 23 0 ∷ Deliver 22 5 ∷ Deliver 25 4 ∷ Deliver 26 5 ∷ Deliver 21 5 ∷ Deliver 27 5
    ∷ Write 0 (replicate 32 100) (codes "v6") ∷ Deliver 0 1 ∷ Deliver 28 0 ∷ Deliver 10 1
    ∷ Write 4 (replicate 32 100) (codes "v6") ∷ Demote (replicate 32 100)
    ∷ Read 3 (replicate 32 100) ∷ Deliver 32 4 ∷ Deliver 34 0 ∷ Read 1 (replicate 32 100)
    ∷ Deliver 34 0 ∷ Deliver 15 5 ∷ Deliver 1 3 ∷ Copy (replicate 32 100) 1 ∷ Deliver 37 2
    ∷ Deliver 33 0 ∷ Deliver 40 3 ∷ Deliver 39 5 ∷ Deliver 30 1 ∷ Deliver 42 2 ∷ Deliver 36 1
    ∷ Deliver 38 1 ∷ Deliver 36 4 ∷ Deliver 19 1 ∷ Deliver 31 2 ∷ Deliver 47 5 ∷ Deliver 46 5
    ∷ Deliver 43 2 ∷ Deliver 16 1 ∷ Deliver 44 4 ∷ Deliver 50 1 ∷ Resend 5
    ∷ Write 2 (replicate 32 100) (codes "v9") ∷ Deliver 48 3 ∷ Deliver 25 1 ∷ Deliver 53 4
    ∷ Deliver 51 3 ∷ Deliver 41 1 ∷ Deliver 56 1 ∷ Deliver 55 5
    ∷ Write 4 (replicate 32 100) (codes "v10") ∷ Deliver 1 3 ∷ Deliver 26 1 ∷ Deliver 60 5
    ∷ Deliver 45 4 ∷ Deliver 1 1 ∷ Demote (replicate 32 100) ∷ Deliver 57 1 ∷ Deliver 34 1
    ∷ Deliver 8 5 ∷ Read 0 (replicate 32 100) ∷ []

many_clients_two_trace :
    replay_text (rack_with Two 2 6 1 1 2 1) ((replicate 32 100) ∷ []) many_clients_two_events
    ≡ lines (
    codes "1 rack"
    ∷ codes "2 write 5 seq 1 sends 0"
    ∷ (codes "3 switch 0 forwards write " ++ replicate 32 100
    ++ codes " version 1 to server 0 sends 1")
    ∷ codes "4 write 4 seq 1 sends 2"
    ∷ (codes "5 switch 0 forwards write " ++ replicate 32 100
    ++ codes " version 2 to server 0 sends 3")
    ∷ codes "6 read 0 seq 1 sends 4"
    ∷ (codes "7 server 0 applies " ++ replicate 32 100 ++ codes " version 2 sends 5")
    ∷ (codes "8 switch 0 forwards read " ++ replicate 32 100 ++ codes " to server 0 sends 6")
    ∷ (codes "9 switch 0 forwards write " ++ replicate 32 100
    ++ codes " version 1 to server 0 sends 7")
    ∷ codes "10 switch 0 answers client 4 seq 1 version 2 raised sends 8"
    ∷ codes "11 read 2 seq 1 sends 9"
    ∷ (codes "12 switch 0 forwards read " ++ replicate 32 100 ++ codes " to server 0 sends 10")
    ∷ codes "13 nothing open 1"
    ∷ (codes "14 controller orders 1 copy " ++ replicate 32 100 ++ codes " to server 0 sends 11")
    ∷ codes "15 switch 0 applies 1 holds sends 12"
    ∷ codes "16 client 4 answered 1 version 2"
    ∷ (codes "17 server 0 reads " ++ replicate 32 100 ++ codes " version 2 sends 13")
    ∷ codes "18 controller takes 1 holds"
    ∷ (codes "19 server 0 keeps " ++ replicate 32 100 ++ codes " version 2 sends 14")
    ∷ codes "20 switch 0 answers client 5 seq 1 version 1 kept sends 15"
    ∷ (codes "21 switch 0 forwards write " ++ replicate 32 100
    ++ codes " version 2 to server 0 sends 16")
    ∷ codes "22 client 5 answered 1 version 1"
    ∷ codes "23 switch 0 answers client 2 seq 1 version 2 kept sends 17"
    ∷ (codes "24 switch 0 forwards read " ++ replicate 32 100 ++ codes " to server 0 sends 18")
    ∷ (codes "25 server 0 reads " ++ replicate 32 100 ++ codes " version 2 sends 19")
    ∷ codes "26 switch 0 repeats 1 sends 20"
    ∷ codes "27 delete 5 seq 2 sends 21"
    ∷ codes "28 read 3 seq 1 sends 22"
    ∷ codes "29 controller ignores"
    ∷ (codes "30 server 0 keeps " ++ replicate 32 100 ++ codes " version 2 sends 23")
    ∷ codes "31 switch 0 answers client 5 seq 1 version 1 kept sends 24"
    ∷ (codes "32 switch 0 forwards read " ++ replicate 32 100 ++ codes " to server 0 sends 25")
    ∷ (codes "33 server 0 reads " ++ replicate 32 100 ++ codes " version 2 sends 26")
    ∷ codes "34 switch 0 answers client 3 seq 1 version 2 kept sends 27"
    ∷ (codes "35 switch 0 forwards write " ++ replicate 32 100
    ++ codes " version 3 to server 1 sends 28")
    ∷ codes "36 client 3 answered 1 version 2 =v1"
    ∷ codes "37 busy 0 seq 1"
    ∷ codes "38 switch 0 stale 2"
    ∷ (codes "39 server 1 applies " ++ replicate 32 100 ++ codes " version 3 sends 29")
    ∷ (codes "40 server 0 reads " ++ replicate 32 100 ++ codes " version 2 sends 30")
    ∷ codes "41 write 4 seq 2 sends 31"
    ∷ (codes "42 controller orders 2 demote " ++ replicate 32 100 ++ codes " sends 32")
    ∷ codes "43 read 3 seq 2 sends 33"
    ∷ codes "44 switch 0 applies 2 marked 4 sends 34"
    ∷ codes "45 controller takes 2 marked 4"
    ∷ codes "46 read 1 seq 1 sends 35"
    ∷ codes "47 controller ignores"
    ∷ codes "48 client 5 ignores"
    ∷ (codes "49 server 0 keeps " ++ replicate 32 100 ++ codes " version 2 sends 36")
    ∷ (codes "50 controller orders 3 copy " ++ replicate 32 100 ++ codes " to server 1 sends 37")
    ∷ codes "51 switch 0 applies 3 ordered 0 sends 38..39"
    ∷ (codes "52 switch 0 forwards read " ++ replicate 32 100 ++ codes " to server 0 sends 40")
    ∷ (codes "53 server 0 reads " ++ replicate 32 100 ++ codes " version 2 sends 41")
    ∷ codes "54 controller takes 3 ordered 0"
    ∷ codes "55 switch 0 answers client 2 seq 1 version 2 kept sends 42"
    ∷ codes "56 client 2 answered 1 version 2 =v1"
    ∷ codes "57 switch 0 answers client 5 seq 1 version 1 kept sends 43"
    ∷ (codes "58 server 0 copies " ++ replicate 32 100 ++ codes " version 2 to server 1 sends 44")
    ∷ codes "59 switch 0 answers client 5 seq 1 version 1 kept sends 45"
    ∷ codes "60 switch 0 answers client 0 seq 1 version 2 kept sends 46"
    ∷ (codes "61 switch 0 forwards write " ++ replicate 32 100
    ++ codes " version 4 to server 0 sends 47")
    ∷ (codes "62 server 0 applies " ++ replicate 32 100 ++ codes " version 4 sends 48")
    ∷ codes "63 client 0 answered 1 version 2 =v1"
    ∷ codes "64 client 5 ignores"
    ∷ (codes "65 server 0 keeps " ++ replicate 32 100 ++ codes " version 4 sends 49")
    ∷ (codes "66 server 1 keeps " ++ replicate 32 100 ++ codes " version 3 sends 50")
    ∷ codes "67 switch 0 notes server 1 version 2 added"
    ∷ codes "68 resend 5 seq 2 sends 51"
    ∷ codes "69 write 2 seq 2 sends 52"
    ∷ codes "70 switch 0 answers client 4 seq 2 version 4 removed 0 sends 53"
    ∷ (codes "71 server 0 reads " ++ replicate 32 100 ++ codes " version 4 sends 54")
    ∷ codes "72 client 4 answered 2 version 4"
    ∷ (codes "73 switch 0 forwards write " ++ replicate 32 100
    ++ codes " version 3 to server 0 sends 55")
    ∷ codes "74 switch 0 answers client 3 seq 2 version 2 unlisted sends 56"
    ∷ codes "75 client 3 answered 2 version 2 =v1"
    ∷ (codes "76 server 0 keeps " ++ replicate 32 100 ++ codes " version 4 sends 57")
    ∷ codes "77 write 4 seq 3 sends 58"
    ∷ (codes "78 server 0 keeps " ++ replicate 32 100 ++ codes " version 4 sends 59")
    ∷ codes "79 switch 0 answers client 3 seq 1 version 2 unlisted sends 60"
    ∷ codes "80 client 3 ignores"
    ∷ codes "81 client 5 ignores"
    ∷ (codes "82 server 0 keeps " ++ replicate 32 100 ++ codes " version 4 sends 61")
    ∷ (codes "83 controller orders 4 demote " ++ replicate 32 100 ++ codes " sends 62")
    ∷ codes "84 switch 0 answers client 5 seq 2 version 3 unlisted sends 63"
    ∷ codes "85 controller ignores"
    ∷ codes "86 client 4 ignores"
    ∷ codes "87 read 0 seq 2 sends 64"
    ∷ codes "88 end"
    ∷ codes "history 12"
    ∷ (codes "op 0 client 5 write " ++ replicate 32 100 ++ codes " =v0 issued 2 answered 22")
    ∷ (codes "op 1 client 4 write " ++ replicate 32 100 ++ codes " =v1 issued 4 answered 16")
    ∷ (codes "op 2 client 0 read " ++ replicate 32 100 ++ codes " issued 6 answered 63 =v1")
    ∷ (codes "op 3 client 2 read " ++ replicate 32 100 ++ codes " issued 11 answered 56 =v1")
    ∷ (codes "op 4 client 5 write " ++ replicate 32 100 ++ codes " - issued 27 open")
    ∷ (codes "op 5 client 3 read " ++ replicate 32 100 ++ codes " issued 28 answered 36 =v1")
    ∷ (codes "op 6 client 4 write " ++ replicate 32 100 ++ codes " =v6 issued 41 answered 72")
    ∷ (codes "op 7 client 3 read " ++ replicate 32 100 ++ codes " issued 43 answered 75 =v1")
    ∷ (codes "op 8 client 1 read " ++ replicate 32 100 ++ codes " issued 46 open")
    ∷ (codes "op 9 client 2 write " ++ replicate 32 100 ++ codes " =v9 issued 69 open")
    ∷ (codes "op 10 client 4 write " ++ replicate 32 100 ++ codes " =v10 issued 77 open")
    ∷ (codes "op 11 client 0 read " ++ replicate 32 100 ++ codes " issued 87 open")
    ∷ (codes "order " ++ replicate 32 100 ++ codes " 7")
    ∷ codes "at 0"
    ∷ codes "at 1"
    ∷ codes "at 5"
    ∷ codes "at 3"
    ∷ codes "at 2"
    ∷ codes "at 7"
    ∷ codes "at 6"
    ∷ codes "done"
    ∷ []
    )
unfolding
    digits servers_from servers_of spelling in_range packet_of state_bytes state_of server_step
    client_step controller_step switch_step happens run order_of said_text many_clients_two_events
many_clients_two_trace = refl

-- reports and plans, in format 1
unfoldable pub plans_one_events : List Event
plans_one_events =
    Read 2 (0 ∷ 32 ∷ 122 ∷ []) ∷ Deliver 0 4 ∷ Deliver 1 1 ∷ Deliver 2 0 ∷ Deliver 3 1
    ∷ Deliver 1 1 ∷ Write 1 (0 ∷ 32 ∷ 122 ∷ []) (codes "v1") ∷ Plan 1 1 ∷ Deliver 4 3 ∷ Deliver 6 3
    ∷ Promote (0 ∷ 32 ∷ 122 ∷ []) ∷ Resend 1 ∷ Deliver 7 5
    ∷ Write 2 (0 ∷ 32 ∷ 122 ∷ []) (codes "v2") ∷ Read 0 (0 ∷ 32 ∷ 122 ∷ []) ∷ Survey ∷ Deliver 9 2
    ∷ Resend 1 ∷ Survey ∷ Deliver 4 4 ∷ Deliver 7 3 ∷ Resend 2 ∷ Deliver 17 0 ∷ Deliver 16 2
    ∷ Deliver 18 4 ∷ Resend 2 ∷ Resend 1 ∷ Deliver 5 0 ∷ Plan 2 2 ∷ Deliver 2 1 ∷ Deliver 19 1
    ∷ Deliver 24 1 ∷ Deliver 4 2 ∷ Survey ∷ Deliver 26 1 ∷ Deliver 5 0 ∷ Survey ∷ Deliver 14 1
    ∷ Write 2 (0 ∷ 32 ∷ 122 ∷ []) (codes "v4") ∷ Deliver 10 4 ∷ Deliver 30 1 ∷ Deliver 7 4
    ∷ Deliver 12 1 ∷ Deliver 33 2 ∷ Demote (0 ∷ 32 ∷ 122 ∷ []) ∷ Deliver 35 5 ∷ Deliver 36 0
    ∷ Deliver 32 3 ∷ Deliver 5 4 ∷ Deliver 34 2 ∷ Deliver 38 5 ∷ Deliver 33 0 ∷ Deliver 13 5
    ∷ Clear ∷ Deliver 40 0 ∷ Deliver 41 1 ∷ Deliver 37 4 ∷ Deliver 43 0 ∷ Deliver 18 2
    ∷ Deliver 34 1 ∷ Deliver 45 0 ∷ GiveUp 2 ∷ Deliver 16 3 ∷ Deliver 44 1 ∷ Deliver 27 4
    ∷ Deliver 46 5 ∷ Deliver 38 1 ∷ Write 1 (0 ∷ 32 ∷ 122 ∷ []) (codes "v5") ∷ Deliver 9 0 ∷ Survey
    ∷ Deliver 48 0 ∷ Plan 1 2 ∷ Deliver 50 3 ∷ Deliver 51 3 ∷ Plan 3 0 ∷ Deliver 40 4
    ∷ Deliver 52 5 ∷ Survey ∷ Deliver 20 3 ∷ Deliver 47 0
    ∷ Write 2 (0 ∷ 32 ∷ 122 ∷ []) (codes "v5") ∷ Deliver 58 1 ∷ Deliver 59 2 ∷ Deliver 54 5
    ∷ Deliver 31 5 ∷ Plan 2 3 ∷ Survey ∷ Deliver 24 4 ∷ Survey ∷ Deliver 21 5 ∷ Deliver 61 3
    ∷ Deliver 62 4 ∷ Deliver 60 5 ∷ Deliver 47 4 ∷ Deliver 22 2 ∷ Deliver 65 0
    ∷ Promote (0 ∷ 32 ∷ 122 ∷ []) ∷ []

plans_one_trace : replay_text (rack_with One 2 3 2 1 2 1) [] plans_one_events ≡ lines (
    codes "1 rack"
    ∷ codes "2 read 2 seq 1 sends 0"
    ∷ codes "3 switch 0 forwards read %00%20z to server 0 sends 1"
    ∷ codes "4 server 0 reads %00%20z version 0 sends 2"
    ∷ codes "5 switch 0 answers client 2 seq 1 version 0 unlisted sends 3"
    ∷ codes "6 client 2 answered 1 version 0 -"
    ∷ codes "7 server 0 reads %00%20z version 0 sends 4"
    ∷ codes "8 write 1 seq 1 sends 5"
    ∷ codes "9 controller has no report"
    ∷ codes "10 switch 0 answers client 2 seq 1 version 0 unlisted sends 6"
    ∷ codes "11 client 2 ignores"
    ∷ codes "12 controller orders 1 promote %00%20z sends 7"
    ∷ codes "13 resend 1 seq 1 sends 8"
    ∷ codes "14 switch 0 applies 1 listed 1 sends 9"
    ∷ codes "15 write 2 seq 2 sends 10"
    ∷ codes "16 read 0 seq 1 sends 11"
    ∷ codes "17 controller surveys sends 12"
    ∷ codes "18 controller takes 1 listed 1"
    ∷ codes "19 resend 1 seq 1 sends 13"
    ∷ codes "20 controller surveys sends 14"
    ∷ codes "21 switch 0 answers client 2 seq 1 version 0 kept sends 15"
    ∷ codes "22 switch 0 repeats 1 sends 16"
    ∷ codes "23 resend 2 seq 2 sends 17"
    ∷ codes "24 switch 0 forwards write %00%20z version 2 to server 0 sends 18"
    ∷ codes "25 controller ignores"
    ∷ codes "26 server 0 applies %00%20z version 2 sends 19"
    ∷ codes "27 resend 2 seq 2 sends 20"
    ∷ codes "28 resend 1 seq 1 sends 21"
    ∷ codes "29 switch 0 forwards write %00%20z version 3 to server 0 sends 22"
    ∷ codes "30 controller has no report"
    ∷ codes "31 switch 0 answers client 2 seq 1 version 0 kept sends 23"
    ∷ codes "32 switch 0 answers client 2 seq 2 version 2 raised sends 24"
    ∷ codes "33 client 2 answered 2 version 2"
    ∷ codes "34 switch 0 answers client 2 seq 1 version 0 kept sends 25"
    ∷ codes "35 controller surveys sends 26"
    ∷ codes "36 switch 0 reports 1 rows sends 27"
    ∷ codes "37 switch 0 forwards write %00%20z version 3 to server 0 sends 28"
    ∷ codes "38 controller surveys sends 29"
    ∷ codes "39 switch 0 reports 1 rows sends 30"
    ∷ codes "40 write 2 seq 3 sends 31"
    ∷ codes "41 switch 0 forwards write %00%20z version 2 to server 0 sends 32"
    ∷ codes "42 controller has report of 1 rows"
    ∷ codes "43 switch 0 repeats 1 sends 33"
    ∷ codes "44 switch 0 reports 1 rows sends 34"
    ∷ codes "45 controller ignores"
    ∷ codes "46 controller orders 2 demote %00%20z sends 35"
    ∷ codes "47 switch 0 applies 2 marked 4 sends 36"
    ∷ codes "48 controller takes 2 marked 4"
    ∷ codes "49 server 0 keeps %00%20z version 2 sends 37"
    ∷ codes "50 switch 0 forwards write %00%20z version 3 to server 0 sends 38"
    ∷ codes "51 controller has report of 1 rows"
    ∷ codes "52 server 0 applies %00%20z version 3 sends 39"
    ∷ codes "53 controller ignores"
    ∷ codes "54 switch 0 forwards write %00%20z version 3 to server 0 sends 40"
    ∷ codes "55 controller orders 3 clear sends 41"
    ∷ codes "56 server 0 keeps %00%20z version 3 sends 42"
    ∷ codes "57 switch 0 applies 3 cleared sends 43"
    ∷ codes "58 switch 0 answers client 2 seq 2 version 2 kept sends 44"
    ∷ codes "59 controller takes 3 cleared"
    ∷ codes "60 server 0 keeps %00%20z version 3 sends 45"
    ∷ codes "61 controller has report of 1 rows"
    ∷ codes "62 switch 0 answers client 2 seq 2 version 2 kept sends 46"
    ∷ codes "63 giveup 2 seq 3"
    ∷ codes "64 controller ignores"
    ∷ codes "65 client 2 ignores"
    ∷ codes "66 controller has report of 1 rows"
    ∷ codes "67 client 2 ignores"
    ∷ codes "68 server 0 keeps %00%20z version 3 sends 47"
    ∷ codes "69 busy 1 seq 1"
    ∷ codes "70 controller ignores"
    ∷ codes "71 controller surveys sends 48"
    ∷ codes "72 switch 0 reports 0 rows sends 49"
    ∷ codes "73 controller plans 0 demote 1 promote sends 50"
    ∷ codes "74 switch 0 applies 4 already 1 sends 51"
    ∷ codes "75 controller takes 4 already 1"
    ∷ codes "76 controller plans 0 demote 1 promote sends 52"
    ∷ codes "77 server 0 keeps %00%20z version 3 sends 53"
    ∷ codes "78 switch 0 applies 5 already 1 sends 54"
    ∷ codes "79 controller surveys sends 55"
    ∷ codes "80 switch 0 forwards write %00%20z version 2 to server 0 sends 56"
    ∷ codes "81 switch 0 answers client 1 seq 1 version 3 raised sends 57"
    ∷ codes "82 write 2 seq 4 sends 58"
    ∷ codes "83 switch 0 forwards write %00%20z version 4 to server 0 sends 59"
    ∷ codes "84 server 0 applies %00%20z version 4 sends 60"
    ∷ codes "85 controller takes 5 already 1"
    ∷ codes "86 switch 0 stale 4"
    ∷ codes "87 controller plans 0 demote 1 promote sends 61"
    ∷ codes "88 controller surveys sends 62"
    ∷ codes "89 client 2 ignores"
    ∷ codes "90 controller surveys sends 63"
    ∷ codes "91 switch 0 forwards write %00%20z version 3 to server 0 sends 64"
    ∷ codes "92 switch 0 applies 6 already 1 sends 65"
    ∷ codes "93 switch 0 reports 1 rows sends 66"
    ∷ codes "94 switch 0 answers client 2 seq 4 version 4 removed 1 sends 67"
    ∷ codes "95 switch 0 answers client 1 seq 1 version 3 unlisted sends 68"
    ∷ codes "96 server 0 keeps %00%20z version 4 sends 69"
    ∷ codes "97 controller takes 6 already 1"
    ∷ codes "98 controller orders 7 promote %00%20z sends 70"
    ∷ codes "99 end"
    ∷ codes "history 6"
    ∷ codes "op 0 client 2 read %00%20z issued 2 answered 6 -"
    ∷ codes "op 1 client 1 write %00%20z =v1 issued 8 open"
    ∷ codes "op 2 client 2 write %00%20z =v2 issued 15 answered 33"
    ∷ codes "op 3 client 0 read %00%20z issued 16 open"
    ∷ codes "op 4 client 2 write %00%20z =v4 issued 40 open"
    ∷ codes "op 5 client 2 write %00%20z =v5 issued 82 open"
    ∷ codes "order %00%20z 2"
    ∷ codes "at 0"
    ∷ codes "at 2"
    ∷ codes "done"
    ∷ []
    )
unfolding
    digits servers_from servers_of spelling in_range packet_of state_bytes state_of server_step
    client_step controller_step switch_step happens run order_of said_text plans_one_events
plans_one_trace = refl

-- reports and plans, in format 2
unfoldable pub plans_two_events : List Event
plans_two_events =
    Plan 2 2 ∷ Read 0 (codes "a") ∷ Deliver 0 3 ∷ Deliver 1 2 ∷ Deliver 2 0 ∷ Deliver 3 1
    ∷ Deliver 0 2 ∷ Deliver 0 1 ∷ Deliver 4 4 ∷ Deliver 6 0 ∷ Plan 2 2 ∷ Deliver 5 0 ∷ Deliver 1 2
    ∷ Deliver 8 5 ∷ Deliver 3 1 ∷ Deliver 3 1 ∷ Deliver 9 3 ∷ Write 1 (codes "a") (codes "v1")
    ∷ Deliver 7 1 ∷ Fence (codes "a") ∷ Deliver 13 4 ∷ Deliver 14 4 ∷ Read 2 (codes "a")
    ∷ Deliver 0 1 ∷ Plan 1 0 ∷ Deliver 16 1 ∷ Survey ∷ Deliver 5 3 ∷ Deliver 14 5
    ∷ Write 1 (codes "a") (codes "v3") ∷ Deliver 19 4 ∷ Deliver 15 3 ∷ Deliver 21 0 ∷ Deliver 8 4
    ∷ Fence (codes "a") ∷ Deliver 22 5 ∷ Deliver 24 3 ∷ Deliver 26 5 ∷ Deliver 8 2 ∷ Deliver 10 2
    ∷ Deliver 11 5 ∷ Deliver 14 1 ∷ Deliver 7 3 ∷ Deliver 25 0 ∷ Deliver 5 2 ∷ Deliver 21 3
    ∷ Deliver 17 4 ∷ Deliver 7 1 ∷ Deliver 12 4 ∷ Deliver 11 3 ∷ Deliver 1 5 ∷ Deliver 31 2
    ∷ Resend 1 ∷ Deliver 0 0 ∷ Deliver 13 1 ∷ Write 0 (codes "a") (codes "v3") ∷ Deliver 34 5
    ∷ Deliver 18 0 ∷ Deliver 33 4 ∷ Deliver 25 0 ∷ Deliver 23 2 ∷ Plan 2 2 ∷ Clear ∷ Deliver 40 5
    ∷ Deliver 35 3 ∷ Promote (codes "a") ∷ Deliver 42 4 ∷ Deliver 41 4 ∷ Deliver 38 1
    ∷ Deliver 25 2 ∷ Deliver 20 5 ∷ Plan 2 3 ∷ Deliver 44 5 ∷ Deliver 29 2 ∷ Deliver 12 0
    ∷ Deliver 45 3 ∷ Deliver 6 4 ∷ Deliver 48 5 ∷ Deliver 43 5 ∷ Promote (codes "a") ∷ Deliver 47 0
    ∷ Deliver 37 0 ∷ Deliver 51 1 ∷ Deliver 50 1 ∷ Deliver 53 0 ∷ Deliver 49 2 ∷ []

plans_two_trace : replay_text (rack_with Two 2 3 2 1 1 1) [] plans_two_events ≡ lines (
    codes "1 rack"
    ∷ codes "2 controller has no report"
    ∷ codes "3 read 0 seq 1 sends 0"
    ∷ codes "4 switch 0 forwards read a to server 1 sends 1"
    ∷ codes "5 server 1 reads a version 0 sends 2"
    ∷ codes "6 switch 0 answers client 0 seq 1 version 0 unlisted sends 3"
    ∷ codes "7 client 0 answered 1 version 0 -"
    ∷ codes "8 switch 0 forwards read a to server 1 sends 4"
    ∷ codes "9 switch 0 forwards read a to server 1 sends 5"
    ∷ codes "10 server 1 reads a version 0 sends 6"
    ∷ codes "11 switch 0 answers client 0 seq 1 version 0 unlisted sends 7"
    ∷ codes "12 controller has no report"
    ∷ codes "13 server 1 reads a version 0 sends 8"
    ∷ codes "14 server 1 reads a version 0 sends 9"
    ∷ codes "15 switch 0 answers client 0 seq 1 version 0 unlisted sends 10"
    ∷ codes "16 client 0 ignores"
    ∷ codes "17 client 0 ignores"
    ∷ codes "18 switch 0 answers client 0 seq 1 version 0 unlisted sends 11"
    ∷ codes "19 write 1 seq 1 sends 12"
    ∷ codes "20 client 0 ignores"
    ∷ codes "21 controller orders 1 fence a sends 13"
    ∷ codes "22 switch 0 applies 1 not listed sends 14"
    ∷ codes "23 controller takes 1 not listed"
    ∷ codes "24 read 2 seq 1 sends 15"
    ∷ codes "25 switch 0 forwards read a to server 1 sends 16"
    ∷ codes "26 controller has no report"
    ∷ codes "27 server 1 reads a version 0 sends 17"
    ∷ codes "28 controller surveys sends 18"
    ∷ codes "29 server 1 reads a version 0 sends 19"
    ∷ codes "30 controller ignores"
    ∷ codes "31 busy 1 seq 1"
    ∷ codes "32 switch 0 answers client 0 seq 1 version 0 unlisted sends 20"
    ∷ codes "33 switch 0 forwards read a to server 1 sends 21"
    ∷ codes "34 server 1 reads a version 0 sends 22"
    ∷ codes "35 switch 0 answers client 0 seq 1 version 0 unlisted sends 23"
    ∷ codes "36 controller orders 2 fence a sends 24"
    ∷ codes "37 switch 0 answers client 2 seq 1 version 0 unlisted sends 25"
    ∷ codes "38 switch 0 applies 2 not listed sends 26"
    ∷ codes "39 controller takes 2 not listed"
    ∷ codes "40 switch 0 answers client 0 seq 1 version 0 unlisted sends 27"
    ∷ codes "41 client 0 ignores"
    ∷ codes "42 client 0 ignores"
    ∷ codes "43 controller ignores"
    ∷ codes "44 client 0 ignores"
    ∷ codes "45 client 2 answered 1 version 0 -"
    ∷ codes "46 server 1 reads a version 0 sends 28"
    ∷ codes "47 server 1 reads a version 0 sends 29"
    ∷ codes "48 switch 0 answers client 0 seq 1 version 0 unlisted sends 30"
    ∷ codes "49 client 0 ignores"
    ∷ codes "50 switch 0 forwards write a version 1 to server 1 sends 31"
    ∷ codes "51 client 0 ignores"
    ∷ codes "52 server 1 reads a version 0 sends 32"
    ∷ codes "53 server 1 applies a version 1 sends 33"
    ∷ codes "54 resend 1 seq 1 sends 34"
    ∷ codes "55 switch 0 forwards read a to server 1 sends 35"
    ∷ codes "56 switch 0 skips 1 at 2"
    ∷ codes "57 write 0 seq 2 sends 36"
    ∷ codes "58 switch 0 forwards write a version 1 to server 1 sends 37"
    ∷ codes "59 switch 0 reports 1 rows sends 38"
    ∷ codes "60 switch 0 answers client 1 seq 1 version 1 unlisted sends 39"
    ∷ codes "61 client 2 ignores"
    ∷ codes "62 client 0 ignores"
    ∷ codes "63 controller has no report"
    ∷ codes "64 controller orders 3 clear sends 40"
    ∷ codes "65 switch 0 applies 3 cleared sends 41"
    ∷ codes "66 server 1 reads a version 1 sends 42"
    ∷ codes "67 controller busy 3"
    ∷ codes "68 switch 0 answers client 0 seq 1 version 1 unlisted sends 43"
    ∷ codes "69 controller takes 3 cleared"
    ∷ codes "70 controller has report of 1 rows"
    ∷ codes "71 client 2 ignores"
    ∷ codes "72 client 0 ignores"
    ∷ codes "73 controller plans 0 demote 1 promote sends 44"
    ∷ codes "74 switch 0 applies 4 listed 4 sends 45"
    ∷ codes "75 switch 0 answers client 2 seq 1 version 0 kept sends 46"
    ∷ codes "76 switch 0 forwards write a version 1 to server 1 sends 47"
    ∷ codes "77 controller takes 4 listed 4"
    ∷ codes "78 switch 0 answers client 0 seq 1 version 0 kept sends 48"
    ∷ codes "79 client 0 ignores"
    ∷ codes "80 client 0 ignores"
    ∷ codes "81 controller orders 5 promote a sends 49"
    ∷ codes "82 server 1 keeps a version 1 sends 50"
    ∷ codes "83 server 1 keeps a version 1 sends 51"
    ∷ codes "84 switch 0 answers client 1 seq 1 version 1 kept sends 52"
    ∷ codes "85 switch 0 answers client 1 seq 1 version 1 kept sends 53"
    ∷ codes "86 client 1 answered 1 version 1"
    ∷ codes "87 switch 0 applies 5 already 4 sends 54"
    ∷ codes "88 end"
    ∷ codes "history 4"
    ∷ codes "op 0 client 0 read a issued 3 answered 7 -"
    ∷ codes "op 1 client 1 write a =v1 issued 19 answered 86"
    ∷ codes "op 2 client 2 read a issued 24 answered 45 -"
    ∷ codes "op 3 client 0 write a =v3 issued 57 open"
    ∷ codes "order a 3"
    ∷ codes "at 0"
    ∷ codes "at 2"
    ∷ codes "at 1"
    ∷ codes "done"
    ∷ []
    )
unfolding
    digits servers_from servers_of spelling in_range packet_of state_bytes state_of server_step
    client_step controller_step switch_step happens run order_of said_text plans_two_events
plans_two_trace = refl
