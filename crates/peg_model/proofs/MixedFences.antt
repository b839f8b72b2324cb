-- Random runs with fences, voids and barred writes. An independent model of the same rules, in
-- another language, gave the text of each.
use Rattle.std.specs.Prelude.{◌≡◌, List, [], ◌∷◌, ◌++◌, refl, codes, replicate}
use Rattle.std.specs.Fmt.{digits}
use Rattle.peg_name.specs.Holders.{servers_from, servers_of}
use Rattle.peg_name.specs.declared.Format.TheVariants.{One, Two}
use Rattle.peg_event.specs.declared.Event.{Event}
use Rattle.peg_event.specs.declared.Event.TheVariants.{Read, Write, Delete, Resend, GiveUp}
use Rattle.peg_event.specs.declared.Event.TheVariants.{Deliver, Promote, Demote, Copy, Fence}
use Rattle.peg_model.specs.Packet.{in_range, spelling}
use Rattle.peg_model.specs.Reading.{packet_of}
use Rattle.peg_model.specs.Handover.{state_bytes, state_of}
use Rattle.peg_model.specs.Server.{server_step}
use Rattle.peg_model.specs.Client.{client_step}
use Rattle.peg_model.specs.Controller.{controller_step}
use Rattle.peg_model.specs.Switch.{switch_step}
use Rattle.peg_model.specs.World.{happens, run}
use Rattle.peg_model.specs.Order.{order_of}
use Rattle.peg_model.specs.Trace.{said_text, replay_text}
use Rattle.peg_model.proofs.Computed.{rack_with, lines}

-- writes that fences void, in format 1
unfoldable pub voids_one_events : List Event
voids_one_events =
    Fence (replicate 32 100) ∷ Deliver 0 0 ∷ Deliver 1 2 ∷ Deliver 1 2 ∷ Deliver 1 1
    ∷ Demote (replicate 32 100) ∷ Deliver 2 4 ∷ Deliver 3 5 ∷ Write 1 (101 ∷ 34 ∷ []) (codes "v0")
    ∷ Deliver 4 2 ∷ Deliver 5 1 ∷ Fence (replicate 32 100) ∷ Deliver 7 4 ∷ Deliver 8 3
    ∷ Deliver 0 4 ∷ Fence (replicate 32 100) ∷ Deliver 9 3 ∷ Deliver 10 2
    ∷ Demote (replicate 32 100) ∷ Deliver 11 2 ∷ Resend 0 ∷ Deliver 12 5 ∷ Deliver 11 0
    ∷ Deliver 13 2 ∷ Deliver 6 1 ∷ Write 2 (101 ∷ 34 ∷ []) (codes "v1") ∷ Deliver 15 0
    ∷ Write 0 (101 ∷ 34 ∷ []) (codes "v2") ∷ Promote (replicate 32 100) ∷ Deliver 14 2 ∷ Resend 2
    ∷ Deliver 19 3 ∷ Deliver 20 0 ∷ Deliver 21 2 ∷ Deliver 22 4
    ∷ Write 2 (replicate 32 100) (codes "v3") ∷ Deliver 23 5 ∷ Deliver 24 0 ∷ Deliver 25 2
    ∷ Deliver 26 2 ∷ Deliver 16 0 ∷ Deliver 27 5 ∷ Write 2 (101 ∷ 34 ∷ []) (codes "v4")
    ∷ Deliver 29 4 ∷ Deliver 18 2 ∷ Deliver 31 4 ∷ Fence (replicate 32 100) ∷ Deliver 32 0
    ∷ Deliver 34 1 ∷ Resend 0 ∷ Deliver 35 2 ∷ Deliver 36 4 ∷ Deliver 37 0
    ∷ Demote (replicate 32 100) ∷ Deliver 39 3 ∷ Deliver 40 1 ∷ Demote (replicate 32 100)
    ∷ Deliver 41 3 ∷ Deliver 42 1 ∷ Deliver 19 5 ∷ Write 2 (replicate 32 100) (codes "v5")
    ∷ GiveUp 0 ∷ Read 0 (replicate 32 100) ∷ Deliver 43 5 ∷ Fence (replicate 32 100) ∷ Deliver 45 2
    ∷ Resend 2 ∷ Deliver 48 3 ∷ Deliver 17 2 ∷ Deliver 50 3 ∷ Deliver 33 2 ∷ Deliver 52 2
    ∷ Deliver 47 1 ∷ Deliver 28 5 ∷ Deliver 30 5 ∷ Deliver 53 0 ∷ Deliver 54 1 ∷ Deliver 11 5
    ∷ Fence (101 ∷ 34 ∷ []) ∷ Deliver 55 1 ∷ Deliver 44 0 ∷ Deliver 56 5 ∷ Demote (101 ∷ 34 ∷ [])
    ∷ Deliver 58 0 ∷ Deliver 59 1 ∷ Deliver 46 2 ∷ Deliver 60 0
    ∷ Write 0 (101 ∷ 34 ∷ []) (codes "v6") ∷ Fence (replicate 32 100) ∷ Deliver 38 2 ∷ Deliver 49 2
    ∷ Deliver 62 0 ∷ Deliver 63 4 ∷ []

voids_one_trace : replay_text (rack_with One 2 3 1 1 3 1) [] voids_one_events ≡ lines (
    codes "1 rack"
    ∷ (codes "2 controller orders 1 fence " ++ replicate 32 100 ++ codes " sends 0")
    ∷ codes "3 switch 0 applies 1 not listed sends 1"
    ∷ codes "4 controller takes 1 not listed"
    ∷ codes "5 controller ignores"
    ∷ codes "6 controller ignores"
    ∷ (codes "7 controller orders 2 demote " ++ replicate 32 100 ++ codes " sends 2")
    ∷ codes "8 switch 0 applies 2 not listed sends 3"
    ∷ codes "9 controller takes 2 not listed"
    ∷ codes "10 write 1 seq 1 sends 4"
    ∷ (codes "11 switch 0 forwards write e" ++ (34 ∷ []) ++ codes " version 1 to server 1 sends 5")
    ∷ (codes "12 server 1 applies e" ++ (34 ∷ []) ++ codes " version 1 sends 6")
    ∷ (codes "13 controller orders 3 fence " ++ replicate 32 100 ++ codes " sends 7")
    ∷ codes "14 switch 0 applies 3 not listed sends 8"
    ∷ codes "15 controller takes 3 not listed"
    ∷ codes "16 switch 0 skips 1 at 3"
    ∷ (codes "17 controller orders 4 fence " ++ replicate 32 100 ++ codes " sends 9")
    ∷ codes "18 switch 0 applies 4 not listed sends 10"
    ∷ codes "19 controller takes 4 not listed"
    ∷ (codes "20 controller orders 5 demote " ++ replicate 32 100 ++ codes " sends 11")
    ∷ codes "21 switch 0 applies 5 not listed sends 12"
    ∷ codes "22 nothing open 0"
    ∷ codes "23 controller takes 5 not listed"
    ∷ codes "24 switch 0 repeats 5 sends 13"
    ∷ codes "25 controller ignores"
    ∷ codes "26 switch 0 answers client 1 seq 1 version 1 unlisted sends 14"
    ∷ codes "27 write 2 seq 1 sends 15"
    ∷ (codes "28 switch 0 forwards write e" ++ (34 ∷ [])
    ++ codes " version 2 to server 1 sends 16")
    ∷ codes "29 write 0 seq 1 sends 17"
    ∷ (codes "30 controller orders 6 promote " ++ replicate 32 100 ++ codes " sends 18")
    ∷ codes "31 client 1 answered 1 version 1"
    ∷ codes "32 resend 2 seq 1 sends 19"
    ∷ (codes "33 switch 0 forwards write e" ++ (34 ∷ [])
    ++ codes " version 2 to server 1 sends 20")
    ∷ (codes "34 server 1 applies e" ++ (34 ∷ []) ++ codes " version 2 sends 21")
    ∷ codes "35 switch 0 answers client 2 seq 1 version 2 unlisted sends 22"
    ∷ codes "36 client 2 answered 1 version 2"
    ∷ codes "37 write 2 seq 2 sends 23"
    ∷ (codes "38 switch 0 forwards write " ++ replicate 32 100
    ++ codes " version 3 to server 0 sends 24")
    ∷ (codes "39 server 0 applies " ++ replicate 32 100 ++ codes " version 3 sends 25")
    ∷ codes "40 switch 0 answers client 2 seq 2 version 3 unlisted sends 26"
    ∷ codes "41 client 2 answered 2 version 3"
    ∷ (codes "42 server 1 keeps e" ++ (34 ∷ []) ++ codes " version 2 sends 27")
    ∷ codes "43 switch 0 answers client 2 seq 1 version 2 unlisted sends 28"
    ∷ codes "44 write 2 seq 3 sends 29"
    ∷ (codes "45 switch 0 forwards write e" ++ (34 ∷ [])
    ++ codes " version 4 to server 1 sends 30")
    ∷ codes "46 switch 0 applies 6 listed 6 sends 31"
    ∷ codes "47 controller takes 6 listed 6"
    ∷ (codes "48 controller orders 7 fence " ++ replicate 32 100 ++ codes " sends 32")
    ∷ codes "49 switch 0 applies 7 fenced 5 sends 33..34"
    ∷ codes "50 controller takes 7 fenced 5"
    ∷ codes "51 resend 0 seq 1 sends 35"
    ∷ (codes "52 switch 0 forwards write e" ++ (34 ∷ [])
    ++ codes " version 6 to server 1 sends 36")
    ∷ (codes "53 server 1 applies e" ++ (34 ∷ []) ++ codes " version 6 sends 37")
    ∷ codes "54 switch 0 answers client 0 seq 1 version 6 unlisted sends 38"
    ∷ (codes "55 controller orders 8 demote " ++ replicate 32 100 ++ codes " sends 39")
    ∷ codes "56 switch 0 applies 8 marked 7 sends 40"
    ∷ codes "57 controller takes 8 marked 7"
    ∷ (codes "58 controller orders 9 demote " ++ replicate 32 100 ++ codes " sends 41")
    ∷ codes "59 switch 0 applies 9 already marked 7 sends 42"
    ∷ codes "60 controller takes 9 already marked 7"
    ∷ codes "61 switch 0 stale 3"
    ∷ codes "62 busy 2 seq 3"
    ∷ codes "63 giveup 0 seq 1"
    ∷ codes "64 read 0 seq 2 sends 43"
    ∷ (codes "65 switch 0 forwards read " ++ replicate 32 100 ++ codes " to server 0 sends 44")
    ∷ (codes "66 controller orders 10 fence " ++ replicate 32 100 ++ codes " sends 45")
    ∷ codes "67 switch 0 applies 10 fenced 5 sends 46..47"
    ∷ codes "68 resend 2 seq 3 sends 48"
    ∷ (codes "69 switch 0 forwards write e" ++ (34 ∷ [])
    ++ codes " version 4 to server 1 sends 49")
    ∷ (codes "70 switch 0 forwards write e" ++ (34 ∷ [])
    ++ codes " version 6 to server 1 sends 50")
    ∷ (codes "71 server 1 keeps e" ++ (34 ∷ []) ++ codes " version 6 sends 51")
    ∷ (codes "72 server 0 fences " ++ replicate 32 100 ++ codes " version 5 from 3 sends 52")
    ∷ codes "73 switch 0 notes server 0 version 5 kept"
    ∷ codes "74 controller takes 10 fenced 5"
    ∷ codes "75 client 2 ignores"
    ∷ (codes "76 server 1 keeps e" ++ (34 ∷ []) ++ codes " version 6 sends 53")
    ∷ codes "77 switch 0 answers client 2 seq 3 version 4 unlisted sends 54"
    ∷ codes "78 client 2 answered 3 version 4"
    ∷ codes "79 switch 0 skips 5 at 10"
    ∷ (codes "80 controller orders 11 fence e" ++ (34 ∷ []) ++ codes " sends 55")
    ∷ codes "81 switch 0 applies 11 not listed sends 56"
    ∷ (codes "82 server 0 reads " ++ replicate 32 100 ++ codes " version 5 sends 57")
    ∷ codes "83 controller takes 11 not listed"
    ∷ (codes "84 controller orders 12 demote e" ++ (34 ∷ []) ++ codes " sends 58")
    ∷ codes "85 switch 0 applies 12 not listed sends 59"
    ∷ codes "86 controller takes 12 not listed"
    ∷ (codes "87 server 0 keeps " ++ replicate 32 100 ++ codes " version 5 sends 60")
    ∷ codes "88 switch 0 notes server 0 version 5 kept"
    ∷ codes "89 busy 0 seq 2"
    ∷ (codes "90 controller orders 13 fence " ++ replicate 32 100 ++ codes " sends 61")
    ∷ codes "91 client 0 ignores"
    ∷ (codes "92 server 1 keeps e" ++ (34 ∷ []) ++ codes " version 6 sends 62")
    ∷ codes "93 switch 0 answers client 2 seq 3 version 4 unlisted sends 63"
    ∷ codes "94 client 2 ignores"
    ∷ codes "95 end"
    ∷ codes "history 6"
    ∷ (codes "op 0 client 1 write e" ++ (34 ∷ []) ++ codes " =v0 issued 10 answered 31")
    ∷ (codes "op 1 client 2 write e" ++ (34 ∷ []) ++ codes " =v1 issued 27 answered 36")
    ∷ (codes "op 2 client 0 write e" ++ (34 ∷ []) ++ codes " =v2 issued 29 open")
    ∷ (codes "op 3 client 2 write " ++ replicate 32 100 ++ codes " =v3 issued 37 answered 41")
    ∷ (codes "op 4 client 2 write e" ++ (34 ∷ []) ++ codes " =v4 issued 44 answered 78")
    ∷ (codes "op 5 client 0 read " ++ replicate 32 100 ++ codes " issued 64 open")
    ∷ (codes "order e" ++ (34 ∷ []) ++ codes " 3")
    ∷ codes "at 0"
    ∷ codes "at 1"
    ∷ codes "at 4"
    ∷ (codes "order " ++ replicate 32 100 ++ codes " 1")
    ∷ codes "at 3"
    ∷ codes "done"
    ∷ []
    )
unfolding
    digits servers_from servers_of spelling in_range packet_of state_bytes state_of server_step
    client_step controller_step switch_step happens run order_of said_text voids_one_events
voids_one_trace = refl

-- writes that fences void, in format 2
unfoldable pub voids_two_events : List Event
voids_two_events =
    Read 1 (101 ∷ 34 ∷ []) ∷ Deliver 0 5 ∷ Deliver 1 0 ∷ Read 2 (0 ∷ 32 ∷ 122 ∷ []) ∷ Deliver 3 5
    ∷ Deliver 4 4 ∷ Deliver 5 3 ∷ Deliver 6 1 ∷ Delete 1 (101 ∷ 34 ∷ [])
    ∷ Promote (0 ∷ 32 ∷ 122 ∷ []) ∷ Deliver 7 0 ∷ Deliver 8 4 ∷ Deliver 2 3
    ∷ Demote (0 ∷ 32 ∷ 122 ∷ []) ∷ Deliver 10 3 ∷ Deliver 11 4 ∷ Deliver 9 1
    ∷ Demote (101 ∷ 34 ∷ []) ∷ Deliver 12 3 ∷ Deliver 13 5
    ∷ Write 0 (0 ∷ 32 ∷ 122 ∷ []) (codes "v2") ∷ Copy (0 ∷ 32 ∷ 122 ∷ []) 1 ∷ Deliver 15 3
    ∷ Deliver 13 2 ∷ Read 1 (101 ∷ 34 ∷ []) ∷ Deliver 18 5 ∷ Deliver 2 0 ∷ Deliver 14 2
    ∷ Deliver 21 5 ∷ Deliver 22 5 ∷ Deliver 23 0 ∷ Deliver 16 1 ∷ Deliver 24 4 ∷ Deliver 17 5
    ∷ Fence (101 ∷ 34 ∷ []) ∷ Deliver 26 5 ∷ Deliver 27 0 ∷ Resend 1 ∷ Resend 1 ∷ Deliver 29 0
    ∷ Deliver 30 1 ∷ Fence (0 ∷ 32 ∷ 122 ∷ []) ∷ Deliver 32 3 ∷ Deliver 33 1
    ∷ Fence (101 ∷ 34 ∷ []) ∷ Deliver 34 5 ∷ Deliver 35 0 ∷ GiveUp 1 ∷ Deliver 8 2
    ∷ Promote (101 ∷ 34 ∷ []) ∷ Deliver 36 4 ∷ Deliver 37 4 ∷ Deliver 19 4 ∷ Deliver 38 4
    ∷ Deliver 39 2 ∷ Promote (0 ∷ 32 ∷ 122 ∷ []) ∷ Deliver 40 1 ∷ Deliver 41 2 ∷ Deliver 9 1
    ∷ Promote (101 ∷ 34 ∷ []) ∷ Deliver 42 4 ∷ Deliver 43 2 ∷ Deliver 6 0 ∷ Deliver 25 3
    ∷ Deliver 31 3 ∷ Deliver 44 1 ∷ Deliver 27 3 ∷ Deliver 20 0 ∷ Deliver 28 2 ∷ Deliver 45 2
    ∷ Deliver 46 2 ∷ Deliver 47 4 ∷ Deliver 11 4 ∷ Deliver 17 0 ∷ Deliver 41 2 ∷ Deliver 11 2
    ∷ Deliver 34 4 ∷ Fence (0 ∷ 32 ∷ 122 ∷ []) ∷ Deliver 48 3 ∷ Deliver 49 5 ∷ Deliver 22 3 ∷ []

voids_two_trace : replay_text (rack_with Two 2 3 1 1 2 1) [] voids_two_events ≡ lines (
    codes "1 rack"
    ∷ codes "2 read 1 seq 1 sends 0"
    ∷ (codes "3 switch 0 forwards read e" ++ (34 ∷ []) ++ codes " to server 1 sends 1")
    ∷ (codes "4 server 1 reads e" ++ (34 ∷ []) ++ codes " version 0 sends 2")
    ∷ codes "5 read 2 seq 1 sends 3"
    ∷ codes "6 switch 0 forwards read %00%20z to server 0 sends 4"
    ∷ codes "7 server 0 reads %00%20z version 0 sends 5"
    ∷ codes "8 switch 0 answers client 2 seq 1 version 0 unlisted sends 6"
    ∷ codes "9 client 2 answered 1 version 0 -"
    ∷ codes "10 busy 1 seq 1"
    ∷ codes "11 controller orders 1 promote %00%20z sends 7"
    ∷ codes "12 switch 0 applies 1 listed 1 sends 8"
    ∷ codes "13 controller takes 1 listed 1"
    ∷ codes "14 switch 0 answers client 1 seq 1 version 0 unlisted sends 9"
    ∷ codes "15 controller orders 2 demote %00%20z sends 10"
    ∷ codes "16 switch 0 applies 2 marked 2 sends 11"
    ∷ codes "17 controller takes 2 marked 2"
    ∷ codes "18 client 1 answered 1 version 0 -"
    ∷ (codes "19 controller orders 3 demote e" ++ (34 ∷ []) ++ codes " sends 12")
    ∷ codes "20 switch 0 applies 3 not listed sends 13"
    ∷ codes "21 controller takes 3 not listed"
    ∷ codes "22 write 0 seq 1 sends 14"
    ∷ codes "23 controller orders 4 copy %00%20z to server 1 sends 15"
    ∷ codes "24 switch 0 applies 4 ordered 0 sends 16..17"
    ∷ codes "25 controller ignores"
    ∷ codes "26 read 1 seq 2 sends 18"
    ∷ (codes "27 switch 0 forwards read e" ++ (34 ∷ []) ++ codes " to server 1 sends 19")
    ∷ codes "28 switch 0 answers client 1 seq 1 version 0 unlisted sends 20"
    ∷ codes "29 switch 0 forwards write %00%20z version 2 to server 0 sends 21"
    ∷ codes "30 server 0 applies %00%20z version 2 sends 22"
    ∷ codes "31 switch 0 answers client 0 seq 1 version 2 removed 1 sends 23"
    ∷ codes "32 client 0 answered 1 version 2"
    ∷ codes "33 server 0 copies %00%20z version 2 to server 1 sends 24"
    ∷ codes "34 server 1 applies %00%20z version 2 sends 25"
    ∷ codes "35 controller takes 4 ordered 0"
    ∷ (codes "36 controller orders 5 fence e" ++ (34 ∷ []) ++ codes " sends 26")
    ∷ codes "37 switch 0 applies 5 not listed sends 27"
    ∷ codes "38 controller takes 5 not listed"
    ∷ codes "39 resend 1 seq 2 sends 28"
    ∷ codes "40 resend 1 seq 2 sends 29"
    ∷ (codes "41 switch 0 forwards read e" ++ (34 ∷ []) ++ codes " to server 1 sends 30")
    ∷ (codes "42 server 1 reads e" ++ (34 ∷ []) ++ codes " version 0 sends 31")
    ∷ codes "43 controller orders 6 fence %00%20z sends 32"
    ∷ codes "44 switch 0 applies 6 not listed sends 33"
    ∷ codes "45 controller takes 6 not listed"
    ∷ (codes "46 controller orders 7 fence e" ++ (34 ∷ []) ++ codes " sends 34")
    ∷ codes "47 switch 0 applies 7 not listed sends 35"
    ∷ codes "48 controller takes 7 not listed"
    ∷ codes "49 giveup 1 seq 2"
    ∷ codes "50 controller ignores"
    ∷ (codes "51 controller orders 8 promote e" ++ (34 ∷ []) ++ codes " sends 36")
    ∷ codes "52 switch 0 applies 8 listed 8 sends 37"
    ∷ codes "53 controller takes 8 listed 8"
    ∷ (codes "54 server 1 reads e" ++ (34 ∷ []) ++ codes " version 0 sends 38")
    ∷ codes "55 switch 0 answers client 1 seq 2 version 0 kept sends 39"
    ∷ codes "56 client 1 ignores"
    ∷ codes "57 controller orders 9 promote %00%20z sends 40"
    ∷ codes "58 switch 0 applies 9 full 1 sends 41"
    ∷ codes "59 controller takes 9 full 1"
    ∷ codes "60 client 1 ignores"
    ∷ (codes "61 controller orders 10 promote e" ++ (34 ∷ []) ++ codes " sends 42")
    ∷ codes "62 switch 0 applies 10 already 8 sends 43"
    ∷ codes "63 controller takes 10 already 8"
    ∷ codes "64 client 2 ignores"
    ∷ codes "65 switch 0 notes server 1 version 2 unlisted"
    ∷ codes "66 switch 0 answers client 1 seq 2 version 0 kept sends 44"
    ∷ codes "67 client 1 ignores"
    ∷ codes "68 controller ignores"
    ∷ codes "69 client 1 ignores"
    ∷ (codes "70 switch 0 forwards read e" ++ (34 ∷ []) ++ codes " to server 1 sends 45")
    ∷ (codes "71 server 1 reads e" ++ (34 ∷ []) ++ codes " version 0 sends 46")
    ∷ codes "72 switch 0 answers client 1 seq 2 version 0 kept sends 47"
    ∷ codes "73 client 1 ignores"
    ∷ codes "74 controller ignores"
    ∷ codes "75 controller ignores"
    ∷ codes "76 controller ignores"
    ∷ codes "77 controller ignores"
    ∷ codes "78 switch 0 skips 7 at 10"
    ∷ codes "79 controller orders 11 fence %00%20z sends 48"
    ∷ codes "80 switch 0 applies 11 not listed sends 49"
    ∷ codes "81 controller takes 11 not listed"
    ∷ codes "82 switch 0 answers client 0 seq 1 version 2 unlisted sends 50"
    ∷ codes "83 end"
    ∷ codes "history 4"
    ∷ (codes "op 0 client 1 read e" ++ (34 ∷ []) ++ codes " issued 2 answered 18 -")
    ∷ codes "op 1 client 2 read %00%20z issued 5 answered 9 -"
    ∷ codes "op 2 client 0 write %00%20z =v2 issued 22 answered 32"
    ∷ (codes "op 3 client 1 read e" ++ (34 ∷ []) ++ codes " issued 26 open")
    ∷ (codes "order e" ++ (34 ∷ []) ++ codes " 1")
    ∷ codes "at 0"
    ∷ codes "order %00%20z 2"
    ∷ codes "at 1"
    ∷ codes "at 2"
    ∷ codes "done"
    ∷ []
    )
unfolding
    digits servers_from servers_of spelling in_range packet_of state_bytes state_of server_step
    client_step controller_step switch_step happens run order_of said_text voids_two_events
voids_two_trace = refl

-- late writes under a fence, in format 1
unfoldable pub directed_one_events : List Event
directed_one_events =
    Promote (0 ∷ 32 ∷ 122 ∷ []) ∷ Deliver 0 3 ∷ Deliver 1 4
    ∷ Write 1 (0 ∷ 32 ∷ 122 ∷ []) (codes "v0") ∷ Write 0 (0 ∷ 32 ∷ 122 ∷ []) (codes "v1")
    ∷ Deliver 3 1 ∷ Deliver 4 0 ∷ Deliver 5 3 ∷ Deliver 6 2
    ∷ Write 2 (0 ∷ 32 ∷ 122 ∷ []) (codes "v2") ∷ Deliver 7 2 ∷ Fence (0 ∷ 32 ∷ 122 ∷ [])
    ∷ Deliver 8 1 ∷ Deliver 10 3 ∷ Deliver 9 0 ∷ Deliver 11 5 ∷ Demote (0 ∷ 32 ∷ 122 ∷ [])
    ∷ Deliver 12 4 ∷ Deliver 13 1 ∷ GiveUp 1 ∷ Deliver 2 3 ∷ Deliver 2 5 ∷ Resend 2 ∷ Deliver 14 4
    ∷ Write 2 (0 ∷ 32 ∷ 122 ∷ []) (codes "v3") ∷ Copy (0 ∷ 32 ∷ 122 ∷ []) 1 ∷ Deliver 15 2
    ∷ Resend 2 ∷ Deliver 17 5 ∷ Deliver 16 4 ∷ Resend 2 ∷ Deliver 18 3 ∷ Copy (0 ∷ 32 ∷ 122 ∷ []) 0
    ∷ Deliver 19 1 ∷ Promote (0 ∷ 32 ∷ 122 ∷ []) ∷ Deliver 20 5 ∷ Deliver 22 3 ∷ Deliver 23 3
    ∷ Deliver 21 1 ∷ Write 1 (0 ∷ 32 ∷ 122 ∷ []) (codes "v3") ∷ Deliver 24 1
    ∷ Copy (0 ∷ 32 ∷ 122 ∷ []) 1 ∷ Deliver 25 1 ∷ Deliver 26 1 ∷ Resend 2 ∷ Deliver 27 3 ∷ GiveUp 2
    ∷ Write 0 (0 ∷ 32 ∷ 122 ∷ []) (codes "v4") ∷ Deliver 28 0 ∷ Deliver 13 5 ∷ Deliver 22 1
    ∷ Deliver 29 5 ∷ Write 2 (0 ∷ 32 ∷ 122 ∷ []) (codes "v5") ∷ GiveUp 0 ∷ GiveUp 1
    ∷ Read 0 (0 ∷ 32 ∷ 122 ∷ []) ∷ Deliver 31 3 ∷ Resend 0 ∷ Deliver 33 3 ∷ Deliver 34 5
    ∷ Deliver 35 0 ∷ Deliver 36 0 ∷ Promote (0 ∷ 32 ∷ 122 ∷ []) ∷ Deliver 20 0 ∷ Deliver 38 0
    ∷ Deliver 39 2 ∷ Deliver 30 4 ∷ Write 1 (0 ∷ 32 ∷ 122 ∷ []) (codes "v7") ∷ Deliver 40 1
    ∷ Deliver 32 0 ∷ Deliver 41 2 ∷ Deliver 42 1 ∷ Write 0 (0 ∷ 32 ∷ 122 ∷ []) (codes "v8")
    ∷ Deliver 43 3 ∷ Deliver 37 0 ∷ Deliver 44 3 ∷ Write 2 (0 ∷ 32 ∷ 122 ∷ []) (codes "v9")
    ∷ Write 0 (0 ∷ 32 ∷ 122 ∷ []) (codes "v9") ∷ Deliver 14 2 ∷ GiveUp 2 ∷ Deliver 6 3 ∷ GiveUp 1
    ∷ Deliver 11 4 ∷ Deliver 11 2 ∷ Deliver 6 3 ∷ Write 1 (0 ∷ 32 ∷ 122 ∷ []) (codes "v9")
    ∷ Deliver 45 4 ∷ Write 2 (0 ∷ 32 ∷ 122 ∷ []) (codes "v10") ∷ Deliver 46 3 ∷ []

directed_one_trace :
    replay_text (rack_with One 2 3 1 1 1 18446744073709551613) [] directed_one_events ≡ lines (
    codes "1 rack"
    ∷ codes "2 controller orders 1 promote %00%20z sends 0"
    ∷ codes "3 switch 0 applies 1 listed 1 sends 1"
    ∷ codes "4 controller takes 1 listed 1"
    ∷ codes "5 write 1 seq 1 sends 2"
    ∷ codes "6 write 0 seq 1 sends 3"
    ∷ codes "7 switch 0 forwards write %00%20z version 18446744073709551614 to server 1 sends 4"
    ∷ codes "8 server 1 applies %00%20z version 18446744073709551614 sends 5"
    ∷ codes "9 switch 0 answers client 0 seq 1 version 18446744073709551614 raised sends 6"
    ∷ codes "10 client 0 answered 1 version 18446744073709551614"
    ∷ codes "11 write 2 seq 1 sends 7"
    ∷ codes "12 switch 0 exhausted 18446744073709551615"
    ∷ codes "13 controller orders 2 fence %00%20z sends 8"
    ∷ codes "14 switch 0 applies 2 fenced 18446744073709551613 sends 9..10"
    ∷ codes "15 controller takes 2 fenced 18446744073709551613"
    ∷ codes "16 server 0 fences %00%20z version 18446744073709551613 from 0 sends 11"
    ∷ codes "17 switch 0 notes server 0 version 18446744073709551613 kept"
    ∷ codes "18 controller orders 3 demote %00%20z sends 12"
    ∷ codes "19 switch 0 applies 3 marked 18446744073709551615 sends 13"
    ∷ codes "20 controller takes 3 marked 18446744073709551615"
    ∷ codes "21 giveup 1 seq 1"
    ∷ codes "22 switch 0 exhausted 18446744073709551615"
    ∷ codes "23 switch 0 exhausted 18446744073709551615"
    ∷ codes "24 resend 2 seq 1 sends 14"
    ∷ codes "25 switch 0 exhausted 18446744073709551615"
    ∷ codes "26 busy 2 seq 1"
    ∷ codes "27 controller orders 4 copy %00%20z to server 1 sends 15"
    ∷ codes "28 switch 0 applies 4 holds sends 16"
    ∷ codes "29 resend 2 seq 1 sends 17"
    ∷ codes "30 switch 0 exhausted 18446744073709551615"
    ∷ codes "31 controller takes 4 holds"
    ∷ codes "32 resend 2 seq 1 sends 18"
    ∷ codes "33 switch 0 exhausted 18446744073709551615"
    ∷ codes "34 controller orders 5 copy %00%20z to server 0 sends 19"
    ∷ codes "35 switch 0 applies 5 ordered 1 sends 20..21"
    ∷ codes "36 controller busy 5"
    ∷ codes "37 server 1 copies %00%20z version 18446744073709551614 to server 0 sends 22"
    ∷ codes "38 server 0 applies %00%20z version 18446744073709551614 sends 23"
    ∷ codes "39 switch 0 notes server 0 version 18446744073709551614 added"
    ∷ codes "40 controller takes 5 ordered 1"
    ∷ codes "41 write 1 seq 2 sends 24"
    ∷ codes "42 switch 0 exhausted 18446744073709551615"
    ∷ codes "43 controller orders 6 copy %00%20z to server 1 sends 25"
    ∷ codes "44 switch 0 applies 6 holds sends 26"
    ∷ codes "45 controller takes 6 holds"
    ∷ codes "46 resend 2 seq 1 sends 27"
    ∷ codes "47 switch 0 exhausted 18446744073709551615"
    ∷ codes "48 giveup 2 seq 1"
    ∷ codes "49 write 0 seq 2 sends 28"
    ∷ codes "50 switch 0 exhausted 18446744073709551615"
    ∷ codes "51 controller ignores"
    ∷ codes "52 server 0 keeps %00%20z version 18446744073709551614 sends 29"
    ∷ codes "53 switch 0 notes server 0 version 18446744073709551614 kept"
    ∷ codes "54 write 2 seq 2 sends 30"
    ∷ codes "55 giveup 0 seq 2"
    ∷ codes "56 giveup 1 seq 2"
    ∷ codes "57 read 0 seq 3 sends 31"
    ∷ codes "58 switch 0 forwards read %00%20z to server 1 sends 32"
    ∷ codes "59 resend 0 seq 3 sends 33"
    ∷ codes "60 switch 0 forwards read %00%20z to server 1 sends 34"
    ∷ codes "61 server 1 reads %00%20z version 18446744073709551614 sends 35"
    ∷ codes "62 switch 0 answers client 0 seq 3 version 18446744073709551614 kept sends 36"
    ∷ codes "63 client 0 answered 3 version 18446744073709551614 =v1"
    ∷ codes "64 controller orders 7 promote %00%20z sends 37"
    ∷ codes "65 server 1 copies %00%20z version 18446744073709551614 to server 0 sends 38"
    ∷ codes "66 server 0 keeps %00%20z version 18446744073709551614 sends 39"
    ∷ codes "67 switch 0 notes server 0 version 18446744073709551614 kept"
    ∷ codes "68 switch 0 exhausted 18446744073709551615"
    ∷ codes "69 write 1 seq 3 sends 40"
    ∷ codes "70 switch 0 exhausted 18446744073709551615"
    ∷ codes "71 server 1 reads %00%20z version 18446744073709551614 sends 41"
    ∷ codes "72 switch 0 answers client 0 seq 3 version 18446744073709551614 kept sends 42"
    ∷ codes "73 client 0 ignores"
    ∷ codes "74 write 0 seq 4 sends 43"
    ∷ codes "75 switch 0 exhausted 18446744073709551615"
    ∷ codes "76 switch 0 applies 7 already 1 sends 44"
    ∷ codes "77 controller takes 7 already 1"
    ∷ codes "78 busy 2 seq 2"
    ∷ codes "79 busy 0 seq 4"
    ∷ codes "80 switch 0 exhausted 18446744073709551615"
    ∷ codes "81 giveup 2 seq 2"
    ∷ codes "82 client 0 ignores"
    ∷ codes "83 giveup 1 seq 3"
    ∷ codes "84 switch 0 notes server 0 version 18446744073709551613 kept"
    ∷ codes "85 switch 0 notes server 0 version 18446744073709551613 kept"
    ∷ codes "86 client 0 ignores"
    ∷ codes "87 write 1 seq 4 sends 45"
    ∷ codes "88 switch 0 exhausted 18446744073709551615"
    ∷ codes "89 write 2 seq 3 sends 46"
    ∷ codes "90 switch 0 exhausted 18446744073709551615"
    ∷ codes "91 end"
    ∷ codes "history 11"
    ∷ codes "op 0 client 1 write %00%20z =v0 issued 5 open"
    ∷ codes "op 1 client 0 write %00%20z =v1 issued 6 answered 10"
    ∷ codes "op 2 client 2 write %00%20z =v2 issued 11 open"
    ∷ codes "op 3 client 1 write %00%20z =v3 issued 41 open"
    ∷ codes "op 4 client 0 write %00%20z =v4 issued 49 open"
    ∷ codes "op 5 client 2 write %00%20z =v5 issued 54 open"
    ∷ codes "op 6 client 0 read %00%20z issued 57 answered 63 =v1"
    ∷ codes "op 7 client 1 write %00%20z =v7 issued 69 open"
    ∷ codes "op 8 client 0 write %00%20z =v8 issued 74 open"
    ∷ codes "op 9 client 1 write %00%20z =v9 issued 87 open"
    ∷ codes "op 10 client 2 write %00%20z =v10 issued 89 open"
    ∷ codes "order %00%20z 2"
    ∷ codes "at 1"
    ∷ codes "at 6"
    ∷ codes "done"
    ∷ []
    )
unfolding
    digits servers_from servers_of spelling in_range packet_of state_bytes state_of server_step
    client_step controller_step switch_step happens run order_of said_text directed_one_events
directed_one_trace = refl

-- late writes under a fence, in format 2
unfoldable pub directed_two_events : List Event
directed_two_events =
    Promote (101 ∷ 34 ∷ []) ∷ Deliver 0 2 ∷ Read 1 (codes "%") ∷ Deliver 2 1 ∷ Deliver 2 4
    ∷ Deliver 4 2 ∷ Deliver 0 2 ∷ Deliver 6 4 ∷ Deliver 1 3 ∷ Demote (codes "%") ∷ Deliver 7 5
    ∷ Deliver 3 4 ∷ Deliver 9 0 ∷ Deliver 10 2 ∷ Write 0 (101 ∷ 34 ∷ []) (codes "v1")
    ∷ Deliver 11 4 ∷ Deliver 12 5 ∷ Deliver 5 0 ∷ Deliver 14 0 ∷ Deliver 13 5 ∷ Deliver 15 1
    ∷ Deliver 8 4 ∷ Fence (101 ∷ 34 ∷ []) ∷ Deliver 16 4 ∷ Deliver 17 4 ∷ Deliver 19 3
    ∷ Write 1 (101 ∷ 34 ∷ []) (codes "v2") ∷ Deliver 20 4 ∷ Deliver 21 1 ∷ Deliver 22 4
    ∷ Deliver 23 4 ∷ Read 1 (101 ∷ 34 ∷ []) ∷ Deliver 24 5 ∷ Resend 1 ∷ Deliver 26 1 ∷ Deliver 27 5
    ∷ Deliver 28 4 ∷ Deliver 29 5 ∷ Read 0 (101 ∷ 34 ∷ []) ∷ Deliver 30 3 ∷ Delete 1 (codes "%")
    ∷ Deliver 32 3 ∷ Deliver 33 0 ∷ Deliver 34 3 ∷ Deliver 12 5 ∷ Deliver 36 0 ∷ Deliver 37 0
    ∷ Resend 0 ∷ Deliver 38 1 ∷ Deliver 25 4 ∷ Deliver 18 0 ∷ Promote (codes "%") ∷ Deliver 41 4
    ∷ Deliver 42 5 ∷ Deliver 31 5 ∷ Deliver 43 5 ∷ Deliver 44 4 ∷ Resend 1 ∷ Deliver 45 1
    ∷ Read 0 (101 ∷ 34 ∷ []) ∷ Deliver 47 3 ∷ Deliver 48 1 ∷ Deliver 39 2 ∷ Promote (codes "%")
    ∷ Deliver 51 5 ∷ Deliver 52 5 ∷ Promote (codes "%") ∷ Deliver 53 2 ∷ Deliver 54 5
    ∷ Deliver 40 4 ∷ Deliver 55 0 ∷ Resend 0 ∷ Deliver 56 4 ∷ Deliver 57 1 ∷ Deliver 58 3
    ∷ Deliver 59 0 ∷ Resend 1 ∷ Deliver 60 2 ∷ Promote (codes "%") ∷ Deliver 62 5 ∷ Deliver 63 4
    ∷ Deliver 35 4 ∷ Delete 0 (101 ∷ 34 ∷ []) ∷ Deliver 64 3 ∷ Deliver 65 2 ∷ Deliver 66 0
    ∷ Deliver 67 3 ∷ Promote (codes "%") ∷ []

directed_two_trace : replay_text (rack_with Two 3 2 1 1 1 1) [] directed_two_events ≡ lines (
    codes "1 rack"
    ∷ (codes "2 controller orders 1 promote e" ++ (34 ∷ []) ++ codes " sends 0")
    ∷ codes "3 switch 0 applies 1 listed 1 sends 1"
    ∷ codes "4 read 1 seq 1 sends 2"
    ∷ codes "5 switch 0 forwards read %25 to server 1 sends 3"
    ∷ codes "6 switch 0 forwards read %25 to server 1 sends 4"
    ∷ codes "7 server 1 reads %25 version 0 sends 5"
    ∷ codes "8 switch 0 repeats 1 sends 6"
    ∷ codes "9 controller takes 1 listed 1"
    ∷ codes "10 controller ignores"
    ∷ codes "11 controller orders 2 demote %25 sends 7"
    ∷ codes "12 switch 0 applies 2 not listed sends 8"
    ∷ codes "13 server 1 reads %25 version 0 sends 9"
    ∷ codes "14 switch 0 answers client 1 seq 1 version 0 unlisted sends 10"
    ∷ codes "15 client 1 answered 1 version 0 -"
    ∷ codes "16 write 0 seq 1 sends 11"
    ∷ (codes "17 switch 0 forwards write e" ++ (34 ∷ [])
    ++ codes " version 2 to server 1 sends 12")
    ∷ (codes "18 server 1 applies e" ++ (34 ∷ []) ++ codes " version 2 sends 13")
    ∷ codes "19 switch 0 answers client 1 seq 1 version 0 unlisted sends 14"
    ∷ codes "20 client 1 ignores"
    ∷ codes "21 switch 0 answers client 0 seq 1 version 2 raised sends 15"
    ∷ codes "22 client 0 answered 1 version 2"
    ∷ codes "23 controller takes 2 not listed"
    ∷ (codes "24 controller orders 3 fence e" ++ (34 ∷ []) ++ codes " sends 16")
    ∷ codes "25 switch 0 applies 3 fenced 1 sends 17..18"
    ∷ (codes "26 server 0 fences e" ++ (34 ∷ []) ++ codes " version 1 from 0 sends 19")
    ∷ codes "27 switch 0 notes server 0 version 1 kept"
    ∷ codes "28 write 1 seq 2 sends 20"
    ∷ (codes "29 switch 0 forwards write e" ++ (34 ∷ [])
    ++ codes " version 3 to server 1 sends 21")
    ∷ (codes "30 server 1 applies e" ++ (34 ∷ []) ++ codes " version 3 sends 22")
    ∷ codes "31 switch 0 answers client 1 seq 2 version 3 raised sends 23"
    ∷ codes "32 client 1 answered 2 version 3"
    ∷ codes "33 read 1 seq 3 sends 24"
    ∷ (codes "34 switch 0 forwards read e" ++ (34 ∷ []) ++ codes " to server 1 sends 25")
    ∷ codes "35 resend 1 seq 3 sends 26"
    ∷ (codes "36 switch 0 forwards read e" ++ (34 ∷ []) ++ codes " to server 1 sends 27")
    ∷ (codes "37 server 1 reads e" ++ (34 ∷ []) ++ codes " version 3 sends 28")
    ∷ codes "38 switch 0 answers client 1 seq 3 version 3 kept sends 29"
    ∷ codes "39 client 1 answered 3 version 3 =v2"
    ∷ codes "40 read 0 seq 2 sends 30"
    ∷ (codes "41 switch 0 forwards read e" ++ (34 ∷ []) ++ codes " to server 1 sends 31")
    ∷ codes "42 delete 1 seq 4 sends 32"
    ∷ codes "43 switch 0 forwards write %25 version 4 to server 1 sends 33"
    ∷ codes "44 server 1 applies %25 version 4 sends 34"
    ∷ codes "45 switch 0 answers client 1 seq 4 version 4 unlisted sends 35"
    ∷ (codes "46 server 1 keeps e" ++ (34 ∷ []) ++ codes " version 3 sends 36")
    ∷ codes "47 switch 0 answers client 0 seq 1 version 2 kept sends 37"
    ∷ codes "48 client 0 ignores"
    ∷ codes "49 resend 0 seq 2 sends 38"
    ∷ (codes "50 switch 0 forwards read e" ++ (34 ∷ []) ++ codes " to server 1 sends 39")
    ∷ (codes "51 server 1 reads e" ++ (34 ∷ []) ++ codes " version 3 sends 40")
    ∷ codes "52 controller takes 3 fenced 1"
    ∷ codes "53 controller orders 4 promote %25 sends 41"
    ∷ codes "54 switch 0 applies 4 full 1 sends 42"
    ∷ codes "55 controller takes 4 full 1"
    ∷ (codes "56 server 1 reads e" ++ (34 ∷ []) ++ codes " version 3 sends 43")
    ∷ codes "57 switch 0 answers client 0 seq 2 version 3 kept sends 44"
    ∷ codes "58 client 0 answered 2 version 3 =v2"
    ∷ codes "59 resend 1 seq 4 sends 45"
    ∷ codes "60 switch 0 forwards write %25 version 4 to server 1 sends 46"
    ∷ codes "61 read 0 seq 3 sends 47"
    ∷ (codes "62 switch 0 forwards read e" ++ (34 ∷ []) ++ codes " to server 1 sends 48")
    ∷ (codes "63 server 1 reads e" ++ (34 ∷ []) ++ codes " version 3 sends 49")
    ∷ (codes "64 server 1 reads e" ++ (34 ∷ []) ++ codes " version 3 sends 50")
    ∷ codes "65 controller orders 5 promote %25 sends 51"
    ∷ codes "66 switch 0 applies 5 full 1 sends 52"
    ∷ codes "67 controller takes 5 full 1"
    ∷ codes "68 controller orders 6 promote %25 sends 53"
    ∷ codes "69 switch 0 applies 6 full 1 sends 54"
    ∷ codes "70 controller takes 6 full 1"
    ∷ codes "71 switch 0 answers client 1 seq 3 version 3 kept sends 55"
    ∷ codes "72 client 1 ignores"
    ∷ codes "73 resend 0 seq 3 sends 56"
    ∷ (codes "74 switch 0 forwards read e" ++ (34 ∷ []) ++ codes " to server 1 sends 57")
    ∷ (codes "75 server 1 reads e" ++ (34 ∷ []) ++ codes " version 3 sends 58")
    ∷ codes "76 switch 0 answers client 0 seq 3 version 3 kept sends 59"
    ∷ codes "77 client 0 answered 3 version 3 =v2"
    ∷ codes "78 resend 1 seq 4 sends 60"
    ∷ codes "79 switch 0 forwards write %25 version 4 to server 1 sends 61"
    ∷ codes "80 controller orders 7 promote %25 sends 62"
    ∷ codes "81 switch 0 applies 7 full 1 sends 63"
    ∷ codes "82 controller takes 7 full 1"
    ∷ codes "83 client 1 answered 4 version 4"
    ∷ codes "84 delete 0 seq 4 sends 64"
    ∷ (codes "85 switch 0 forwards write e" ++ (34 ∷ [])
    ++ codes " version 5 to server 0 sends 65")
    ∷ (codes "86 server 0 applies e" ++ (34 ∷ []) ++ codes " version 5 sends 66")
    ∷ codes "87 switch 0 answers client 0 seq 4 version 5 raised sends 67"
    ∷ codes "88 client 0 answered 4 version 5"
    ∷ codes "89 controller orders 8 promote %25 sends 68"
    ∷ codes "90 end"
    ∷ codes "history 8"
    ∷ codes "op 0 client 1 read %25 issued 4 answered 15 -"
    ∷ (codes "op 1 client 0 write e" ++ (34 ∷ []) ++ codes " =v1 issued 16 answered 22")
    ∷ (codes "op 2 client 1 write e" ++ (34 ∷ []) ++ codes " =v2 issued 28 answered 32")
    ∷ (codes "op 3 client 1 read e" ++ (34 ∷ []) ++ codes " issued 33 answered 39 =v2")
    ∷ (codes "op 4 client 0 read e" ++ (34 ∷ []) ++ codes " issued 40 answered 58 =v2")
    ∷ codes "op 5 client 1 write %25 - issued 42 answered 83"
    ∷ (codes "op 6 client 0 read e" ++ (34 ∷ []) ++ codes " issued 61 answered 77 =v2")
    ∷ (codes "op 7 client 0 write e" ++ (34 ∷ []) ++ codes " - issued 84 answered 88")
    ∷ codes "order %25 2"
    ∷ codes "at 0"
    ∷ codes "at 5"
    ∷ (codes "order e" ++ (34 ∷ []) ++ codes " 6")
    ∷ codes "at 1"
    ∷ codes "at 2"
    ∷ codes "at 3"
    ∷ codes "at 4"
    ∷ codes "at 6"
    ∷ codes "at 7"
    ∷ codes "done"
    ∷ []
    )
unfolding
    digits servers_from servers_of spelling in_range packet_of state_bytes state_of server_step
    client_step controller_step switch_step happens run order_of said_text directed_two_events
directed_two_trace = refl

-- fences, in format 1
unfoldable pub fences_one_events : List Event
fences_one_events =
    Copy (101 ∷ 34 ∷ []) 1 ∷ Deliver 0 2 ∷ Write 1 (replicate 32 100) (codes "v0") ∷ Deliver 2 1
    ∷ Deliver 1 2 ∷ Deliver 3 4 ∷ Deliver 4 1 ∷ Write 0 (101 ∷ 34 ∷ []) (codes "v1") ∷ Deliver 1 0
    ∷ Promote (replicate 32 100) ∷ Fence (replicate 32 100) ∷ Deliver 7 4 ∷ Deliver 5 4
    ∷ Deliver 8 4 ∷ Copy (replicate 32 100) 0 ∷ Deliver 4 1 ∷ Deliver 6 0 ∷ Deliver 9 3
    ∷ Deliver 13 4 ∷ Deliver 12 2 ∷ Fence (101 ∷ 34 ∷ []) ∷ Deliver 11 5 ∷ Deliver 15 5
    ∷ Write 1 (replicate 32 100) (codes "v2") ∷ Promote (101 ∷ 34 ∷ []) ∷ Deliver 17 3
    ∷ Deliver 10 5 ∷ Deliver 0 2 ∷ Copy (101 ∷ 34 ∷ []) 1 ∷ Deliver 18 0 ∷ Deliver 14 0
    ∷ Deliver 21 5 ∷ Deliver 16 1 ∷ Deliver 19 2 ∷ Deliver 20 4 ∷ Deliver 22 5 ∷ Deliver 23 0
    ∷ Deliver 24 0 ∷ Deliver 25 4 ∷ Read 0 (101 ∷ 34 ∷ []) ∷ Deliver 26 1
    ∷ Write 1 (replicate 32 100) (codes "v4") ∷ Deliver 8 4 ∷ Deliver 28 1 ∷ Resend 1
    ∷ Copy (101 ∷ 34 ∷ []) 0 ∷ GiveUp 0 ∷ Deliver 29 3 ∷ Write 0 (101 ∷ 34 ∷ []) (codes "v5")
    ∷ Resend 0 ∷ Write 0 (replicate 32 100) (codes "v6") ∷ Deliver 31 4 ∷ Deliver 34 5
    ∷ Deliver 35 1 ∷ Deliver 35 1 ∷ Deliver 36 2 ∷ Deliver 27 2 ∷ Deliver 24 5 ∷ Resend 1
    ∷ Deliver 15 0 ∷ Deliver 40 3 ∷ Deliver 2 0 ∷ Resend 0 ∷ Promote (101 ∷ 34 ∷ []) ∷ Deliver 43 3
    ∷ Deliver 44 2 ∷ Demote (replicate 32 100) ∷ Deliver 30 1 ∷ Deliver 41 4 ∷ Deliver 47 2
    ∷ Deliver 48 0 ∷ Deliver 30 0 ∷ Deliver 45 0 ∷ Deliver 39 1 ∷ Deliver 50 0 ∷ Deliver 37 5
    ∷ Deliver 13 1 ∷ Deliver 51 3 ∷ Deliver 49 3 ∷ Deliver 42 1 ∷ Deliver 32 3 ∷ Deliver 29 0
    ∷ Copy (101 ∷ 34 ∷ []) 2 ∷ Resend 0 ∷ Write 0 (101 ∷ 34 ∷ []) (codes "v6") ∷ Deliver 38 5
    ∷ Deliver 33 3 ∷ Resend 0 ∷ Deliver 46 2 ∷ Deliver 59 4 ∷ Deliver 56 0
    ∷ Write 1 (101 ∷ 34 ∷ []) (codes "v7") ∷ Deliver 63 2 ∷ Deliver 37 4 ∷ []

fences_one_trace : replay_text (rack_with One 3 2 1 1 2 1) [] fences_one_events ≡ lines (
    codes "1 rack"
    ∷ (codes "2 controller orders 1 copy e" ++ (34 ∷ []) ++ codes " to server 1 sends 0")
    ∷ codes "3 switch 0 applies 1 not listed sends 1"
    ∷ codes "4 write 1 seq 1 sends 2"
    ∷ (codes "5 switch 0 forwards write " ++ replicate 32 100
    ++ codes " version 1 to server 1 sends 3")
    ∷ codes "6 controller takes 1 not listed"
    ∷ (codes "7 server 1 applies " ++ replicate 32 100 ++ codes " version 1 sends 4")
    ∷ codes "8 switch 0 answers client 1 seq 1 version 1 unlisted sends 5"
    ∷ codes "9 write 0 seq 1 sends 6"
    ∷ codes "10 controller ignores"
    ∷ (codes "11 controller orders 2 promote " ++ replicate 32 100 ++ codes " sends 7")
    ∷ codes "12 controller busy 2"
    ∷ codes "13 switch 0 applies 2 listed 2 sends 8"
    ∷ codes "14 client 1 answered 1 version 1"
    ∷ codes "15 controller takes 2 listed 2"
    ∷ (codes "16 controller orders 3 copy " ++ replicate 32 100 ++ codes " to server 0 sends 9")
    ∷ codes "17 switch 0 answers client 1 seq 1 version 1 kept sends 10"
    ∷ (codes "18 switch 0 forwards write e" ++ (34 ∷ [])
    ++ codes " version 3 to server 0 sends 11")
    ∷ codes "19 switch 0 applies 3 ordered 1 sends 12..13"
    ∷ codes "20 controller takes 3 ordered 1"
    ∷ (codes "21 server 1 copies " ++ replicate 32 100 ++ codes " version 1 to server 0 sends 14")
    ∷ (codes "22 controller orders 4 fence e" ++ (34 ∷ []) ++ codes " sends 15")
    ∷ (codes "23 server 0 applies e" ++ (34 ∷ []) ++ codes " version 3 sends 16")
    ∷ codes "24 switch 0 applies 4 not listed sends 17"
    ∷ codes "25 write 1 seq 2 sends 18"
    ∷ codes "26 controller busy 4"
    ∷ codes "27 controller takes 4 not listed"
    ∷ codes "28 client 1 ignores"
    ∷ codes "29 switch 0 skips 1 at 4"
    ∷ (codes "30 controller orders 5 copy e" ++ (34 ∷ []) ++ codes " to server 1 sends 19")
    ∷ (codes "31 switch 0 forwards write " ++ replicate 32 100
    ++ codes " version 4 to server 0 sends 20")
    ∷ (codes "32 server 0 applies " ++ replicate 32 100 ++ codes " version 1 sends 21")
    ∷ codes "33 switch 0 notes server 0 version 1 kept"
    ∷ codes "34 switch 0 answers client 0 seq 1 version 3 unlisted sends 22"
    ∷ codes "35 switch 0 applies 5 not listed sends 23"
    ∷ (codes "36 server 0 applies " ++ replicate 32 100 ++ codes " version 4 sends 24")
    ∷ codes "37 client 0 answered 1 version 3"
    ∷ codes "38 controller takes 5 not listed"
    ∷ codes "39 switch 0 answers client 1 seq 2 version 4 raised sends 25"
    ∷ codes "40 client 1 answered 2 version 4"
    ∷ codes "41 read 0 seq 2 sends 26"
    ∷ (codes "42 switch 0 forwards read e" ++ (34 ∷ []) ++ codes " to server 0 sends 27")
    ∷ codes "43 write 1 seq 3 sends 28"
    ∷ codes "44 controller ignores"
    ∷ (codes "45 switch 0 forwards write " ++ replicate 32 100
    ++ codes " version 5 to server 1 sends 29")
    ∷ codes "46 resend 1 seq 3 sends 30"
    ∷ (codes "47 controller orders 6 copy e" ++ (34 ∷ []) ++ codes " to server 0 sends 31")
    ∷ codes "48 giveup 0 seq 2"
    ∷ (codes "49 server 1 applies " ++ replicate 32 100 ++ codes " version 5 sends 32")
    ∷ codes "50 write 0 seq 3 sends 33"
    ∷ codes "51 resend 0 seq 3 sends 34"
    ∷ codes "52 busy 0 seq 3"
    ∷ codes "53 switch 0 applies 6 not listed sends 35"
    ∷ (codes "54 switch 0 forwards write e" ++ (34 ∷ [])
    ++ codes " version 6 to server 0 sends 36")
    ∷ codes "55 controller takes 6 not listed"
    ∷ codes "56 controller ignores"
    ∷ (codes "57 server 0 applies e" ++ (34 ∷ []) ++ codes " version 6 sends 37")
    ∷ (codes "58 server 0 reads e" ++ (34 ∷ []) ++ codes " version 6 sends 38")
    ∷ codes "59 switch 0 answers client 1 seq 2 version 4 kept sends 39"
    ∷ codes "60 resend 1 seq 3 sends 40"
    ∷ codes "61 switch 0 skips 4 at 6"
    ∷ (codes "62 switch 0 forwards write " ++ replicate 32 100
    ++ codes " version 5 to server 0 sends 41")
    ∷ codes "63 switch 0 stale 3"
    ∷ codes "64 resend 0 seq 3 sends 42"
    ∷ (codes "65 controller orders 7 promote e" ++ (34 ∷ []) ++ codes " sends 43")
    ∷ codes "66 switch 0 applies 7 full 1 sends 44"
    ∷ codes "67 controller takes 7 full 1"
    ∷ (codes "68 controller orders 8 demote " ++ replicate 32 100 ++ codes " sends 45")
    ∷ (codes "69 switch 0 forwards write " ++ replicate 32 100
    ++ codes " version 5 to server 1 sends 46")
    ∷ (codes "70 server 0 applies " ++ replicate 32 100 ++ codes " version 5 sends 47")
    ∷ codes "71 switch 0 answers client 1 seq 3 version 5 raised sends 48"
    ∷ codes "72 client 1 answered 3 version 5"
    ∷ (codes "73 switch 0 forwards write " ++ replicate 32 100
    ++ codes " version 5 to server 1 sends 49")
    ∷ codes "74 switch 0 applies 8 marked 7 sends 50"
    ∷ codes "75 client 1 ignores"
    ∷ codes "76 controller takes 8 marked 7"
    ∷ codes "77 switch 0 answers client 0 seq 3 version 6 unlisted sends 51"
    ∷ codes "78 controller ignores"
    ∷ codes "79 client 0 answered 3 version 6"
    ∷ (codes "80 server 1 keeps " ++ replicate 32 100 ++ codes " version 5 sends 52")
    ∷ (codes "81 switch 0 forwards write e" ++ (34 ∷ [])
    ++ codes " version 6 to server 0 sends 53")
    ∷ codes "82 switch 0 answers client 1 seq 3 version 5 added sends 54"
    ∷ (codes "83 server 1 keeps " ++ replicate 32 100 ++ codes " version 5 sends 55")
    ∷ (codes "84 controller orders 9 copy e" ++ (34 ∷ []) ++ codes " to server 2 sends 56")
    ∷ codes "85 nothing open 0"
    ∷ codes "86 write 0 seq 4 sends 57"
    ∷ codes "87 switch 0 answers client 0 seq 2 version 6 unlisted sends 58"
    ∷ (codes "88 switch 0 forwards write e" ++ (34 ∷ [])
    ++ codes " version 6 to server 0 sends 59")
    ∷ codes "89 resend 0 seq 4 sends 60"
    ∷ (codes "90 server 1 keeps " ++ replicate 32 100 ++ codes " version 5 sends 61")
    ∷ (codes "91 server 0 keeps e" ++ (34 ∷ []) ++ codes " version 6 sends 62")
    ∷ codes "92 switch 0 applies 9 not listed sends 63"
    ∷ codes "93 write 1 seq 4 sends 64"
    ∷ codes "94 controller takes 9 not listed"
    ∷ codes "95 switch 0 answers client 0 seq 3 version 6 unlisted sends 65"
    ∷ codes "96 end"
    ∷ codes "history 8"
    ∷ (codes "op 0 client 1 write " ++ replicate 32 100 ++ codes " =v0 issued 4 answered 14")
    ∷ (codes "op 1 client 0 write e" ++ (34 ∷ []) ++ codes " =v1 issued 9 answered 37")
    ∷ (codes "op 2 client 1 write " ++ replicate 32 100 ++ codes " =v2 issued 25 answered 40")
    ∷ (codes "op 3 client 0 read e" ++ (34 ∷ []) ++ codes " issued 41 open")
    ∷ (codes "op 4 client 1 write " ++ replicate 32 100 ++ codes " =v4 issued 43 answered 72")
    ∷ (codes "op 5 client 0 write e" ++ (34 ∷ []) ++ codes " =v5 issued 50 answered 79")
    ∷ (codes "op 6 client 0 write e" ++ (34 ∷ []) ++ codes " =v6 issued 86 open")
    ∷ (codes "op 7 client 1 write e" ++ (34 ∷ []) ++ codes " =v7 issued 93 open")
    ∷ (codes "order " ++ replicate 32 100 ++ codes " 3")
    ∷ codes "at 0"
    ∷ codes "at 2"
    ∷ codes "at 4"
    ∷ (codes "order e" ++ (34 ∷ []) ++ codes " 2")
    ∷ codes "at 1"
    ∷ codes "at 5"
    ∷ codes "done"
    ∷ []
    )
unfolding
    digits servers_from servers_of spelling in_range packet_of state_bytes state_of server_step
    client_step controller_step switch_step happens run order_of said_text fences_one_events
fences_one_trace = refl

-- fences, in format 2
unfoldable pub fences_two_events : List Event
fences_two_events =
    Promote (codes "k") ∷ Promote (codes "k") ∷ Deliver 0 2 ∷ Deliver 1 3 ∷ Read 1 (codes "k")
    ∷ Deliver 2 4 ∷ Deliver 3 4 ∷ Deliver 1 4 ∷ Deliver 4 3 ∷ Deliver 5 4 ∷ Deliver 4 5
    ∷ Deliver 6 2 ∷ Promote (replicate 32 100) ∷ Write 0 (codes "k") (codes "v1") ∷ Deliver 7 0
    ∷ Read 1 (codes "k") ∷ Deliver 8 2 ∷ Deliver 9 5 ∷ Deliver 10 2 ∷ Deliver 11 0
    ∷ Read 1 (codes "k") ∷ Deliver 1 1 ∷ Resend 1 ∷ Deliver 12 5 ∷ Deliver 6 2 ∷ Demote (codes "k")
    ∷ Deliver 16 5 ∷ Deliver 17 1 ∷ Deliver 13 3 ∷ Deliver 6 4 ∷ Deliver 18 3
    ∷ Fence (replicate 32 100) ∷ Deliver 19 3 ∷ Deliver 20 1 ∷ Deliver 14 3 ∷ Deliver 18 1
    ∷ Fence (codes "k") ∷ Deliver 20 3 ∷ Deliver 22 0 ∷ Deliver 23 2 ∷ Deliver 15 0
    ∷ Fence (replicate 32 100) ∷ Deliver 21 5 ∷ Deliver 24 5 ∷ Deliver 16 2 ∷ Deliver 25 0
    ∷ Deliver 27 1 ∷ Delete 0 (codes "k") ∷ Resend 1 ∷ Deliver 26 1 ∷ Deliver 29 3
    ∷ Promote (codes "k") ∷ Deliver 12 4 ∷ Deliver 30 2 ∷ Write 0 (codes "k") (codes "v4")
    ∷ Deliver 31 3 ∷ Deliver 32 3 ∷ Deliver 33 3 ∷ Deliver 28 5 ∷ Resend 0 ∷ Deliver 35 5
    ∷ Deliver 17 4 ∷ Fence (replicate 32 100) ∷ Deliver 37 2 ∷ Deliver 7 4 ∷ Deliver 14 4
    ∷ Deliver 39 4 ∷ Deliver 40 5 ∷ Deliver 38 5 ∷ Demote (replicate 32 100) ∷ []

fences_two_trace :
    replay_text (rack_with Two 2 2 1 1 1 1) ((codes "k") ∷ []) fences_two_events ≡ lines (
    codes "1 rack"
    ∷ codes "2 controller orders 1 promote k sends 0"
    ∷ codes "3 controller busy 1"
    ∷ codes "4 switch 0 applies 1 already 0 sends 1"
    ∷ codes "5 controller takes 1 already 0"
    ∷ codes "6 read 1 seq 1 sends 2"
    ∷ codes "7 switch 0 forwards read k to server 1 sends 3"
    ∷ codes "8 server 1 reads k version 0 sends 4"
    ∷ codes "9 controller ignores"
    ∷ codes "10 switch 0 answers client 1 seq 1 version 0 kept sends 5"
    ∷ codes "11 client 1 answered 1 version 0 -"
    ∷ codes "12 switch 0 answers client 1 seq 1 version 0 kept sends 6"
    ∷ codes "13 client 1 ignores"
    ∷ (codes "14 controller orders 2 promote " ++ replicate 32 100 ++ codes " sends 7")
    ∷ codes "15 write 0 seq 1 sends 8"
    ∷ codes "16 switch 0 applies 2 full 1 sends 9"
    ∷ codes "17 read 1 seq 2 sends 10"
    ∷ codes "18 switch 0 forwards write k version 1 to server 0 sends 11"
    ∷ codes "19 controller takes 2 full 1"
    ∷ codes "20 switch 0 forwards read k to server 1 sends 12"
    ∷ codes "21 server 0 applies k version 1 sends 13"
    ∷ codes "22 busy 1 seq 2"
    ∷ codes "23 controller ignores"
    ∷ codes "24 resend 1 seq 2 sends 14"
    ∷ codes "25 server 1 reads k version 0 sends 15"
    ∷ codes "26 client 1 ignores"
    ∷ codes "27 controller orders 3 demote k sends 16"
    ∷ codes "28 switch 0 applies 3 marked 2 sends 17"
    ∷ codes "29 controller takes 3 marked 2"
    ∷ codes "30 switch 0 answers client 0 seq 1 version 1 raised sends 18"
    ∷ codes "31 client 1 ignores"
    ∷ codes "32 client 0 answered 1 version 1"
    ∷ (codes "33 controller orders 4 fence " ++ replicate 32 100 ++ codes " sends 19")
    ∷ codes "34 switch 0 applies 4 not listed sends 20"
    ∷ codes "35 controller takes 4 not listed"
    ∷ codes "36 switch 0 forwards read k to server 0 sends 21"
    ∷ codes "37 client 0 ignores"
    ∷ codes "38 controller orders 5 fence k sends 22"
    ∷ codes "39 controller ignores"
    ∷ codes "40 switch 0 applies 5 no base sends 23"
    ∷ codes "41 controller takes 5 no base"
    ∷ codes "42 switch 0 answers client 1 seq 2 version 0 kept sends 24"
    ∷ (codes "43 controller orders 6 fence " ++ replicate 32 100 ++ codes " sends 25")
    ∷ codes "44 server 0 reads k version 1 sends 26"
    ∷ codes "45 client 1 answered 2 version 0 -"
    ∷ codes "46 switch 0 skips 3 at 5"
    ∷ codes "47 switch 0 applies 6 not listed sends 27"
    ∷ codes "48 controller takes 6 not listed"
    ∷ codes "49 delete 0 seq 2 sends 28"
    ∷ codes "50 nothing open 1"
    ∷ codes "51 switch 0 answers client 1 seq 2 version 1 kept sends 29"
    ∷ codes "52 client 1 ignores"
    ∷ codes "53 controller orders 7 promote k sends 30"
    ∷ codes "54 server 1 reads k version 0 sends 31"
    ∷ codes "55 switch 0 applies 7 already 0 sends 32"
    ∷ codes "56 busy 0 seq 2"
    ∷ codes "57 switch 0 answers client 1 seq 2 version 0 kept sends 33"
    ∷ codes "58 controller takes 7 already 0"
    ∷ codes "59 client 1 ignores"
    ∷ codes "60 switch 0 forwards write k version 2 to server 1 sends 34"
    ∷ codes "61 resend 0 seq 2 sends 35"
    ∷ codes "62 switch 0 forwards write k version 2 to server 1 sends 36"
    ∷ codes "63 controller ignores"
    ∷ (codes "64 controller orders 8 fence " ++ replicate 32 100 ++ codes " sends 37")
    ∷ codes "65 switch 0 applies 8 not listed sends 38"
    ∷ codes "66 switch 0 skips 2 at 8"
    ∷ codes "67 switch 0 forwards read k to server 0 sends 39"
    ∷ codes "68 server 0 reads k version 1 sends 40"
    ∷ codes "69 switch 0 answers client 1 seq 2 version 1 kept sends 41"
    ∷ codes "70 controller takes 8 not listed"
    ∷ (codes "71 controller orders 9 demote " ++ replicate 32 100 ++ codes " sends 42")
    ∷ codes "72 end"
    ∷ codes "history 4"
    ∷ codes "op 0 client 1 read k issued 6 answered 11 -"
    ∷ codes "op 1 client 0 write k =v1 issued 15 answered 32"
    ∷ codes "op 2 client 1 read k issued 17 answered 45 -"
    ∷ codes "op 3 client 0 write k - issued 49 open"
    ∷ codes "order k 3"
    ∷ codes "at 0"
    ∷ codes "at 2"
    ∷ codes "at 1"
    ∷ codes "done"
    ∷ []
    )
unfolding
    digits servers_from servers_of spelling in_range packet_of state_bytes state_of server_step
    client_step controller_step switch_step happens run order_of said_text fences_two_events
fences_two_trace = refl

-- a write that is barred, in format 1
unfoldable pub barred_one_events : List Event
barred_one_events =
    Demote (101 ∷ 34 ∷ []) ∷ Deliver 0 0 ∷ Deliver 1 3 ∷ Write 2 (101 ∷ 34 ∷ []) (codes "v0")
    ∷ Deliver 2 0 ∷ Deliver 3 5 ∷ Copy (101 ∷ 34 ∷ []) 1 ∷ Deliver 5 4 ∷ Deliver 6 4 ∷ Deliver 8 4
    ∷ Write 0 (101 ∷ 34 ∷ []) (codes "v1") ∷ Deliver 10 2 ∷ Deliver 11 3 ∷ Deliver 12 0
    ∷ Write 1 (101 ∷ 34 ∷ []) (codes "v2") ∷ Deliver 4 1 ∷ Deliver 15 2 ∷ Deliver 7 2 ∷ Deliver 9 2
    ∷ Write 2 (101 ∷ 34 ∷ []) (codes "v3") ∷ Deliver 16 3 ∷ Deliver 17 0 ∷ Deliver 18 2
    ∷ Deliver 19 4 ∷ Deliver 14 3 ∷ Write 2 (101 ∷ 34 ∷ []) (codes "v4") ∷ Deliver 21 1
    ∷ Deliver 22 2 ∷ Deliver 13 1 ∷ Promote (101 ∷ 34 ∷ []) ∷ Deliver 24 3 ∷ Deliver 25 4
    ∷ Deliver 20 0 ∷ Deliver 26 1 ∷ Deliver 27 5 ∷ Deliver 23 1 ∷ Deliver 28 4
    ∷ Fence (101 ∷ 34 ∷ []) ∷ Deliver 29 0 ∷ Deliver 31 0 ∷ Demote (101 ∷ 34 ∷ []) ∷ Deliver 32 3
    ∷ Write 2 (101 ∷ 34 ∷ []) (codes "v5") ∷ Deliver 34 0 ∷ Write 0 (101 ∷ 34 ∷ []) (codes "v6")
    ∷ Deliver 30 2 ∷ Deliver 37 5 ∷ Deliver 35 0 ∷ Deliver 38 1 ∷ Deliver 39 2 ∷ Deliver 32 2
    ∷ Deliver 40 5 ∷ Write 2 (101 ∷ 34 ∷ []) (codes "v7") ∷ Deliver 41 4 ∷ Deliver 42 5
    ∷ Deliver 43 1 ∷ Promote (101 ∷ 34 ∷ []) ∷ Deliver 45 2 ∷ Deliver 24 5 ∷ Deliver 33 3
    ∷ Read 1 (101 ∷ 34 ∷ []) ∷ Resend 1 ∷ Deliver 48 3 ∷ GiveUp 1 ∷ Deliver 36 1 ∷ Deliver 50 5
    ∷ Deliver 51 1 ∷ Deliver 44 1 ∷ Resend 2 ∷ GiveUp 0 ∷ Deliver 46 2 ∷ Deliver 52 2
    ∷ Fence (101 ∷ 34 ∷ []) ∷ Deliver 53 1 ∷ Deliver 54 2 ∷ Deliver 56 4
    ∷ Write 2 (101 ∷ 34 ∷ []) (codes "v9") ∷ Deliver 57 1 ∷ Deliver 58 5 ∷ Deliver 59 3
    ∷ Deliver 60 1 ∷ Deliver 47 4 ∷ Deliver 61 1 ∷ Deliver 62 1 ∷ Deliver 63 3 ∷ Deliver 49 5
    ∷ Write 1 (101 ∷ 34 ∷ []) (codes "v10") ∷ Deliver 65 5 ∷ Deliver 66 2 ∷ Deliver 67 0
    ∷ Deliver 68 5 ∷ Deliver 3 3 ∷ Read 2 (101 ∷ 34 ∷ []) ∷ Deliver 69 3 ∷ Deliver 70 2
    ∷ Deliver 71 5 ∷ Deliver 72 0 ∷ Write 2 (101 ∷ 34 ∷ []) (codes "v12") ∷ []

barred_one_trace :
    replay_text (rack_with One 3 3 1 1 2 1) ((101 ∷ 34 ∷ []) ∷ []) barred_one_events ≡ lines (
    codes "1 rack"
    ∷ (codes "2 controller orders 1 demote e" ++ (34 ∷ []) ++ codes " sends 0")
    ∷ codes "3 switch 0 applies 1 marked 1 sends 1"
    ∷ codes "4 controller takes 1 marked 1"
    ∷ codes "5 write 2 seq 1 sends 2"
    ∷ (codes "6 switch 0 forwards write e" ++ (34 ∷ []) ++ codes " version 1 to server 0 sends 3")
    ∷ (codes "7 server 0 applies e" ++ (34 ∷ []) ++ codes " version 1 sends 4")
    ∷ (codes "8 controller orders 2 copy e" ++ (34 ∷ []) ++ codes " to server 1 sends 5")
    ∷ codes "9 switch 0 applies 2 ordered 0 sends 6..7"
    ∷ (codes "10 server 0 copies e" ++ (34 ∷ []) ++ codes " version 1 to server 1 sends 8")
    ∷ (codes "11 server 1 applies e" ++ (34 ∷ []) ++ codes " version 1 sends 9")
    ∷ codes "12 write 0 seq 1 sends 10"
    ∷ (codes "13 switch 0 forwards write e" ++ (34 ∷ [])
    ++ codes " version 2 to server 0 sends 11")
    ∷ (codes "14 server 0 applies e" ++ (34 ∷ []) ++ codes " version 2 sends 12")
    ∷ codes "15 switch 0 answers client 0 seq 1 version 2 removed 0 sends 13"
    ∷ codes "16 write 1 seq 1 sends 14"
    ∷ codes "17 switch 0 answers client 2 seq 1 version 1 unlisted sends 15"
    ∷ codes "18 client 2 answered 1 version 1"
    ∷ codes "19 controller takes 2 ordered 0"
    ∷ codes "20 switch 0 notes server 1 version 1 unlisted"
    ∷ codes "21 write 2 seq 2 sends 16"
    ∷ (codes "22 switch 0 forwards write e" ++ (34 ∷ [])
    ++ codes " version 3 to server 0 sends 17")
    ∷ (codes "23 server 0 applies e" ++ (34 ∷ []) ++ codes " version 3 sends 18")
    ∷ codes "24 switch 0 answers client 2 seq 2 version 3 unlisted sends 19"
    ∷ codes "25 client 2 answered 2 version 3"
    ∷ (codes "26 switch 0 forwards write e" ++ (34 ∷ [])
    ++ codes " version 4 to server 0 sends 20")
    ∷ codes "27 write 2 seq 3 sends 21"
    ∷ (codes "28 switch 0 forwards write e" ++ (34 ∷ [])
    ++ codes " version 5 to server 0 sends 22")
    ∷ (codes "29 server 0 applies e" ++ (34 ∷ []) ++ codes " version 5 sends 23")
    ∷ codes "30 client 0 answered 1 version 2"
    ∷ (codes "31 controller orders 3 promote e" ++ (34 ∷ []) ++ codes " sends 24")
    ∷ codes "32 switch 0 applies 3 listed 3 sends 25"
    ∷ codes "33 controller takes 3 listed 3"
    ∷ (codes "34 server 0 keeps e" ++ (34 ∷ []) ++ codes " version 5 sends 26")
    ∷ codes "35 switch 0 answers client 1 seq 1 version 4 kept sends 27"
    ∷ codes "36 client 1 answered 1 version 4"
    ∷ codes "37 switch 0 answers client 2 seq 3 version 5 kept sends 28"
    ∷ codes "38 client 2 answered 3 version 5"
    ∷ (codes "39 controller orders 4 fence e" ++ (34 ∷ []) ++ codes " sends 29")
    ∷ codes "40 switch 0 applies 4 fenced 6 sends 30..31"
    ∷ codes "41 controller takes 4 fenced 6"
    ∷ (codes "42 controller orders 5 demote e" ++ (34 ∷ []) ++ codes " sends 32")
    ∷ codes "43 switch 0 applies 5 marked 7 sends 33"
    ∷ codes "44 write 2 seq 4 sends 34"
    ∷ (codes "45 switch 0 forwards write e" ++ (34 ∷ [])
    ++ codes " version 7 to server 0 sends 35")
    ∷ codes "46 write 0 seq 2 sends 36"
    ∷ (codes "47 server 0 fences e" ++ (34 ∷ []) ++ codes " version 6 from 5 sends 37")
    ∷ codes "48 switch 0 notes server 0 version 6 kept"
    ∷ (codes "49 server 0 applies e" ++ (34 ∷ []) ++ codes " version 7 sends 38")
    ∷ codes "50 switch 0 answers client 2 seq 4 version 7 removed 3 sends 39"
    ∷ codes "51 client 2 answered 4 version 7"
    ∷ codes "52 switch 0 repeats 5 sends 40"
    ∷ codes "53 controller takes 5 marked 7"
    ∷ codes "54 write 2 seq 5 sends 41"
    ∷ (codes "55 switch 0 forwards write e" ++ (34 ∷ [])
    ++ codes " version 8 to server 0 sends 42")
    ∷ (codes "56 server 0 applies e" ++ (34 ∷ []) ++ codes " version 8 sends 43")
    ∷ codes "57 switch 0 answers client 2 seq 5 version 8 unlisted sends 44"
    ∷ (codes "58 controller orders 6 promote e" ++ (34 ∷ []) ++ codes " sends 45")
    ∷ codes "59 switch 0 applies 6 listed 6 sends 46"
    ∷ codes "60 switch 0 skips 3 at 6"
    ∷ codes "61 controller ignores"
    ∷ codes "62 read 1 seq 2 sends 47"
    ∷ codes "63 resend 1 seq 2 sends 48"
    ∷ (codes "64 switch 0 forwards read e" ++ (34 ∷ []) ++ codes " to server 0 sends 49")
    ∷ codes "65 giveup 1 seq 2"
    ∷ (codes "66 switch 0 forwards write e" ++ (34 ∷ [])
    ++ codes " version 10 to server 1 sends 50")
    ∷ (codes "67 server 1 applies e" ++ (34 ∷ []) ++ codes " version 10 sends 51")
    ∷ codes "68 switch 0 answers client 0 seq 2 version 10 raised sends 52"
    ∷ codes "69 client 2 answered 5 version 8"
    ∷ codes "70 nothing open 2"
    ∷ codes "71 giveup 0 seq 2"
    ∷ codes "72 controller takes 6 listed 6"
    ∷ codes "73 client 0 ignores"
    ∷ (codes "74 controller orders 7 fence e" ++ (34 ∷ []) ++ codes " sends 53")
    ∷ codes "75 switch 0 applies 7 fenced 9 sends 54..55"
    ∷ (codes "76 server 0 fences e" ++ (34 ∷ []) ++ codes " version 9 from 8 sends 56")
    ∷ codes "77 switch 0 notes server 0 version 9 kept"
    ∷ codes "78 write 2 seq 6 sends 57"
    ∷ (codes "79 switch 0 forwards write e" ++ (34 ∷ [])
    ++ codes " version 11 to server 1 sends 58")
    ∷ (codes "80 server 1 applies e" ++ (34 ∷ []) ++ codes " version 11 sends 59")
    ∷ codes "81 switch 0 answers client 2 seq 6 version 11 raised sends 60"
    ∷ codes "82 client 2 answered 6 version 11"
    ∷ (codes "83 switch 0 forwards read e" ++ (34 ∷ []) ++ codes " to server 1 sends 61")
    ∷ (codes "84 server 1 reads e" ++ (34 ∷ []) ++ codes " version 11 sends 62")
    ∷ codes "85 switch 0 answers client 1 seq 2 version 11 kept sends 63"
    ∷ codes "86 client 1 ignores"
    ∷ (codes "87 server 0 reads e" ++ (34 ∷ []) ++ codes " version 9 sends 64")
    ∷ codes "88 write 1 seq 3 sends 65"
    ∷ (codes "89 switch 0 forwards write e" ++ (34 ∷ [])
    ++ codes " version 12 to server 2 sends 66")
    ∷ (codes "90 server 2 applies e" ++ (34 ∷ []) ++ codes " version 12 sends 67")
    ∷ codes "91 switch 0 answers client 1 seq 3 version 12 raised sends 68"
    ∷ codes "92 client 1 answered 3 version 12"
    ∷ (codes "93 server 0 bars e" ++ (34 ∷ []) ++ codes " version 1 under 6")
    ∷ codes "94 read 2 seq 7 sends 69"
    ∷ (codes "95 switch 0 forwards read e" ++ (34 ∷ []) ++ codes " to server 2 sends 70")
    ∷ (codes "96 server 2 reads e" ++ (34 ∷ []) ++ codes " version 12 sends 71")
    ∷ codes "97 switch 0 answers client 2 seq 7 version 12 kept sends 72"
    ∷ codes "98 client 2 answered 7 version 12 =v10"
    ∷ codes "99 write 2 seq 8 sends 73"
    ∷ codes "100 end"
    ∷ codes "history 13"
    ∷ (codes "op 0 client 2 write e" ++ (34 ∷ []) ++ codes " =v0 issued 5 answered 18")
    ∷ (codes "op 1 client 0 write e" ++ (34 ∷ []) ++ codes " =v1 issued 12 answered 30")
    ∷ (codes "op 2 client 1 write e" ++ (34 ∷ []) ++ codes " =v2 issued 16 answered 36")
    ∷ (codes "op 3 client 2 write e" ++ (34 ∷ []) ++ codes " =v3 issued 21 answered 25")
    ∷ (codes "op 4 client 2 write e" ++ (34 ∷ []) ++ codes " =v4 issued 27 answered 38")
    ∷ (codes "op 5 client 2 write e" ++ (34 ∷ []) ++ codes " =v5 issued 44 answered 51")
    ∷ (codes "op 6 client 0 write e" ++ (34 ∷ []) ++ codes " =v6 issued 46 open")
    ∷ (codes "op 7 client 2 write e" ++ (34 ∷ []) ++ codes " =v7 issued 54 answered 69")
    ∷ (codes "op 8 client 1 read e" ++ (34 ∷ []) ++ codes " issued 62 open")
    ∷ (codes "op 9 client 2 write e" ++ (34 ∷ []) ++ codes " =v9 issued 78 answered 82")
    ∷ (codes "op 10 client 1 write e" ++ (34 ∷ []) ++ codes " =v10 issued 88 answered 92")
    ∷ (codes "op 11 client 2 read e" ++ (34 ∷ []) ++ codes " issued 94 answered 98 =v10")
    ∷ (codes "op 12 client 2 write e" ++ (34 ∷ []) ++ codes " =v12 issued 99 open")
    ∷ (codes "order e" ++ (34 ∷ []) ++ codes " 10")
    ∷ codes "at 0"
    ∷ codes "at 1"
    ∷ codes "at 3"
    ∷ codes "at 2"
    ∷ codes "at 4"
    ∷ codes "at 5"
    ∷ codes "at 7"
    ∷ codes "at 9"
    ∷ codes "at 10"
    ∷ codes "at 11"
    ∷ codes "done"
    ∷ []
    )
unfolding
    digits servers_from servers_of spelling in_range packet_of state_bytes state_of server_step
    client_step controller_step switch_step happens run order_of said_text barred_one_events
barred_one_trace = refl

-- another write that is barred, in format 2
unfoldable pub barred_again_two_events : List Event
barred_again_two_events =
    Write 0 (codes "k") (codes "v0") ∷ Deliver 0 0 ∷ Deliver 1 5 ∷ Deliver 2 5 ∷ Deliver 3 0
    ∷ Deliver 3 1 ∷ Promote (codes "k") ∷ Deliver 4 4 ∷ Deliver 5 1 ∷ Fence (codes "k")
    ∷ Deliver 6 3 ∷ Deliver 8 4 ∷ Deliver 7 1 ∷ Deliver 9 3 ∷ Deliver 9 4
    ∷ Write 0 (codes "k") (codes "v1") ∷ Deliver 10 3 ∷ Deliver 11 4 ∷ Deliver 12 0 ∷ Deliver 13 2
    ∷ Demote (codes "k") ∷ Deliver 14 3 ∷ Deliver 15 4 ∷ Write 0 (codes "k") (codes "v2")
    ∷ Deliver 16 5 ∷ Deliver 17 2 ∷ Deliver 18 1 ∷ Deliver 19 4 ∷ Promote (codes "k")
    ∷ Deliver 20 0 ∷ Deliver 21 2 ∷ Fence (codes "k") ∷ Deliver 22 2 ∷ Deliver 24 1 ∷ Deliver 23 3
    ∷ Deliver 25 5 ∷ Deliver 25 1 ∷ Demote (codes "k") ∷ Deliver 26 5 ∷ Deliver 27 0 ∷ Deliver 23 0
    ∷ Deliver 28 1 ∷ Deliver 28 0 ∷ Read 0 (codes "k") ∷ Deliver 29 3 ∷ Deliver 30 2 ∷ Deliver 31 5
    ∷ Deliver 32 5 ∷ Deliver 1 1 ∷ Read 0 (codes "k") ∷ Deliver 33 0 ∷ Deliver 34 3 ∷ Deliver 35 3
    ∷ Deliver 36 5 ∷ Write 1 (codes "k") (codes "v5") ∷ Deliver 37 4 ∷ Deliver 38 5 ∷ Deliver 39 0
    ∷ Deliver 40 4 ∷ Promote (codes "k") ∷ Deliver 41 2 ∷ Deliver 42 3 ∷ Deliver 40 5
    ∷ Write 0 (codes "k") (codes "v6") ∷ Deliver 43 0 ∷ []

barred_again_two_trace :
    replay_text (rack_with Two 2 2 1 1 2 1) [] barred_again_two_events ≡ lines (
    codes "1 rack"
    ∷ codes "2 write 0 seq 1 sends 0"
    ∷ codes "3 switch 0 forwards write k version 1 to server 1 sends 1"
    ∷ codes "4 server 1 applies k version 1 sends 2"
    ∷ codes "5 switch 0 answers client 0 seq 1 version 1 unlisted sends 3"
    ∷ codes "6 client 0 answered 1 version 1"
    ∷ codes "7 client 0 ignores"
    ∷ codes "8 controller orders 1 promote k sends 4"
    ∷ codes "9 switch 0 applies 1 listed 1 sends 5"
    ∷ codes "10 controller takes 1 listed 1"
    ∷ codes "11 controller orders 2 fence k sends 6"
    ∷ codes "12 switch 0 applies 2 fenced 2 sends 7..8"
    ∷ codes "13 controller takes 2 fenced 2"
    ∷ codes "14 server 1 fences k version 2 from 1 sends 9"
    ∷ codes "15 switch 0 notes server 1 version 2 kept"
    ∷ codes "16 switch 0 notes server 1 version 2 kept"
    ∷ codes "17 write 0 seq 2 sends 10"
    ∷ codes "18 switch 0 forwards write k version 3 to server 1 sends 11"
    ∷ codes "19 server 1 applies k version 3 sends 12"
    ∷ codes "20 switch 0 answers client 0 seq 2 version 3 raised sends 13"
    ∷ codes "21 client 0 answered 2 version 3"
    ∷ codes "22 controller orders 3 demote k sends 14"
    ∷ codes "23 switch 0 applies 3 marked 4 sends 15"
    ∷ codes "24 controller takes 3 marked 4"
    ∷ codes "25 write 0 seq 3 sends 16"
    ∷ codes "26 switch 0 forwards write k version 4 to server 1 sends 17"
    ∷ codes "27 server 1 applies k version 4 sends 18"
    ∷ codes "28 switch 0 answers client 0 seq 3 version 4 removed 1 sends 19"
    ∷ codes "29 client 0 answered 3 version 4"
    ∷ codes "30 controller orders 4 promote k sends 20"
    ∷ codes "31 switch 0 applies 4 listed 4 sends 21"
    ∷ codes "32 controller takes 4 listed 4"
    ∷ codes "33 controller orders 5 fence k sends 22"
    ∷ codes "34 switch 0 applies 5 fenced 5 sends 23..24"
    ∷ codes "35 controller takes 5 fenced 5"
    ∷ codes "36 server 1 fences k version 5 from 4 sends 25"
    ∷ codes "37 switch 0 notes server 1 version 5 kept"
    ∷ codes "38 switch 0 notes server 1 version 5 kept"
    ∷ codes "39 controller orders 6 demote k sends 26"
    ∷ codes "40 switch 0 applies 6 marked 6 sends 27"
    ∷ codes "41 controller takes 6 marked 6"
    ∷ codes "42 server 1 keeps k version 5 sends 28"
    ∷ codes "43 switch 0 notes server 1 version 5 kept"
    ∷ codes "44 switch 0 notes server 1 version 5 kept"
    ∷ codes "45 read 0 seq 4 sends 29"
    ∷ codes "46 switch 0 forwards read k to server 1 sends 30"
    ∷ codes "47 server 1 reads k version 5 sends 31"
    ∷ codes "48 switch 0 answers client 0 seq 4 version 5 kept sends 32"
    ∷ codes "49 client 0 answered 4 version 5 =v2"
    ∷ codes "50 server 1 bars k version 1 under 2"
    ∷ codes "51 read 0 seq 5 sends 33"
    ∷ codes "52 switch 0 forwards read k to server 1 sends 34"
    ∷ codes "53 server 1 reads k version 5 sends 35"
    ∷ codes "54 switch 0 answers client 0 seq 5 version 5 kept sends 36"
    ∷ codes "55 client 0 answered 5 version 5 =v2"
    ∷ codes "56 write 1 seq 1 sends 37"
    ∷ codes "57 switch 0 forwards write k version 6 to server 1 sends 38"
    ∷ codes "58 server 1 applies k version 6 sends 39"
    ∷ codes "59 switch 0 answers client 1 seq 1 version 6 removed 4 sends 40"
    ∷ codes "60 client 1 answered 1 version 6"
    ∷ codes "61 controller orders 7 promote k sends 41"
    ∷ codes "62 switch 0 applies 7 listed 7 sends 42"
    ∷ codes "63 controller takes 7 listed 7"
    ∷ codes "64 client 1 ignores"
    ∷ codes "65 write 0 seq 6 sends 43"
    ∷ codes "66 switch 0 forwards write k version 8 to server 0 sends 44"
    ∷ codes "67 end"
    ∷ codes "history 7"
    ∷ codes "op 0 client 0 write k =v0 issued 2 answered 6"
    ∷ codes "op 1 client 0 write k =v1 issued 17 answered 21"
    ∷ codes "op 2 client 0 write k =v2 issued 25 answered 29"
    ∷ codes "op 3 client 0 read k issued 45 answered 49 =v2"
    ∷ codes "op 4 client 0 read k issued 51 answered 55 =v2"
    ∷ codes "op 5 client 1 write k =v5 issued 56 answered 60"
    ∷ codes "op 6 client 0 write k =v6 issued 65 open"
    ∷ codes "order k 6"
    ∷ codes "at 0"
    ∷ codes "at 1"
    ∷ codes "at 2"
    ∷ codes "at 3"
    ∷ codes "at 4"
    ∷ codes "at 5"
    ∷ codes "done"
    ∷ []
    )
unfolding
    digits servers_from servers_of spelling in_range packet_of state_bytes state_of server_step
    client_step controller_step switch_step happens run order_of said_text barred_again_two_events
barred_again_two_trace = refl

-- a void that comes too late, in format 1
unfoldable pub void_skipped_one_events : List Event
void_skipped_one_events =
    Write 0 (codes "%") (codes "v0") ∷ Deliver 0 5 ∷ Demote (codes "a") ∷ Deliver 2 3 ∷ Deliver 3 4
    ∷ Promote (codes "%") ∷ Deliver 4 2 ∷ Deliver 5 0 ∷ Read 2 (codes "a") ∷ Fence (codes "%")
    ∷ Deliver 7 1 ∷ Deliver 8 1 ∷ Deliver 10 2 ∷ Write 1 (codes "%") (codes "v2") ∷ Deliver 11 1
    ∷ Resend 2 ∷ Deliver 13 5 ∷ Deliver 14 5 ∷ Deliver 15 4 ∷ Deliver 16 1 ∷ Deliver 1 0
    ∷ Write 1 (codes "%") (codes "v3") ∷ Write 0 (codes "a") (codes "v3") ∷ Deliver 6 1
    ∷ Deliver 0 3 ∷ Resend 0 ∷ Deliver 20 0 ∷ Deliver 21 1 ∷ Deliver 22 1 ∷ Deliver 9 5
    ∷ Fence (codes "a") ∷ Deliver 23 1 ∷ Deliver 24 1 ∷ Write 2 (codes "a") (codes "v3")
    ∷ Deliver 25 0 ∷ Deliver 26 2 ∷ Deliver 27 2 ∷ Deliver 28 5 ∷ Fence (codes "a") ∷ Deliver 6 1
    ∷ Deliver 30 5 ∷ Deliver 31 1 ∷ Deliver 32 2 ∷ Write 2 (codes "a") (codes "v4") ∷ Deliver 33 3
    ∷ Resend 2 ∷ Deliver 35 2 ∷ Deliver 36 2 ∷ Deliver 37 2 ∷ Write 1 (codes "a") (codes "v5")
    ∷ Deliver 18 2 ∷ Deliver 39 1 ∷ Deliver 12 4 ∷ Deliver 41 0 ∷ Deliver 42 4 ∷ Deliver 19 3
    ∷ Deliver 43 4 ∷ Write 1 (codes "%") (codes "v5") ∷ Deliver 44 3 ∷ Deliver 45 4 ∷ Deliver 46 5
    ∷ Deliver 38 5 ∷ Resend 1 ∷ []

void_skipped_one_trace :
    replay_text (rack_with One 3 3 1 1 3 1) [] void_skipped_one_events ≡ lines (
    codes "1 rack"
    ∷ codes "2 write 0 seq 1 sends 0"
    ∷ codes "3 switch 0 forwards write %25 version 1 to server 1 sends 1"
    ∷ codes "4 controller orders 1 demote a sends 2"
    ∷ codes "5 switch 0 applies 1 not listed sends 3"
    ∷ codes "6 controller takes 1 not listed"
    ∷ codes "7 controller orders 2 promote %25 sends 4"
    ∷ codes "8 switch 0 applies 2 listed 2 sends 5"
    ∷ codes "9 controller takes 2 listed 2"
    ∷ codes "10 read 2 seq 1 sends 6"
    ∷ codes "11 controller orders 3 fence %25 sends 7"
    ∷ codes "12 switch 0 applies 3 fenced 2 sends 8..9"
    ∷ codes "13 server 1 fences %25 version 2 from 0 sends 10"
    ∷ codes "14 switch 0 notes server 1 version 2 kept"
    ∷ codes "15 write 1 seq 1 sends 11"
    ∷ codes "16 switch 0 forwards write %25 version 3 to server 1 sends 12"
    ∷ codes "17 resend 2 seq 1 sends 13"
    ∷ codes "18 switch 0 forwards read a to server 1 sends 14"
    ∷ codes "19 server 1 reads a version 0 sends 15"
    ∷ codes "20 switch 0 answers client 2 seq 1 version 0 unlisted sends 16"
    ∷ codes "21 client 2 answered 1 version 0 -"
    ∷ codes "22 server 1 voids %25 version 1 under 2 sends 17"
    ∷ codes "23 busy 1 seq 1"
    ∷ codes "24 busy 0 seq 1"
    ∷ codes "25 switch 0 forwards read a to server 1 sends 18"
    ∷ codes "26 switch 0 forwards write %25 version 1 to server 1 sends 19"
    ∷ codes "27 resend 0 seq 1 sends 20"
    ∷ codes "28 switch 0 forwards write %25 version 1 to server 1 sends 21"
    ∷ codes "29 server 1 voids %25 version 1 under 2 sends 22"
    ∷ codes "30 switch 0 voids client 0 seq 1 version 1"
    ∷ codes "31 controller takes 3 fenced 2"
    ∷ codes "32 controller orders 4 fence a sends 23"
    ∷ codes "33 switch 0 applies 4 not listed sends 24"
    ∷ codes "34 controller takes 4 not listed"
    ∷ codes "35 write 2 seq 2 sends 25"
    ∷ codes "36 switch 0 forwards write a version 4 to server 1 sends 26"
    ∷ codes "37 server 1 applies a version 4 sends 27"
    ∷ codes "38 switch 0 answers client 2 seq 2 version 4 unlisted sends 28"
    ∷ codes "39 client 2 answered 2 version 4"
    ∷ codes "40 controller orders 5 fence a sends 29"
    ∷ codes "41 switch 0 forwards read a to server 1 sends 30"
    ∷ codes "42 server 1 reads a version 4 sends 31"
    ∷ codes "43 switch 0 answers client 2 seq 1 version 4 unlisted sends 32"
    ∷ codes "44 client 2 ignores"
    ∷ codes "45 write 2 seq 3 sends 33"
    ∷ codes "46 switch 0 forwards write a version 5 to server 1 sends 34"
    ∷ codes "47 resend 2 seq 3 sends 35"
    ∷ codes "48 switch 0 forwards write a version 5 to server 1 sends 36"
    ∷ codes "49 server 1 applies a version 5 sends 37"
    ∷ codes "50 switch 0 answers client 2 seq 3 version 5 unlisted sends 38"
    ∷ codes "51 busy 1 seq 1"
    ∷ codes "52 server 1 reads a version 5 sends 39"
    ∷ codes "53 switch 0 answers client 2 seq 1 version 5 unlisted sends 40"
    ∷ codes "54 server 1 applies %25 version 3 sends 41"
    ∷ codes "55 switch 0 answers client 1 seq 1 version 3 raised sends 42"
    ∷ codes "56 client 1 answered 1 version 3"
    ∷ codes "57 server 1 voids %25 version 1 under 2 sends 43"
    ∷ codes "58 switch 0 skips void of client 0 seq 1"
    ∷ codes "59 write 1 seq 2 sends 44"
    ∷ codes "60 switch 0 forwards write %25 version 6 to server 0 sends 45"
    ∷ codes "61 server 0 applies %25 version 6 sends 46"
    ∷ codes "62 switch 0 answers client 1 seq 2 version 6 raised sends 47"
    ∷ codes "63 client 2 answered 3 version 5"
    ∷ codes "64 resend 1 seq 2 sends 48"
    ∷ codes "65 end"
    ∷ codes "history 6"
    ∷ codes "op 0 client 0 write %25 =v0 issued 2 open"
    ∷ codes "op 1 client 2 read a issued 10 answered 21 -"
    ∷ codes "op 2 client 1 write %25 =v2 issued 15 answered 56"
    ∷ codes "op 3 client 2 write a =v3 issued 35 answered 39"
    ∷ codes "op 4 client 2 write a =v4 issued 45 answered 63"
    ∷ codes "op 5 client 1 write %25 =v5 issued 59 open"
    ∷ codes "order %25 1"
    ∷ codes "at 2"
    ∷ codes "order a 3"
    ∷ codes "at 1"
    ∷ codes "at 3"
    ∷ codes "at 4"
    ∷ codes "done"
    ∷ []
    )
unfolding
    digits servers_from servers_of spelling in_range packet_of state_bytes state_of server_step
    client_step controller_step switch_step happens run order_of said_text void_skipped_one_events
void_skipped_one_trace = refl

-- a promotion for which no version is left, in format 1
unfoldable pub no_version_one_events : List Event
no_version_one_events =
    Write 1 (codes "a") (codes "v0") ∷ Deliver 0 1 ∷ Deliver 0 0 ∷ Deliver 0 5 ∷ Copy (codes "a") 0
    ∷ Deliver 0 4 ∷ Deliver 1 3 ∷ Deliver 2 3 ∷ Deliver 0 1 ∷ Read 0 (codes "a")
    ∷ Copy (codes "a") 0 ∷ Deliver 4 0 ∷ Deliver 5 4 ∷ Read 1 (codes "a") ∷ Resend 1 ∷ Deliver 3 3
    ∷ Deliver 6 3 ∷ Deliver 7 0 ∷ Deliver 2 4 ∷ Deliver 8 0 ∷ Read 0 (codes "a") ∷ Deliver 9 3
    ∷ Deliver 2 1 ∷ Deliver 5 0 ∷ Deliver 9 1 ∷ Promote (codes "a") ∷ Deliver 10 1 ∷ Resend 1
    ∷ Deliver 11 5 ∷ Deliver 6 2 ∷ Demote (codes "a") ∷ Deliver 0 1 ∷ Deliver 13 2
    ∷ Copy (codes "a") 0 ∷ Deliver 14 1 ∷ Fence (codes "a") ∷ Deliver 15 4 ∷ Deliver 16 4
    ∷ Fence (codes "a") ∷ Deliver 17 0 ∷ Deliver 12 3 ∷ Deliver 18 3 ∷ Demote (codes "a")
    ∷ Deliver 19 3 ∷ Deliver 20 3 ∷ Deliver 5 2 ∷ Deliver 16 2 ∷ Fence (codes "a") ∷ Deliver 21 3
    ∷ Deliver 22 0 ∷ Fence (codes "a") ∷ Deliver 23 4 ∷ Resend 1 ∷ Deliver 24 2 ∷ Deliver 25 4
    ∷ Write 0 (codes "a") (codes "v2") ∷ Deliver 26 1 ∷ Deliver 13 1 ∷ Deliver 24 1 ∷ Deliver 25 0
    ∷ Deliver 7 0 ∷ Deliver 12 2 ∷ Deliver 27 5 ∷ Resend 0 ∷ Deliver 29 5 ∷ Fence (codes "a")
    ∷ Resend 1 ∷ Deliver 31 4 ∷ Deliver 29 2 ∷ Deliver 30 3 ∷ Deliver 32 5 ∷ Deliver 28 2
    ∷ Deliver 12 2 ∷ Demote (codes "a") ∷ Deliver 33 2 ∷ Write 0 (codes "a") (codes "v3")
    ∷ Deliver 34 4 ∷ Deliver 16 4 ∷ Fence (codes "a") ∷ Deliver 35 5 ∷ Deliver 36 0
    ∷ Promote (codes "a") ∷ Deliver 37 4 ∷ Resend 1 ∷ Deliver 38 5 ∷ Fence (codes "a")
    ∷ Deliver 39 1 ∷ Deliver 40 1 ∷ Deliver 41 5 ∷ Deliver 10 2 ∷ Deliver 10 0 ∷ Deliver 6 4
    ∷ Fence (codes "a") ∷ Deliver 42 0 ∷ Deliver 43 2 ∷ Deliver 26 2 ∷ []

no_version_one_trace :
    replay_text (rack_with One 2 2 1 1 1 18446744073709551615) [] no_version_one_events ≡ lines (
    codes "1 rack"
    ∷ codes "2 write 1 seq 1 sends 0"
    ∷ codes "3 switch 0 exhausted 18446744073709551615"
    ∷ codes "4 switch 0 exhausted 18446744073709551615"
    ∷ codes "5 switch 0 exhausted 18446744073709551615"
    ∷ codes "6 controller orders 1 copy a to server 0 sends 1"
    ∷ codes "7 switch 0 exhausted 18446744073709551615"
    ∷ codes "8 switch 0 applies 1 not listed sends 2"
    ∷ codes "9 controller takes 1 not listed"
    ∷ codes "10 switch 0 exhausted 18446744073709551615"
    ∷ codes "11 read 0 seq 1 sends 3"
    ∷ codes "12 controller orders 2 copy a to server 0 sends 4"
    ∷ codes "13 switch 0 applies 2 not listed sends 5"
    ∷ codes "14 controller takes 2 not listed"
    ∷ codes "15 busy 1 seq 1"
    ∷ codes "16 resend 1 seq 1 sends 6"
    ∷ codes "17 switch 0 forwards read a to server 1 sends 7"
    ∷ codes "18 switch 0 exhausted 18446744073709551615"
    ∷ codes "19 server 1 reads a version 0 sends 8"
    ∷ codes "20 controller ignores"
    ∷ codes "21 switch 0 answers client 0 seq 1 version 0 unlisted sends 9"
    ∷ codes "22 busy 0 seq 1"
    ∷ codes "23 client 0 answered 1 version 0 -"
    ∷ codes "24 controller ignores"
    ∷ codes "25 controller ignores"
    ∷ codes "26 client 0 ignores"
    ∷ codes "27 controller orders 3 promote a sends 10"
    ∷ codes "28 switch 0 applies 3 no version sends 11"
    ∷ codes "29 resend 1 seq 1 sends 12"
    ∷ codes "30 controller takes 3 no version"
    ∷ codes "31 switch 0 exhausted 18446744073709551615"
    ∷ codes "32 controller orders 4 demote a sends 13"
    ∷ codes "33 switch 0 exhausted 18446744073709551615"
    ∷ codes "34 switch 0 applies 4 not listed sends 14"
    ∷ codes "35 controller busy 4"
    ∷ codes "36 controller takes 4 not listed"
    ∷ codes "37 controller orders 5 fence a sends 15"
    ∷ codes "38 switch 0 applies 5 not listed sends 16"
    ∷ codes "39 controller takes 5 not listed"
    ∷ codes "40 controller orders 6 fence a sends 17"
    ∷ codes "41 switch 0 applies 6 not listed sends 18"
    ∷ codes "42 switch 0 exhausted 18446744073709551615"
    ∷ codes "43 controller takes 6 not listed"
    ∷ codes "44 controller orders 7 demote a sends 19"
    ∷ codes "45 switch 0 applies 7 not listed sends 20"
    ∷ codes "46 controller takes 7 not listed"
    ∷ codes "47 controller ignores"
    ∷ codes "48 controller ignores"
    ∷ codes "49 controller orders 8 fence a sends 21"
    ∷ codes "50 switch 0 applies 8 not listed sends 22"
    ∷ codes "51 controller takes 8 not listed"
    ∷ codes "52 controller orders 9 fence a sends 23"
    ∷ codes "53 switch 0 applies 9 not listed sends 24"
    ∷ codes "54 resend 1 seq 1 sends 25"
    ∷ codes "55 controller takes 9 not listed"
    ∷ codes "56 switch 0 exhausted 18446744073709551615"
    ∷ codes "57 write 0 seq 2 sends 26"
    ∷ codes "58 switch 0 exhausted 18446744073709551615"
    ∷ codes "59 switch 0 skips 4 at 9"
    ∷ codes "60 controller ignores"
    ∷ codes "61 switch 0 exhausted 18446744073709551615"
    ∷ codes "62 server 1 reads a version 0 sends 27"
    ∷ codes "63 switch 0 exhausted 18446744073709551615"
    ∷ codes "64 switch 0 answers client 0 seq 1 version 0 unlisted sends 28"
    ∷ codes "65 resend 0 seq 2 sends 29"
    ∷ codes "66 switch 0 exhausted 18446744073709551615"
    ∷ codes "67 controller orders 10 fence a sends 30"
    ∷ codes "68 resend 1 seq 1 sends 31"
    ∷ codes "69 switch 0 exhausted 18446744073709551615"
    ∷ codes "70 switch 0 exhausted 18446744073709551615"
    ∷ codes "71 switch 0 applies 10 not listed sends 32"
    ∷ codes "72 controller takes 10 not listed"
    ∷ codes "73 client 0 ignores"
    ∷ codes "74 switch 0 exhausted 18446744073709551615"
    ∷ codes "75 controller orders 11 demote a sends 33"
    ∷ codes "76 switch 0 applies 11 not listed sends 34"
    ∷ codes "77 busy 0 seq 2"
    ∷ codes "78 controller takes 11 not listed"
    ∷ codes "79 controller ignores"
    ∷ codes "80 controller orders 12 fence a sends 35"
    ∷ codes "81 switch 0 applies 12 not listed sends 36"
    ∷ codes "82 controller takes 12 not listed"
    ∷ codes "83 controller orders 13 promote a sends 37"
    ∷ codes "84 switch 0 applies 13 no version sends 38"
    ∷ codes "85 resend 1 seq 1 sends 39"
    ∷ codes "86 controller takes 13 no version"
    ∷ codes "87 controller orders 14 fence a sends 40"
    ∷ codes "88 switch 0 exhausted 18446744073709551615"
    ∷ codes "89 switch 0 applies 14 not listed sends 41"
    ∷ codes "90 controller takes 14 not listed"
    ∷ codes "91 switch 0 skips 3 at 14"
    ∷ codes "92 switch 0 skips 3 at 14"
    ∷ codes "93 switch 0 exhausted 18446744073709551615"
    ∷ codes "94 controller orders 15 fence a sends 42"
    ∷ codes "95 switch 0 applies 15 not listed sends 43"
    ∷ codes "96 controller takes 15 not listed"
    ∷ codes "97 switch 0 exhausted 18446744073709551615"
    ∷ codes "98 end"
    ∷ codes "history 3"
    ∷ codes "op 0 client 1 write a =v0 issued 2 open"
    ∷ codes "op 1 client 0 read a issued 11 answered 23 -"
    ∷ codes "op 2 client 0 write a =v2 issued 57 open"
    ∷ codes "order a 1"
    ∷ codes "at 1"
    ∷ codes "done"
    ∷ []
    )
unfolding
    digits servers_from servers_of spelling in_range packet_of state_bytes state_of server_step
    client_step controller_step switch_step happens run order_of said_text no_version_one_events
no_version_one_trace = refl
