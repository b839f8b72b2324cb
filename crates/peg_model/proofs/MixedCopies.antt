-- Random runs with copies, promotions and demotions. An independent model of the same rules, in
-- another language, gave the text of each.
use Rattle.std.specs.Prelude.{◌≡◌, List, [], ◌∷◌, ◌++◌, refl, codes, replicate}
use Rattle.std.specs.Fmt.{digits}
use Rattle.peg_name.specs.Holders.{servers_from, servers_of}
use Rattle.peg_name.specs.declared.Format.TheVariants.{One, Two}
use Rattle.peg_event.specs.declared.Event.{Event}
use Rattle.peg_event.specs.declared.Event.TheVariants.{Read, Write, Delete, Resend, GiveUp}
use Rattle.peg_event.specs.declared.Event.TheVariants.{Deliver, Promote, Demote, Copy, Fence}
use Rattle.peg_event.specs.declared.Event.TheVariants.{Handover, Retry}
use Rattle.peg_model.specs.Packet.{in_range, spelling}
use Rattle.peg_model.specs.Reading.{packet_of}
use Rattle.peg_model.specs.Handover.{state_bytes, state_of}
use Rattle.peg_model.specs.Server.{server_step}
use Rattle.peg_model.specs.Client.{client_step}
use Rattle.peg_model.specs.Controller.{controller_step}
use Rattle.peg_model.specs.Switch.{switch_step}
use Rattle.peg_model.specs.World.{happens, run}
use Rattle.peg_model.specs.Order.{order_of}
use Rattle.peg_model.specs.Trace.{said_text, replay_text}
use Rattle.peg_model.proofs.Computed.{rack_with, lines}

-- copies of a fenced key, in format 1
unfoldable pub directed_copies_one_events : List Event
directed_copies_one_events =
    Promote (codes "a") ∷ Deliver 0 5 ∷ Deliver 1 0 ∷ Deliver 0 2 ∷ Deliver 2 2
    ∷ Write 0 (codes "a") (codes "v0") ∷ Deliver 3 5 ∷ Deliver 4 3 ∷ Deliver 5 5 ∷ Deliver 6 0
    ∷ Write 2 (codes "a") (codes "v1") ∷ Deliver 7 1 ∷ Deliver 8 2 ∷ Deliver 9 1 ∷ Deliver 10 5
    ∷ Deliver 3 5 ∷ Read 0 (codes "a") ∷ Deliver 12 4 ∷ Deliver 13 5 ∷ Deliver 14 1
    ∷ Copy (codes "a") 2 ∷ Deliver 16 3 ∷ Deliver 18 4 ∷ Deliver 11 5 ∷ Deliver 19 3 ∷ Deliver 20 3
    ∷ Deliver 12 0 ∷ Deliver 21 5 ∷ Deliver 22 2 ∷ Deliver 23 2 ∷ Deliver 17 4 ∷ Deliver 24 4
    ∷ Deliver 25 2 ∷ Demote (codes "a") ∷ Deliver 26 2 ∷ Deliver 27 0 ∷ Read 1 (codes "a")
    ∷ Deliver 28 5 ∷ Deliver 29 1 ∷ Deliver 30 0 ∷ Deliver 31 5 ∷ Copy (codes "a") 1 ∷ Deliver 2 3
    ∷ Write 1 (codes "a") (codes "v4") ∷ Deliver 33 4 ∷ Write 2 (codes "a") (codes "v5")
    ∷ Deliver 35 5 ∷ Deliver 34 2 ∷ Deliver 32 4 ∷ Read 0 (codes "a") ∷ Deliver 39 0 ∷ Deliver 36 2
    ∷ Deliver 41 4 ∷ Deliver 42 2 ∷ Deliver 7 1 ∷ Promote (codes "a") ∷ Deliver 4 0 ∷ Deliver 43 1
    ∷ Deliver 44 3 ∷ Resend 0 ∷ Write 2 (codes "a") (codes "v7") ∷ Deliver 46 2 ∷ Resend 0
    ∷ Deliver 48 5 ∷ Deliver 49 1 ∷ Deliver 0 4 ∷ Resend 1 ∷ Deliver 51 0 ∷ Deliver 33 3 ∷ GiveUp 0
    ∷ Deliver 13 5 ∷ Deliver 40 3 ∷ Resend 0 ∷ Deliver 15 4 ∷ Deliver 37 2 ∷ Deliver 56 5
    ∷ Deliver 38 2 ∷ Promote (codes "a") ∷ Deliver 45 1 ∷ Deliver 50 4 ∷ Deliver 59 2
    ∷ Deliver 52 4 ∷ Deliver 60 1 ∷ Deliver 61 4 ∷ Deliver 14 2 ∷ Deliver 62 1 ∷ []

directed_copies_one_trace :
    replay_text (rack_with One 3 3 2 1 2 1) [] directed_copies_one_events ≡ lines (
    codes "1 rack"
    ∷ codes "2 controller orders 1 promote a sends 0"
    ∷ codes "3 switch 0 applies 1 listed 1 sends 1"
    ∷ codes "4 controller takes 1 listed 1"
    ∷ codes "5 switch 0 repeats 1 sends 2"
    ∷ codes "6 controller ignores"
    ∷ codes "7 write 0 seq 1 sends 3"
    ∷ codes "8 switch 0 forwards write a version 2 to server 2 sends 4"
    ∷ codes "9 server 2 applies a version 2 sends 5"
    ∷ codes "10 switch 0 answers client 0 seq 1 version 2 raised sends 6"
    ∷ codes "11 client 0 answered 1 version 2"
    ∷ codes "12 write 2 seq 1 sends 7"
    ∷ codes "13 switch 0 forwards write a version 3 to server 1 sends 8"
    ∷ codes "14 server 1 applies a version 3 sends 9"
    ∷ codes "15 switch 0 answers client 2 seq 1 version 3 raised sends 10"
    ∷ codes "16 client 2 answered 1 version 3"
    ∷ codes "17 switch 0 forwards write a version 2 to server 1 sends 11"
    ∷ codes "18 read 0 seq 2 sends 12"
    ∷ codes "19 switch 0 forwards read a to server 1 sends 13"
    ∷ codes "20 server 1 reads a version 3 sends 14"
    ∷ codes "21 switch 0 answers client 0 seq 2 version 3 kept sends 15"
    ∷ codes "22 controller orders 2 copy a to server 2 sends 16"
    ∷ codes "23 switch 0 applies 2 ordered 1 sends 17..18"
    ∷ codes "24 controller takes 2 ordered 1"
    ∷ codes "25 server 1 keeps a version 3 sends 19"
    ∷ codes "26 switch 0 answers client 0 seq 1 version 2 kept sends 20"
    ∷ codes "27 client 0 ignores"
    ∷ codes "28 switch 0 forwards read a to server 1 sends 21"
    ∷ codes "29 server 1 reads a version 3 sends 22"
    ∷ codes "30 switch 0 answers client 0 seq 2 version 3 kept sends 23"
    ∷ codes "31 client 0 answered 2 version 3 =v1"
    ∷ codes "32 server 1 copies a version 3 to server 2 sends 24"
    ∷ codes "33 server 2 applies a version 3 sends 25"
    ∷ codes "34 switch 0 notes server 2 version 3 added"
    ∷ codes "35 controller orders 3 demote a sends 26"
    ∷ codes "36 switch 0 applies 3 marked 4 sends 27"
    ∷ codes "37 controller takes 3 marked 4"
    ∷ codes "38 read 1 seq 1 sends 28"
    ∷ codes "39 switch 0 forwards read a to server 2 sends 29"
    ∷ codes "40 server 2 reads a version 3 sends 30"
    ∷ codes "41 switch 0 answers client 1 seq 1 version 3 kept sends 31"
    ∷ codes "42 client 1 answered 1 version 3 =v1"
    ∷ codes "43 controller orders 4 copy a to server 1 sends 32"
    ∷ codes "44 controller ignores"
    ∷ codes "45 write 1 seq 2 sends 33"
    ∷ codes "46 switch 0 forwards write a version 4 to server 1 sends 34"
    ∷ codes "47 write 2 seq 2 sends 35"
    ∷ codes "48 switch 0 forwards write a version 5 to server 1 sends 36"
    ∷ codes "49 server 1 applies a version 4 sends 37"
    ∷ codes "50 switch 0 applies 4 holds sends 38"
    ∷ codes "51 read 0 seq 3 sends 39"
    ∷ codes "52 switch 0 forwards read a to server 1 sends 40"
    ∷ codes "53 server 1 applies a version 5 sends 41"
    ∷ codes "54 switch 0 answers client 2 seq 2 version 5 removed 1 sends 42"
    ∷ codes "55 client 2 answered 2 version 5"
    ∷ codes "56 switch 0 stale 2"
    ∷ codes "57 controller busy 4"
    ∷ codes "58 server 2 keeps a version 3 sends 43"
    ∷ codes "59 switch 0 answers client 0 seq 1 version 2 unlisted sends 44"
    ∷ codes "60 client 0 ignores"
    ∷ codes "61 resend 0 seq 3 sends 45"
    ∷ codes "62 write 2 seq 3 sends 46"
    ∷ codes "63 switch 0 forwards write a version 6 to server 1 sends 47"
    ∷ codes "64 resend 0 seq 3 sends 48"
    ∷ codes "65 switch 0 forwards read a to server 1 sends 49"
    ∷ codes "66 server 1 reads a version 5 sends 50"
    ∷ codes "67 switch 0 skips 1 at 4"
    ∷ codes "68 resend 1 seq 2 sends 51"
    ∷ codes "69 switch 0 forwards write a version 4 to server 1 sends 52"
    ∷ codes "70 switch 0 forwards write a version 4 to server 1 sends 53"
    ∷ codes "71 giveup 0 seq 3"
    ∷ codes "72 server 1 reads a version 5 sends 54"
    ∷ codes "73 server 1 reads a version 5 sends 55"
    ∷ codes "74 nothing open 0"
    ∷ codes "75 client 0 ignores"
    ∷ codes "76 switch 0 answers client 1 seq 2 version 4 unlisted sends 56"
    ∷ codes "77 client 1 answered 2 version 4"
    ∷ codes "78 controller takes 4 holds"
    ∷ codes "79 controller orders 5 promote a sends 57"
    ∷ codes "80 switch 0 forwards read a to server 1 sends 58"
    ∷ codes "81 switch 0 answers client 0 seq 3 version 5 unlisted sends 59"
    ∷ codes "82 client 0 ignores"
    ∷ codes "83 server 1 keeps a version 5 sends 60"
    ∷ codes "84 switch 0 answers client 1 seq 2 version 4 unlisted sends 61"
    ∷ codes "85 client 1 ignores"
    ∷ codes "86 switch 0 answers client 0 seq 2 version 3 unlisted sends 62"
    ∷ codes "87 client 0 ignores"
    ∷ codes "88 end"
    ∷ codes "history 8"
    ∷ codes "op 0 client 0 write a =v0 issued 7 answered 11"
    ∷ codes "op 1 client 2 write a =v1 issued 12 answered 16"
    ∷ codes "op 2 client 0 read a issued 18 answered 31 =v1"
    ∷ codes "op 3 client 1 read a issued 38 answered 42 =v1"
    ∷ codes "op 4 client 1 write a =v4 issued 45 answered 77"
    ∷ codes "op 5 client 2 write a =v5 issued 47 answered 55"
    ∷ codes "op 6 client 0 read a issued 51 open"
    ∷ codes "op 7 client 2 write a =v7 issued 62 open"
    ∷ codes "order a 6"
    ∷ codes "at 0"
    ∷ codes "at 1"
    ∷ codes "at 2"
    ∷ codes "at 3"
    ∷ codes "at 4"
    ∷ codes "at 5"
    ∷ codes "done"
    ∷ []
    )
unfolding
    digits servers_from servers_of spelling in_range packet_of state_bytes state_of server_step
    client_step controller_step switch_step happens run order_of said_text
    directed_copies_one_events
directed_copies_one_trace = refl

-- copies of a fenced key, in format 2
unfoldable pub directed_copies_two_events : List Event
directed_copies_two_events =
    Demote (replicate 32 100) ∷ Write 0 (replicate 32 100) (codes "v0") ∷ Deliver 1 5 ∷ Deliver 2 0
    ∷ Deliver 3 1 ∷ Deliver 4 2 ∷ Read 1 (replicate 32 100) ∷ Deliver 5 3 ∷ Deliver 6 2
    ∷ Deliver 7 2 ∷ Deliver 4 0 ∷ Read 0 (replicate 32 100) ∷ Deliver 9 5 ∷ Deliver 10 1
    ∷ Deliver 11 3 ∷ Deliver 12 1 ∷ Delete 0 (codes "k") ∷ Deliver 13 3
    ∷ Delete 1 (replicate 32 100) ∷ Deliver 1 5 ∷ Resend 1 ∷ Deliver 15 0 ∷ Deliver 16 2
    ∷ Deliver 17 0 ∷ Deliver 0 2 ∷ Deliver 14 5 ∷ Deliver 18 2 ∷ Read 0 (codes "k") ∷ Deliver 14 0
    ∷ Deliver 21 1 ∷ Deliver 22 0 ∷ Deliver 0 2 ∷ Deliver 8 2 ∷ Delete 0 (replicate 32 100)
    ∷ Deliver 24 5 ∷ Deliver 19 4 ∷ Promote (codes "k") ∷ Deliver 26 4 ∷ Deliver 27 2 ∷ Deliver 5 3
    ∷ Deliver 28 3 ∷ Deliver 29 2 ∷ Deliver 30 1 ∷ Deliver 20 0 ∷ Deliver 31 0 ∷ GiveUp 0
    ∷ Read 0 (replicate 32 100) ∷ Deliver 32 5 ∷ Promote (codes "k") ∷ Deliver 34 1
    ∷ Promote (codes "k") ∷ Deliver 23 1 ∷ Deliver 33 5 ∷ Deliver 36 2 ∷ Deliver 37 2
    ∷ Write 1 (replicate 32 100) (codes "v6") ∷ Deliver 38 5 ∷ Deliver 25 1 ∷ Deliver 40 4
    ∷ Deliver 14 0 ∷ Deliver 42 5 ∷ Deliver 43 0 ∷ Deliver 41 3 ∷ Deliver 35 3 ∷ Deliver 39 5
    ∷ Deliver 44 1 ∷ Deliver 45 4 ∷ Copy (replicate 32 100) 0 ∷ Delete 1 (codes "k") ∷ Deliver 47 3
    ∷ Deliver 48 5 ∷ Deliver 49 5 ∷ Deliver 50 2 ∷ Read 0 (codes "k") ∷ Deliver 51 3 ∷ Deliver 46 0
    ∷ Deliver 53 1 ∷ Deliver 29 5 ∷ Deliver 54 2 ∷ Promote (codes "k")
    ∷ Delete 1 (replicate 32 100) ∷ Deliver 56 5 ∷ Deliver 18 4 ∷ Deliver 0 1 ∷ Deliver 0 0
    ∷ Deliver 52 5 ∷ Deliver 58 2 ∷ Deliver 59 2 ∷ Deliver 55 3 ∷ Deliver 60 2 ∷ Fence (codes "k")
    ∷ Deliver 61 1 ∷ Write 0 (codes "k") (codes "v10") ∷ Deliver 64 0 ∷ Deliver 52 1 ∷ Deliver 57 3
    ∷ []

directed_copies_two_trace :
    replay_text (rack_with Two 2 2 2 1 3 1) ((replicate 32 100) ∷ []) directed_copies_two_events
    ≡ lines (
    codes "1 rack"
    ∷ (codes "2 controller orders 1 demote " ++ replicate 32 100 ++ codes " sends 0")
    ∷ codes "3 write 0 seq 1 sends 1"
    ∷ (codes "4 switch 0 forwards write " ++ replicate 32 100
    ++ codes " version 1 to server 1 sends 2")
    ∷ (codes "5 server 1 applies " ++ replicate 32 100 ++ codes " version 1 sends 3")
    ∷ codes "6 switch 0 answers client 0 seq 1 version 1 raised sends 4"
    ∷ codes "7 client 0 answered 1 version 1"
    ∷ codes "8 read 1 seq 1 sends 5"
    ∷ (codes "9 switch 0 forwards read " ++ replicate 32 100 ++ codes " to server 1 sends 6")
    ∷ (codes "10 server 1 reads " ++ replicate 32 100 ++ codes " version 1 sends 7")
    ∷ codes "11 switch 0 answers client 1 seq 1 version 1 kept sends 8"
    ∷ codes "12 client 0 ignores"
    ∷ codes "13 read 0 seq 2 sends 9"
    ∷ (codes "14 switch 0 forwards read " ++ replicate 32 100 ++ codes " to server 1 sends 10")
    ∷ (codes "15 server 1 reads " ++ replicate 32 100 ++ codes " version 1 sends 11")
    ∷ codes "16 switch 0 answers client 0 seq 2 version 1 kept sends 12"
    ∷ codes "17 client 0 answered 2 version 1 =v0"
    ∷ codes "18 delete 0 seq 3 sends 13"
    ∷ codes "19 switch 0 forwards write k version 2 to server 1 sends 14"
    ∷ codes "20 busy 1 seq 1"
    ∷ codes "21 switch 0 stale 3"
    ∷ codes "22 resend 1 seq 1 sends 15"
    ∷ (codes "23 switch 0 forwards read " ++ replicate 32 100 ++ codes " to server 1 sends 16")
    ∷ (codes "24 server 1 reads " ++ replicate 32 100 ++ codes " version 1 sends 17")
    ∷ codes "25 switch 0 answers client 1 seq 1 version 1 kept sends 18"
    ∷ codes "26 switch 0 applies 1 marked 3 sends 19"
    ∷ codes "27 server 1 applies k version 2 sends 20"
    ∷ codes "28 client 1 answered 1 version 1 =v0"
    ∷ codes "29 busy 0 seq 3"
    ∷ codes "30 server 1 keeps k version 2 sends 21"
    ∷ codes "31 switch 0 answers client 0 seq 3 version 2 unlisted sends 22"
    ∷ codes "32 client 0 answered 3 version 2"
    ∷ codes "33 switch 0 repeats 1 sends 23"
    ∷ codes "34 client 1 ignores"
    ∷ codes "35 delete 0 seq 4 sends 24"
    ∷ (codes "36 switch 0 forwards write " ++ replicate 32 100
    ++ codes " version 3 to server 0 sends 25")
    ∷ codes "37 controller takes 1 marked 3"
    ∷ codes "38 controller orders 2 promote k sends 26"
    ∷ codes "39 switch 0 applies 2 full 1 sends 27"
    ∷ codes "40 controller takes 2 full 1"
    ∷ (codes "41 switch 0 forwards read " ++ replicate 32 100 ++ codes " to server 1 sends 28")
    ∷ (codes "42 server 1 reads " ++ replicate 32 100 ++ codes " version 1 sends 29")
    ∷ codes "43 switch 0 answers client 1 seq 1 version 1 kept sends 30"
    ∷ codes "44 client 1 ignores"
    ∷ codes "45 switch 0 answers client 0 seq 3 version 2 unlisted sends 31"
    ∷ codes "46 client 0 ignores"
    ∷ codes "47 giveup 0 seq 4"
    ∷ codes "48 read 0 seq 5 sends 32"
    ∷ (codes "49 switch 0 forwards read " ++ replicate 32 100 ++ codes " to server 1 sends 33")
    ∷ codes "50 controller orders 3 promote k sends 34"
    ∷ codes "51 switch 0 applies 3 full 1 sends 35"
    ∷ codes "52 controller busy 3"
    ∷ codes "53 controller ignores"
    ∷ (codes "54 server 1 reads " ++ replicate 32 100 ++ codes " version 1 sends 36")
    ∷ codes "55 switch 0 answers client 0 seq 5 version 1 kept sends 37"
    ∷ codes "56 client 0 answered 5 version 1 =v0"
    ∷ codes "57 write 1 seq 2 sends 38"
    ∷ (codes "58 switch 0 forwards write " ++ replicate 32 100
    ++ codes " version 4 to server 0 sends 39")
    ∷ (codes "59 server 0 applies " ++ replicate 32 100 ++ codes " version 3 sends 40")
    ∷ codes "60 switch 0 answers client 0 seq 4 version 3 removed 0 sends 41"
    ∷ codes "61 server 1 keeps k version 2 sends 42"
    ∷ codes "62 switch 0 answers client 0 seq 3 version 2 unlisted sends 43"
    ∷ codes "63 client 0 ignores"
    ∷ codes "64 client 0 ignores"
    ∷ codes "65 controller takes 3 full 1"
    ∷ (codes "66 server 0 applies " ++ replicate 32 100 ++ codes " version 4 sends 44")
    ∷ codes "67 switch 0 answers client 1 seq 2 version 4 unlisted sends 45"
    ∷ codes "68 client 1 answered 2 version 4"
    ∷ (codes "69 controller orders 4 copy " ++ replicate 32 100 ++ codes " to server 0 sends 46")
    ∷ codes "70 delete 1 seq 3 sends 47"
    ∷ codes "71 switch 0 forwards write k version 5 to server 1 sends 48"
    ∷ codes "72 server 1 applies k version 5 sends 49"
    ∷ codes "73 switch 0 answers client 1 seq 3 version 5 unlisted sends 50"
    ∷ codes "74 client 1 answered 3 version 5"
    ∷ codes "75 read 0 seq 6 sends 51"
    ∷ codes "76 switch 0 forwards read k to server 1 sends 52"
    ∷ codes "77 switch 0 applies 4 not listed sends 53"
    ∷ codes "78 controller takes 4 not listed"
    ∷ codes "79 switch 0 answers client 1 seq 1 version 1 unlisted sends 54"
    ∷ codes "80 client 1 ignores"
    ∷ codes "81 controller orders 5 promote k sends 55"
    ∷ codes "82 delete 1 seq 4 sends 56"
    ∷ (codes "83 switch 0 forwards write " ++ replicate 32 100
    ++ codes " version 6 to server 0 sends 57")
    ∷ codes "84 client 1 ignores"
    ∷ codes "85 switch 0 skips 1 at 4"
    ∷ codes "86 switch 0 skips 1 at 4"
    ∷ codes "87 server 1 reads k version 5 sends 58"
    ∷ codes "88 switch 0 answers client 0 seq 6 version 5 unlisted sends 59"
    ∷ codes "89 client 0 answered 6 version 5 -"
    ∷ codes "90 switch 0 applies 5 listed 5 sends 60"
    ∷ codes "91 controller takes 5 listed 5"
    ∷ codes "92 controller orders 6 fence k sends 61"
    ∷ codes "93 switch 0 applies 6 fenced 7 sends 62..63"
    ∷ codes "94 write 0 seq 7 sends 64"
    ∷ codes "95 switch 0 forwards write k version 8 to server 0 sends 65"
    ∷ codes "96 server 1 reads k version 5 sends 66"
    ∷ (codes "97 server 0 applies " ++ replicate 32 100 ++ codes " version 6 sends 67")
    ∷ codes "98 end"
    ∷ codes "history 11"
    ∷ (codes "op 0 client 0 write " ++ replicate 32 100 ++ codes " =v0 issued 3 answered 7")
    ∷ (codes "op 1 client 1 read " ++ replicate 32 100 ++ codes " issued 8 answered 28 =v0")
    ∷ (codes "op 2 client 0 read " ++ replicate 32 100 ++ codes " issued 13 answered 17 =v0")
    ∷ codes "op 3 client 0 write k - issued 18 answered 32"
    ∷ (codes "op 4 client 0 write " ++ replicate 32 100 ++ codes " - issued 35 open")
    ∷ (codes "op 5 client 0 read " ++ replicate 32 100 ++ codes " issued 48 answered 56 =v0")
    ∷ (codes "op 6 client 1 write " ++ replicate 32 100 ++ codes " =v6 issued 57 answered 68")
    ∷ codes "op 7 client 1 write k - issued 70 answered 74"
    ∷ codes "op 8 client 0 read k issued 75 answered 89 -"
    ∷ (codes "op 9 client 1 write " ++ replicate 32 100 ++ codes " - issued 82 open")
    ∷ codes "op 10 client 0 write k =v10 issued 94 open"
    ∷ (codes "order " ++ replicate 32 100 ++ codes " 5")
    ∷ codes "at 0"
    ∷ codes "at 2"
    ∷ codes "at 1"
    ∷ codes "at 5"
    ∷ codes "at 6"
    ∷ codes "order k 3"
    ∷ codes "at 3"
    ∷ codes "at 7"
    ∷ codes "at 8"
    ∷ codes "done"
    ∷ []
    )
unfolding
    digits servers_from servers_of spelling in_range packet_of state_bytes state_of server_step
    client_step controller_step switch_step happens run order_of said_text
    directed_copies_two_events
directed_copies_two_trace = refl

-- promotions and demotions in turn, in format 1
unfoldable pub cycles_one_events : List Event
cycles_one_events =
    Demote (codes "k") ∷ Deliver 0 5 ∷ Deliver 1 5 ∷ Write 1 (codes "k") (codes "v0") ∷ Deliver 2 3
    ∷ Write 0 (codes "k") (codes "v1") ∷ Deliver 4 2 ∷ Deliver 5 0 ∷ Deliver 6 2 ∷ Deliver 7 3
    ∷ Write 0 (codes "k") (codes "v2") ∷ Deliver 8 3 ∷ Deliver 9 4 ∷ Deliver 10 1 ∷ Deliver 11 5
    ∷ Promote (codes "k") ∷ Deliver 12 1 ∷ Deliver 13 0 ∷ Deliver 3 0 ∷ Fence (codes "k")
    ∷ Deliver 15 0 ∷ Deliver 17 2 ∷ Deliver 16 0 ∷ Deliver 18 0 ∷ Deliver 18 0 ∷ Deliver 14 0
    ∷ Write 0 (codes "k") (codes "v3") ∷ Deliver 20 2 ∷ Deliver 21 5 ∷ Deliver 22 4 ∷ Deliver 23 0
    ∷ Demote (codes "k") ∷ Deliver 24 3 ∷ Deliver 25 2 ∷ GiveUp 1 ∷ Deliver 19 3 ∷ Deliver 23 3
    ∷ Copy (codes "k") 0 ∷ Deliver 26 1 ∷ Retry ∷ Deliver 28 0 ∷ Deliver 29 0 ∷ Promote (codes "k")
    ∷ Deliver 30 3 ∷ Deliver 31 5 ∷ Deliver 21 5 ∷ Write 1 (codes "k") (codes "v4") ∷ Deliver 33 1
    ∷ Deliver 34 1 ∷ Deliver 35 2 ∷ Deliver 36 1 ∷ Write 1 (codes "k") (codes "v5") ∷ Deliver 37 3
    ∷ Promote (codes "k") ∷ Deliver 39 5 ∷ Deliver 40 4 ∷ Fence (codes "k") ∷ Deliver 41 4
    ∷ Deliver 43 0 ∷ Deliver 42 0 ∷ Deliver 44 1 ∷ Deliver 44 3 ∷ Demote (codes "k") ∷ Deliver 45 1
    ∷ Deliver 46 4 ∷ Deliver 42 2 ∷ Deliver 47 3 ∷ Deliver 47 3 ∷ Write 0 (codes "k") (codes "v6")
    ∷ Promote (codes "k") ∷ Deliver 49 5 ∷ Deliver 50 2 ∷ Resend 1 ∷ Deliver 51 1
    ∷ Copy (codes "k") 0 ∷ Deliver 53 1 ∷ Deliver 55 5 ∷ Deliver 54 1 ∷ Deliver 56 3 ∷ Deliver 57 2
    ∷ GiveUp 0 ∷ Deliver 22 3 ∷ Deliver 52 3 ∷ Deliver 59 3 ∷ Resend 1 ∷ []

cycles_one_trace :
    replay_text (rack_with One 2 2 1 1 2 1) ((codes "k") ∷ []) cycles_one_events ≡ lines (
    codes "1 rack"
    ∷ codes "2 controller orders 1 demote k sends 0"
    ∷ codes "3 switch 0 applies 1 marked 1 sends 1"
    ∷ codes "4 controller takes 1 marked 1"
    ∷ codes "5 write 1 seq 1 sends 2"
    ∷ codes "6 switch 0 forwards write k version 1 to server 1 sends 3"
    ∷ codes "7 write 0 seq 1 sends 4"
    ∷ codes "8 switch 0 forwards write k version 2 to server 1 sends 5"
    ∷ codes "9 server 1 applies k version 2 sends 6"
    ∷ codes "10 switch 0 answers client 0 seq 1 version 2 removed 0 sends 7"
    ∷ codes "11 client 0 answered 1 version 2"
    ∷ codes "12 write 0 seq 2 sends 8"
    ∷ codes "13 switch 0 forwards write k version 3 to server 1 sends 9"
    ∷ codes "14 server 1 applies k version 3 sends 10"
    ∷ codes "15 switch 0 answers client 0 seq 2 version 3 unlisted sends 11"
    ∷ codes "16 client 0 answered 2 version 3"
    ∷ codes "17 controller orders 2 promote k sends 12"
    ∷ codes "18 switch 0 applies 2 listed 2 sends 13"
    ∷ codes "19 controller takes 2 listed 2"
    ∷ codes "20 server 1 keeps k version 3 sends 14"
    ∷ codes "21 controller orders 3 fence k sends 15"
    ∷ codes "22 switch 0 applies 3 fenced 4 sends 16..17"
    ∷ codes "23 controller takes 3 fenced 4"
    ∷ codes "24 server 1 fences k version 4 from 3 sends 18"
    ∷ codes "25 switch 0 notes server 1 version 4 kept"
    ∷ codes "26 switch 0 notes server 1 version 4 kept"
    ∷ codes "27 switch 0 answers client 1 seq 1 version 1 kept sends 19"
    ∷ codes "28 write 0 seq 3 sends 20"
    ∷ codes "29 switch 0 forwards write k version 5 to server 0 sends 21"
    ∷ codes "30 server 0 applies k version 5 sends 22"
    ∷ codes "31 switch 0 answers client 0 seq 3 version 5 raised sends 23"
    ∷ codes "32 client 0 answered 3 version 5"
    ∷ codes "33 controller orders 4 demote k sends 24"
    ∷ codes "34 switch 0 applies 4 marked 6 sends 25"
    ∷ codes "35 controller takes 4 marked 6"
    ∷ codes "36 giveup 1 seq 1"
    ∷ codes "37 client 1 ignores"
    ∷ codes "38 client 0 ignores"
    ∷ codes "39 controller orders 5 copy k to server 0 sends 26"
    ∷ codes "40 switch 0 applies 5 holds sends 27"
    ∷ codes "41 controller retries 5 sends 28"
    ∷ codes "42 switch 0 repeats 5 sends 29"
    ∷ codes "43 controller takes 5 holds"
    ∷ codes "44 controller orders 6 promote k sends 30"
    ∷ codes "45 switch 0 applies 6 already 2 sends 31"
    ∷ codes "46 controller takes 6 already 2"
    ∷ codes "47 server 0 keeps k version 5 sends 32"
    ∷ codes "48 write 1 seq 2 sends 33"
    ∷ codes "49 switch 0 forwards write k version 6 to server 1 sends 34"
    ∷ codes "50 server 1 applies k version 6 sends 35"
    ∷ codes "51 switch 0 answers client 1 seq 2 version 6 removed 2 sends 36"
    ∷ codes "52 client 1 answered 2 version 6"
    ∷ codes "53 write 1 seq 3 sends 37"
    ∷ codes "54 switch 0 forwards write k version 7 to server 1 sends 38"
    ∷ codes "55 controller orders 7 promote k sends 39"
    ∷ codes "56 switch 0 applies 7 listed 7 sends 40"
    ∷ codes "57 controller takes 7 listed 7"
    ∷ codes "58 controller orders 8 fence k sends 41"
    ∷ codes "59 switch 0 applies 8 fenced 8 sends 42..43"
    ∷ codes "60 controller takes 8 fenced 8"
    ∷ codes "61 server 1 fences k version 8 from 6 sends 44"
    ∷ codes "62 switch 0 notes server 1 version 8 kept"
    ∷ codes "63 switch 0 notes server 1 version 8 kept"
    ∷ codes "64 controller orders 9 demote k sends 45"
    ∷ codes "65 switch 0 applies 9 marked 9 sends 46"
    ∷ codes "66 controller takes 9 marked 9"
    ∷ codes "67 server 1 keeps k version 8 sends 47"
    ∷ codes "68 switch 0 notes server 1 version 8 kept"
    ∷ codes "69 switch 0 notes server 1 version 8 kept"
    ∷ codes "70 write 0 seq 4 sends 48"
    ∷ codes "71 controller orders 10 promote k sends 49"
    ∷ codes "72 switch 0 applies 10 already 7 sends 50"
    ∷ codes "73 controller takes 10 already 7"
    ∷ codes "74 resend 1 seq 3 sends 51"
    ∷ codes "75 switch 0 forwards write k version 7 to server 1 sends 52"
    ∷ codes "76 controller orders 11 copy k to server 0 sends 53"
    ∷ codes "77 switch 0 applies 11 ordered 1 sends 54..55"
    ∷ codes "78 controller takes 11 ordered 1"
    ∷ codes "79 server 1 copies k version 8 to server 0 sends 56"
    ∷ codes "80 server 0 applies k version 8 sends 57"
    ∷ codes "81 switch 0 notes server 0 version 8 added"
    ∷ codes "82 giveup 0 seq 4"
    ∷ codes "83 switch 0 answers client 0 seq 3 version 5 kept sends 58"
    ∷ codes "84 server 1 voids k version 7 under 8 sends 59"
    ∷ codes "85 switch 0 voids client 1 seq 3 version 7"
    ∷ codes "86 resend 1 seq 3 sends 60"
    ∷ codes "87 end"
    ∷ codes "history 7"
    ∷ codes "op 0 client 1 write k =v0 issued 5 open"
    ∷ codes "op 1 client 0 write k =v1 issued 7 answered 11"
    ∷ codes "op 2 client 0 write k =v2 issued 12 answered 16"
    ∷ codes "op 3 client 0 write k =v3 issued 28 answered 32"
    ∷ codes "op 4 client 1 write k =v4 issued 48 answered 52"
    ∷ codes "op 5 client 1 write k =v5 issued 53 open"
    ∷ codes "op 6 client 0 write k =v6 issued 70 open"
    ∷ codes "order k 4"
    ∷ codes "at 1"
    ∷ codes "at 2"
    ∷ codes "at 3"
    ∷ codes "at 4"
    ∷ codes "done"
    ∷ []
    )
unfolding
    digits servers_from servers_of spelling in_range packet_of state_bytes state_of server_step
    client_step controller_step switch_step happens run order_of said_text cycles_one_events
cycles_one_trace = refl

-- promotions and demotions in turn, in format 2
unfoldable pub cycles_two_events : List Event
cycles_two_events =
    Promote (codes "a") ∷ Deliver 0 1 ∷ Deliver 1 2 ∷ Read 1 (codes "a") ∷ Deliver 2 3 ∷ Resend 1
    ∷ Deliver 4 0 ∷ Deliver 5 1 ∷ Resend 1 ∷ Deliver 7 5 ∷ Resend 1 ∷ Deliver 9 1 ∷ Deliver 10 5
    ∷ Deliver 11 0 ∷ Deliver 12 0 ∷ Deliver 6 1 ∷ Deliver 13 1 ∷ Fence (codes "a") ∷ Deliver 14 5
    ∷ Deliver 16 5 ∷ Deliver 15 2 ∷ Deliver 17 3 ∷ Deliver 17 4 ∷ Write 0 (codes "a") (codes "v1")
    ∷ Deliver 18 1 ∷ Deliver 19 0 ∷ Deliver 20 0 ∷ Deliver 21 4 ∷ Demote (codes "a")
    ∷ Demote (codes "a") ∷ Deliver 22 3 ∷ Deliver 23 2 ∷ Write 1 (codes "a") (codes "v2")
    ∷ Deliver 24 1 ∷ Deliver 25 2 ∷ Deliver 26 3 ∷ Deliver 27 4 ∷ Write 1 (codes "a") (codes "v3")
    ∷ Write 0 (codes "a") (codes "v4") ∷ Deliver 29 5 ∷ Promote (codes "a") ∷ Deliver 31 0
    ∷ Deliver 32 0 ∷ Deliver 26 3 ∷ Fence (codes "a") ∷ Deliver 34 5 ∷ Deliver 36 0 ∷ Deliver 35 1
    ∷ Deliver 37 1 ∷ Deliver 37 5 ∷ Deliver 19 5 ∷ Demote (codes "a") ∷ Deliver 39 3 ∷ Deliver 40 2
    ∷ Deliver 35 2 ∷ Deliver 41 3 ∷ Deliver 41 0 ∷ Deliver 30 2 ∷ Deliver 42 0 ∷ Deliver 8 4
    ∷ Deliver 3 4 ∷ Deliver 43 5 ∷ Deliver 45 5 ∷ Deliver 44 1 ∷ Demote (codes "a") ∷ Deliver 47 2
    ∷ Demote (codes "a") ∷ Deliver 47 4 ∷ Deliver 49 2 ∷ Deliver 33 4 ∷ Resend 0 ∷ GiveUp 1
    ∷ Demote (codes "a") ∷ Deliver 51 2 ∷ Deliver 52 3 ∷ Read 1 (codes "a") ∷ Copy (codes "a") 0
    ∷ Deliver 54 0 ∷ Deliver 56 5 ∷ Deliver 55 5 ∷ []

cycles_two_trace : replay_text (rack_with Two 3 2 1 1 3 1) [] cycles_two_events ≡ lines (
    codes "1 rack"
    ∷ codes "2 controller orders 1 promote a sends 0"
    ∷ codes "3 switch 0 applies 1 listed 1 sends 1"
    ∷ codes "4 controller takes 1 listed 1"
    ∷ codes "5 read 1 seq 1 sends 2"
    ∷ codes "6 switch 0 forwards read a to server 1 sends 3"
    ∷ codes "7 resend 1 seq 1 sends 4"
    ∷ codes "8 switch 0 forwards read a to server 1 sends 5"
    ∷ codes "9 server 1 reads a version 0 sends 6"
    ∷ codes "10 resend 1 seq 1 sends 7"
    ∷ codes "11 switch 0 forwards read a to server 1 sends 8"
    ∷ codes "12 resend 1 seq 1 sends 9"
    ∷ codes "13 switch 0 forwards read a to server 1 sends 10"
    ∷ codes "14 server 1 reads a version 0 sends 11"
    ∷ codes "15 switch 0 answers client 1 seq 1 version 0 kept sends 12"
    ∷ codes "16 client 1 answered 1 version 0 -"
    ∷ codes "17 switch 0 answers client 1 seq 1 version 0 kept sends 13"
    ∷ codes "18 client 1 ignores"
    ∷ codes "19 controller orders 2 fence a sends 14"
    ∷ codes "20 switch 0 applies 2 fenced 1 sends 15..16"
    ∷ codes "21 controller takes 2 fenced 1"
    ∷ codes "22 server 1 fences a version 1 from 0 sends 17"
    ∷ codes "23 switch 0 notes server 1 version 1 kept"
    ∷ codes "24 switch 0 notes server 1 version 1 kept"
    ∷ codes "25 write 0 seq 1 sends 18"
    ∷ codes "26 switch 0 forwards write a version 2 to server 1 sends 19"
    ∷ codes "27 server 1 applies a version 2 sends 20"
    ∷ codes "28 switch 0 answers client 0 seq 1 version 2 raised sends 21"
    ∷ codes "29 client 0 answered 1 version 2"
    ∷ codes "30 controller orders 3 demote a sends 22"
    ∷ codes "31 controller busy 3"
    ∷ codes "32 switch 0 applies 3 marked 3 sends 23"
    ∷ codes "33 controller takes 3 marked 3"
    ∷ codes "34 write 1 seq 2 sends 24"
    ∷ codes "35 switch 0 forwards write a version 3 to server 1 sends 25"
    ∷ codes "36 server 1 applies a version 3 sends 26"
    ∷ codes "37 switch 0 answers client 1 seq 2 version 3 removed 1 sends 27"
    ∷ codes "38 client 1 answered 2 version 3"
    ∷ codes "39 write 1 seq 3 sends 28"
    ∷ codes "40 write 0 seq 2 sends 29"
    ∷ codes "41 switch 0 forwards write a version 4 to server 1 sends 30"
    ∷ codes "42 controller orders 4 promote a sends 31"
    ∷ codes "43 switch 0 applies 4 listed 4 sends 32"
    ∷ codes "44 controller takes 4 listed 4"
    ∷ codes "45 switch 0 answers client 1 seq 2 version 3 kept sends 33"
    ∷ codes "46 controller orders 5 fence a sends 34"
    ∷ codes "47 switch 0 applies 5 fenced 5 sends 35..36"
    ∷ codes "48 controller takes 5 fenced 5"
    ∷ codes "49 server 1 fences a version 5 from 3 sends 37"
    ∷ codes "50 switch 0 notes server 1 version 5 kept"
    ∷ codes "51 switch 0 notes server 1 version 5 kept"
    ∷ codes "52 server 1 keeps a version 5 sends 38"
    ∷ codes "53 controller orders 6 demote a sends 39"
    ∷ codes "54 switch 0 applies 6 marked 6 sends 40"
    ∷ codes "55 controller takes 6 marked 6"
    ∷ codes "56 server 1 keeps a version 5 sends 41"
    ∷ codes "57 switch 0 notes server 1 version 5 kept"
    ∷ codes "58 switch 0 notes server 1 version 5 kept"
    ∷ codes "59 server 1 voids a version 4 under 5 sends 42"
    ∷ codes "60 switch 0 voids client 0 seq 2 version 4"
    ∷ codes "61 server 1 reads a version 5 sends 43"
    ∷ codes "62 server 1 reads a version 5 sends 44"
    ∷ codes "63 switch 0 answers client 1 seq 1 version 5 kept sends 45"
    ∷ codes "64 client 1 ignores"
    ∷ codes "65 switch 0 answers client 1 seq 1 version 5 kept sends 46"
    ∷ codes "66 controller orders 7 demote a sends 47"
    ∷ codes "67 switch 0 applies 7 already marked 6 sends 48"
    ∷ codes "68 controller busy 7"
    ∷ codes "69 switch 0 repeats 7 sends 49"
    ∷ codes "70 controller takes 7 already marked 6"
    ∷ codes "71 client 1 ignores"
    ∷ codes "72 resend 0 seq 2 sends 50"
    ∷ codes "73 giveup 1 seq 3"
    ∷ codes "74 controller orders 8 demote a sends 51"
    ∷ codes "75 switch 0 applies 8 already marked 6 sends 52"
    ∷ codes "76 controller takes 8 already marked 6"
    ∷ codes "77 read 1 seq 4 sends 53"
    ∷ codes "78 controller orders 9 copy a to server 0 sends 54"
    ∷ codes "79 switch 0 applies 9 ordered 1 sends 55..56"
    ∷ codes "80 controller takes 9 ordered 1"
    ∷ codes "81 server 1 copies a version 5 to server 0 sends 57"
    ∷ codes "82 end"
    ∷ codes "history 6"
    ∷ codes "op 0 client 1 read a issued 5 answered 16 -"
    ∷ codes "op 1 client 0 write a =v1 issued 25 answered 29"
    ∷ codes "op 2 client 1 write a =v2 issued 34 answered 38"
    ∷ codes "op 3 client 1 write a =v3 issued 39 open"
    ∷ codes "op 4 client 0 write a =v4 issued 40 open"
    ∷ codes "op 5 client 1 read a issued 77 open"
    ∷ codes "order a 3"
    ∷ codes "at 0"
    ∷ codes "at 1"
    ∷ codes "at 2"
    ∷ codes "done"
    ∷ []
    )
unfolding
    digits servers_from servers_of spelling in_range packet_of state_bytes state_of server_step
    client_step controller_step switch_step happens run order_of said_text cycles_two_events
cycles_two_trace = refl

-- packets that are delivered late, in format 1
unfoldable pub deep_one_events : List Event
deep_one_events =
    Read 1 (codes "k") ∷ Deliver 0 5 ∷ Write 0 (codes "a") (codes "v1") ∷ Deliver 2 5 ∷ Deliver 1 3
    ∷ Deliver 4 4 ∷ Deliver 5 0 ∷ Fence (codes "k") ∷ Deliver 6 4
    ∷ Write 1 (codes "a") (codes "v2") ∷ Deliver 8 3 ∷ Deliver 7 3 ∷ Deliver 2 2 ∷ Deliver 10 5
    ∷ Deliver 11 1 ∷ Deliver 12 4 ∷ Read 0 (codes "k") ∷ Deliver 13 1 ∷ Deliver 14 4 ∷ Deliver 15 0
    ∷ Deliver 16 3 ∷ Deliver 9 1 ∷ Deliver 17 4 ∷ Deliver 18 2 ∷ Read 1 (codes "a") ∷ Deliver 19 1
    ∷ Deliver 20 1 ∷ Deliver 21 0 ∷ Deliver 22 2 ∷ Read 1 (codes "a") ∷ Deliver 23 3
    ∷ Demote (codes "a") ∷ Deliver 25 3 ∷ Read 0 (codes "k") ∷ Resend 0 ∷ Deliver 28 2
    ∷ Deliver 26 0 ∷ Promote (codes "k") ∷ Deliver 30 1 ∷ Deliver 31 0 ∷ Handover 0 ∷ Deliver 7 3
    ∷ Promote (codes "k") ∷ Deliver 32 1 ∷ Deliver 33 1 ∷ Deliver 24 4 ∷ Deliver 34 5
    ∷ Deliver 35 1 ∷ Demote (codes "a") ∷ Deliver 36 5 ∷ Deliver 37 3 ∷ Copy (codes "k") 1
    ∷ Deliver 38 2 ∷ Deliver 40 4 ∷ Deliver 39 3 ∷ Deliver 3 4 ∷ Deliver 41 4 ∷ Deliver 42 4
    ∷ Handover 1 ∷ Deliver 43 2 ∷ Deliver 44 1 ∷ Deliver 45 3 ∷ Deliver 46 0 ∷ Deliver 27 2
    ∷ Deliver 29 0 ∷ Deliver 48 4 ∷ []

deep_one_trace : replay_text (rack_with One 3 2 2 1 1 1) [] deep_one_events ≡ lines (
    codes "1 rack"
    ∷ codes "2 read 1 seq 1 sends 0"
    ∷ codes "3 switch 0 forwards read k to server 2 sends 1"
    ∷ codes "4 write 0 seq 1 sends 2"
    ∷ codes "5 switch 0 forwards write a version 1 to server 1 sends 3"
    ∷ codes "6 server 2 reads k version 0 sends 4"
    ∷ codes "7 switch 0 answers client 1 seq 1 version 0 unlisted sends 5"
    ∷ codes "8 client 1 answered 1 version 0 -"
    ∷ codes "9 controller orders 1 fence k sends 6"
    ∷ codes "10 switch 0 applies 1 not listed sends 7"
    ∷ codes "11 write 1 seq 2 sends 8"
    ∷ codes "12 switch 0 forwards write a version 2 to server 1 sends 9"
    ∷ codes "13 controller takes 1 not listed"
    ∷ codes "14 switch 0 forwards write a version 1 to server 1 sends 10"
    ∷ codes "15 server 1 applies a version 1 sends 11"
    ∷ codes "16 switch 0 answers client 0 seq 1 version 1 unlisted sends 12"
    ∷ codes "17 client 0 answered 1 version 1"
    ∷ codes "18 read 0 seq 2 sends 13"
    ∷ codes "19 switch 0 forwards read k to server 2 sends 14"
    ∷ codes "20 server 2 reads k version 0 sends 15"
    ∷ codes "21 switch 0 answers client 0 seq 2 version 0 unlisted sends 16"
    ∷ codes "22 client 0 answered 2 version 0 -"
    ∷ codes "23 server 1 applies a version 2 sends 17"
    ∷ codes "24 switch 0 answers client 1 seq 2 version 2 unlisted sends 18"
    ∷ codes "25 client 1 answered 2 version 2"
    ∷ codes "26 read 1 seq 3 sends 19"
    ∷ codes "27 switch 0 forwards read a to server 1 sends 20"
    ∷ codes "28 server 1 reads a version 2 sends 21"
    ∷ codes "29 switch 0 answers client 1 seq 3 version 2 unlisted sends 22"
    ∷ codes "30 client 1 answered 3 version 2 =v2"
    ∷ codes "31 read 1 seq 4 sends 23"
    ∷ codes "32 switch 0 forwards read a to server 1 sends 24"
    ∷ codes "33 controller orders 2 demote a sends 25"
    ∷ codes "34 switch 0 applies 2 not listed sends 26"
    ∷ codes "35 read 0 seq 3 sends 27"
    ∷ codes "36 resend 0 seq 3 sends 28"
    ∷ codes "37 switch 0 forwards read k to server 2 sends 29"
    ∷ codes "38 controller takes 2 not listed"
    ∷ codes "39 controller orders 3 promote k sends 30"
    ∷ codes "40 switch 0 applies 3 listed 3 sends 31"
    ∷ codes "41 controller takes 3 listed 3"
    ∷ codes "42 controller same switch 0"
    ∷ codes "43 controller ignores"
    ∷ codes "44 controller orders 4 promote k sends 32"
    ∷ codes "45 switch 0 applies 4 already 3 sends 33"
    ∷ codes "46 controller takes 4 already 3"
    ∷ codes "47 server 1 reads a version 2 sends 34"
    ∷ codes "48 switch 0 answers client 1 seq 4 version 2 unlisted sends 35"
    ∷ codes "49 client 1 answered 4 version 2 =v2"
    ∷ codes "50 controller orders 5 demote a sends 36"
    ∷ codes "51 switch 0 applies 5 not listed sends 37"
    ∷ codes "52 controller takes 5 not listed"
    ∷ codes "53 controller orders 6 copy k to server 1 sends 38"
    ∷ codes "54 switch 0 applies 6 ordered 2 sends 39..40"
    ∷ codes "55 controller takes 6 ordered 2"
    ∷ codes "56 server 2 has no k"
    ∷ codes "57 server 1 keeps a version 2 sends 41"
    ∷ codes "58 switch 0 answers client 0 seq 1 version 1 unlisted sends 42"
    ∷ codes "59 client 0 ignores"
    ∷ codes "60 controller orders 7 handover to switch 1 sends 43"
    ∷ codes "61 switch 0 seals epoch 2 to switch 1 sends 44"
    ∷ codes "62 switch 1 active epoch 2 sends 45"
    ∷ codes "63 controller takes 7 activated 2 sends 46..47"
    ∷ codes "64 client 0 moves to switch 1 epoch 2"
    ∷ codes "65 switch 0 not active epoch 1"
    ∷ codes "66 server 2 reads k version 0 sends 48"
    ∷ codes "67 switch 0 not active epoch 1"
    ∷ codes "68 end"
    ∷ codes "history 7"
    ∷ codes "op 0 client 1 read k issued 2 answered 8 -"
    ∷ codes "op 1 client 0 write a =v1 issued 4 answered 17"
    ∷ codes "op 2 client 1 write a =v2 issued 11 answered 25"
    ∷ codes "op 3 client 0 read k issued 18 answered 22 -"
    ∷ codes "op 4 client 1 read a issued 26 answered 30 =v2"
    ∷ codes "op 5 client 1 read a issued 31 answered 49 =v2"
    ∷ codes "op 6 client 0 read k issued 35 open"
    ∷ codes "order k 2"
    ∷ codes "at 0"
    ∷ codes "at 3"
    ∷ codes "order a 4"
    ∷ codes "at 1"
    ∷ codes "at 2"
    ∷ codes "at 4"
    ∷ codes "at 5"
    ∷ codes "done"
    ∷ []
    )
unfolding
    digits servers_from servers_of spelling in_range packet_of state_bytes state_of server_step
    client_step controller_step switch_step happens run order_of said_text deep_one_events
deep_one_trace = refl

-- packets that are delivered late, in format 2
unfoldable pub deep_two_events : List Event
deep_two_events =
    Demote (codes "k") ∷ Deliver 0 3 ∷ Read 2 (codes "k") ∷ Deliver 2 5 ∷ Deliver 3 4 ∷ Deliver 4 0
    ∷ Deliver 5 5 ∷ Write 1 (codes "k") (codes "v1") ∷ Deliver 6 1 ∷ Deliver 7 4
    ∷ Delete 2 (codes "k") ∷ Deliver 9 4 ∷ Deliver 10 2 ∷ Deliver 11 0 ∷ Deliver 12 5 ∷ Deliver 1 1
    ∷ Deliver 8 3 ∷ Deliver 12 1 ∷ Deliver 13 3 ∷ Write 0 (codes "k") (codes "v3") ∷ Deliver 14 4
    ∷ Deliver 15 4 ∷ Deliver 16 4 ∷ Deliver 17 5 ∷ Deliver 3 5 ∷ Deliver 18 4 ∷ Deliver 19 1
    ∷ Deliver 3 2 ∷ Deliver 20 3 ∷ Deliver 21 0 ∷ Deliver 4 4 ∷ Deliver 22 5 ∷ Deliver 21 2
    ∷ Resend 0 ∷ Deliver 3 4 ∷ Deliver 23 4 ∷ Deliver 24 5 ∷ Deliver 11 2 ∷ Deliver 25 3
    ∷ Deliver 3 3 ∷ Deliver 17 5 ∷ Deliver 19 0 ∷ Handover 1 ∷ Deliver 27 1 ∷ Deliver 28 2
    ∷ Deliver 29 1 ∷ Promote (codes "a") ∷ Deliver 33 5 ∷ Deliver 31 3 ∷ Deliver 30 0
    ∷ Deliver 34 1 ∷ Deliver 32 2 ∷ Deliver 26 4 ∷ Deliver 8 0 ∷ Deliver 2 5 ∷ Deliver 17 0
    ∷ Demote (codes "a") ∷ Deliver 35 5 ∷ Deliver 14 4 ∷ Deliver 36 5 ∷ Deliver 16 3 ∷ Deliver 21 4
    ∷ Deliver 11 5 ∷ Deliver 17 2 ∷ Deliver 10 0 ∷ Deliver 37 1 ∷ Deliver 25 4 ∷ Deliver 36 1
    ∷ Deliver 23 2 ∷ Deliver 4 5 ∷ Deliver 28 2 ∷ Deliver 38 3 ∷ Deliver 13 4 ∷ Handover 1
    ∷ Deliver 22 5 ∷ Deliver 36 2 ∷ Demote (codes "a") ∷ Deliver 39 2 ∷ Deliver 40 0 ∷ Deliver 31 0
    ∷ Deliver 20 2 ∷ Copy (codes "a") 0 ∷ Deliver 41 1 ∷ Deliver 43 5 ∷ Deliver 0 2 ∷ []

deep_two_trace : replay_text (rack_with Two 2 3 2 1 3 1) [] deep_two_events ≡ lines (
    codes "1 rack"
    ∷ codes "2 controller orders 1 demote k sends 0"
    ∷ codes "3 switch 0 applies 1 not listed sends 1"
    ∷ codes "4 read 2 seq 1 sends 2"
    ∷ codes "5 switch 0 forwards read k to server 1 sends 3"
    ∷ codes "6 server 1 reads k version 0 sends 4"
    ∷ codes "7 switch 0 answers client 2 seq 1 version 0 unlisted sends 5"
    ∷ codes "8 client 2 answered 1 version 0 -"
    ∷ codes "9 write 1 seq 1 sends 6"
    ∷ codes "10 switch 0 forwards write k version 1 to server 1 sends 7"
    ∷ codes "11 server 1 applies k version 1 sends 8"
    ∷ codes "12 delete 2 seq 2 sends 9"
    ∷ codes "13 switch 0 forwards write k version 2 to server 1 sends 10"
    ∷ codes "14 server 1 applies k version 2 sends 11"
    ∷ codes "15 switch 0 answers client 2 seq 2 version 2 unlisted sends 12"
    ∷ codes "16 client 2 answered 2 version 2"
    ∷ codes "17 controller takes 1 not listed"
    ∷ codes "18 switch 0 answers client 1 seq 1 version 1 unlisted sends 13"
    ∷ codes "19 client 2 ignores"
    ∷ codes "20 client 1 answered 1 version 1"
    ∷ codes "21 write 0 seq 1 sends 14"
    ∷ codes "22 switch 0 forwards write k version 3 to server 1 sends 15"
    ∷ codes "23 server 1 applies k version 3 sends 16"
    ∷ codes "24 switch 0 answers client 0 seq 1 version 3 unlisted sends 17"
    ∷ codes "25 client 0 answered 1 version 3"
    ∷ codes "26 server 1 reads k version 3 sends 18"
    ∷ codes "27 switch 0 answers client 2 seq 1 version 3 unlisted sends 19"
    ∷ codes "28 client 2 ignores"
    ∷ codes "29 server 1 reads k version 3 sends 20"
    ∷ codes "30 switch 0 answers client 2 seq 1 version 3 unlisted sends 21"
    ∷ codes "31 client 2 ignores"
    ∷ codes "32 switch 0 answers client 2 seq 1 version 0 unlisted sends 22"
    ∷ codes "33 client 2 ignores"
    ∷ codes "34 client 2 ignores"
    ∷ codes "35 nothing open 0"
    ∷ codes "36 server 1 reads k version 3 sends 23"
    ∷ codes "37 switch 0 answers client 2 seq 1 version 3 unlisted sends 24"
    ∷ codes "38 client 2 ignores"
    ∷ codes "39 switch 0 answers client 2 seq 2 version 2 unlisted sends 25"
    ∷ codes "40 client 2 ignores"
    ∷ codes "41 server 1 reads k version 3 sends 26"
    ∷ codes "42 client 0 ignores"
    ∷ codes "43 client 2 ignores"
    ∷ codes "44 controller orders 2 handover to switch 1 sends 27"
    ∷ codes "45 switch 0 seals epoch 2 to switch 1 sends 28"
    ∷ codes "46 switch 1 active epoch 2 sends 29"
    ∷ codes "47 controller takes 2 activated 2 sends 30..32"
    ∷ codes "48 controller orders 3 promote a sends 33"
    ∷ codes "49 switch 1 applies 3 listed 3 sends 34"
    ∷ codes "50 client 1 moves to switch 1 epoch 2"
    ∷ codes "51 client 0 moves to switch 1 epoch 2"
    ∷ codes "52 controller takes 3 listed 3"
    ∷ codes "53 client 2 moves to switch 1 epoch 2"
    ∷ codes "54 switch 0 not active epoch 1"
    ∷ codes "55 switch 0 not active epoch 1"
    ∷ codes "56 switch 0 not active epoch 1"
    ∷ codes "57 client 0 ignores"
    ∷ codes "58 controller orders 4 demote a sends 35"
    ∷ codes "59 switch 1 applies 4 marked 5 sends 36"
    ∷ codes "60 switch 0 not active epoch 1"
    ∷ codes "61 controller takes 4 marked 5"
    ∷ codes "62 switch 0 not active epoch 1"
    ∷ codes "63 client 2 ignores"
    ∷ codes "64 switch 0 not active epoch 1"
    ∷ codes "65 client 0 ignores"
    ∷ codes "66 server 1 keeps k version 3 sends 37"
    ∷ codes "67 switch 0 not active epoch 1"
    ∷ codes "68 client 2 ignores"
    ∷ codes "69 controller ignores"
    ∷ codes "70 switch 0 not active epoch 1"
    ∷ codes "71 switch 0 not active epoch 1"
    ∷ codes "72 switch 1 repeats 4 sends 38"
    ∷ codes "73 controller ignores"
    ∷ codes "74 client 1 ignores"
    ∷ codes "75 controller same switch 1"
    ∷ codes "76 client 2 ignores"
    ∷ codes "77 controller ignores"
    ∷ codes "78 controller orders 5 demote a sends 39"
    ∷ codes "79 switch 1 applies 5 already marked 5 sends 40"
    ∷ codes "80 controller takes 5 already marked 5"
    ∷ codes "81 client 1 ignores"
    ∷ codes "82 switch 0 not active epoch 1"
    ∷ codes "83 controller orders 6 copy a to server 0 sends 41"
    ∷ codes "84 switch 1 applies 6 ordered 1 sends 42..43"
    ∷ codes "85 controller takes 6 ordered 1"
    ∷ codes "86 switch 0 skips 1 at 2"
    ∷ codes "87 end"
    ∷ codes "history 4"
    ∷ codes "op 0 client 2 read k issued 4 answered 8 -"
    ∷ codes "op 1 client 1 write k =v1 issued 9 answered 20"
    ∷ codes "op 2 client 2 write k - issued 12 answered 16"
    ∷ codes "op 3 client 0 write k =v3 issued 21 answered 25"
    ∷ codes "order k 4"
    ∷ codes "at 0"
    ∷ codes "at 1"
    ∷ codes "at 2"
    ∷ codes "at 3"
    ∷ codes "done"
    ∷ []
    )
unfolding
    digits servers_from servers_of spelling in_range packet_of state_bytes state_of server_step
    client_step controller_step switch_step happens run order_of said_text deep_two_events
deep_two_trace = refl

-- copies, in format 1
unfoldable pub copies_one_events : List Event
copies_one_events =
    Fence (codes "a") ∷ Write 0 (codes "a") (codes "v0") ∷ Deliver 1 0 ∷ Deliver 2 3 ∷ Deliver 0 1
    ∷ Deliver 4 0 ∷ Deliver 3 1 ∷ Deliver 2 4 ∷ Deliver 5 4 ∷ Deliver 6 4 ∷ Deliver 5 2
    ∷ Deliver 5 1 ∷ Write 1 (codes "a") (codes "v1") ∷ Read 1 (codes "a") ∷ Promote (codes "a")
    ∷ Read 2 (codes "a") ∷ Deliver 8 3 ∷ Deliver 9 5 ∷ Deliver 12 2 ∷ Fence (codes "a")
    ∷ Write 0 (codes "a") (codes "v3") ∷ Deliver 7 2 ∷ Deliver 13 4 ∷ Deliver 16 1 ∷ Deliver 15 1
    ∷ Deliver 11 4 ∷ Deliver 18 2 ∷ Fence (codes "a") ∷ Deliver 17 5 ∷ Deliver 14 4 ∷ Deliver 19 5
    ∷ Deliver 20 4 ∷ Deliver 23 1 ∷ Deliver 22 1 ∷ Deliver 24 5 ∷ Copy (codes "a") 2 ∷ Deliver 21 0
    ∷ Deliver 25 2 ∷ Deliver 4 0 ∷ Copy (codes "a") 2 ∷ Deliver 27 1 ∷ Deliver 28 1 ∷ Deliver 19 1
    ∷ Deliver 29 2 ∷ Deliver 10 0 ∷ Copy (codes "a") 1 ∷ GiveUp 2 ∷ Deliver 32 5 ∷ Deliver 33 4
    ∷ Copy (codes "a") 2 ∷ Deliver 31 2 ∷ Deliver 21 1 ∷ Deliver 35 4 ∷ Deliver 30 3 ∷ Deliver 24 2
    ∷ Deliver 34 1 ∷ Deliver 38 1 ∷ Deliver 26 0 ∷ Deliver 15 5 ∷ Copy (codes "a") 0 ∷ Deliver 21 1
    ∷ Deliver 41 3 ∷ Deliver 29 3 ∷ Deliver 25 5 ∷ Deliver 40 1 ∷ []

copies_one_trace : replay_text (rack_with One 3 3 1 1 1 1) [] copies_one_events ≡ lines (
    codes "1 rack"
    ∷ codes "2 controller orders 1 fence a sends 0"
    ∷ codes "3 write 0 seq 1 sends 1"
    ∷ codes "4 switch 0 forwards write a version 1 to server 1 sends 2"
    ∷ codes "5 server 1 applies a version 1 sends 3"
    ∷ codes "6 switch 0 applies 1 not listed sends 4"
    ∷ codes "7 controller takes 1 not listed"
    ∷ codes "8 switch 0 answers client 0 seq 1 version 1 unlisted sends 5"
    ∷ codes "9 server 1 keeps a version 1 sends 6"
    ∷ codes "10 client 0 answered 1 version 1"
    ∷ codes "11 switch 0 answers client 0 seq 1 version 1 unlisted sends 7"
    ∷ codes "12 client 0 ignores"
    ∷ codes "13 client 0 ignores"
    ∷ codes "14 write 1 seq 1 sends 8"
    ∷ codes "15 busy 1 seq 1"
    ∷ codes "16 controller orders 2 promote a sends 9"
    ∷ codes "17 read 2 seq 1 sends 10"
    ∷ codes "18 switch 0 forwards write a version 2 to server 1 sends 11"
    ∷ codes "19 switch 0 applies 2 listed 2 sends 12"
    ∷ codes "20 controller takes 2 listed 2"
    ∷ codes "21 controller orders 3 fence a sends 13"
    ∷ codes "22 write 0 seq 2 sends 14"
    ∷ codes "23 client 0 ignores"
    ∷ codes "24 switch 0 applies 3 fenced 3 sends 15..16"
    ∷ codes "25 controller takes 3 fenced 3"
    ∷ codes "26 server 1 fences a version 3 from 1 sends 17"
    ∷ codes "27 server 1 voids a version 2 under 3 sends 18"
    ∷ codes "28 switch 0 voids client 1 seq 1 version 2"
    ∷ codes "29 controller orders 4 fence a sends 19"
    ∷ codes "30 switch 0 notes server 1 version 3 kept"
    ∷ codes "31 switch 0 forwards write a version 4 to server 1 sends 20"
    ∷ codes "32 switch 0 applies 4 fenced 3 sends 21..22"
    ∷ codes "33 server 1 applies a version 4 sends 23"
    ∷ codes "34 switch 0 answers client 0 seq 2 version 4 raised sends 24"
    ∷ codes "35 controller takes 4 fenced 3"
    ∷ codes "36 client 0 answered 2 version 4"
    ∷ codes "37 controller orders 5 copy a to server 2 sends 25"
    ∷ codes "38 server 1 keeps a version 4 sends 26"
    ∷ codes "39 switch 0 applies 5 ordered 1 sends 27..28"
    ∷ codes "40 controller ignores"
    ∷ codes "41 controller busy 5"
    ∷ codes "42 server 1 copies a version 4 to server 2 sends 29"
    ∷ codes "43 controller takes 5 ordered 1"
    ∷ codes "44 switch 0 skips 4 at 5"
    ∷ codes "45 server 2 applies a version 4 sends 30"
    ∷ codes "46 switch 0 forwards read a to server 1 sends 31"
    ∷ codes "47 controller orders 6 copy a to server 1 sends 32"
    ∷ codes "48 giveup 2 seq 1"
    ∷ codes "49 switch 0 applies 6 holds sends 33"
    ∷ codes "50 controller takes 6 holds"
    ∷ codes "51 controller orders 7 copy a to server 2 sends 34"
    ∷ codes "52 server 1 reads a version 4 sends 35"
    ∷ codes "53 server 1 keeps a version 4 sends 36"
    ∷ codes "54 switch 0 answers client 2 seq 1 version 4 kept sends 37"
    ∷ codes "55 switch 0 notes server 2 version 4 added"
    ∷ codes "56 client 0 ignores"
    ∷ codes "57 switch 0 applies 7 holds sends 38"
    ∷ codes "58 controller takes 7 holds"
    ∷ codes "59 switch 0 notes server 1 version 3 kept"
    ∷ codes "60 server 1 keeps a version 4 sends 39"
    ∷ codes "61 controller orders 8 copy a to server 0 sends 40"
    ∷ codes "62 server 1 keeps a version 4 sends 41"
    ∷ codes "63 switch 0 notes server 1 version 3 kept"
    ∷ codes "64 server 2 keeps a version 4 sends 42"
    ∷ codes "65 switch 0 skips 5 at 7"
    ∷ codes "66 switch 0 applies 8 ordered 1 sends 43..44"
    ∷ codes "67 end"
    ∷ codes "history 4"
    ∷ codes "op 0 client 0 write a =v0 issued 3 answered 10"
    ∷ codes "op 1 client 1 write a =v1 issued 14 open"
    ∷ codes "op 2 client 2 read a issued 17 open"
    ∷ codes "op 3 client 0 write a =v3 issued 22 answered 36"
    ∷ codes "order a 2"
    ∷ codes "at 0"
    ∷ codes "at 3"
    ∷ codes "done"
    ∷ []
    )
unfolding
    digits servers_from servers_of spelling in_range packet_of state_bytes state_of server_step
    client_step controller_step switch_step happens run order_of said_text copies_one_events
copies_one_trace = refl

-- copies, in format 2
unfoldable pub copies_two_events : List Event
copies_two_events =
    Write 0 (replicate 32 100) (codes "v0") ∷ Deliver 0 4 ∷ GiveUp 0 ∷ Promote (replicate 32 100)
    ∷ Deliver 2 0 ∷ Read 0 (replicate 32 100) ∷ Deliver 4 2 ∷ Deliver 3 1 ∷ Deliver 3 2
    ∷ Write 1 (replicate 32 100) (codes "v2") ∷ Deliver 1 4 ∷ Fence (replicate 32 100)
    ∷ Deliver 7 0 ∷ Deliver 8 5 ∷ Deliver 11 5 ∷ Deliver 10 3 ∷ Deliver 12 4 ∷ Deliver 5 0
    ∷ Deliver 6 3 ∷ Write 1 (replicate 32 100) (codes "v3") ∷ Deliver 10 0 ∷ Deliver 13 3
    ∷ Copy (replicate 32 100) 1 ∷ Deliver 17 3 ∷ Deliver 19 5 ∷ Deliver 15 0 ∷ Deliver 18 4
    ∷ Deliver 20 5 ∷ Deliver 21 2 ∷ Deliver 16 3 ∷ Deliver 9 3 ∷ Deliver 14 3 ∷ Deliver 22 5
    ∷ Delete 0 (replicate 32 100) ∷ Deliver 24 2 ∷ Deliver 23 4 ∷ Deliver 25 5 ∷ Deliver 26 1
    ∷ Fence (replicate 32 100) ∷ Write 1 (replicate 32 100) (codes "v4") ∷ Deliver 17 2
    ∷ Deliver 30 5 ∷ Copy (replicate 32 100) 1 ∷ Deliver 29 3 ∷ Deliver 28 2 ∷ Deliver 18 2
    ∷ Deliver 26 2 ∷ Deliver 33 3 ∷ Promote (replicate 32 100) ∷ Deliver 36 2 ∷ Deliver 32 1
    ∷ Deliver 31 0 ∷ Deliver 38 4 ∷ Deliver 39 1 ∷ Deliver 40 2 ∷ Deliver 32 3 ∷ Deliver 41 5
    ∷ Deliver 35 2 ∷ Deliver 34 2 ∷ Deliver 42 5 ∷ Read 0 (replicate 32 100) ∷ Deliver 37 4
    ∷ Deliver 19 2 ∷ Deliver 36 0 ∷ Delete 1 (replicate 32 100) ∷ Deliver 24 0 ∷ []

copies_two_trace : replay_text (rack_with Two 2 2 1 1 2 1) [] copies_two_events ≡ lines (
    codes "1 rack"
    ∷ codes "2 write 0 seq 1 sends 0"
    ∷ (codes "3 switch 0 forwards write " ++ replicate 32 100
    ++ codes " version 1 to server 0 sends 1")
    ∷ codes "4 giveup 0 seq 1"
    ∷ (codes "5 controller orders 1 promote " ++ replicate 32 100 ++ codes " sends 2")
    ∷ codes "6 switch 0 applies 1 listed 1 sends 3"
    ∷ codes "7 read 0 seq 2 sends 4"
    ∷ (codes "8 switch 0 forwards read " ++ replicate 32 100 ++ codes " to server 0 sends 5")
    ∷ codes "9 controller takes 1 listed 1"
    ∷ codes "10 controller ignores"
    ∷ codes "11 write 1 seq 1 sends 6"
    ∷ (codes "12 server 0 applies " ++ replicate 32 100 ++ codes " version 1 sends 7")
    ∷ (codes "13 controller orders 2 fence " ++ replicate 32 100 ++ codes " sends 8")
    ∷ codes "14 switch 0 answers client 0 seq 1 version 1 kept sends 9"
    ∷ codes "15 switch 0 applies 2 fenced 2 sends 10..11"
    ∷ codes "16 controller takes 2 fenced 2"
    ∷ (codes "17 server 0 fences " ++ replicate 32 100 ++ codes " version 2 from 1 sends 12")
    ∷ codes "18 switch 0 notes server 0 version 2 kept"
    ∷ (codes "19 server 0 reads " ++ replicate 32 100 ++ codes " version 2 sends 13")
    ∷ (codes "20 switch 0 forwards write " ++ replicate 32 100
    ++ codes " version 3 to server 1 sends 14")
    ∷ codes "21 busy 1 seq 1"
    ∷ (codes "22 server 0 keeps " ++ replicate 32 100 ++ codes " version 2 sends 15")
    ∷ codes "23 switch 0 answers client 0 seq 2 version 2 kept sends 16"
    ∷ (codes "24 controller orders 3 copy " ++ replicate 32 100 ++ codes " to server 1 sends 17")
    ∷ codes "25 switch 0 applies 3 ordered 0 sends 18..19"
    ∷ codes "26 controller takes 3 ordered 0"
    ∷ codes "27 switch 0 notes server 0 version 2 kept"
    ∷ (codes "28 server 0 copies " ++ replicate 32 100 ++ codes " version 2 to server 1 sends 20")
    ∷ (codes "29 server 1 applies " ++ replicate 32 100 ++ codes " version 2 sends 21")
    ∷ codes "30 switch 0 notes server 1 version 2 added"
    ∷ codes "31 client 0 answered 2 version 2 =v0"
    ∷ codes "32 client 0 ignores"
    ∷ (codes "33 server 1 applies " ++ replicate 32 100 ++ codes " version 3 sends 22")
    ∷ codes "34 switch 0 answers client 1 seq 1 version 3 raised sends 23"
    ∷ codes "35 delete 0 seq 3 sends 24"
    ∷ (codes "36 switch 0 forwards write " ++ replicate 32 100
    ++ codes " version 4 to server 0 sends 25")
    ∷ codes "37 client 1 answered 1 version 3"
    ∷ (codes "38 server 0 applies " ++ replicate 32 100 ++ codes " version 4 sends 26")
    ∷ codes "39 switch 0 answers client 0 seq 3 version 4 raised sends 27"
    ∷ (codes "40 controller orders 4 fence " ++ replicate 32 100 ++ codes " sends 28")
    ∷ codes "41 write 1 seq 2 sends 29"
    ∷ codes "42 switch 0 repeats 3 sends 30"
    ∷ codes "43 controller ignores"
    ∷ codes "44 controller busy 4"
    ∷ (codes "45 switch 0 forwards write " ++ replicate 32 100
    ++ codes " version 5 to server 1 sends 31")
    ∷ codes "46 switch 0 applies 4 fenced 2 sends 32..33"
    ∷ (codes "47 server 0 copies " ++ replicate 32 100 ++ codes " version 4 to server 1 sends 34")
    ∷ codes "48 switch 0 answers client 0 seq 3 version 4 kept sends 35"
    ∷ codes "49 controller takes 4 fenced 2"
    ∷ (codes "50 controller orders 5 promote " ++ replicate 32 100 ++ codes " sends 36")
    ∷ codes "51 switch 0 applies 5 already 1 sends 37"
    ∷ (codes "52 server 0 keeps " ++ replicate 32 100 ++ codes " version 4 sends 38")
    ∷ (codes "53 server 1 applies " ++ replicate 32 100 ++ codes " version 5 sends 39")
    ∷ codes "54 switch 0 notes server 0 version 2 kept"
    ∷ codes "55 switch 0 answers client 1 seq 2 version 5 raised sends 40"
    ∷ codes "56 client 1 answered 2 version 5"
    ∷ (codes "57 server 0 keeps " ++ replicate 32 100 ++ codes " version 4 sends 41")
    ∷ codes "58 switch 0 notes server 0 version 2 kept"
    ∷ codes "59 client 0 answered 3 version 4"
    ∷ (codes "60 server 1 keeps " ++ replicate 32 100 ++ codes " version 5 sends 42")
    ∷ codes "61 switch 0 notes server 1 version 4 kept"
    ∷ codes "62 read 0 seq 4 sends 43"
    ∷ codes "63 controller takes 5 already 1"
    ∷ codes "64 controller ignores"
    ∷ codes "65 switch 0 repeats 5 sends 44"
    ∷ codes "66 delete 1 seq 3 sends 45"
    ∷ (codes "67 switch 0 forwards write " ++ replicate 32 100
    ++ codes " version 4 to server 0 sends 46")
    ∷ codes "68 end"
    ∷ codes "history 7"
    ∷ (codes "op 0 client 0 write " ++ replicate 32 100 ++ codes " =v0 issued 2 open")
    ∷ (codes "op 1 client 0 read " ++ replicate 32 100 ++ codes " issued 7 answered 31 =v0")
    ∷ (codes "op 2 client 1 write " ++ replicate 32 100 ++ codes " =v2 issued 11 answered 37")
    ∷ (codes "op 3 client 0 write " ++ replicate 32 100 ++ codes " - issued 35 answered 59")
    ∷ (codes "op 4 client 1 write " ++ replicate 32 100 ++ codes " =v4 issued 41 answered 56")
    ∷ (codes "op 5 client 0 read " ++ replicate 32 100 ++ codes " issued 62 open")
    ∷ (codes "op 6 client 1 write " ++ replicate 32 100 ++ codes " - issued 66 open")
    ∷ (codes "order " ++ replicate 32 100 ++ codes " 5")
    ∷ codes "at 0"
    ∷ codes "at 1"
    ∷ codes "at 2"
    ∷ codes "at 3"
    ∷ codes "at 4"
    ∷ codes "done"
    ∷ []
    )
unfolding
    digits servers_from servers_of spelling in_range packet_of state_bytes state_of server_step
    client_step controller_step switch_step happens run order_of said_text copies_two_events
copies_two_trace = refl
