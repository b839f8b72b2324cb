-- Random runs with handovers and parts. An independent model of the same rules, in another
-- language, gave the text of each.
use Rattle.std.specs.Prelude.{◌≡◌, List, [], ◌∷◌, ◌++◌, refl, codes, replicate}
use Rattle.std.specs.Fmt.{digits}
use Rattle.peg_name.specs.Holders.{servers_from, servers_of}
use Rattle.peg_name.specs.declared.Format.TheVariants.{One, Two}
use Rattle.peg_name.specs.declared.Node.TheVariants as node
use Rattle.peg_event.specs.declared.Event.{Event}
use Rattle.peg_event.specs.declared.Event.TheVariants.{Read, Write, Delete, Resend, GiveUp}
use Rattle.peg_event.specs.declared.Event.TheVariants.{Deliver, Junk, Promote, Demote, Copy, Fence}
use Rattle.peg_event.specs.declared.Event.TheVariants.{Handover, Retry, Survey, Plan}
use Rattle.peg_model.specs.Packet.{in_range, spelling}
use Rattle.peg_model.specs.Reading.{packet_of}
use Rattle.peg_model.specs.Handover.{state_bytes, state_of}
use Rattle.peg_model.specs.Server.{server_step}
use Rattle.peg_model.specs.Client.{client_step}
use Rattle.peg_model.specs.Controller.{controller_step}
use Rattle.peg_model.specs.Switch.{switch_step}
use Rattle.peg_model.specs.World.{happens, run}
use Rattle.peg_model.specs.Order.{order_of}
use Rattle.peg_model.specs.Trace.{said_text, replay_text}
use Rattle.peg_model.proofs.Computed.{rack_with, lines, long_key}

-- any event at any time, in format 1
unfoldable pub uniform_one_events : List Event
uniform_one_events =
    Handover 1 ∷ Deliver 0 5 ∷ Deliver 0 2 ∷ Deliver 2 1 ∷ Deliver 3 5 ∷ Deliver 6 5
    ∷ Junk (node.Server 0) (80 ∷ 71 ∷ 1 ∷ 13 ∷ 0 ∷ 0 ∷ 0 ∷ 0 ∷ 0 ∷ 0 ∷ 0 ∷ 2 ∷ 1 ∷ [])
    ∷ Deliver 1 5 ∷ Deliver 4 4 ∷ Deliver 7 3 ∷ Deliver 5 4 ∷ Write 1 (codes "a") (codes "v0")
    ∷ Promote (codes "a") ∷ Deliver 1 3 ∷ Read 0 (0 ∷ 32 ∷ 122 ∷ []) ∷ Deliver 11 3 ∷ Survey
    ∷ Deliver 13 0 ∷ Deliver 9 3 ∷ Deliver 15 5 ∷ Deliver 14 0 ∷ Deliver 7 3 ∷ Handover 0
    ∷ Resend 0 ∷ Deliver 2 0 ∷ Deliver 16 1 ∷ Resend 1 ∷ Deliver 1 0 ∷ Read 2 (codes "a")
    ∷ Deliver 20 0 ∷ Write 1 (codes "a") (codes "v3") ∷ Deliver 11 4 ∷ Deliver 12 5 ∷ Deliver 22 2
    ∷ Deliver 4 4 ∷ Deliver 21 1 ∷ Deliver 19 0 ∷ Deliver 14 2 ∷ Deliver 10 0 ∷ Deliver 14 5
    ∷ Deliver 17 0 ∷ Deliver 8 4 ∷ Deliver 8 3 ∷ Deliver 23 5 ∷ Demote (0 ∷ 32 ∷ 122 ∷ [])
    ∷ Deliver 22 1 ∷ Deliver 25 3 ∷ Deliver 14 3 ∷ Deliver 24 4 ∷ Deliver 13 2 ∷ Deliver 20 1
    ∷ Deliver 15 4 ∷ Deliver 4 2 ∷ Deliver 5 1 ∷ Resend 0 ∷ Deliver 28 5
    ∷ Read 0 (0 ∷ 32 ∷ 122 ∷ []) ∷ Retry ∷ Deliver 30 4 ∷ Deliver 31 3 ∷ Deliver 30 1
    ∷ Promote (codes "a") ∷ Survey ∷ Survey ∷ Deliver 35 3 ∷ Deliver 34 4 ∷ Deliver 28 4
    ∷ Deliver 33 0
    ∷ Junk (node.Switch 0)
    (0 ∷ 0 ∷ 0 ∷ 0 ∷ 0 ∷ 0 ∷ 0 ∷ 0 ∷ 0 ∷ 0 ∷ 0 ∷ 0 ∷ 0 ∷ 0 ∷ 0 ∷ 0 ∷ 0 ∷ 0 ∷ 0 ∷ 0 ∷ [])
    ∷ Deliver 12 1 ∷ Deliver 40 0 ∷ Deliver 3 2 ∷ Deliver 37 3 ∷ Deliver 34 0 ∷ Deliver 10 5
    ∷ Deliver 39 5 ∷ Deliver 36 3 ∷ Deliver 32 3 ∷ Deliver 41 1 ∷ Plan 1 1 ∷ Deliver 42 3
    ∷ Deliver 38 4 ∷ Deliver 43 1 ∷ Deliver 19 4 ∷ Deliver 13 1 ∷ Deliver 23 1 ∷ Deliver 46 1
    ∷ Deliver 44 2 ∷ []

uniform_one_trace : replay_text (rack_with One 2 3 2 2 1 1) [] uniform_one_events ≡ lines (
    codes "1 rack"
    ∷ codes "2 controller orders 1 handover to switch 1 sends 0"
    ∷ codes "3 switch 0 seals epoch 2 to switch 1 sends 1"
    ∷ codes "4 switch 0 repeats 1 sends 2"
    ∷ codes "5 switch 1 active epoch 2 sends 3"
    ∷ codes "6 controller takes 1 activated 2 sends 4..6"
    ∷ codes "7 client 2 moves to switch 1 epoch 2"
    ∷ codes "8 forged"
    ∷ codes "9 switch 1 repeats 1 sends 7"
    ∷ codes "10 client 0 moves to switch 1 epoch 2"
    ∷ codes "11 controller ignores"
    ∷ codes "12 client 1 moves to switch 1 epoch 2"
    ∷ codes "13 write 1 seq 1 sends 8"
    ∷ codes "14 controller orders 2 promote a sends 9"
    ∷ codes "15 switch 1 repeats 1 sends 10"
    ∷ codes "16 read 0 seq 1 sends 11"
    ∷ codes "17 switch 1 forwards read %00%20z to server 0 sends 12"
    ∷ codes "18 controller surveys sends 13"
    ∷ codes "19 switch 1 reports 1 rows sends 14"
    ∷ codes "20 switch 1 applies 2 listed 2 sends 15"
    ∷ codes "21 controller takes 2 listed 2"
    ∷ codes "22 controller has report of 1 rows"
    ∷ codes "23 controller ignores"
    ∷ codes "24 controller orders 3 handover to switch 0 sends 16"
    ∷ codes "25 resend 0 seq 1 sends 17"
    ∷ codes "26 switch 1 repeats 2 sends 18"
    ∷ codes "27 switch 1 seals epoch 3 to switch 0 sends 19"
    ∷ codes "28 resend 1 seq 1 sends 20"
    ∷ codes "29 switch 1 old part of epoch 2"
    ∷ codes "30 read 2 seq 1 sends 21"
    ∷ codes "31 switch 1 not active epoch 2"
    ∷ codes "32 busy 1 seq 1"
    ∷ codes "33 switch 1 not active epoch 2"
    ∷ codes "34 server 0 reads %00%20z version 0 sends 22"
    ∷ codes "35 switch 1 not active epoch 2"
    ∷ codes "36 client 0 ignores"
    ∷ codes "37 switch 1 not active epoch 2"
    ∷ codes "38 switch 0 active epoch 3 sends 23"
    ∷ codes "39 controller has report of 1 rows"
    ∷ codes "40 controller ignores"
    ∷ codes "41 controller has report of 1 rows"
    ∷ codes "42 switch 1 not active epoch 2"
    ∷ codes "43 switch 1 not active epoch 2"
    ∷ codes "44 switch 1 not active epoch 2"
    ∷ codes "45 controller takes 3 activated 3 sends 24..26"
    ∷ codes "46 controller orders 4 demote %00%20z sends 27"
    ∷ codes "47 switch 1 not active epoch 2"
    ∷ codes "48 client 1 moves to switch 0 epoch 3"
    ∷ codes "49 controller has report of 1 rows"
    ∷ codes "50 client 0 moves to switch 0 epoch 3"
    ∷ codes "51 switch 1 not active epoch 2"
    ∷ codes "52 switch 1 not active epoch 2"
    ∷ codes "53 controller ignores"
    ∷ codes "54 client 0 ignores"
    ∷ codes "55 client 1 ignores"
    ∷ codes "56 resend 0 seq 1 sends 28"
    ∷ codes "57 switch 0 forwards read %00%20z to server 0 sends 29"
    ∷ codes "58 busy 0 seq 1"
    ∷ codes "59 controller retries 4 sends 30"
    ∷ codes "60 switch 0 applies 4 not listed sends 31"
    ∷ codes "61 controller takes 4 not listed"
    ∷ codes "62 switch 0 repeats 4 sends 32"
    ∷ codes "63 controller orders 5 promote a sends 33"
    ∷ codes "64 controller surveys sends 34"
    ∷ codes "65 controller surveys sends 35"
    ∷ codes "66 switch 0 reports 1 rows sends 36"
    ∷ codes "67 switch 0 reports 1 rows sends 37"
    ∷ codes "68 switch 0 forwards read %00%20z to server 0 sends 38"
    ∷ codes "69 switch 0 applies 5 already 2 sends 39"
    ∷ codes "70 switch 0 malformed"
    ∷ codes "71 server 0 reads %00%20z version 0 sends 40"
    ∷ codes "72 switch 1 not active epoch 2"
    ∷ codes "73 controller ignores"
    ∷ codes "74 controller has report of 1 rows"
    ∷ codes "75 switch 0 reports 1 rows sends 41"
    ∷ codes "76 controller ignores"
    ∷ codes "77 controller takes 5 already 2"
    ∷ codes "78 controller has report of 1 rows"
    ∷ codes "79 controller ignores"
    ∷ codes "80 controller has report of 1 rows"
    ∷ codes "81 controller plans 1 demote 1 promote sends 42"
    ∷ codes "82 switch 0 applies 6 marked 2 sends 43"
    ∷ codes "83 server 0 reads %00%20z version 0 sends 44"
    ∷ codes "84 controller takes 6 marked 2 sends 45"
    ∷ codes "85 switch 0 repeats 6 sends 46"
    ∷ codes "86 switch 1 not active epoch 2"
    ∷ codes "87 controller ignores"
    ∷ codes "88 controller ignores"
    ∷ codes "89 switch 0 answers client 0 seq 1 version 0 unlisted sends 47"
    ∷ codes "90 end"
    ∷ codes "history 3"
    ∷ codes "op 0 client 1 write a =v0 issued 13 open"
    ∷ codes "op 1 client 0 read %00%20z issued 16 open"
    ∷ codes "op 2 client 2 read a issued 30 open"
    ∷ codes "order a 0"
    ∷ codes "order %00%20z 0"
    ∷ codes "done"
    ∷ []
    )
unfolding
    digits servers_from servers_of spelling in_range packet_of state_bytes state_of server_step
    client_step controller_step switch_step happens run order_of said_text uniform_one_events
uniform_one_trace = refl

-- any event at any time, in format 2
unfoldable pub uniform_two_events : List Event
uniform_two_events =
    Read 0 (0 ∷ 32 ∷ 122 ∷ []) ∷ Deliver 0 2 ∷ Deliver 1 4 ∷ Handover 1 ∷ Deliver 2 0 ∷ Deliver 1 5
    ∷ Deliver 5 5 ∷ Deliver 6 2 ∷ Deliver 3 0 ∷ Survey ∷ Deliver 4 0 ∷ Deliver 5 3 ∷ Deliver 7 2
    ∷ Deliver 0 3 ∷ Deliver 8 3 ∷ Write 0 (0 ∷ 32 ∷ 122 ∷ []) (codes "v1") ∷ Deliver 1 5
    ∷ Deliver 3 1 ∷ Deliver 11 5 ∷ Deliver 10 0 ∷ Deliver 4 2
    ∷ Write 1 (0 ∷ 32 ∷ 122 ∷ []) (codes "v2") ∷ Deliver 12 2 ∷ Deliver 13 3 ∷ Deliver 14 1
    ∷ Deliver 1 0 ∷ Deliver 17 3 ∷ Resend 1 ∷ Junk (node.Switch 0) (codes "PG") ∷ Deliver 13 1
    ∷ Deliver 18 5 ∷ Retry ∷ Promote (0 ∷ 32 ∷ 122 ∷ []) ∷ Deliver 5 2 ∷ Deliver 19 4
    ∷ Deliver 21 0 ∷ Deliver 14 1 ∷ Deliver 16 4 ∷ Deliver 3 4 ∷ Deliver 23 4
    ∷ Read 0 (0 ∷ 32 ∷ 122 ∷ []) ∷ Deliver 9 5 ∷ Deliver 20 5 ∷ Junk (node.Server 0) (codes "PG")
    ∷ Deliver 24 3 ∷ Deliver 10 3 ∷ Deliver 22 3 ∷ Deliver 13 1 ∷ Deliver 4 2 ∷ Deliver 15 4
    ∷ Handover 0 ∷ Resend 1 ∷ Deliver 7 5 ∷ Deliver 18 1 ∷ Deliver 12 2 ∷ Deliver 25 1
    ∷ Deliver 27 4 ∷ Deliver 5 5 ∷ Deliver 6 0 ∷ GiveUp 0 ∷ Deliver 29 3 ∷ Deliver 25 5
    ∷ Write 0 (0 ∷ 32 ∷ 122 ∷ []) (codes "v3") ∷ Deliver 31 3 ∷ Deliver 18 1 ∷ Deliver 32 1
    ∷ Deliver 33 5 ∷ Deliver 4 5 ∷ Survey ∷ Deliver 37 2 ∷ Promote (0 ∷ 32 ∷ 122 ∷ [])
    ∷ Deliver 34 3 ∷ Deliver 38 2 ∷ Deliver 37 4 ∷ Deliver 16 2 ∷ []

uniform_two_trace :
    replay_text (rack_with Two 2 2 2 2 3 1) ((0 ∷ 32 ∷ 122 ∷ []) ∷ []) uniform_two_events ≡ lines (
    codes "1 rack"
    ∷ codes "2 read 0 seq 1 sends 0"
    ∷ codes "3 switch 0 forwards read %00%20z to server 0 sends 1"
    ∷ codes "4 server 0 reads %00%20z version 0 sends 2"
    ∷ codes "5 controller orders 1 handover to switch 1 sends 3"
    ∷ codes "6 switch 0 answers client 0 seq 1 version 0 kept sends 4"
    ∷ codes "7 server 0 reads %00%20z version 0 sends 5"
    ∷ codes "8 switch 0 answers client 0 seq 1 version 0 kept sends 6"
    ∷ codes "9 client 0 answered 1 version 0 -"
    ∷ codes "10 switch 0 seals epoch 2 to switch 1 sends 7"
    ∷ codes "11 controller surveys sends 8"
    ∷ codes "12 client 0 ignores"
    ∷ codes "13 switch 0 not active epoch 1"
    ∷ codes "14 switch 1 active epoch 2 sends 9"
    ∷ codes "15 switch 0 not active epoch 1"
    ∷ codes "16 switch 0 not active epoch 1"
    ∷ codes "17 write 0 seq 2 sends 10"
    ∷ codes "18 server 0 reads %00%20z version 0 sends 11"
    ∷ codes "19 switch 0 repeats 1 sends 12"
    ∷ codes "20 switch 0 not active epoch 1"
    ∷ codes "21 switch 0 not active epoch 1"
    ∷ codes "22 client 0 ignores"
    ∷ codes "23 write 1 seq 1 sends 13"
    ∷ codes "24 switch 1 repeats 1 sends 14"
    ∷ codes "25 switch 0 not active epoch 1"
    ∷ codes "26 controller takes 1 activated 2 sends 15..16"
    ∷ codes "27 server 0 reads %00%20z version 0 sends 17"
    ∷ codes "28 switch 0 not active epoch 1"
    ∷ codes "29 resend 1 seq 1 sends 18"
    ∷ codes "30 switch 0 malformed"
    ∷ codes "31 switch 0 not active epoch 1"
    ∷ codes "32 switch 0 not active epoch 1"
    ∷ codes "33 controller announces epoch 2 sends 19..20"
    ∷ codes "34 controller orders 2 promote %00%20z sends 21"
    ∷ codes "35 switch 0 not active epoch 1"
    ∷ codes "36 client 0 moves to switch 1 epoch 2"
    ∷ codes "37 switch 1 applies 2 already 0 sends 22"
    ∷ codes "38 controller ignores"
    ∷ codes "39 client 1 moves to switch 1 epoch 2"
    ∷ codes "40 switch 0 repeats 1 sends 23"
    ∷ codes "41 switch 1 repeats 2 sends 24"
    ∷ codes "42 busy 0 seq 2"
    ∷ codes "43 controller ignores"
    ∷ codes "44 client 1 ignores"
    ∷ codes "45 server 0 malformed"
    ∷ codes "46 controller takes 2 already 0"
    ∷ codes "47 switch 0 not active epoch 1"
    ∷ codes "48 controller ignores"
    ∷ codes "49 switch 0 not active epoch 1"
    ∷ codes "50 client 0 ignores"
    ∷ codes "51 client 0 ignores"
    ∷ codes "52 controller orders 3 handover to switch 0 sends 25"
    ∷ codes "53 resend 1 seq 1 sends 26"
    ∷ codes "54 switch 1 repeats 2 sends 27"
    ∷ codes "55 switch 0 not active epoch 1"
    ∷ codes "56 switch 1 repeats 2 sends 28"
    ∷ codes "57 switch 1 seals epoch 3 to switch 0 sends 29"
    ∷ codes "58 controller ignores"
    ∷ codes "59 switch 0 not active epoch 1"
    ∷ codes "60 client 0 ignores"
    ∷ codes "61 giveup 0 seq 2"
    ∷ codes "62 switch 0 active epoch 3 sends 30"
    ∷ codes "63 switch 1 repeats 3 sends 31"
    ∷ codes "64 write 0 seq 3 sends 32"
    ∷ codes "65 switch 0 repeats 3 sends 33"
    ∷ codes "66 switch 0 forwards write %00%20z version 1 to server 1 sends 34"
    ∷ codes "67 switch 1 not active epoch 2"
    ∷ codes "68 controller takes 3 activated 3 sends 35..36"
    ∷ codes "69 client 0 ignores"
    ∷ codes "70 controller surveys sends 37"
    ∷ codes "71 switch 0 reports 1 rows sends 38"
    ∷ codes "72 controller orders 4 promote %00%20z sends 39"
    ∷ codes "73 server 1 applies %00%20z version 1 sends 40"
    ∷ codes "74 controller has report of 1 rows"
    ∷ codes "75 switch 0 reports 1 rows sends 41"
    ∷ codes "76 client 1 ignores"
    ∷ codes "77 end"
    ∷ codes "history 4"
    ∷ codes "op 0 client 0 read %00%20z issued 2 answered 9 -"
    ∷ codes "op 1 client 0 write %00%20z =v1 issued 17 open"
    ∷ codes "op 2 client 1 write %00%20z =v2 issued 23 open"
    ∷ codes "op 3 client 0 write %00%20z =v3 issued 64 open"
    ∷ codes "order %00%20z 1"
    ∷ codes "at 0"
    ∷ codes "done"
    ∷ []
    )
unfolding
    digits servers_from servers_of spelling in_range packet_of state_bytes state_of server_step
    client_step controller_step switch_step happens run order_of said_text uniform_two_events
uniform_two_trace = refl

-- handovers, in format 1
unfoldable pub handovers_one_events : List Event
handovers_one_events =
    Retry ∷ Write 0 (replicate 32 100) (codes "v0") ∷ Deliver 1 0 ∷ Deliver 0 3
    ∷ Write 0 (replicate 32 100) (codes "v1") ∷ Deliver 3 4 ∷ Deliver 0 3 ∷ Deliver 1 0
    ∷ Deliver 4 1 ∷ Deliver 2 2 ∷ Write 1 (replicate 32 100) (codes "v1")
    ∷ Fence (replicate 32 100) ∷ Deliver 6 5 ∷ Deliver 7 0 ∷ Deliver 9 1 ∷ Deliver 5 5
    ∷ Deliver 10 3 ∷ Demote (replicate 32 100) ∷ Deliver 2 5 ∷ Deliver 11 0 ∷ Retry ∷ Deliver 12 4
    ∷ Deliver 13 2 ∷ Deliver 14 4 ∷ Deliver 8 1 ∷ Deliver 15 5 ∷ Handover 2 ∷ Deliver 16 0
    ∷ Deliver 17 0 ∷ Read 2 (replicate 32 100) ∷ Deliver 10 4 ∷ Deliver 17 4 ∷ Deliver 18 2
    ∷ Deliver 21 5 ∷ Retry ∷ Deliver 27 4 ∷ Handover 2 ∷ Demote (replicate 32 100) ∷ GiveUp 0
    ∷ Write 0 (replicate 32 100) (codes "v3") ∷ Deliver 28 0 ∷ Deliver 23 5 ∷ Deliver 22 5
    ∷ Write 1 (replicate 32 100) (codes "v4") ∷ Deliver 31 2 ∷ Deliver 32 3 ∷ Deliver 33 2
    ∷ Deliver 20 1 ∷ Deliver 30 2 ∷ Deliver 34 5 ∷ Deliver 24 0 ∷ Handover 2 ∷ Deliver 25 0
    ∷ Deliver 26 5 ∷ Demote (replicate 32 100) ∷ Deliver 35 2 ∷ Deliver 36 2 ∷ Deliver 20 1
    ∷ Deliver 19 5 ∷ Deliver 37 0 ∷ Deliver 38 3 ∷ Deliver 29 5 ∷ Deliver 37 5 ∷ Deliver 6 0
    ∷ Fence (replicate 32 100) ∷ Deliver 23 1 ∷ Deliver 39 0 ∷ Deliver 40 5 ∷ Deliver 18 5
    ∷ Deliver 41 0 ∷ Read 1 (replicate 32 100) ∷ Deliver 6 2 ∷ Promote (replicate 32 100)
    ∷ Deliver 43 2 ∷ Deliver 44 5 ∷ Deliver 35 3 ∷ Deliver 11 0 ∷ Deliver 42 5 ∷ Deliver 45 5
    ∷ Resend 2 ∷ Deliver 46 3 ∷ Deliver 48 1 ∷ Deliver 37 1 ∷ Deliver 14 5 ∷ Deliver 36 5
    ∷ Deliver 47 2 ∷ Deliver 49 3 ∷ Deliver 11 5 ∷ Deliver 50 1 ∷ Deliver 51 2 ∷ Deliver 36 5
    ∷ Handover 2 ∷ Deliver 45 0 ∷ Fence (replicate 32 100) ∷ Deliver 53 4 ∷ Deliver 40 0
    ∷ Deliver 52 1 ∷ Deliver 54 1 ∷ []

handovers_one_trace :
    replay_text (rack_with One 3 3 3 1 3 1) [] handovers_one_events ≡ lines (
    codes "1 rack"
    ∷ codes "2 controller announces epoch 1 sends 0..2"
    ∷ codes "3 write 0 seq 1 sends 3"
    ∷ codes "4 client 1 ignores"
    ∷ codes "5 client 0 ignores"
    ∷ codes "6 busy 0 seq 1"
    ∷ (codes "7 switch 0 forwards write " ++ replicate 32 100
    ++ codes " version 1 to server 1 sends 4")
    ∷ codes "8 client 0 ignores"
    ∷ codes "9 client 1 ignores"
    ∷ (codes "10 server 1 applies " ++ replicate 32 100 ++ codes " version 1 sends 5")
    ∷ codes "11 client 2 ignores"
    ∷ codes "12 write 1 seq 1 sends 6"
    ∷ (codes "13 controller orders 1 fence " ++ replicate 32 100 ++ codes " sends 7")
    ∷ (codes "14 switch 0 forwards write " ++ replicate 32 100
    ++ codes " version 2 to server 1 sends 8")
    ∷ codes "15 switch 0 applies 1 not listed sends 9"
    ∷ codes "16 controller takes 1 not listed"
    ∷ codes "17 switch 0 answers client 0 seq 1 version 1 unlisted sends 10"
    ∷ codes "18 client 0 answered 1 version 1"
    ∷ (codes "19 controller orders 2 demote " ++ replicate 32 100 ++ codes " sends 11")
    ∷ codes "20 client 2 ignores"
    ∷ codes "21 switch 0 applies 2 not listed sends 12"
    ∷ codes "22 controller retries 2 sends 13"
    ∷ codes "23 controller takes 2 not listed"
    ∷ codes "24 switch 0 repeats 2 sends 14"
    ∷ codes "25 controller ignores"
    ∷ (codes "26 server 1 applies " ++ replicate 32 100 ++ codes " version 2 sends 15")
    ∷ codes "27 switch 0 answers client 1 seq 1 version 2 unlisted sends 16"
    ∷ codes "28 controller orders 3 handover to switch 2 sends 17"
    ∷ codes "29 client 1 answered 1 version 2"
    ∷ codes "30 switch 0 seals epoch 2 to switch 2 sends 18"
    ∷ codes "31 read 2 seq 1 sends 19"
    ∷ codes "32 client 0 ignores"
    ∷ codes "33 switch 0 repeats 3 sends 20"
    ∷ codes "34 switch 2 active epoch 2 sends 21"
    ∷ codes "35 controller takes 3 activated 2 sends 22..24"
    ∷ codes "36 controller announces epoch 2 sends 25..27"
    ∷ codes "37 client 2 moves to switch 2 epoch 2"
    ∷ codes "38 controller same switch 2"
    ∷ (codes "39 controller orders 4 demote " ++ replicate 32 100 ++ codes " sends 28")
    ∷ codes "40 nothing open 0"
    ∷ codes "41 write 0 seq 2 sends 29"
    ∷ codes "42 switch 2 applies 4 not listed sends 30"
    ∷ codes "43 client 1 moves to switch 2 epoch 2"
    ∷ codes "44 client 0 moves to switch 2 epoch 2"
    ∷ codes "45 write 1 seq 2 sends 31"
    ∷ (codes "46 switch 2 forwards write " ++ replicate 32 100
    ++ codes " version 3 to server 1 sends 32")
    ∷ (codes "47 server 1 applies " ++ replicate 32 100 ++ codes " version 3 sends 33")
    ∷ codes "48 switch 2 answers client 1 seq 2 version 3 unlisted sends 34"
    ∷ codes "49 switch 2 repeats 4 sends 35"
    ∷ codes "50 controller takes 4 not listed"
    ∷ codes "51 client 1 answered 2 version 3"
    ∷ codes "52 client 2 ignores"
    ∷ codes "53 controller same switch 2"
    ∷ codes "54 client 0 ignores"
    ∷ codes "55 client 1 ignores"
    ∷ (codes "56 controller orders 5 demote " ++ replicate 32 100 ++ codes " sends 36")
    ∷ codes "57 controller ignores"
    ∷ codes "58 switch 2 applies 5 not listed sends 37"
    ∷ codes "59 switch 2 repeats 5 sends 38"
    ∷ codes "60 switch 0 not active epoch 1"
    ∷ codes "61 controller takes 5 not listed"
    ∷ codes "62 controller ignores"
    ∷ codes "63 switch 0 not active epoch 1"
    ∷ codes "64 controller ignores"
    ∷ codes "65 switch 0 not active epoch 1"
    ∷ (codes "66 controller orders 6 fence " ++ replicate 32 100 ++ codes " sends 39")
    ∷ codes "67 client 1 ignores"
    ∷ codes "68 switch 2 applies 6 not listed sends 40"
    ∷ codes "69 controller takes 6 not listed"
    ∷ codes "70 switch 2 repeats 6 sends 41"
    ∷ codes "71 controller ignores"
    ∷ codes "72 read 1 seq 3 sends 42"
    ∷ codes "73 switch 0 not active epoch 1"
    ∷ (codes "74 controller orders 7 promote " ++ replicate 32 100 ++ codes " sends 43")
    ∷ codes "75 switch 2 applies 7 listed 7 sends 44"
    ∷ codes "76 controller takes 7 listed 7"
    ∷ codes "77 controller ignores"
    ∷ codes "78 switch 0 skips 2 at 3"
    ∷ (codes "79 switch 2 forwards read " ++ replicate 32 100 ++ codes " to server 1 sends 45")
    ∷ (codes "80 server 1 reads " ++ replicate 32 100 ++ codes " version 3 sends 46")
    ∷ codes "81 resend 2 seq 1 sends 47"
    ∷ codes "82 switch 2 answers client 1 seq 3 version 3 kept sends 48"
    ∷ codes "83 client 1 answered 3 version 3 =v4"
    ∷ codes "84 controller ignores"
    ∷ codes "85 controller ignores"
    ∷ codes "86 switch 2 skips 5 at 7"
    ∷ (codes "87 switch 2 forwards read " ++ replicate 32 100 ++ codes " to server 1 sends 49")
    ∷ (codes "88 server 1 reads " ++ replicate 32 100 ++ codes " version 3 sends 50")
    ∷ codes "89 switch 0 skips 2 at 3"
    ∷ codes "90 switch 2 answers client 2 seq 1 version 3 kept sends 51"
    ∷ codes "91 client 2 answered 1 version 3 =v4"
    ∷ codes "92 switch 2 skips 5 at 7"
    ∷ codes "93 controller same switch 2"
    ∷ (codes "94 server 1 reads " ++ replicate 32 100 ++ codes " version 3 sends 52")
    ∷ (codes "95 controller orders 8 fence " ++ replicate 32 100 ++ codes " sends 53")
    ∷ codes "96 switch 2 applies 8 fenced 4 sends 54..55"
    ∷ codes "97 controller ignores"
    ∷ codes "98 switch 2 answers client 1 seq 3 version 3 kept sends 56"
    ∷ (codes "99 server 1 fences " ++ replicate 32 100 ++ codes " version 4 from 3 sends 57")
    ∷ codes "100 end"
    ∷ codes "history 6"
    ∷ (codes "op 0 client 0 write " ++ replicate 32 100 ++ codes " =v0 issued 3 answered 18")
    ∷ (codes "op 1 client 1 write " ++ replicate 32 100 ++ codes " =v1 issued 12 answered 29")
    ∷ (codes "op 2 client 2 read " ++ replicate 32 100 ++ codes " issued 31 answered 91 =v4")
    ∷ (codes "op 3 client 0 write " ++ replicate 32 100 ++ codes " =v3 issued 41 open")
    ∷ (codes "op 4 client 1 write " ++ replicate 32 100 ++ codes " =v4 issued 45 answered 51")
    ∷ (codes "op 5 client 1 read " ++ replicate 32 100 ++ codes " issued 72 answered 83 =v4")
    ∷ (codes "order " ++ replicate 32 100 ++ codes " 5")
    ∷ codes "at 0"
    ∷ codes "at 1"
    ∷ codes "at 4"
    ∷ codes "at 5"
    ∷ codes "at 2"
    ∷ codes "done"
    ∷ []
    )
unfolding
    digits servers_from servers_of spelling in_range packet_of state_bytes state_of server_step
    client_step controller_step switch_step happens run order_of said_text handovers_one_events
handovers_one_trace = refl

-- handovers, in format 2
unfoldable pub handovers_two_events : List Event
handovers_two_events =
    Read 1 (codes "%") ∷ Retry ∷ Write 0 (codes "%") (codes "v1") ∷ Deliver 2 3 ∷ Deliver 1 0
    ∷ Deliver 0 3 ∷ Deliver 3 1 ∷ Deliver 4 5 ∷ GiveUp 1 ∷ Deliver 5 1
    ∷ Write 1 (codes "%") (codes "v2") ∷ Deliver 7 2 ∷ Deliver 8 1 ∷ Promote (codes "%")
    ∷ Deliver 11 3 ∷ Deliver 3 3 ∷ Deliver 10 5 ∷ Deliver 12 3 ∷ Deliver 13 2 ∷ Retry
    ∷ Deliver 15 0 ∷ Deliver 17 4 ∷ Deliver 16 0 ∷ Promote (codes "%") ∷ Deliver 19 5 ∷ Resend 0
    ∷ Deliver 20 5 ∷ Handover 2 ∷ Deliver 22 0 ∷ Deliver 23 3 ∷ Deliver 24 5 ∷ Deliver 21 5
    ∷ Deliver 18 2 ∷ Delete 0 (codes "%") ∷ Deliver 14 5 ∷ Handover 2 ∷ Deliver 27 3 ∷ Deliver 26 2
    ∷ Deliver 25 0 ∷ Deliver 5 2 ∷ Deliver 23 2 ∷ Deliver 29 5 ∷ Deliver 9 5 ∷ Deliver 20 3
    ∷ Deliver 28 5 ∷ Deliver 6 5 ∷ Deliver 23 4 ∷ Deliver 10 5 ∷ Delete 1 (codes "%")
    ∷ Deliver 30 3 ∷ Deliver 31 4 ∷ Deliver 22 0 ∷ Deliver 32 0 ∷ Deliver 14 2 ∷ Deliver 33 2
    ∷ Deliver 4 2 ∷ Deliver 34 0 ∷ Resend 1 ∷ Deliver 35 4 ∷ Deliver 7 1 ∷ Deliver 35 2
    ∷ Deliver 36 1 ∷ Deliver 34 1 ∷ Demote (codes "%") ∷ Deliver 37 5 ∷ Retry ∷ Resend 1 ∷ []

handovers_two_trace :
    replay_text (rack_with Two 2 2 3 2 2 1) [] handovers_two_events ≡ lines (
    codes "1 rack"
    ∷ codes "2 read 1 seq 1 sends 0"
    ∷ codes "3 controller announces epoch 1 sends 1..2"
    ∷ codes "4 write 0 seq 1 sends 3"
    ∷ codes "5 client 1 ignores"
    ∷ codes "6 client 0 ignores"
    ∷ codes "7 switch 0 forwards read %25 to server 1 sends 4"
    ∷ codes "8 switch 0 forwards write %25 version 1 to server 1 sends 5"
    ∷ codes "9 server 1 reads %25 version 0 sends 6"
    ∷ codes "10 giveup 1 seq 1"
    ∷ codes "11 server 1 applies %25 version 1 sends 7"
    ∷ codes "12 write 1 seq 2 sends 8"
    ∷ codes "13 switch 0 answers client 0 seq 1 version 1 unlisted sends 9"
    ∷ codes "14 switch 0 forwards write %25 version 2 to server 1 sends 10"
    ∷ codes "15 controller orders 1 promote %25 sends 11"
    ∷ codes "16 switch 0 applies 1 listed 1 sends 12"
    ∷ codes "17 switch 0 forwards write %25 version 1 to server 1 sends 13"
    ∷ codes "18 server 1 applies %25 version 2 sends 14"
    ∷ codes "19 controller takes 1 listed 1"
    ∷ codes "20 server 1 keeps %25 version 2 sends 15"
    ∷ codes "21 controller announces epoch 1 sends 16..17"
    ∷ codes "22 switch 0 answers client 0 seq 1 version 1 kept sends 18"
    ∷ codes "23 client 1 ignores"
    ∷ codes "24 client 0 ignores"
    ∷ codes "25 controller orders 2 promote %25 sends 19"
    ∷ codes "26 switch 0 applies 2 already 1 sends 20"
    ∷ codes "27 resend 0 seq 1 sends 21"
    ∷ codes "28 controller takes 2 already 1"
    ∷ codes "29 controller orders 3 handover to switch 2 sends 22"
    ∷ codes "30 switch 0 seals epoch 2 to switch 2 sends 23"
    ∷ codes "31 switch 2 active epoch 2 sends 24"
    ∷ codes "32 controller takes 3 activated 2 sends 25..26"
    ∷ codes "33 switch 0 not active epoch 1"
    ∷ codes "34 client 0 answered 1 version 1"
    ∷ codes "35 delete 0 seq 2 sends 27"
    ∷ codes "36 switch 0 not active epoch 1"
    ∷ codes "37 controller same switch 2"
    ∷ codes "38 switch 0 not active epoch 1"
    ∷ codes "39 client 1 moves to switch 2 epoch 2"
    ∷ codes "40 client 0 moves to switch 2 epoch 2"
    ∷ codes "41 server 1 keeps %25 version 2 sends 28"
    ∷ codes "42 switch 2 repeats 3 sends 29"
    ∷ codes "43 controller ignores"
    ∷ codes "44 client 0 ignores"
    ∷ codes "45 controller ignores"
    ∷ codes "46 switch 0 not active epoch 1"
    ∷ codes "47 switch 0 not active epoch 1"
    ∷ codes "48 switch 2 repeats 3 sends 30"
    ∷ codes "49 server 1 keeps %25 version 2 sends 31"
    ∷ codes "50 busy 1 seq 2"
    ∷ codes "51 controller ignores"
    ∷ codes "52 switch 0 not active epoch 1"
    ∷ codes "53 switch 0 repeats 3 sends 32"
    ∷ codes "54 switch 2 repeats 3 sends 33"
    ∷ codes "55 switch 0 not active epoch 1"
    ∷ codes "56 controller ignores"
    ∷ codes "57 server 1 reads %25 version 2 sends 34"
    ∷ codes "58 switch 0 not active epoch 1"
    ∷ codes "59 resend 1 seq 2 sends 35"
    ∷ codes "60 switch 2 forwards write %25 version 2 to server 1 sends 36"
    ∷ codes "61 switch 0 not active epoch 1"
    ∷ codes "62 switch 2 forwards write %25 version 2 to server 1 sends 37"
    ∷ codes "63 server 1 keeps %25 version 2 sends 38"
    ∷ codes "64 switch 0 not active epoch 1"
    ∷ codes "65 controller orders 4 demote %25 sends 39"
    ∷ codes "66 server 1 keeps %25 version 2 sends 40"
    ∷ codes "67 controller retries 4 sends 41"
    ∷ codes "68 resend 1 seq 2 sends 42"
    ∷ codes "69 end"
    ∷ codes "history 4"
    ∷ codes "op 0 client 1 read %25 issued 2 open"
    ∷ codes "op 1 client 0 write %25 =v1 issued 4 answered 34"
    ∷ codes "op 2 client 1 write %25 =v2 issued 12 open"
    ∷ codes "op 3 client 0 write %25 - issued 35 open"
    ∷ codes "order %25 1"
    ∷ codes "at 1"
    ∷ codes "done"
    ∷ []
    )
unfolding
    digits servers_from servers_of spelling in_range packet_of state_bytes state_of server_step
    client_step controller_step switch_step happens run order_of said_text handovers_two_events
handovers_two_trace = refl

-- parts of a state in any order, in format 1
unfoldable pub parts_one_events : List Event
parts_one_events =
    Read 0 (long_key 70) ∷ Deliver 0 4 ∷ Deliver 1 5 ∷ Deliver 2 3 ∷ Deliver 3 3 ∷ Deliver 3 3
    ∷ Deliver 2 1 ∷ Deliver 4 0 ∷ Deliver 1 2 ∷ Deliver 5 0 ∷ Deliver 6 3 ∷ Deliver 4 2
    ∷ Deliver 4 1 ∷ Deliver 6 4 ∷ Deliver 3 3 ∷ Copy (long_key 69) 0 ∷ Deliver 7 2 ∷ Deliver 9 4
    ∷ Handover 2 ∷ Deliver 10 5 ∷ Deliver 8 1 ∷ Deliver 11 3 ∷ Deliver 12 2 ∷ Deliver 13 1
    ∷ Deliver 15 1 ∷ Demote (long_key 69) ∷ Deliver 16 4 ∷ Deliver 17 1 ∷ Deliver 14 0
    ∷ Deliver 13 2 ∷ Deliver 7 3 ∷ Deliver 16 4 ∷ Deliver 7 0 ∷ Deliver 18 4 ∷ Deliver 12 4
    ∷ Deliver 19 4 ∷ Resend 1 ∷ Deliver 11 0 ∷ Deliver 20 2 ∷ Deliver 14 4 ∷ Deliver 9 5
    ∷ Deliver 10 1 ∷ Deliver 17 0 ∷ Handover 1 ∷ Deliver 23 1 ∷ Deliver 21 3
    ∷ Promote (long_key 69) ∷ Deliver 24 5 ∷ Deliver 25 2 ∷ Deliver 26 1 ∷ Deliver 27 5
    ∷ Deliver 28 0 ∷ Deliver 22 2 ∷ Deliver 9 1 ∷ Deliver 20 1 ∷ Deliver 21 0 ∷ Deliver 17 2
    ∷ Read 0 (long_key 70) ∷ Deliver 29 2 ∷ Deliver 30 1 ∷ []

parts_one_trace :
    replay_text (rack_with One 2 2 3 8 3 1)
    ((long_key 65) ∷ (long_key 66) ∷ (long_key 67) ∷ (long_key 68)
    ∷ (long_key 69) ∷ (long_key 70) ∷ (long_key 71) ∷ [])
    parts_one_events
    ≡ lines (
    codes "1 rack"
    ∷ codes "2 read 0 seq 1 sends 0"
    ∷ codes "3 switch 0 forwards read xxxxxxxxxxxxxxxxxxxxxxxxxxxxxxxF to server 0 sends 1"
    ∷ codes "4 server 0 reads xxxxxxxxxxxxxxxxxxxxxxxxxxxxxxxF version 0 sends 2"
    ∷ codes "5 switch 0 answers client 0 seq 1 version 0 kept sends 3"
    ∷ codes "6 client 0 answered 1 version 0 -"
    ∷ codes "7 client 0 ignores"
    ∷ codes "8 switch 0 answers client 0 seq 1 version 0 kept sends 4"
    ∷ codes "9 client 0 ignores"
    ∷ codes "10 server 0 reads xxxxxxxxxxxxxxxxxxxxxxxxxxxxxxxF version 0 sends 5"
    ∷ codes "11 switch 0 answers client 0 seq 1 version 0 kept sends 6"
    ∷ codes "12 client 0 ignores"
    ∷ codes "13 client 0 ignores"
    ∷ codes "14 client 0 ignores"
    ∷ codes "15 client 0 ignores"
    ∷ codes "16 client 0 ignores"
    ∷ codes "17 controller orders 1 copy xxxxxxxxxxxxxxxxxxxxxxxxxxxxxxxE to server 0 sends 7"
    ∷ codes "18 switch 0 applies 1 ordered 1 sends 8..9"
    ∷ codes "19 controller takes 1 ordered 1"
    ∷ codes "20 controller orders 2 handover to switch 2 sends 10"
    ∷ codes "21 switch 0 seals epoch 2 to switch 2 sends 11..12"
    ∷ codes "22 server 1 has no xxxxxxxxxxxxxxxxxxxxxxxxxxxxxxxE"
    ∷ codes "23 switch 2 collects 1 of 2"
    ∷ codes "24 switch 2 active epoch 2 sends 13"
    ∷ codes "25 controller takes 2 activated 2 sends 14..15"
    ∷ codes "26 client 1 moves to switch 2 epoch 2"
    ∷ codes "27 controller orders 3 demote xxxxxxxxxxxxxxxxxxxxxxxxxxxxxxxE sends 16"
    ∷ codes "28 switch 2 applies 3 marked 1 sends 17"
    ∷ codes "29 controller takes 3 marked 1"
    ∷ codes "30 client 0 moves to switch 2 epoch 2"
    ∷ codes "31 controller ignores"
    ∷ codes "32 switch 0 skips 1 at 2"
    ∷ codes "33 switch 2 repeats 3 sends 18"
    ∷ codes "34 switch 0 skips 1 at 2"
    ∷ codes "35 controller ignores"
    ∷ codes "36 switch 2 repeats 3 sends 19"
    ∷ codes "37 controller ignores"
    ∷ codes "38 nothing open 1"
    ∷ codes "39 switch 2 repeats 3 sends 20"
    ∷ codes "40 controller ignores"
    ∷ codes "41 client 0 ignores"
    ∷ codes "42 controller ignores"
    ∷ codes "43 switch 0 repeats 2 sends 21..22"
    ∷ codes "44 controller ignores"
    ∷ codes "45 controller orders 4 handover to switch 1 sends 23"
    ∷ codes "46 switch 2 seals epoch 3 to switch 1 sends 24..25"
    ∷ codes "47 switch 2 old part of epoch 2"
    ∷ codes "48 controller busy 4"
    ∷ codes "49 switch 1 collects 1 of 2"
    ∷ codes "50 switch 1 active epoch 3 sends 26"
    ∷ codes "51 controller takes 4 activated 3 sends 27..28"
    ∷ codes "52 client 0 moves to switch 1 epoch 3"
    ∷ codes "53 client 1 moves to switch 1 epoch 3"
    ∷ codes "54 switch 2 old part of epoch 2"
    ∷ codes "55 controller ignores"
    ∷ codes "56 controller ignores"
    ∷ codes "57 switch 2 old part of epoch 2"
    ∷ codes "58 controller ignores"
    ∷ codes "59 read 0 seq 2 sends 29"
    ∷ codes "60 switch 1 forwards read xxxxxxxxxxxxxxxxxxxxxxxxxxxxxxxF to server 0 sends 30"
    ∷ codes "61 server 0 reads xxxxxxxxxxxxxxxxxxxxxxxxxxxxxxxF version 0 sends 31"
    ∷ codes "62 end"
    ∷ codes "history 2"
    ∷ codes "op 0 client 0 read xxxxxxxxxxxxxxxxxxxxxxxxxxxxxxxF issued 2 answered 6 -"
    ∷ codes "op 1 client 0 read xxxxxxxxxxxxxxxxxxxxxxxxxxxxxxxF issued 59 open"
    ∷ codes "order xxxxxxxxxxxxxxxxxxxxxxxxxxxxxxxF 1"
    ∷ codes "at 0"
    ∷ codes "done"
    ∷ []
    )
unfolding
    digits servers_from servers_of spelling in_range packet_of state_bytes state_of server_step
    client_step controller_step switch_step happens run order_of said_text parts_one_events
parts_one_trace = refl

-- parts of a state in any order, in format 2
unfoldable pub parts_two_events : List Event
parts_two_events =
    Handover 1 ∷ Deliver 0 5 ∷ Deliver 2 3 ∷ Deliver 1 5 ∷ Retry ∷ Deliver 4 2 ∷ Deliver 6 2
    ∷ Deliver 7 3 ∷ Deliver 10 1 ∷ Read 1 (long_key 70) ∷ Promote (long_key 72) ∷ Deliver 12 1
    ∷ Deliver 13 1 ∷ Deliver 8 1 ∷ Deliver 3 0 ∷ Deliver 7 1 ∷ Demote (long_key 72) ∷ Deliver 14 0
    ∷ Deliver 15 1 ∷ Deliver 11 0 ∷ Deliver 5 5 ∷ Deliver 9 1 ∷ Deliver 16 3 ∷ Read 0 (long_key 72)
    ∷ Deliver 17 5 ∷ Deliver 18 3 ∷ Deliver 16 1 ∷ Deliver 19 4 ∷ Deliver 20 2
    ∷ Read 2 (long_key 72) ∷ Deliver 21 5 ∷ Deliver 16 0 ∷ Deliver 22 2 ∷ Deliver 23 5 ∷ Handover 0
    ∷ Deliver 25 1 ∷ Deliver 27 3 ∷ Deliver 20 4 ∷ Delete 0 (long_key 72) ∷ Deliver 28 5
    ∷ Deliver 26 3 ∷ Deliver 29 5 ∷ Deliver 32 0 ∷ Deliver 31 3 ∷ Deliver 24 4 ∷ Deliver 30 2
    ∷ Write 2 (long_key 71) (codes "v4") ∷ Deliver 8 3 ∷ Handover 1 ∷ Deliver 34 0 ∷ Deliver 36 3
    ∷ Deliver 35 5 ∷ Deliver 37 4 ∷ Handover 2 ∷ Deliver 41 3 ∷ Deliver 42 5 ∷ Deliver 43 3
    ∷ Deliver 44 4 ∷ Deliver 47 5 ∷ Deliver 45 2 ∷ Demote (long_key 72) ∷ Deliver 40 1
    ∷ Deliver 48 3 ∷ Deliver 49 4 ∷ Deliver 38 0 ∷ Deliver 46 3 ∷ Deliver 33 3 ∷ Deliver 39 2
    ∷ Deliver 35 3 ∷ Deliver 5 5 ∷ Deliver 26 1 ∷ Deliver 26 2 ∷ Deliver 48 1 ∷ Deliver 7 0
    ∷ Deliver 50 0 ∷ Deliver 31 1 ∷ Deliver 48 4 ∷ Deliver 51 1 ∷ Fence (long_key 72)
    ∷ Deliver 12 3 ∷ Deliver 52 5 ∷ []

parts_two_trace :
    replay_text (rack_with Two 2 3 3 8 1 1)
    ((long_key 65) ∷ (long_key 66) ∷ (long_key 67) ∷ (long_key 68)
    ∷ (long_key 69) ∷ (long_key 70) ∷ (long_key 71) ∷ [])
    parts_two_events
    ≡ lines (
    codes "1 rack"
    ∷ codes "2 controller orders 1 handover to switch 1 sends 0"
    ∷ codes "3 switch 0 seals epoch 2 to switch 1 sends 1..2"
    ∷ codes "4 switch 1 collects 1 of 2"
    ∷ codes "5 switch 1 active epoch 2 sends 3"
    ∷ codes "6 controller retries 1 sends 4"
    ∷ codes "7 switch 0 repeats 1 sends 5..6"
    ∷ codes "8 switch 1 repeats 1 sends 7"
    ∷ codes "9 controller takes 1 activated 2 sends 8..10"
    ∷ codes "10 client 2 moves to switch 1 epoch 2"
    ∷ codes "11 read 1 seq 1 sends 11"
    ∷ codes "12 controller orders 2 promote xxxxxxxxxxxxxxxxxxxxxxxxxxxxxxxH sends 12"
    ∷ codes "13 switch 1 applies 2 listed 2 sends 13"
    ∷ codes "14 controller takes 2 listed 2"
    ∷ codes "15 client 0 moves to switch 1 epoch 2"
    ∷ codes "16 controller ignores"
    ∷ codes "17 controller ignores"
    ∷ codes "18 controller orders 3 demote xxxxxxxxxxxxxxxxxxxxxxxxxxxxxxxH sends 14"
    ∷ codes "19 switch 1 applies 3 marked 2 sends 15"
    ∷ codes "20 controller takes 3 marked 2"
    ∷ codes "21 switch 0 not active epoch 1"
    ∷ codes "22 switch 1 repeats 3 sends 16"
    ∷ codes "23 client 1 moves to switch 1 epoch 2"
    ∷ codes "24 controller ignores"
    ∷ codes "25 read 0 seq 1 sends 17"
    ∷ codes "26 switch 1 forwards read xxxxxxxxxxxxxxxxxxxxxxxxxxxxxxxH to server 0 sends 18"
    ∷ codes "27 server 0 reads xxxxxxxxxxxxxxxxxxxxxxxxxxxxxxxH version 0 sends 19"
    ∷ codes "28 controller ignores"
    ∷ codes "29 switch 1 answers client 0 seq 1 version 0 kept sends 20"
    ∷ codes "30 client 0 answered 1 version 0 -"
    ∷ codes "31 read 2 seq 1 sends 21"
    ∷ codes "32 switch 1 forwards read xxxxxxxxxxxxxxxxxxxxxxxxxxxxxxxH to server 0 sends 22"
    ∷ codes "33 controller ignores"
    ∷ codes "34 server 0 reads xxxxxxxxxxxxxxxxxxxxxxxxxxxxxxxH version 0 sends 23"
    ∷ codes "35 switch 1 answers client 2 seq 1 version 0 kept sends 24"
    ∷ codes "36 controller orders 4 handover to switch 0 sends 25"
    ∷ codes "37 switch 1 seals epoch 3 to switch 0 sends 26..27"
    ∷ codes "38 switch 0 collects 1 of 2"
    ∷ codes "39 client 0 ignores"
    ∷ codes "40 delete 0 seq 2 sends 28"
    ∷ codes "41 switch 1 not active epoch 2"
    ∷ codes "42 switch 0 active epoch 3 sends 29"
    ∷ codes "43 controller takes 4 activated 3 sends 30..32"
    ∷ codes "44 client 2 moves to switch 0 epoch 3"
    ∷ codes "45 client 1 moves to switch 0 epoch 3"
    ∷ codes "46 client 2 answered 1 version 0 -"
    ∷ codes "47 client 0 moves to switch 0 epoch 3"
    ∷ codes "48 write 2 seq 2 sends 33"
    ∷ codes "49 client 0 ignores"
    ∷ codes "50 controller orders 5 handover to switch 1 sends 34"
    ∷ codes "51 switch 0 seals epoch 4 to switch 1 sends 35..36"
    ∷ codes "52 switch 1 collects 1 of 2"
    ∷ codes "53 switch 1 active epoch 4 sends 37"
    ∷ codes "54 controller takes 5 activated 4 sends 38..40"
    ∷ codes "55 controller orders 6 handover to switch 2 sends 41"
    ∷ codes "56 switch 1 seals epoch 5 to switch 2 sends 42..43"
    ∷ codes "57 switch 2 collects 1 of 2"
    ∷ codes "58 switch 2 active epoch 5 sends 44"
    ∷ codes "59 controller takes 6 activated 5 sends 45..47"
    ∷ codes "60 client 2 moves to switch 2 epoch 5"
    ∷ codes "61 client 0 moves to switch 2 epoch 5"
    ∷ codes "62 controller orders 7 demote xxxxxxxxxxxxxxxxxxxxxxxxxxxxxxxH sends 48"
    ∷ codes "63 client 2 ignores"
    ∷ codes "64 switch 2 applies 7 already marked 2 sends 49"
    ∷ codes "65 controller takes 7 already marked 2"
    ∷ codes "66 client 0 ignores"
    ∷ codes "67 client 1 moves to switch 2 epoch 5"
    ∷ codes "68 switch 0 not active epoch 3"
    ∷ codes "69 client 1 ignores"
    ∷ codes "70 switch 1 old part of epoch 4"
    ∷ codes "71 switch 1 old part of epoch 2"
    ∷ codes "72 switch 0 old part of epoch 3"
    ∷ codes "73 switch 0 old part of epoch 3"
    ∷ codes "74 switch 2 repeats 7 sends 50"
    ∷ codes "75 controller ignores"
    ∷ codes "76 controller ignores"
    ∷ codes "77 client 1 ignores"
    ∷ codes "78 switch 2 repeats 7 sends 51"
    ∷ codes "79 controller ignores"
    ∷ codes "80 controller orders 8 fence xxxxxxxxxxxxxxxxxxxxxxxxxxxxxxxH sends 52"
    ∷ codes "81 switch 1 skips 2 at 6"
    ∷ codes "82 switch 2 applies 8 fenced 1 sends 53..54"
    ∷ codes "83 end"
    ∷ codes "history 5"
    ∷ codes "op 0 client 1 read xxxxxxxxxxxxxxxxxxxxxxxxxxxxxxxF issued 11 open"
    ∷ codes "op 1 client 0 read xxxxxxxxxxxxxxxxxxxxxxxxxxxxxxxH issued 25 answered 30 -"
    ∷ codes "op 2 client 2 read xxxxxxxxxxxxxxxxxxxxxxxxxxxxxxxH issued 31 answered 46 -"
    ∷ codes "op 3 client 0 write xxxxxxxxxxxxxxxxxxxxxxxxxxxxxxxH - issued 40 open"
    ∷ codes "op 4 client 2 write xxxxxxxxxxxxxxxxxxxxxxxxxxxxxxxG =v4 issued 48 open"
    ∷ codes "order xxxxxxxxxxxxxxxxxxxxxxxxxxxxxxxF 0"
    ∷ codes "order xxxxxxxxxxxxxxxxxxxxxxxxxxxxxxxH 2"
    ∷ codes "at 1"
    ∷ codes "at 2"
    ∷ codes "order xxxxxxxxxxxxxxxxxxxxxxxxxxxxxxxG 0"
    ∷ codes "done"
    ∷ []
    )
unfolding
    digits servers_from servers_of spelling in_range packet_of state_bytes state_of server_step
    client_step controller_step switch_step happens run order_of said_text parts_two_events
parts_two_trace = refl

-- a part that is held already, in format 2
unfoldable pub part_again_two_events : List Event
part_again_two_events =
    Demote (long_key 69) ∷ Deliver 0 1 ∷ Deliver 1 2 ∷ Retry ∷ Deliver 3 4 ∷ Deliver 1 0
    ∷ Deliver 3 4 ∷ Deliver 2 2 ∷ Write 1 (long_key 69) (codes "v0") ∷ Deliver 4 0 ∷ Handover 0
    ∷ Deliver 5 5 ∷ Deliver 6 0 ∷ Deliver 7 5 ∷ Deliver 6 0 ∷ Deliver 8 5 ∷ Deliver 1 5
    ∷ Promote (long_key 71) ∷ Deliver 9 1 ∷ Deliver 10 3 ∷ Write 0 (long_key 69) (codes "v1")
    ∷ Handover 2 ∷ Deliver 12 5 ∷ Deliver 13 2 ∷ Deliver 14 2 ∷ Write 1 (long_key 71) (codes "v2")
    ∷ Deliver 17 0 ∷ Deliver 11 2 ∷ Deliver 16 4 ∷ Deliver 15 4 ∷ Deliver 3 1 ∷ Deliver 9 4
    ∷ Deliver 4 5 ∷ Deliver 7 5 ∷ Deliver 16 2 ∷ Deliver 6 3 ∷ Deliver 11 2 ∷ Handover 1
    ∷ Deliver 18 3 ∷ Deliver 19 4 ∷ Deliver 20 4 ∷ Deliver 21 2 ∷ GiveUp 0 ∷ Deliver 22 1
    ∷ Deliver 7 1 ∷ Deliver 13 2 ∷ Deliver 11 2 ∷ Deliver 13 4 ∷ Deliver 22 3 ∷ Deliver 22 0
    ∷ Deliver 10 3 ∷ Deliver 10 1 ∷ Deliver 18 4 ∷ Deliver 23 3 ∷ Deliver 24 1 ∷ Deliver 1 1
    ∷ Deliver 4 2 ∷ Fence (long_key 71) ∷ Deliver 7 5 ∷ Read 0 (long_key 70) ∷ Deliver 26 1
    ∷ Deliver 27 0 ∷ Deliver 28 2 ∷ Deliver 25 1 ∷ Deliver 30 3 ∷ Deliver 32 4 ∷ Deliver 31 5
    ∷ Handover 1 ∷ Promote (long_key 69) ∷ Deliver 33 4 ∷ Deliver 34 2 ∷ Deliver 24 1 ∷ Handover 0
    ∷ Deliver 35 0 ∷ Retry ∷ Deliver 37 4 ∷ Deliver 19 5 ∷ Deliver 38 2 ∷ Deliver 40 1
    ∷ Deliver 39 2 ∷ []

part_again_two_trace :
    replay_text (rack_with Two 2 2 3 8 2 1)
    ((long_key 65) ∷ (long_key 66) ∷ (long_key 67) ∷ (long_key 68)
    ∷ (long_key 69) ∷ (long_key 70) ∷ [])
    part_again_two_events
    ≡ lines (
    codes "1 rack"
    ∷ codes "2 controller orders 1 demote xxxxxxxxxxxxxxxxxxxxxxxxxxxxxxxE sends 0"
    ∷ codes "3 switch 0 applies 1 marked 1 sends 1"
    ∷ codes "4 controller takes 1 marked 1"
    ∷ codes "5 controller announces epoch 1 sends 2..3"
    ∷ codes "6 client 1 ignores"
    ∷ codes "7 controller ignores"
    ∷ codes "8 client 1 ignores"
    ∷ codes "9 client 0 ignores"
    ∷ codes "10 write 1 seq 1 sends 4"
    ∷ (codes "11 switch 0 forwards write xxxxxxxxxxxxxxxxxxxxxxxxxxxxxxxE version 1 "
    ++ codes "to server 1 sends 5")
    ∷ codes "12 controller same switch 0"
    ∷ codes "13 server 1 applies xxxxxxxxxxxxxxxxxxxxxxxxxxxxxxxE version 1 sends 6"
    ∷ codes "14 switch 0 answers client 1 seq 1 version 1 removed 0 sends 7"
    ∷ codes "15 client 1 answered 1 version 1"
    ∷ codes "16 switch 0 answers client 1 seq 1 version 1 unlisted sends 8"
    ∷ codes "17 client 1 ignores"
    ∷ codes "18 controller ignores"
    ∷ codes "19 controller orders 2 promote xxxxxxxxxxxxxxxxxxxxxxxxxxxxxxxG sends 9"
    ∷ codes "20 switch 0 applies 2 listed 2 sends 10"
    ∷ codes "21 controller takes 2 listed 2"
    ∷ codes "22 write 0 seq 1 sends 11"
    ∷ codes "23 controller orders 3 handover to switch 2 sends 12"
    ∷ codes "24 switch 0 seals epoch 2 to switch 2 sends 13"
    ∷ codes "25 switch 2 active epoch 2 sends 14"
    ∷ codes "26 controller takes 3 activated 2 sends 15..16"
    ∷ codes "27 write 1 seq 2 sends 17"
    ∷ codes "28 switch 0 not active epoch 1"
    ∷ codes "29 switch 0 not active epoch 1"
    ∷ codes "30 client 1 moves to switch 2 epoch 2"
    ∷ codes "31 client 0 moves to switch 2 epoch 2"
    ∷ codes "32 client 1 ignores"
    ∷ codes "33 switch 0 skips 2 at 3"
    ∷ codes "34 switch 0 not active epoch 1"
    ∷ codes "35 client 1 ignores"
    ∷ codes "36 client 1 ignores"
    ∷ codes "37 switch 0 not active epoch 1"
    ∷ codes "38 switch 0 not active epoch 1"
    ∷ codes "39 controller orders 4 handover to switch 1 sends 18"
    ∷ codes "40 switch 2 seals epoch 3 to switch 1 sends 19"
    ∷ codes "41 switch 1 active epoch 3 sends 20"
    ∷ codes "42 controller takes 4 activated 3 sends 21..22"
    ∷ codes "43 client 0 moves to switch 1 epoch 3"
    ∷ codes "44 giveup 0 seq 1"
    ∷ codes "45 client 1 moves to switch 1 epoch 3"
    ∷ codes "46 client 1 ignores"
    ∷ codes "47 switch 2 old part of epoch 2"
    ∷ codes "48 switch 0 not active epoch 1"
    ∷ codes "49 switch 2 old part of epoch 2"
    ∷ codes "50 client 1 ignores"
    ∷ codes "51 client 1 ignores"
    ∷ codes "52 controller ignores"
    ∷ codes "53 controller ignores"
    ∷ codes "54 switch 2 repeats 4 sends 23"
    ∷ codes "55 switch 1 repeats 4 sends 24"
    ∷ codes "56 controller ignores"
    ∷ codes "57 controller ignores"
    ∷ codes "58 switch 0 not active epoch 1"
    ∷ codes "59 controller orders 5 fence xxxxxxxxxxxxxxxxxxxxxxxxxxxxxxxG sends 25"
    ∷ codes "60 client 1 ignores"
    ∷ codes "61 read 0 seq 2 sends 26"
    ∷ codes "62 switch 1 forwards read xxxxxxxxxxxxxxxxxxxxxxxxxxxxxxxF to server 0 sends 27"
    ∷ codes "63 server 0 reads xxxxxxxxxxxxxxxxxxxxxxxxxxxxxxxF version 0 sends 28"
    ∷ codes "64 switch 1 answers client 0 seq 2 version 0 kept sends 29"
    ∷ codes "65 switch 1 applies 5 fenced 2 sends 30..31"
    ∷ codes "66 server 1 fences xxxxxxxxxxxxxxxxxxxxxxxxxxxxxxxG version 2 from 0 sends 32"
    ∷ codes "67 switch 1 notes server 1 version 2 kept"
    ∷ codes "68 controller takes 5 fenced 2"
    ∷ codes "69 controller same switch 1"
    ∷ codes "70 controller orders 6 promote xxxxxxxxxxxxxxxxxxxxxxxxxxxxxxxE sends 33"
    ∷ codes "71 switch 1 applies 6 listed 6 sends 34"
    ∷ codes "72 controller takes 6 listed 6"
    ∷ codes "73 controller ignores"
    ∷ codes "74 controller orders 7 handover to switch 0 sends 35"
    ∷ codes "75 switch 1 seals epoch 4 to switch 0 sends 36..37"
    ∷ codes "76 controller retries 7 sends 38"
    ∷ codes "77 switch 0 collects 1 of 2"
    ∷ codes "78 switch 1 old part of epoch 3"
    ∷ codes "79 switch 1 repeats 7 sends 39..40"
    ∷ codes "80 switch 0 has part 1"
    ∷ codes "81 switch 0 active epoch 4 sends 41"
    ∷ codes "82 end"
    ∷ codes "history 4"
    ∷ codes "op 0 client 1 write xxxxxxxxxxxxxxxxxxxxxxxxxxxxxxxE =v0 issued 10 answered 15"
    ∷ codes "op 1 client 0 write xxxxxxxxxxxxxxxxxxxxxxxxxxxxxxxE =v1 issued 22 open"
    ∷ codes "op 2 client 1 write xxxxxxxxxxxxxxxxxxxxxxxxxxxxxxxG =v2 issued 27 open"
    ∷ codes "op 3 client 0 read xxxxxxxxxxxxxxxxxxxxxxxxxxxxxxxF issued 61 open"
    ∷ codes "order xxxxxxxxxxxxxxxxxxxxxxxxxxxxxxxE 1"
    ∷ codes "at 0"
    ∷ codes "order xxxxxxxxxxxxxxxxxxxxxxxxxxxxxxxG 0"
    ∷ codes "order xxxxxxxxxxxxxxxxxxxxxxxxxxxxxxxF 0"
    ∷ codes "done"
    ∷ []
    )
unfolding
    digits servers_from servers_of spelling in_range packet_of state_bytes state_of server_step
    client_step controller_step switch_step happens run order_of said_text part_again_two_events
part_again_two_trace = refl
