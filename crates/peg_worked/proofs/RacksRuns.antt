-- Several racks, among which the keys are divided. An independent model gave the texts.
use Rattle.std.specs.Prelude.{◌≡◌, ◌≤◌, true, Some, List, [], ◌∷◌, ◌++◌, refl, codes}
use Rattle.std.proofs.Common.{arith}
use Rattle.std.specs.Fmt.{digits}
use Rattle.peg_name.specs.Holders.{servers_from, servers_of}
use Rattle.peg_name.specs.declared.Format.TheVariants.{One, Two}
use Rattle.peg_name.specs.declared.Node.TheVariants as node
use Rattle.peg_event.specs.declared.Event.TheVariants as event
use Rattle.peg_model.specs.Packet.{in_range, spelling}
use Rattle.peg_model.specs.Reading.{packet_of}
use Rattle.peg_model.specs.Handover.{state_bytes, state_of}
use Rattle.peg_model.specs.Server.{server_step}
use Rattle.peg_model.specs.Client.{client_step}
use Rattle.peg_model.specs.Controller.{controller_step}
use Rattle.peg_model.specs.Switch.{switch_step}
use Rattle.peg_model.specs.World.{happens, start}
use Rattle.peg_model.specs.Order.{order_of}
use Rattle.peg_model.specs.Trace.{said_text}
use Rattle.peg_meaning.specs.Session.{Input, Entry}
use Rattle.peg_meaning.specs.Played.{played, plays}
use Rattle.peg_model.proofs.Computed.{rack_with, lines}
use Rattle.peg_worked.proofs.Sessions.{shows, shown, spell}
use Rattle.peg_meaning.specs.Racks.{Routed, Within, RacksEntry, Counted, Named, Happens, End}
use Rattle.peg_meaning.specs.Racks.{racks_lines, racks_start, Starting, plays_racks, RacksWord}
use Rattle.peg_meaning.specs.Racks.{Running, IsRacksWordLine}

-- two writes, each to its rack
unfoldable pub two_racks_inputs : List (Input RacksEntry)
two_racks_inputs =
    Entry (Counted 2)
    ∷ Entry (Named (rack_with One 1 1 1 1 1 1) ([]))
    ∷ Entry (Named (rack_with One 1 1 1 1 1 1) ([]))
    ∷ Entry (Happens (Routed (event.Write 0 (codes "k") (codes "x"))))
    ∷ Entry (Happens (Routed (event.Write 0 (codes "b") (codes "y"))))
    ∷ Entry (Happens (Within 1 (event.Deliver 0 0)))
    ∷ Entry (Happens (Within 0 (event.GiveUp 0)))
    ∷ Entry End
    ∷ []

two_racks_lines : spell racks_lines two_racks_inputs (
    codes "racks 2"
    ∷ codes "rack servers=1 clients=1 switches=1 listed=1 hot=1 first=1"
    ∷ codes "rack servers=1 clients=1 switches=1 listed=1 hot=1 first=1"
    ∷ codes "write 0 k =x"
    ∷ codes "write 0 b =y"
    ∷ codes "rack 1 deliver 0"
    ∷ codes "rack 0 giveup 0"
    ∷ codes "end"
    ∷ []
    ) ≡ true
unfolding digits two_racks_inputs
two_racks_lines = refl

two_racks_plays :
    shown plays_racks (plays plays_racks racks_start two_racks_inputs)
    ≡ Some (shows true (lines (
    codes "1 racks 2"
    ∷ codes "2 rack"
    ∷ codes "3 rack"
    ∷ codes "4 rack 1 write 0 seq 1 sends 0"
    ∷ codes "5 rack 0 write 0 seq 1 sends 0"
    ∷ codes "6 rack 1 switch 0 forwards write k version 1 to server 0 sends 1"
    ∷ codes "7 rack 0 giveup 0 seq 1"
    ∷ codes "8 end"
    ∷ codes "rack 0"
    ∷ codes "history 1"
    ∷ codes "op 0 client 0 write b =y issued 5 open"
    ∷ codes "order b 0"
    ∷ codes "done"
    ∷ codes "rack 1"
    ∷ codes "history 1"
    ∷ codes "op 0 client 0 write k =x issued 4 open"
    ∷ codes "order k 0"
    ∷ codes "done"
    ∷ []
    )) [] [])
unfolding
    digits servers_from servers_of spelling in_range packet_of state_bytes state_of server_step
    client_step controller_step switch_step happens order_of said_text played two_racks_inputs
two_racks_plays = refl

-- a random run
unfoldable pub three_racks_inputs : List (Input RacksEntry)
three_racks_inputs =
    Entry (Counted 3)
    ∷ Entry (Named (rack_with One 1 2 1 1 1 1) ([]))
    ∷ Entry (Named (rack_with One 2 1 2 2 2 1) ((codes "a") ∷ []))
    ∷ Entry (Named (rack_with Two 1 2 1 1 1 3) ([]))
    ∷ Entry (Happens (Within 2 (event.Copy (codes "b") 0)))
    ∷ Entry (Happens (Within 0 (event.Handover 0)))
    ∷ Entry (Happens (Within 0 (event.Junk (node.Client 1) (136 ∷ 162 ∷ 235 ∷ 214 ∷ 1 ∷ []))))
    ∷ Entry (Happens (Within 0 (event.Resend 0)))
    ∷ Entry (Happens (Within 1 event.Clear))
    ∷ Entry (Happens (Within 1 (event.Deliver 0 5)))
    ∷ Entry (Happens (Within 2 (event.Deliver 0 5)))
    ∷ Entry (Happens (Within 1 (event.Deliver 1 4)))
    ∷ Entry (Happens (Routed (event.Write 0 (codes "b") (codes "v8"))))
    ∷ Entry (Happens (Within 0 (event.Fence (codes "b"))))
    ∷ Entry (Happens (Within 1 (event.Deliver 1 1)))
    ∷ Entry (Happens (Within 0 (event.Deliver 0 5)))
    ∷ Entry (Happens (Within 1 (event.Handover 2)))
    ∷ Entry (Happens (Within 2 (event.Deliver 1 5)))
    ∷ Entry (Happens (Within 2 (event.Deliver 2 5)))
    ∷ Entry (Happens (Within 0 (event.Deliver 1 0)))
    ∷ Entry (Happens (Within 0 (event.Deliver 1 1)))
    ∷ Entry (Happens (Routed (event.Read 0 (101 ∷ 34 ∷ []))))
    ∷ Entry (Happens (Within 1 (event.Deliver 0 2)))
    ∷ Entry (Happens (Within 0 (event.Deliver 2 5)))
    ∷ Entry (Happens (Routed (event.Write 0 (codes "b") (codes "v20"))))
    ∷ Entry (Happens (Within 2 (event.Deliver 2 0)))
    ∷ Entry (Happens (Within 2 (event.Deliver 3 1)))
    ∷ Entry (Happens (Within 0 (event.Deliver 1 0)))
    ∷ Entry (Happens (Routed (event.Write 0 (codes "a") (codes "v24"))))
    ∷ Entry (Happens (Within 1 (event.Deliver 1 3)))
    ∷ Entry (Happens (Within 0 (event.Copy (101 ∷ 34 ∷ []) 1)))
    ∷ Entry (Happens (Routed (event.Write 1 (codes "k") (codes "v27"))))
    ∷ Entry (Happens (Within 1 (event.Deliver 1 1)))
    ∷ Entry (Happens (Routed (event.Read 1 (codes "c"))))
    ∷ Entry (Happens (Within 2 (event.Deliver 4 0)))
    ∷ Entry (Happens (Routed (event.Delete 1 (codes "b"))))
    ∷ Entry (Happens (Within 2 (event.Deliver 5 5)))
    ∷ Entry (Happens (Within 1 (event.Deliver 2 3)))
    ∷ Entry (Happens (Within 1 (event.Deliver 3 4)))
    ∷ Entry (Happens (Within 2 (event.Handover 1)))
    ∷ Entry (Happens (Within 0 (event.GiveUp 0)))
    ∷ Entry (Happens (Within 2 (event.Junk (node.Switch 0) (252 ∷ 55 ∷ 41 ∷ 87 ∷ 165 ∷ []))))
    ∷ Entry (Happens (Routed (event.Write 0 (codes "a") (codes "v38"))))
    ∷ Entry (Happens (Routed (event.Write 0 (codes "key7") (codes "v39"))))
    ∷ Entry (Happens (Within 1 (event.Deliver 4 2)))
    ∷ Entry (Happens (Within 1 (event.Deliver 5 0)))
    ∷ Entry (Happens (Routed (event.Read 1 (101 ∷ 34 ∷ []))))
    ∷ Entry (Happens (Within 0 (event.Deliver 3 0)))
    ∷ Entry (Happens (Within 1 (event.Deliver 0 3)))
    ∷ Entry (Happens (Within 2 (event.Deliver 6 4)))
    ∷ Entry (Happens (Within 2 (event.Deliver 7 2)))
    ∷ Entry (Happens (Within 0 (event.Junk node.Controller (72 ∷ 199 ∷ 213 ∷ 101 ∷ 167 ∷ []))))
    ∷ Entry (Happens (Routed (event.Write 1 (codes "k") (codes "v48"))))
    ∷ Entry (Happens (Within 1 (event.Deliver 6 3)))
    ∷ Entry (Happens (Within 1 (event.Deliver 7 2)))
    ∷ Entry (Happens (Within 0 (event.Deliver 4 4)))
    ∷ Entry (Happens (Within 1 (event.Deliver 6 0)))
    ∷ Entry (Happens (Within 2 (event.Deliver 8 4)))
    ∷ Entry (Happens (Within 2 (event.Deliver 9 3)))
    ∷ Entry (Happens (Within 0 (event.Deliver 5 0)))
    ∷ Entry (Happens (Within 0 (event.Deliver 1 4)))
    ∷ Entry (Happens (Within 1 (event.Deliver 6 4)))
    ∷ Entry (Happens (Within 0 (event.Deliver 6 0)))
    ∷ Entry (Happens (Within 1 (event.Copy (codes "a") 1)))
    ∷ Entry (Happens (Within 1 (event.Resend 0)))
    ∷ Entry (Happens (Within 1 (event.Deliver 2 5)))
    ∷ Entry (Happens (Routed (event.Write 0 (codes "key7") (codes "v62"))))
    ∷ Entry (Happens (Within 1 (event.Deliver 8 1)))
    ∷ Entry (Happens (Within 1 (event.Deliver 3 0)))
    ∷ Entry (Happens (Within 2 (event.Deliver 10 0)))
    ∷ Entry (Happens (Within 2 (event.Deliver 9 1)))
    ∷ Entry (Happens (Within 1 (event.Deliver 9 1)))
    ∷ Entry (Happens (Within 0 (event.Deliver 7 2)))
    ∷ Entry (Happens (Within 0 (event.Deliver 8 3)))
    ∷ Entry End
    ∷ []

three_racks_lines : spell racks_lines three_racks_inputs (
    codes "racks 3"
    ∷ codes "rack servers=1 clients=2 switches=1 listed=1 hot=1 first=1"
    ∷ codes "rack servers=2 clients=1 switches=2 listed=2 hot=2 first=1 +a"
    ∷ codes "rack servers=1 clients=2 switches=1 listed=1 hot=1 first=3 format=2"
    ∷ codes "rack 2 copy b 0"
    ∷ codes "rack 0 handover 0"
    ∷ codes "rack 0 junk client 1 x88a2ebd601"
    ∷ codes "rack 0 resend 0"
    ∷ codes "rack 1 clear"
    ∷ codes "rack 1 deliver 0 5"
    ∷ codes "rack 2 deliver 0 5"
    ∷ codes "rack 1 deliver 1 4"
    ∷ codes "write 0 b =v8"
    ∷ codes "rack 0 fence b"
    ∷ codes "rack 1 deliver 1 1"
    ∷ codes "rack 0 deliver 0 5"
    ∷ codes "rack 1 handover 2"
    ∷ codes "rack 2 deliver 1 5"
    ∷ codes "rack 2 deliver 2 5"
    ∷ codes "rack 0 deliver 1"
    ∷ codes "rack 0 deliver 1 1"
    ∷ (codes "read 0 e" ++ (34 ∷ []))
    ∷ codes "rack 1 deliver 0 2"
    ∷ codes "rack 0 deliver 2 5"
    ∷ codes "write 0 b =v20"
    ∷ codes "rack 2 deliver 2"
    ∷ codes "rack 2 deliver 3 1"
    ∷ codes "rack 0 deliver 1"
    ∷ codes "write 0 a =v24"
    ∷ codes "rack 1 deliver 1 3"
    ∷ (codes "rack 0 copy e" ++ (34 ∷ []) ++ codes " 1")
    ∷ codes "write 1 k =v27"
    ∷ codes "rack 1 deliver 1 1"
    ∷ codes "read 1 c"
    ∷ codes "rack 2 deliver 4"
    ∷ codes "delete 1 b"
    ∷ codes "rack 2 deliver 5 5"
    ∷ codes "rack 1 deliver 2 3"
    ∷ codes "rack 1 deliver 3 4"
    ∷ codes "rack 2 handover 1"
    ∷ codes "rack 0 giveup 0"
    ∷ codes "rack 2 junk switch 0 xfc372957a5"
    ∷ codes "write 0 a =v38"
    ∷ codes "write 0 key7 =v39"
    ∷ codes "rack 1 deliver 4 2"
    ∷ codes "rack 1 deliver 5"
    ∷ (codes "read 1 e" ++ (34 ∷ []))
    ∷ codes "rack 0 deliver 3"
    ∷ codes "rack 1 deliver 0 3"
    ∷ codes "rack 2 deliver 6 4"
    ∷ codes "rack 2 deliver 7 2"
    ∷ codes "rack 0 junk controller x48c7d565a7"
    ∷ codes "write 1 k =v48"
    ∷ codes "rack 1 deliver 6 3"
    ∷ codes "rack 1 deliver 7 2"
    ∷ codes "rack 0 deliver 4 4"
    ∷ codes "rack 1 deliver 6"
    ∷ codes "rack 2 deliver 8 4"
    ∷ codes "rack 2 deliver 9 3"
    ∷ codes "rack 0 deliver 5"
    ∷ codes "rack 0 deliver 1 4"
    ∷ codes "rack 1 deliver 6 4"
    ∷ codes "rack 0 deliver 6"
    ∷ codes "rack 1 copy a 1"
    ∷ codes "rack 1 resend 0"
    ∷ codes "rack 1 deliver 2 5"
    ∷ codes "write 0 key7 =v62"
    ∷ codes "rack 1 deliver 8 1"
    ∷ codes "rack 1 deliver 3"
    ∷ codes "rack 2 deliver 10"
    ∷ codes "rack 2 deliver 9 1"
    ∷ codes "rack 1 deliver 9 1"
    ∷ codes "rack 0 deliver 7 2"
    ∷ codes "rack 0 deliver 8 3"
    ∷ codes "end"
    ∷ []
    ) ≡ true
unfolding digits three_racks_inputs
three_racks_lines = refl

three_racks_plays :
    shown plays_racks (plays plays_racks racks_start three_racks_inputs)
    ≡ Some (shows true (lines (
    codes "1 racks 3"
    ∷ codes "2 rack"
    ∷ codes "3 rack"
    ∷ codes "4 rack"
    ∷ codes "5 rack 2 controller orders 1 copy b to server 0 sends 0"
    ∷ codes "6 rack 0 controller same switch 0"
    ∷ codes "7 rack 0 client 1 ignores"
    ∷ codes "8 rack 0 nothing open 0"
    ∷ codes "9 rack 1 controller orders 1 clear sends 0"
    ∷ codes "10 rack 1 switch 0 applies 1 cleared sends 1"
    ∷ codes "11 rack 2 switch 0 applies 1 not listed sends 1"
    ∷ codes "12 rack 1 controller takes 1 cleared"
    ∷ codes "13 rack 2 write 0 seq 1 sends 2"
    ∷ codes "14 rack 0 controller orders 1 fence b sends 0"
    ∷ codes "15 rack 1 controller ignores"
    ∷ codes "16 rack 0 switch 0 applies 1 not listed sends 1"
    ∷ codes "17 rack 1 controller no such 2"
    ∷ codes "18 rack 2 controller takes 1 not listed"
    ∷ codes "19 rack 2 switch 0 forwards write b version 3 to server 0 sends 3"
    ∷ codes "20 rack 0 controller takes 1 not listed"
    ∷ codes "21 rack 0 controller ignores"
    ∷ codes "22 rack 0 read 0 seq 1 sends 2"
    ∷ codes "23 rack 1 switch 0 repeats 1 sends 2"
    ∷ (codes "24 rack 0 switch 0 forwards read e" ++ (34 ∷ []) ++ codes " to server 0 sends 3")
    ∷ codes "25 rack 2 busy 0 seq 1"
    ∷ codes "26 rack 2 switch 0 forwards write b version 3 to server 0 sends 4"
    ∷ codes "27 rack 2 server 0 applies b version 3 sends 5"
    ∷ codes "28 rack 0 controller ignores"
    ∷ codes "29 rack 1 write 0 seq 1 sends 3"
    ∷ codes "30 rack 1 controller ignores"
    ∷ codes "31 rack 0 controller no such 1"
    ∷ codes "32 rack 2 write 1 seq 1 sends 6"
    ∷ codes "33 rack 1 controller ignores"
    ∷ codes "34 rack 0 read 1 seq 1 sends 4"
    ∷ codes "35 rack 2 server 0 keeps b version 3 sends 7"
    ∷ codes "36 rack 2 busy 1 seq 1"
    ∷ codes "37 rack 2 switch 0 answers client 0 seq 1 version 3 unlisted sends 8"
    ∷ codes "38 rack 1 controller ignores"
    ∷ codes "39 rack 1 switch 0 forwards write a version 1 to server 0 sends 4"
    ∷ codes "40 rack 2 controller no such 1"
    ∷ codes "41 rack 0 giveup 0 seq 1"
    ∷ codes "42 rack 2 switch 0 malformed"
    ∷ codes "43 rack 1 busy 0 seq 1"
    ∷ codes "44 rack 0 write 0 seq 2 sends 5"
    ∷ codes "45 rack 1 server 0 applies a version 1 sends 5"
    ∷ codes "46 rack 1 switch 0 answers client 0 seq 1 version 1 raised sends 6"
    ∷ codes "47 rack 0 busy 1 seq 1"
    ∷ (codes "48 rack 0 server 0 reads e" ++ (34 ∷ []) ++ codes " version 0 sends 6")
    ∷ codes "49 rack 1 switch 0 repeats 1 sends 7"
    ∷ codes "50 rack 2 switch 0 forwards write k version 4 to server 0 sends 9"
    ∷ codes "51 rack 2 switch 0 answers client 0 seq 1 version 3 unlisted sends 10"
    ∷ codes "52 rack 0 controller malformed"
    ∷ codes "53 rack 2 busy 1 seq 1"
    ∷ codes "54 rack 1 client 0 answered 1 version 1"
    ∷ codes "55 rack 1 controller ignores"
    ∷ codes "56 rack 0 switch 0 forwards read c to server 0 sends 7"
    ∷ codes "57 rack 1 client 0 ignores"
    ∷ codes "58 rack 2 client 0 answered 1 version 3"
    ∷ codes "59 rack 2 server 0 applies k version 4 sends 11"
    ∷ codes "60 rack 0 switch 0 forwards write key7 version 1 to server 0 sends 8"
    ∷ codes "61 rack 0 controller ignores"
    ∷ codes "62 rack 1 client 0 ignores"
    ∷ codes "63 rack 0 switch 0 answers client 0 seq 1 version 0 unlisted sends 9"
    ∷ codes "64 rack 1 controller orders 2 copy a to server 1 sends 8"
    ∷ codes "65 rack 1 nothing open 0"
    ∷ codes "66 rack 1 controller ignores"
    ∷ codes "67 rack 0 busy 0 seq 2"
    ∷ codes "68 rack 1 switch 0 applies 2 ordered 0 sends 9..10"
    ∷ codes "69 rack 1 switch 0 forwards write a version 1 to server 1 sends 11"
    ∷ codes "70 rack 2 client 0 ignores"
    ∷ codes "71 rack 2 server 0 keeps k version 4 sends 12"
    ∷ codes "72 rack 1 server 0 copies a version 1 to server 1 sends 12"
    ∷ codes "73 rack 0 server 0 reads c version 0 sends 10"
    ∷ codes "74 rack 0 server 0 applies key7 version 1 sends 11"
    ∷ codes "75 end"
    ∷ codes "rack 0"
    ∷ codes "history 3"
    ∷ (codes "op 0 client 0 read e" ++ (34 ∷ []) ++ codes " issued 22 open")
    ∷ codes "op 1 client 1 read c issued 34 open"
    ∷ codes "op 2 client 0 write key7 =v39 issued 44 open"
    ∷ (codes "order e" ++ (34 ∷ []) ++ codes " 0")
    ∷ codes "order c 0"
    ∷ codes "order key7 0"
    ∷ codes "done"
    ∷ codes "rack 1"
    ∷ codes "history 1"
    ∷ codes "op 0 client 0 write a =v24 issued 29 answered 54"
    ∷ codes "order a 1"
    ∷ codes "at 0"
    ∷ codes "done"
    ∷ codes "rack 2"
    ∷ codes "history 2"
    ∷ codes "op 0 client 0 write b =v8 issued 13 answered 58"
    ∷ codes "op 1 client 1 write k =v27 issued 32 open"
    ∷ codes "order b 1"
    ∷ codes "at 0"
    ∷ codes "order k 0"
    ∷ codes "done"
    ∷ []
    )) [] [])
unfolding
    digits servers_from servers_of spelling in_range packet_of state_bytes state_of server_step
    client_step controller_step switch_step happens order_of said_text played three_racks_inputs
three_racks_plays = refl

-- a random run
unfoldable pub both_formats_inputs : List (Input RacksEntry)
both_formats_inputs =
    Entry (Counted 2)
    ∷ Entry (Named (rack_with Two 2 2 1 2 2 1) ([]))
    ∷ Entry (Named (rack_with One 1 2 1 1 1 1) ([]))
    ∷ Entry (Happens (Within 1 (event.Promote (codes "key7"))))
    ∷ Entry (Happens (Within 0 event.Clear))
    ∷ Entry (Happens (Within 0 (event.Deliver 0 3)))
    ∷ Entry (Happens (Within 0 (event.Deliver 1 0)))
    ∷ Entry (Happens (Within 0 (event.Resend 1)))
    ∷ Entry (Happens (Within 0 (event.Deliver 0 1)))
    ∷ Entry (Happens (Within 1 (event.Deliver 0 3)))
    ∷ Entry (Happens (Within 1 (event.Deliver 99 0)))
    ∷ Entry (Happens (Routed (event.Read 1 (codes "a"))))
    ∷ Entry (Happens (Routed (event.Write 1 (codes "key7") (codes "v9"))))
    ∷ Entry (Happens (Within 1 (event.Deliver 1 5)))
    ∷ Entry (Happens (Within 0 (event.Deliver 2 3)))
    ∷ Entry (Happens (Routed (event.Read 1 (codes "k"))))
    ∷ Entry (Happens (Within 1 (event.Deliver 2 2)))
    ∷ Entry (Happens (Within 0 (event.Deliver 3 1)))
    ∷ Entry (Happens (Within 0 (event.Deliver 4 3)))
    ∷ Entry (Happens (Within 0 (event.Deliver 5 3)))
    ∷ Entry (Happens (Within 1 (event.Deliver 3 5)))
    ∷ Entry (Happens (Within 1 (event.Deliver 4 0)))
    ∷ Entry (Happens (Routed (event.Write 0 (codes "c") (codes "v19"))))
    ∷ Entry (Happens (Routed (event.Read 1 (codes "c"))))
    ∷ Entry (Happens (Within 1 (event.Deliver 5 4)))
    ∷ Entry (Happens (Within 1 (event.Deliver 6 2)))
    ∷ Entry (Happens (Routed (event.Read 1 (codes "a"))))
    ∷ Entry (Happens (Within 0 (event.Deliver 6 4)))
    ∷ Entry (Happens (Within 0 (event.Deliver 0 5)))
    ∷ Entry (Happens (Routed (event.Read 1 (codes "key7"))))
    ∷ Entry (Happens (Routed (event.Write 0 (codes "k") (codes "v27"))))
    ∷ Entry (Happens (Within 1 (event.Deliver 2 2)))
    ∷ Entry (Happens (Within 1 (event.Deliver 7 4)))
    ∷ Entry (Happens (Within 0 (event.GiveUp 0)))
    ∷ Entry (Happens (Within 1 (event.Deliver 8 0)))
    ∷ Entry (Happens (Within 1 (event.Deliver 9 1)))
    ∷ Entry (Happens (Routed (event.Write 0 (codes "a") (codes "v33"))))
    ∷ Entry (Happens (Within 1 (event.Deliver 10 1)))
    ∷ Entry (Happens (Within 1 (event.Deliver 11 0)))
    ∷ Entry (Happens (Routed (event.Write 1 (codes "b") (codes "v36"))))
    ∷ Entry (Happens (Within 0 (event.Deliver 5 2)))
    ∷ Entry (Happens (Within 1 (event.Deliver 12 3)))
    ∷ Entry (Happens (Within 0 (event.Deliver 7 5)))
    ∷ Entry (Happens (Within 1 (event.Deliver 13 5)))
    ∷ Entry (Happens (Within 1 (event.Deliver 14 1)))
    ∷ Entry (Happens (Within 1 (event.Deliver 15 1)))
    ∷ Entry (Happens (Within 0 event.Retry))
    ∷ Entry (Happens (Within 1 (event.Deliver 16 4)))
    ∷ Entry (Happens (Within 0 (event.Deliver 8 0)))
    ∷ Entry (Happens (Within 0 (event.Deliver 12 0)))
    ∷ Entry (Happens (Within 0 (event.Deliver 9 0)))
    ∷ Entry (Happens (Within 1 (event.Deliver 5 4)))
    ∷ Entry (Happens (Within 1 (event.Deliver 16 4)))
    ∷ Entry (Happens (Within 1 (event.Deliver 8 3)))
    ∷ Entry (Happens (Within 1 (event.Deliver 17 1)))
    ∷ Entry (Happens (Routed (event.Write 1 (codes "key7") (codes "v52"))))
    ∷ Entry (Happens (Within 0 (event.Deliver 10 5)))
    ∷ Entry (Happens (Routed (event.Write 0 (codes "a") (codes "v54"))))
    ∷ Entry (Happens (Within 1 (event.Deliver 18 3)))
    ∷ Entry (Happens (Within 1 (event.Deliver 19 0)))
    ∷ Entry (Happens (Routed (event.Read 1 (codes "k"))))
    ∷ Entry (Happens (Within 0 (event.Deliver 2 1)))
    ∷ Entry (Happens (Routed (event.Read 0 (codes "a"))))
    ∷ Entry (Happens (Within 1 (event.Deliver 20 5)))
    ∷ Entry (Happens (Routed (event.Write 1 (101 ∷ 34 ∷ []) (codes "v61"))))
    ∷ Entry (Happens (Within 1 (event.Deliver 21 4)))
    ∷ Entry (Happens (Within 1 (event.Deliver 22 5)))
    ∷ Entry (Happens (Within 1 (event.Copy (codes "key7") 0)))
    ∷ Entry (Happens (Within 1 (event.Deliver 23 1)))
    ∷ Entry (Happens (Within 1 (event.Deliver 4 3)))
    ∷ Entry (Happens (Within 1 (event.Deliver 24 5)))
    ∷ Entry (Happens (Within 1 (event.Deliver 19 1)))
    ∷ Entry (Happens (Within 0 (event.Deliver 11 5)))
    ∷ Entry End
    ∷ []

both_formats_lines : spell racks_lines both_formats_inputs (
    codes "racks 2"
    ∷ codes "rack servers=2 clients=2 switches=1 listed=2 hot=2 first=1 format=2"
    ∷ codes "rack servers=1 clients=2 switches=1 listed=1 hot=1 first=1"
    ∷ codes "rack 1 promote key7"
    ∷ codes "rack 0 clear"
    ∷ codes "rack 0 deliver 0 3"
    ∷ codes "rack 0 deliver 1"
    ∷ codes "rack 0 resend 1"
    ∷ codes "rack 0 deliver 0 1"
    ∷ codes "rack 1 deliver 0 3"
    ∷ codes "rack 1 deliver 99"
    ∷ codes "read 1 a"
    ∷ codes "write 1 key7 =v9"
    ∷ codes "rack 1 deliver 1 5"
    ∷ codes "rack 0 deliver 2 3"
    ∷ codes "read 1 k"
    ∷ codes "rack 1 deliver 2 2"
    ∷ codes "rack 0 deliver 3 1"
    ∷ codes "rack 0 deliver 4 3"
    ∷ codes "rack 0 deliver 5 3"
    ∷ codes "rack 1 deliver 3 5"
    ∷ codes "rack 1 deliver 4"
    ∷ codes "write 0 c =v19"
    ∷ codes "read 1 c"
    ∷ codes "rack 1 deliver 5 4"
    ∷ codes "rack 1 deliver 6 2"
    ∷ codes "read 1 a"
    ∷ codes "rack 0 deliver 6 4"
    ∷ codes "rack 0 deliver 0 5"
    ∷ codes "read 1 key7"
    ∷ codes "write 0 k =v27"
    ∷ codes "rack 1 deliver 2 2"
    ∷ codes "rack 1 deliver 7 4"
    ∷ codes "rack 0 giveup 0"
    ∷ codes "rack 1 deliver 8"
    ∷ codes "rack 1 deliver 9 1"
    ∷ codes "write 0 a =v33"
    ∷ codes "rack 1 deliver 10 1"
    ∷ codes "rack 1 deliver 11"
    ∷ codes "write 1 b =v36"
    ∷ codes "rack 0 deliver 5 2"
    ∷ codes "rack 1 deliver 12 3"
    ∷ codes "rack 0 deliver 7 5"
    ∷ codes "rack 1 deliver 13 5"
    ∷ codes "rack 1 deliver 14 1"
    ∷ codes "rack 1 deliver 15 1"
    ∷ codes "rack 0 retry"
    ∷ codes "rack 1 deliver 16 4"
    ∷ codes "rack 0 deliver 8"
    ∷ codes "rack 0 deliver 12"
    ∷ codes "rack 0 deliver 9"
    ∷ codes "rack 1 deliver 5 4"
    ∷ codes "rack 1 deliver 16 4"
    ∷ codes "rack 1 deliver 8 3"
    ∷ codes "rack 1 deliver 17 1"
    ∷ codes "write 1 key7 =v52"
    ∷ codes "rack 0 deliver 10 5"
    ∷ codes "write 0 a =v54"
    ∷ codes "rack 1 deliver 18 3"
    ∷ codes "rack 1 deliver 19"
    ∷ codes "read 1 k"
    ∷ codes "rack 0 deliver 2 1"
    ∷ codes "read 0 a"
    ∷ codes "rack 1 deliver 20 5"
    ∷ (codes "write 1 e" ++ (34 ∷ []) ++ codes " =v61")
    ∷ codes "rack 1 deliver 21 4"
    ∷ codes "rack 1 deliver 22 5"
    ∷ codes "rack 1 copy key7 0"
    ∷ codes "rack 1 deliver 23 1"
    ∷ codes "rack 1 deliver 4 3"
    ∷ codes "rack 1 deliver 24 5"
    ∷ codes "rack 1 deliver 19 1"
    ∷ codes "rack 0 deliver 11 5"
    ∷ codes "end"
    ∷ []
    ) ≡ true
unfolding digits both_formats_inputs
both_formats_lines = refl

both_formats_plays :
    shown plays_racks (plays plays_racks racks_start both_formats_inputs)
    ≡ Some (shows true (lines (
    codes "1 racks 2"
    ∷ codes "2 rack"
    ∷ codes "3 rack"
    ∷ codes "4 rack 1 controller orders 1 promote key7 sends 0"
    ∷ codes "5 rack 0 controller orders 1 clear sends 0"
    ∷ codes "6 rack 0 switch 0 applies 1 cleared sends 1"
    ∷ codes "7 rack 0 controller takes 1 cleared"
    ∷ codes "8 rack 0 nothing open 1"
    ∷ codes "9 rack 0 switch 0 repeats 1 sends 2"
    ∷ codes "10 rack 1 switch 0 applies 1 listed 1 sends 1"
    ∷ codes "11 rack 1 no such packet 99 of 2"
    ∷ codes "12 rack 1 read 1 seq 1 sends 2"
    ∷ codes "13 rack 0 write 1 seq 1 sends 3"
    ∷ codes "14 rack 1 controller takes 1 listed 1"
    ∷ codes "15 rack 0 controller ignores"
    ∷ codes "16 rack 1 busy 1 seq 1"
    ∷ codes "17 rack 1 switch 0 forwards read a to server 0 sends 3"
    ∷ codes "18 rack 0 switch 0 forwards write key7 version 1 to server 0 sends 4"
    ∷ codes "19 rack 0 server 0 applies key7 version 1 sends 5"
    ∷ codes "20 rack 0 switch 0 answers client 1 seq 1 version 1 unlisted sends 6"
    ∷ codes "21 rack 1 server 0 reads a version 0 sends 4"
    ∷ codes "22 rack 1 switch 0 answers client 1 seq 1 version 0 unlisted sends 5"
    ∷ codes "23 rack 1 write 0 seq 1 sends 6"
    ∷ codes "24 rack 1 busy 1 seq 1"
    ∷ codes "25 rack 1 client 1 answered 1 version 0 -"
    ∷ codes "26 rack 1 switch 0 forwards write c version 2 to server 0 sends 7"
    ∷ codes "27 rack 1 read 1 seq 2 sends 8"
    ∷ codes "28 rack 0 client 1 answered 1 version 1"
    ∷ codes "29 rack 0 switch 0 repeats 1 sends 7"
    ∷ codes "30 rack 0 read 1 seq 2 sends 8"
    ∷ codes "31 rack 1 busy 0 seq 1"
    ∷ codes "32 rack 1 switch 0 forwards read a to server 0 sends 9"
    ∷ codes "33 rack 1 server 0 applies c version 2 sends 10"
    ∷ codes "34 rack 0 nothing open 0"
    ∷ codes "35 rack 1 switch 0 forwards read a to server 0 sends 11"
    ∷ codes "36 rack 1 server 0 reads a version 0 sends 12"
    ∷ codes "37 rack 1 busy 0 seq 1"
    ∷ codes "38 rack 1 switch 0 answers client 0 seq 1 version 2 unlisted sends 13"
    ∷ codes "39 rack 1 server 0 reads a version 0 sends 14"
    ∷ codes "40 rack 0 busy 1 seq 2"
    ∷ codes "41 rack 0 switch 0 answers client 1 seq 1 version 1 unlisted sends 9"
    ∷ codes "42 rack 1 switch 0 answers client 1 seq 1 version 0 unlisted sends 15"
    ∷ codes "43 rack 0 controller ignores"
    ∷ codes "44 rack 1 client 0 answered 1 version 2"
    ∷ codes "45 rack 1 switch 0 answers client 1 seq 2 version 0 unlisted sends 16"
    ∷ codes "46 rack 1 client 1 ignores"
    ∷ codes "47 rack 0 controller announces epoch 1 sends 10..11"
    ∷ codes "48 rack 1 client 1 answered 2 version 0 -"
    ∷ codes "49 rack 0 switch 0 forwards read key7 to server 0 sends 12"
    ∷ codes "50 rack 0 server 0 reads key7 version 1 sends 13"
    ∷ codes "51 rack 0 client 1 ignores"
    ∷ codes "52 rack 1 client 1 ignores"
    ∷ codes "53 rack 1 client 1 ignores"
    ∷ codes "54 rack 1 switch 0 forwards read a to server 0 sends 17"
    ∷ codes "55 rack 1 server 0 reads a version 0 sends 18"
    ∷ codes "56 rack 0 busy 1 seq 2"
    ∷ codes "57 rack 0 client 0 ignores"
    ∷ codes "58 rack 1 write 0 seq 2 sends 19"
    ∷ codes "59 rack 1 switch 0 answers client 1 seq 2 version 0 unlisted sends 20"
    ∷ codes "60 rack 1 switch 0 forwards write a version 3 to server 0 sends 21"
    ∷ codes "61 rack 1 read 1 seq 3 sends 22"
    ∷ codes "62 rack 0 controller ignores"
    ∷ codes "63 rack 1 busy 0 seq 2"
    ∷ codes "64 rack 1 client 1 ignores"
    ∷ codes "65 rack 1 busy 1 seq 3"
    ∷ codes "66 rack 1 server 0 applies a version 3 sends 23"
    ∷ codes "67 rack 1 switch 0 forwards read k to server 0 sends 24"
    ∷ codes "68 rack 1 controller orders 2 copy key7 to server 0 sends 25"
    ∷ codes "69 rack 1 switch 0 answers client 0 seq 2 version 3 unlisted sends 26"
    ∷ codes "70 rack 1 switch 0 answers client 1 seq 1 version 0 unlisted sends 27"
    ∷ codes "71 rack 1 server 0 reads k version 0 sends 28"
    ∷ codes "72 rack 1 switch 0 forwards write a version 3 to server 0 sends 29"
    ∷ codes "73 rack 0 client 1 ignores"
    ∷ codes "74 end"
    ∷ codes "rack 0"
    ∷ codes "history 2"
    ∷ codes "op 0 client 1 write key7 =v9 issued 13 answered 28"
    ∷ codes "op 1 client 1 read key7 issued 30 open"
    ∷ codes "order key7 1"
    ∷ codes "at 0"
    ∷ codes "done"
    ∷ codes "rack 1"
    ∷ codes "history 5"
    ∷ codes "op 0 client 1 read a issued 12 answered 25 -"
    ∷ codes "op 1 client 0 write c =v19 issued 23 answered 44"
    ∷ codes "op 2 client 1 read a issued 27 answered 48 -"
    ∷ codes "op 3 client 0 write a =v54 issued 58 open"
    ∷ codes "op 4 client 1 read k issued 61 open"
    ∷ codes "order a 2"
    ∷ codes "at 0"
    ∷ codes "at 2"
    ∷ codes "order c 1"
    ∷ codes "at 1"
    ∷ codes "order k 0"
    ∷ codes "done"
    ∷ []
    )) [] [])
unfolding
    digits servers_from servers_of spelling in_range packet_of state_bytes state_of server_step
    client_step controller_step switch_step happens order_of said_text played both_formats_inputs
both_formats_plays = refl

-- ---- refused lines

abbrev two_small_racks : RacksWord
two_small_racks =
    Running (record {
      worlds =
          start (rack_with One 1 1 1 1 1 1) [] ∷ start (rack_with One 1 1 1 1 1 1) [] ∷ [];
      unnamed = 0;
      place = 3;
      lines = 0;
    })

no_operation_within_a_rack :
    IsRacksWordLine two_small_racks (codes "rack 1 read 0 k")
    (Happens (Within 1 (event.Read 0 (codes "k")))) → ⊥
no_operation_within_a_rack h = h.0 tt

no_ninth_rack : IsRacksWordLine Starting (codes "racks 9") (Counted 9) → ⊥
no_ninth_rack h = let no : 9 ≤ 8 = h.1 in absurd (omega (arith, no))
