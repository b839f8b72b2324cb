-- A whole rack in one process, over a wire whose turns are written out. An independent model gave
-- what it writes and sends.
use Rattle.std.specs.Prelude.{◌≡◌, true, Some, List, [], ◌∷◌, ◌++◌, refl, codes, replicate}
use Rattle.std.specs.Fmt.{digits}
use Rattle.peg_name.specs.Holders.{servers_from, servers_of}
use Rattle.peg_name.specs.declared.Format.TheVariants.{One, Two}
use Rattle.peg_name.specs.declared.Node.TheVariants as node
use Rattle.peg_event.specs.declared.Event.TheVariants as event
use Rattle.peg_model.specs.Packet.{in_range, spelling}
use Rattle.peg_model.specs.Reading.{packet_of}
use Rattle.peg_model.specs.Handover.{state_bytes, state_of}
use Rattle.peg_model.specs.Server.{server_step}
use Rattle.peg_model.specs.Client.{client_step}
use Rattle.peg_model.specs.Controller.{controller_step}
use Rattle.peg_model.specs.Switch.{switch_step}
use Rattle.peg_model.specs.World.{happens}
use Rattle.peg_model.specs.Order.{order_of}
use Rattle.peg_model.specs.Trace.{said_text}
use Rattle.peg_meaning.specs.Session.{Input, Entry, Quiet}
use Rattle.peg_meaning.specs.Played.{played, plays}
use Rattle.peg_model.proofs.Computed.{rack_with, lines}
use Rattle.peg_worked.proofs.Sessions.{carries, sent, shows, shown, spell}
use Rattle.peg_meaning.specs.RackWord.{RackEntry, Named, Happens, Takes, Round, End}
use Rattle.peg_meaning.specs.RackWord.{rack_entry_lines, rack_start, serves_rack}

-- a write, and a datagram that no node sent
unfoldable pub written_inputs : List (Input RackEntry)
written_inputs =
    Entry (Named (rack_with One 1 1 1 1 1 1) ([]))
    ∷ Entry (Happens (event.Write 0 (codes "k") (codes "x")))
    ∷ Entry (Takes (node.Switch 0) 0)
    ∷ carries (codes "504701020000000000000000000100000000000000000000016b01000178")
    ∷ Entry (Takes (node.Switch 0) 0)
    ∷ carries (codes "00")
    ∷ Entry End
    ∷ []

written_lines : spell rack_entry_lines written_inputs (
    codes "rack servers=1 clients=1 switches=1 listed=1 hot=1 first=1"
    ∷ codes "write 0 k =x"
    ∷ codes "take switch 0"
    ∷ codes "take switch 0"
    ∷ codes "end"
    ∷ []
    ) ≡ true
unfolding digits written_inputs
written_lines = refl

written_plays :
    shown serves_rack (plays serves_rack (rack_start 7000) written_inputs)
    ≡ Some (shows true (lines (
    codes "1 rack"
    ∷ codes "2 write 0 seq 1 sends 0"
    ∷ codes "3 switch 0 forwards write k version 1 to server 0 sends 1"
    ∷ codes "4 foreign switch 0"
    ∷ codes "5 end foreign 1"
    ∷ codes "history 1"
    ∷ codes "op 0 client 0 write k =x issued 2 open"
    ∷ codes "order k 0"
    ∷ codes "done"
    ∷ []
    )) (7000 ∷ 7001 ∷ 7008 ∷ 7128 ∷ []) (
    sent 0 3 7001 (codes "504701020000000000000000000100000000000000000000016b01000178")
    ∷ sent 1 1 7008 (codes "504701040000000000000000000100000000000000010000016b01000178")
    ∷ []
    ))
unfolding
    digits servers_from servers_of spelling in_range packet_of state_bytes state_of server_step
    client_step controller_step switch_step happens order_of said_text played written_inputs
written_plays = refl

-- a write, and a datagram that no node sent
unfoldable pub foreign_inputs : List (Input RackEntry)
foreign_inputs =
    Entry (Named (rack_with One 1 1 1 1 1 1) ([]))
    ∷ Entry (Happens (event.Write 0 (codes "k") (codes "x")))
    ∷ Entry (Takes (node.Server 0) 0)
    ∷ carries (codes "504701020000000000000000000100000000000000000000016b01000178")
    ∷ Entry End
    ∷ []

foreign_lines : spell rack_entry_lines foreign_inputs (
    codes "rack servers=1 clients=1 switches=1 listed=1 hot=1 first=1"
    ∷ codes "write 0 k =x"
    ∷ codes "take server 0"
    ∷ codes "end"
    ∷ []
    ) ≡ true
unfolding digits foreign_inputs
foreign_lines = refl

foreign_plays :
    shown serves_rack (plays serves_rack (rack_start 7000) foreign_inputs)
    ≡ Some (shows true (lines (
    codes "1 rack"
    ∷ codes "2 write 0 seq 1 sends 0"
    ∷ codes "3 foreign server 0"
    ∷ codes "4 end foreign 1"
    ∷ codes "history 1"
    ∷ codes "op 0 client 0 write k =x issued 2 open"
    ∷ codes "order k 0"
    ∷ codes "done"
    ∷ []
    )) (7000 ∷ 7001 ∷ 7008 ∷ 7128 ∷ []) (
    sent 0 3 7001 (codes "504701020000000000000000000100000000000000000000016b01000178")
    ∷ []
    ))
unfolding
    digits servers_from servers_of spelling in_range packet_of state_bytes state_of server_step
    client_step controller_step switch_step happens order_of said_text played foreign_inputs
foreign_plays = refl

-- a random run
unfoldable pub rack_one_inputs : List (Input RackEntry)
rack_one_inputs =
    Entry (Named (rack_with One 2 2 2 1 2 1) ((codes "k") ∷ []))
    ∷ Entry Round
    ∷ Quiet
    ∷ Quiet
    ∷ Quiet
    ∷ Quiet
    ∷ Quiet
    ∷ Quiet
    ∷ Quiet
    ∷ Entry Round
    ∷ Quiet
    ∷ Quiet
    ∷ Quiet
    ∷ Quiet
    ∷ Quiet
    ∷ Quiet
    ∷ Quiet
    ∷ Entry (Happens event.Survey)
    ∷ Entry (Happens (event.Write 1 (codes "a") (codes "v3")))
    ∷ Entry (Happens (event.Promote (codes "k")))
    ∷ Entry Round
    ∷ Quiet
    ∷ carries (codes "5047010e")
    ∷ Quiet
    ∷ Quiet
    ∷ Quiet
    ∷ Quiet
    ∷ Quiet
    ∷ Entry (Happens event.Retry)
    ∷ Entry Round
    ∷ carries (codes "5047010f0000000000000001000000000000000000")
    ∷ carries (codes "50470102000100000000000000010000000000000000000001610100027633")
    ∷ Quiet
    ∷ Quiet
    ∷ carries (codes "50470104000100000000000000010000000000000001010001610100027633")
    ∷ Quiet
    ∷ Quiet
    ∷ Entry (Takes (node.Switch 0) 6)
    ∷ carries (codes "50470107000000000000000101016b")
    ∷ Entry (Takes (node.Client 0) 0)
    ∷ Quiet
    ∷ Entry (Happens (event.Write 1 (codes "a") (codes "v10")))
    ∷ Entry (Happens (event.Read 0 (101 ∷ 34 ∷ [])))
    ∷ Entry Round
    ∷ carries (codes "504701080000000000000001020000000000000000")
    ∷ carries (codes "50470107000000000000000101016b")
    ∷ Quiet
    ∷ Quiet
    ∷ Quiet
    ∷ Quiet
    ∷ Quiet
    ∷ Entry Round
    ∷ carries (codes "5047010f0000000000000001000000000000000000")
    ∷ carries (codes "5047010600010000000000000001000000000000000101000161")
    ∷ Quiet
    ∷ Quiet
    ∷ Quiet
    ∷ Quiet
    ∷ Quiet
    ∷ Entry (Takes (node.Switch 1) 1)
    ∷ carries (codes "5047")
    ∷ Entry Round
    ∷ carries (codes "504701080000000000000001020000000000000000")
    ∷ carries (codes "504701010000000000000000000100000000000000000000026522")
    ∷ Quiet
    ∷ Quiet
    ∷ carries (codes "504701030000000000000000000100000000000000000100026522")
    ∷ Quiet
    ∷ carries (codes "5047010600010000000000000001000000000000000101000161")
    ∷ Entry (Takes (node.Switch 1) 0)
    ∷ Quiet
    ∷ Entry (Happens (event.Handover 2))
    ∷ Entry (Happens (event.Write 0 (codes "k") (codes "v18")))
    ∷ Entry (Takes (node.Switch 0) 0)
    ∷ carries (codes "50470105000000000000000000010000000000000000010002652200")
    ∷ Entry (Takes (node.Switch 1) 8)
    ∷ Quiet
    ∷ Entry Round
    ∷ Quiet
    ∷ Quiet
    ∷ Quiet
    ∷ Quiet
    ∷ Quiet
    ∷ carries (codes "eb69488e4bb06b86e5")
    ∷ Quiet
    ∷ Entry (Happens (event.Read 0 (codes "c")))
    ∷ Entry Round
    ∷ Quiet
    ∷ Quiet
    ∷ Quiet
    ∷ Quiet
    ∷ Quiet
    ∷ carries (codes "50470105000000000000000000010000000000000000010002652200")
    ∷ Quiet
    ∷ Entry Round
    ∷ Quiet
    ∷ Quiet
    ∷ Quiet
    ∷ Quiet
    ∷ Quiet
    ∷ carries (codes "50470105000000000000000000010000000000000000010002652200")
    ∷ Quiet
    ∷ Entry Round
    ∷ Quiet
    ∷ Quiet
    ∷ Quiet
    ∷ Quiet
    ∷ carries []
    ∷ Quiet
    ∷ Quiet
    ∷ Entry Round
    ∷ Quiet
    ∷ Quiet
    ∷ Quiet
    ∷ Quiet
    ∷ Quiet
    ∷ Quiet
    ∷ Quiet
    ∷ Entry Round
    ∷ Quiet
    ∷ Quiet
    ∷ Quiet
    ∷ Quiet
    ∷ Quiet
    ∷ Quiet
    ∷ Quiet
    ∷ Entry (Happens (event.Copy (codes "k") 0))
    ∷ Entry Round
    ∷ Quiet
    ∷ carries (codes "5047010700000000000000020300016b")
    ∷ Quiet
    ∷ Quiet
    ∷ carries (codes "50470109000100016b")
    ∷ Quiet
    ∷ Quiet
    ∷ Entry Round
    ∷ carries (codes "504701080000000000000002070000000000000001")
    ∷ carries (codes "5047010700000000000000020300016b")
    ∷ Quiet
    ∷ carries (codes "13ed")
    ∷ Quiet
    ∷ Quiet
    ∷ Quiet
    ∷ Entry Round
    ∷ Quiet
    ∷ Quiet
    ∷ Quiet
    ∷ Quiet
    ∷ Quiet
    ∷ Quiet
    ∷ Quiet
    ∷ Entry (Happens (event.Plan 1 1))
    ∷ Entry Round
    ∷ Quiet
    ∷ carries (codes "50470107000000000000000302016b")
    ∷ Quiet
    ∷ Quiet
    ∷ Quiet
    ∷ Quiet
    ∷ Quiet
    ∷ Entry (Takes node.Controller 2)
    ∷ carries (codes "504701080000000000000003040000000000000002")
    ∷ Entry (Happens (event.Write 0 (codes "a") (codes "v35")))
    ∷ Entry (Happens (event.Write 1 (codes "c") (codes "v36")))
    ∷ Entry Round
    ∷ Quiet
    ∷ carries (codes "5047010200000000000000000002000000000000000000000161010003763335")
    ∷ Quiet
    ∷ Quiet
    ∷ carries (codes "5047010400000000000000000002000000000000000201000161010003763335")
    ∷ Quiet
    ∷ Quiet
    ∷ Entry Round
    ∷ Quiet
    ∷ carries (codes "5047010200000000000000000002000000000000000000000161010003763335")
    ∷ Quiet
    ∷ Quiet
    ∷ carries (codes "5047010400000000000000000002000000000000000201000161010003763335")
    ∷ Quiet
    ∷ Quiet
    ∷ Entry (Takes (node.Server 0) 0)
    ∷ Quiet
    ∷ Entry Round
    ∷ Quiet
    ∷ carries (codes "5047010200010000000000000002000000000000000000000163010003763336")
    ∷ Quiet
    ∷ Quiet
    ∷ carries (codes "5047010400000000000000000002000000000000000201000161010003763335")
    ∷ Quiet
    ∷ Quiet
    ∷ Entry (Takes (node.Server 0) 1)
    ∷ Quiet
    ∷ Entry Round
    ∷ Quiet
    ∷ carries (codes "5047010200010000000000000002000000000000000000000163010003763336")
    ∷ Quiet
    ∷ Quiet
    ∷ carries (codes "5047010400010000000000000002000000000000000301000163010003763336")
    ∷ Quiet
    ∷ Quiet
    ∷ Entry (Happens (event.Plan 1 0))
    ∷ Entry (Takes (node.Switch 0) 0)
    ∷ carries (codes "5047010600000000000000000002000000000000000201000161")
    ∷ Entry Round
    ∷ Quiet
    ∷ carries (codes "5047010600000000000000000002000000000000000201000161")
    ∷ Quiet
    ∷ Quiet
    ∷ carries (codes "5047010400010000000000000002000000000000000301000163010003763336")
    ∷ carries []
    ∷ Quiet
    ∷ Entry (Happens (event.Write 1 (101 ∷ 34 ∷ []) (codes "v46")))
    ∷ Entry Round
    ∷ Quiet
    ∷ carries (codes "5047010600000000000000000002000000000000000201000161")
    ∷ Quiet
    ∷ Quiet
    ∷ carries (codes "5047010400010000000000000002000000000000000301000163010003763336")
    ∷ carries (codes "5047010600000000000000000002000000000000000201000161")
    ∷ Quiet
    ∷ Entry (Takes node.Controller 0)
    ∷ Quiet
    ∷ Entry Round
    ∷ Quiet
    ∷ carries (codes "5047010600010000000000000002000000000000000301000163")
    ∷ Quiet
    ∷ Quiet
    ∷ Quiet
    ∷ carries (codes "5047010600000000000000000002000000000000000201000161")
    ∷ carries (codes "5047010600010000000000000002000000000000000301000163")
    ∷ Entry Round
    ∷ Quiet
    ∷ Quiet
    ∷ Quiet
    ∷ Quiet
    ∷ Quiet
    ∷ carries (codes "5047010600000000000000000002000000000000000201000161")
    ∷ Quiet
    ∷ Entry Round
    ∷ Quiet
    ∷ carries (codes "5047010600010000000000000002000000000000000301000163")
    ∷ Quiet
    ∷ Quiet
    ∷ Quiet
    ∷ Quiet
    ∷ carries (codes "5047010600010000000000000002000000000000000301000163")
    ∷ Entry Round
    ∷ Quiet
    ∷ Quiet
    ∷ Quiet
    ∷ Quiet
    ∷ Quiet
    ∷ Quiet
    ∷ Quiet
    ∷ Entry (Takes (node.Client 1) 7)
    ∷ Quiet
    ∷ Entry (Happens (event.Write 1 (codes "a") (codes "v54")))
    ∷ Entry (Takes node.Controller 0)
    ∷ Quiet
    ∷ Entry (Takes (node.Switch 0) 0)
    ∷ carries (codes "5047010200010000000000000003000000000000000000000161010003763534")
    ∷ Entry Round
    ∷ Quiet
    ∷ Quiet
    ∷ Quiet
    ∷ Quiet
    ∷ Quiet
    ∷ Quiet
    ∷ Quiet
    ∷ Entry (Happens (event.Read 1 (codes "c")))
    ∷ Entry Round
    ∷ Quiet
    ∷ Quiet
    ∷ Quiet
    ∷ Quiet
    ∷ Quiet
    ∷ Quiet
    ∷ Quiet
    ∷ Entry End
    ∷ []

rack_one_lines : spell rack_entry_lines rack_one_inputs (
    codes "rack servers=2 clients=2 switches=2 listed=1 hot=2 first=1 +k"
    ∷ codes "round"
    ∷ codes "round"
    ∷ codes "survey"
    ∷ codes "write 1 a =v3"
    ∷ codes "promote k"
    ∷ codes "round"
    ∷ codes "retry"
    ∷ codes "round"
    ∷ codes "take switch 0 6"
    ∷ codes "take client 0"
    ∷ codes "write 1 a =v10"
    ∷ (codes "read 0 e" ++ (34 ∷ []))
    ∷ codes "round"
    ∷ codes "round"
    ∷ codes "take switch 1 1"
    ∷ codes "round"
    ∷ codes "take switch 1 0"
    ∷ codes "handover 2"
    ∷ codes "write 0 k =v18"
    ∷ codes "take switch 0"
    ∷ codes "take switch 1 8"
    ∷ codes "round"
    ∷ codes "read 0 c"
    ∷ codes "round"
    ∷ codes "round"
    ∷ codes "round"
    ∷ codes "round"
    ∷ codes "round"
    ∷ codes "copy k 0"
    ∷ codes "round"
    ∷ codes "round"
    ∷ codes "round"
    ∷ codes "plan 1 1"
    ∷ codes "round"
    ∷ codes "take controller 2"
    ∷ codes "write 0 a =v35"
    ∷ codes "write 1 c =v36"
    ∷ codes "round"
    ∷ codes "round"
    ∷ codes "take server 0"
    ∷ codes "round"
    ∷ codes "take server 0 1"
    ∷ codes "round"
    ∷ codes "plan 1 0"
    ∷ codes "take switch 0"
    ∷ codes "round"
    ∷ (codes "write 1 e" ++ (34 ∷ []) ++ codes " =v46")
    ∷ codes "round"
    ∷ codes "take controller"
    ∷ codes "round"
    ∷ codes "round"
    ∷ codes "round"
    ∷ codes "round"
    ∷ codes "take client 1 7"
    ∷ codes "write 1 a =v54"
    ∷ codes "take controller"
    ∷ codes "take switch 0"
    ∷ codes "round"
    ∷ codes "read 1 c"
    ∷ codes "round"
    ∷ codes "end"
    ∷ []
    ) ≡ true
unfolding digits rack_one_inputs
rack_one_lines = refl

rack_one_plays :
    shown serves_rack (plays serves_rack (rack_start 7000) rack_one_inputs)
    ≡ Some (shows true (lines (
    codes "1 rack"
    ∷ codes "2 controller surveys sends 0"
    ∷ codes "3 write 1 seq 1 sends 1"
    ∷ codes "4 controller orders 1 promote k sends 2"
    ∷ codes "5 switch 0 reports 0 rows sends 3"
    ∷ codes "6 controller retries 1 sends 4"
    ∷ codes "7 controller has report of 0 rows"
    ∷ codes "8 switch 0 forwards write a version 1 to server 1 sends 5"
    ∷ codes "9 server 1 applies a version 1 sends 6"
    ∷ codes "10 switch 0 applies 1 already 0 sends 7"
    ∷ codes "11 busy 1 seq 1"
    ∷ codes "12 read 0 seq 1 sends 8"
    ∷ codes "13 controller takes 1 already 0"
    ∷ codes "14 switch 0 repeats 1 sends 9"
    ∷ codes "15 controller has report of 0 rows"
    ∷ codes "16 switch 0 answers client 1 seq 1 version 1 unlisted sends 10"
    ∷ codes "17 foreign switch 1"
    ∷ codes "18 controller ignores"
    ∷ (codes "19 switch 0 forwards read e" ++ (34 ∷ []) ++ codes " to server 1 sends 11")
    ∷ (codes "20 server 1 reads e" ++ (34 ∷ []) ++ codes " version 0 sends 12")
    ∷ codes "21 client 1 answered 1 version 1"
    ∷ codes "22 controller no such 2"
    ∷ codes "23 busy 0 seq 1"
    ∷ codes "24 switch 0 answers client 0 seq 1 version 0 unlisted sends 13"
    ∷ codes "25 foreign client 0"
    ∷ codes "26 busy 0 seq 1"
    ∷ codes "27 client 0 answered 1 version 0 -"
    ∷ codes "28 client 0 ignores"
    ∷ codes "29 foreign server 1"
    ∷ codes "30 controller orders 2 copy k to server 0 sends 14"
    ∷ codes "31 switch 0 applies 2 ordered 1 sends 15..16"
    ∷ codes "32 server 1 has no k"
    ∷ codes "33 controller takes 2 ordered 1"
    ∷ codes "34 switch 0 repeats 2 sends 17"
    ∷ codes "35 foreign server 0"
    ∷ codes "36 controller plans 1 demote 0 promote sends 18"
    ∷ codes "37 switch 0 applies 3 marked 2 sends 19"
    ∷ codes "38 controller takes 3 marked 2"
    ∷ codes "39 write 0 seq 2 sends 20"
    ∷ codes "40 write 1 seq 2 sends 21"
    ∷ codes "41 switch 0 forwards write a version 2 to server 1 sends 22"
    ∷ codes "42 server 1 applies a version 2 sends 23"
    ∷ codes "43 switch 0 forwards write a version 2 to server 1 sends 24"
    ∷ codes "44 server 1 keeps a version 2 sends 25"
    ∷ codes "45 switch 0 forwards write c version 3 to server 1 sends 26"
    ∷ codes "46 server 1 keeps a version 2 sends 27"
    ∷ codes "47 switch 0 forwards write c version 3 to server 1 sends 28"
    ∷ codes "48 server 1 applies c version 3 sends 29"
    ∷ codes "49 controller plans 0 demote 0 promote"
    ∷ codes "50 switch 0 answers client 0 seq 2 version 2 unlisted sends 30"
    ∷ codes "51 switch 0 answers client 0 seq 2 version 2 unlisted sends 31"
    ∷ codes "52 server 1 keeps c version 3 sends 32"
    ∷ codes "53 foreign client 0"
    ∷ codes "54 busy 1 seq 2"
    ∷ codes "55 switch 0 answers client 0 seq 2 version 2 unlisted sends 33"
    ∷ codes "56 server 1 keeps c version 3 sends 34"
    ∷ codes "57 client 0 answered 2 version 2"
    ∷ codes "58 switch 0 answers client 1 seq 2 version 3 unlisted sends 35"
    ∷ codes "59 client 0 ignores"
    ∷ codes "60 client 1 answered 2 version 3"
    ∷ codes "61 client 0 ignores"
    ∷ codes "62 switch 0 answers client 1 seq 2 version 3 unlisted sends 36"
    ∷ codes "63 client 1 ignores"
    ∷ codes "64 write 1 seq 3 sends 37"
    ∷ codes "65 switch 0 forwards write a version 4 to server 1 sends 38"
    ∷ codes "66 busy 1 seq 3"
    ∷ codes "67 end foreign 5"
    ∷ codes "history 5"
    ∷ codes "op 0 client 1 write a =v3 issued 3 answered 21"
    ∷ (codes "op 1 client 0 read e" ++ (34 ∷ []) ++ codes " issued 12 answered 27 -")
    ∷ codes "op 2 client 0 write a =v35 issued 39 answered 57"
    ∷ codes "op 3 client 1 write c =v36 issued 40 answered 60"
    ∷ codes "op 4 client 1 write a =v54 issued 64 open"
    ∷ codes "order a 2"
    ∷ codes "at 0"
    ∷ codes "at 2"
    ∷ (codes "order e" ++ (34 ∷ []) ++ codes " 1")
    ∷ codes "at 1"
    ∷ codes "order c 1"
    ∷ codes "at 3"
    ∷ codes "done"
    ∷ []
    )) (7000 ∷ 7001 ∷ 7002 ∷ 7008 ∷ 7009 ∷ 7128 ∷ 7129 ∷ []) (
    sent 14 0 7001 (codes "5047010e")
    ∷ sent 14 6 7001 (codes "50470102000100000000000000010000000000000000000001610100027633")
    ∷ sent 14 0 7001 (codes "50470107000000000000000101016b")
    ∷ sent 16 1 7000 (codes "5047010f0000000000000001000000000000000000")
    ∷ sent 21 0 7001 (codes "50470107000000000000000101016b")
    ∷ sent 23 1 7009 (codes "50470104000100000000000000010000000000000001010001610100027633")
    ∷ sent 26 4 7001 (codes "5047010600010000000000000001000000000000000101000161")
    ∷ sent 29 1 7000 (codes "504701080000000000000001020000000000000000")
    ∷ sent 30 5 7001 (codes "504701010000000000000000000100000000000000000000026522")
    ∷ sent 32 1 7000 (codes "504701080000000000000001020000000000000000")
    ∷ sent 39 1 7129 (codes "5047010600010000000000000001000000000000000101000161")
    ∷ sent 47 1 7009 (codes "504701030000000000000000000100000000000000000100026522")
    ∷ sent 50 4 7001 (codes "50470105000000000000000000010000000000000000010002652200")
    ∷ sent 54 1 7128 (codes "50470105000000000000000000010000000000000000010002652200")
    ∷ sent 97 0 7001 (codes "5047010700000000000000020300016b")
    ∷ sent 99 1 7009 (codes "50470109000100016b")
    ∷ sent 99 1 7000 (codes "504701080000000000000002070000000000000001")
    ∷ sent 106 1 7000 (codes "504701080000000000000002070000000000000001")
    ∷ sent 118 0 7001 (codes "50470107000000000000000302016b")
    ∷ sent 120 1 7000 (codes "504701080000000000000003040000000000000002")
    ∷ sent 126 5 7001 (codes "5047010200000000000000000002000000000000000000000161010003763335")
    ∷ sent 126 6 7001 (codes "5047010200010000000000000002000000000000000000000163010003763336")
    ∷ sent 128 1 7009 (codes "5047010400000000000000000002000000000000000201000161010003763335")
    ∷ sent 131 4 7001 (codes "5047010600000000000000000002000000000000000201000161")
    ∷ sent 135 1 7009 (codes "5047010400000000000000000002000000000000000201000161010003763335")
    ∷ sent 138 4 7001 (codes "5047010600000000000000000002000000000000000201000161")
    ∷ sent 143 1 7009 (codes "5047010400010000000000000002000000000000000301000163010003763336")
    ∷ sent 146 4 7001 (codes "5047010600000000000000000002000000000000000201000161")
    ∷ sent 151 1 7009 (codes "5047010400010000000000000002000000000000000301000163010003763336")
    ∷ sent 154 4 7001 (codes "5047010600010000000000000002000000000000000301000163")
    ∷ sent 157 1 7128 (codes "5047010600000000000000000002000000000000000201000161")
    ∷ sent 159 1 7128 (codes "5047010600000000000000000002000000000000000201000161")
    ∷ sent 162 4 7001 (codes "5047010600010000000000000002000000000000000301000163")
    ∷ sent 166 1 7128 (codes "5047010600000000000000000002000000000000000201000161")
    ∷ sent 169 4 7001 (codes "5047010600010000000000000002000000000000000301000163")
    ∷ sent 174 1 7129 (codes "5047010600010000000000000002000000000000000301000163")
    ∷ sent 188 1 7129 (codes "5047010600010000000000000002000000000000000301000163")
    ∷ sent 201 6 7001 (codes "5047010200010000000000000003000000000000000000000161010003763534")
    ∷ sent 203 1 7009 (codes "5047010400010000000000000003000000000000000401000161010003763534")
    ∷ []
    ))
unfolding
    digits servers_from servers_of spelling in_range packet_of state_bytes state_of server_step
    client_step controller_step switch_step happens order_of said_text played rack_one_inputs
rack_one_plays = refl

-- a random run
unfoldable pub rack_two_inputs : List (Input RackEntry)
rack_two_inputs =
    Entry (Named (rack_with Two 2 2 1 2 3 1) ([]))
    ∷ Entry Round
    ∷ Quiet
    ∷ carries (codes "484ad252d6f824bff2c6fcbb")
    ∷ Quiet
    ∷ Quiet
    ∷ Quiet
    ∷ Quiet
    ∷ Entry (Happens (event.Write 0 (101 ∷ 34 ∷ []) (codes "v1")))
    ∷ Entry (Takes node.Controller 0)
    ∷ Quiet
    ∷ Entry (Takes (node.Client 0) 5)
    ∷ Quiet
    ∷ Entry (Happens (event.GiveUp 1))
    ∷ Entry Round
    ∷ Quiet
    ∷ carries (codes "5047020200000000000000000001000000000000000000000265220100027631")
    ∷ Quiet
    ∷ carries (codes "5047020400000000000000000001000000000000000101000265220100027631")
    ∷ Quiet
    ∷ Quiet
    ∷ Entry (Happens (event.Read 0 (codes "k")))
    ∷ Entry (Happens (event.Resend 0))
    ∷ Entry (Takes (node.Client 0) 1)
    ∷ Quiet
    ∷ Entry (Happens (event.Write 0 (codes "a") (codes "v9")))
    ∷ Entry (Takes (node.Switch 0) 0)
    ∷ carries (codes "504702060000000000000000000100000000000000010100026522")
    ∷ Entry (Happens (event.Write 0 (codes "c") (codes "v11")))
    ∷ Entry Round
    ∷ Quiet
    ∷ carries (codes "5047020200000000000000000001000000000000000000000265220100027631")
    ∷ Quiet
    ∷ carries (codes "5047020400000000000000000001000000000000000101000265220100027631")
    ∷ carries (codes "504702060000000000000000000100000000000000010100026522")
    ∷ Quiet
    ∷ Entry Round
    ∷ Quiet
    ∷ carries (codes "5047020200000000000000000001000000000000000000000265220100027631")
    ∷ Quiet
    ∷ carries (codes "5047020400000000000000000001000000000000000101000265220100027631")
    ∷ Quiet
    ∷ Quiet
    ∷ Entry (Takes node.Controller 0)
    ∷ Quiet
    ∷ Entry (Happens (event.Read 0 (codes "a")))
    ∷ Entry Round
    ∷ Quiet
    ∷ carries (codes "504702060000000000000000000100000000000000010100026522")
    ∷ Quiet
    ∷ Quiet
    ∷ carries (codes "504702060000000000000000000100000000000000010100026522")
    ∷ Quiet
    ∷ Entry (Takes (node.Server 1) 0)
    ∷ Quiet
    ∷ Entry Round
    ∷ Quiet
    ∷ carries (codes "504702060000000000000000000100000000000000010100026522")
    ∷ Quiet
    ∷ Quiet
    ∷ carries (replicate 1400 48)
    ∷ Quiet
    ∷ Entry Round
    ∷ Quiet
    ∷ carries (codes "5047020100000000000000000002000000000000000000000161")
    ∷ Quiet
    ∷ carries (codes "5047020300000000000000000002000000000000000001000161")
    ∷ carries (codes "504702060000000000000000000100000000000000010100026522")
    ∷ Quiet
    ∷ Entry Round
    ∷ Quiet
    ∷ carries (codes "504702050000000000000000000200000000000000000100016100")
    ∷ Quiet
    ∷ Quiet
    ∷ carries (codes "504702050000000000000000000200000000000000000100016100")
    ∷ carries (replicate 1400 48)
    ∷ Entry (Happens (event.Read 0 (codes "k")))
    ∷ Entry (Happens (event.Read 0 (codes "a")))
    ∷ Entry (Takes (node.Client 0) 0)
    ∷ Quiet
    ∷ Entry (Happens (event.Delete 0 (codes "c")))
    ∷ Entry (Happens (event.Write 1 (codes "k") (codes "v25")))
    ∷ Entry Round
    ∷ Quiet
    ∷ carries (codes "504702010000000000000000000300000000000000000000016b")
    ∷ Quiet
    ∷ carries (codes "504702030000000000000000000300000000000000000100016b")
    ∷ Quiet
    ∷ Quiet
    ∷ Entry Round
    ∷ Quiet
    ∷ carries (codes "504702020001000000000000000100000000000000000000016b010003763235")
    ∷ Quiet
    ∷ carries (codes "504702040001000000000000000100000000000000020100016b010003763235")
    ∷ Quiet
    ∷ Quiet
    ∷ Entry Round
    ∷ Quiet
    ∷ carries (codes "504702050000000000000000000300000000000000000100016b00")
    ∷ Quiet
    ∷ Quiet
    ∷ carries (codes "504702050000000000000000000300000000000000000100016b00")
    ∷ Quiet
    ∷ Entry Round
    ∷ Quiet
    ∷ carries (codes "504702050000000000000000000300000000000000000100016b00")
    ∷ Quiet
    ∷ Quiet
    ∷ carries (codes "504702050000000000000000000300000000000000000100016b00")
    ∷ Quiet
    ∷ Entry (Takes node.Controller 5)
    ∷ Quiet
    ∷ Entry Round
    ∷ Quiet
    ∷ carries (codes "504702060001000000000000000100000000000000020100016b")
    ∷ Quiet
    ∷ Quiet
    ∷ Quiet
    ∷ carries (codes "504702060001000000000000000100000000000000020100016b")
    ∷ Entry (Happens (event.Read 0 (codes "a")))
    ∷ Entry (Takes (node.Client 1) 7)
    ∷ Quiet
    ∷ Entry (Happens (event.Write 1 (codes "c") (codes "v34")))
    ∷ Entry (Happens (event.Write 1 (101 ∷ 34 ∷ []) (codes "v35")))
    ∷ Entry (Happens (event.Fence (codes "a")))
    ∷ Entry (Takes (node.Client 0) 8)
    ∷ Quiet
    ∷ Entry (Happens (event.Fence (codes "c")))
    ∷ Entry Round
    ∷ Quiet
    ∷ carries (codes "5047020100000000000000000004000000000000000000000161")
    ∷ Quiet
    ∷ carries (codes "5047020300000000000000000004000000000000000001000161")
    ∷ Quiet
    ∷ Quiet
    ∷ Entry Round
    ∷ Quiet
    ∷ carries (codes "504702050000000000000000000400000000000000000100016100")
    ∷ Quiet
    ∷ Quiet
    ∷ carries (codes "504702050000000000000000000400000000000000000100016100")
    ∷ Quiet
    ∷ Entry Round
    ∷ Quiet
    ∷ carries (codes "5047020200010000000000000002000000000000000000000163010003763334")
    ∷ Quiet
    ∷ carries (codes "5047020400010000000000000002000000000000000301000163010003763334")
    ∷ Quiet
    ∷ Quiet
    ∷ Entry Round
    ∷ Quiet
    ∷ carries (codes "5047020100000000000000000002000000000000ff0000000161")
    ∷ Quiet
    ∷ Quiet
    ∷ Quiet
    ∷ Quiet
    ∷ Entry (Takes (node.Server 1) 0)
    ∷ Quiet
    ∷ Entry (Takes node.Controller 0)
    ∷ Quiet
    ∷ Entry (Happens (event.Write 0 (codes "c") (codes "v45")))
    ∷ Entry (Takes (node.Switch 0) 0)
    ∷ carries (codes "504702070000000000000001060161")
    ∷ Entry Round
    ∷ carries (codes "504702080000000000000001050000000000000000")
    ∷ carries (codes "5047020200000000000000000005000000000000000000000163010003763435")
    ∷ Quiet
    ∷ carries (codes "5047020400000000000000000005000000000000000401000163010003763435")
    ∷ Quiet
    ∷ Quiet
    ∷ Entry Round
    ∷ Quiet
    ∷ carries (codes "5047020600010000000000000002000000000000000301000163")
    ∷ Quiet
    ∷ Quiet
    ∷ Quiet
    ∷ Quiet
    ∷ Entry Round
    ∷ Quiet
    ∷ carries (codes "5047020600000000000000000005000000000000000401000163")
    ∷ Quiet
    ∷ Quiet
    ∷ carries (codes "5047020600000000000000000005000000000000000401000163")
    ∷ Quiet
    ∷ Entry (Happens (event.Write 0 (codes "k") (codes "v50")))
    ∷ Entry (Takes (node.Server 1) 3)
    ∷ Quiet
    ∷ Entry Round
    ∷ Quiet
    ∷ Quiet
    ∷ Quiet
    ∷ Quiet
    ∷ Quiet
    ∷ Quiet
    ∷ Entry (Takes (node.Client 0) 8)
    ∷ Quiet
    ∷ Entry Round
    ∷ Quiet
    ∷ carries (codes "5047020200000000000000000005000000000000000000000163010003763435")
    ∷ Quiet
    ∷ carries (codes "5047020400000000000000000005000000000000000401000163010003763435")
    ∷ Quiet
    ∷ Quiet
    ∷ Entry (Happens (event.Write 1 (codes "c") (codes "v55")))
    ∷ Entry (Happens (event.Write 0 (101 ∷ 34 ∷ []) (codes "v56")))
    ∷ Entry (Takes (node.Switch 0) 0)
    ∷ carries (codes "504702020000000000000000000600000000000000000000016b010003763530")
    ∷ Entry Round
    ∷ Quiet
    ∷ carries (codes "5047020600000000000000000005000000000000000401000163")
    ∷ Quiet
    ∷ carries (codes "504702040000000000000000000600000000000000050100016b010003763530")
    ∷ carries (codes "5047020600000000000000000005000000000000000401000163")
    ∷ Quiet
    ∷ Entry (Happens (event.Copy (codes "a") 1))
    ∷ Entry End
    ∷ []

rack_two_lines : spell rack_entry_lines rack_two_inputs (
    codes "rack servers=2 clients=2 switches=1 listed=2 hot=3 first=1 format=2"
    ∷ codes "round"
    ∷ (codes "write 0 e" ++ (34 ∷ []) ++ codes " =v1")
    ∷ codes "take controller"
    ∷ codes "take client 0 5"
    ∷ codes "giveup 1"
    ∷ codes "round"
    ∷ codes "read 0 k"
    ∷ codes "resend 0"
    ∷ codes "take client 0 1"
    ∷ codes "write 0 a =v9"
    ∷ codes "take switch 0"
    ∷ codes "write 0 c =v11"
    ∷ codes "round"
    ∷ codes "round"
    ∷ codes "take controller"
    ∷ codes "read 0 a"
    ∷ codes "round"
    ∷ codes "take server 1"
    ∷ codes "round"
    ∷ codes "round"
    ∷ codes "round"
    ∷ codes "read 0 k"
    ∷ codes "read 0 a"
    ∷ codes "take client 0 0"
    ∷ codes "delete 0 c"
    ∷ codes "write 1 k =v25"
    ∷ codes "round"
    ∷ codes "round"
    ∷ codes "round"
    ∷ codes "round"
    ∷ codes "take controller 5"
    ∷ codes "round"
    ∷ codes "read 0 a"
    ∷ codes "take client 1 7"
    ∷ codes "write 1 c =v34"
    ∷ (codes "write 1 e" ++ (34 ∷ []) ++ codes " =v35")
    ∷ codes "fence a"
    ∷ codes "take client 0 8"
    ∷ codes "fence c"
    ∷ codes "round"
    ∷ codes "round"
    ∷ codes "round"
    ∷ codes "round"
    ∷ codes "take server 1"
    ∷ codes "take controller"
    ∷ codes "write 0 c =v45"
    ∷ codes "take switch 0"
    ∷ codes "round"
    ∷ codes "round"
    ∷ codes "round"
    ∷ codes "write 0 k =v50"
    ∷ codes "take server 1 3"
    ∷ codes "round"
    ∷ codes "take client 0 8"
    ∷ codes "round"
    ∷ codes "write 1 c =v55"
    ∷ (codes "write 0 e" ++ (34 ∷ []) ++ codes " =v56")
    ∷ codes "take switch 0"
    ∷ codes "round"
    ∷ codes "copy a 1"
    ∷ codes "end"
    ∷ []
    ) ≡ true
unfolding digits rack_two_inputs
rack_two_lines = refl

rack_two_plays :
    shown serves_rack (plays serves_rack (rack_start 7000) rack_two_inputs)
    ≡ Some (shows true (lines (
    codes "1 rack"
    ∷ codes "2 foreign switch 0"
    ∷ codes "3 write 0 seq 1 sends 0"
    ∷ codes "4 nothing open 1"
    ∷ (codes "5 switch 0 forwards write e" ++ (34 ∷ []) ++ codes " version 1 to server 1 sends 1")
    ∷ (codes "6 server 1 applies e" ++ (34 ∷ []) ++ codes " version 1 sends 2")
    ∷ codes "7 busy 0 seq 1"
    ∷ codes "8 resend 0 seq 1 sends 3"
    ∷ codes "9 busy 0 seq 1"
    ∷ codes "10 switch 0 answers client 0 seq 1 version 1 unlisted sends 4"
    ∷ codes "11 busy 0 seq 1"
    ∷ (codes "12 switch 0 forwards write e" ++ (34 ∷ []) ++ codes " version 1 to server 1 sends 5")
    ∷ (codes "13 server 1 keeps e" ++ (34 ∷ []) ++ codes " version 1 sends 6")
    ∷ codes "14 client 0 answered 1 version 1"
    ∷ (codes "15 switch 0 forwards write e" ++ (34 ∷ []) ++ codes " version 1 to server 1 sends 7")
    ∷ (codes "16 server 1 keeps e" ++ (34 ∷ []) ++ codes " version 1 sends 8")
    ∷ codes "17 read 0 seq 2 sends 9"
    ∷ codes "18 switch 0 answers client 0 seq 1 version 1 unlisted sends 10"
    ∷ codes "19 client 0 ignores"
    ∷ codes "20 switch 0 answers client 0 seq 1 version 1 unlisted sends 11"
    ∷ codes "21 foreign client 0"
    ∷ codes "22 switch 0 forwards read a to server 1 sends 12"
    ∷ codes "23 server 1 reads a version 0 sends 13"
    ∷ codes "24 client 0 ignores"
    ∷ codes "25 switch 0 answers client 0 seq 2 version 0 unlisted sends 14"
    ∷ codes "26 client 0 answered 2 version 0 -"
    ∷ codes "27 foreign client 1"
    ∷ codes "28 read 0 seq 3 sends 15"
    ∷ codes "29 busy 0 seq 3"
    ∷ codes "30 busy 0 seq 3"
    ∷ codes "31 write 1 seq 1 sends 16"
    ∷ codes "32 switch 0 forwards read k to server 1 sends 17"
    ∷ codes "33 server 1 reads k version 0 sends 18"
    ∷ codes "34 switch 0 forwards write k version 2 to server 1 sends 19"
    ∷ codes "35 server 1 applies k version 2 sends 20"
    ∷ codes "36 switch 0 answers client 0 seq 3 version 0 unlisted sends 21"
    ∷ codes "37 client 0 answered 3 version 0 -"
    ∷ codes "38 switch 0 answers client 0 seq 3 version 0 unlisted sends 22"
    ∷ codes "39 client 0 ignores"
    ∷ codes "40 switch 0 answers client 1 seq 1 version 2 unlisted sends 23"
    ∷ codes "41 client 1 answered 1 version 2"
    ∷ codes "42 read 0 seq 4 sends 24"
    ∷ codes "43 write 1 seq 2 sends 25"
    ∷ codes "44 busy 1 seq 2"
    ∷ codes "45 controller orders 1 fence a sends 26"
    ∷ codes "46 controller busy 1"
    ∷ codes "47 switch 0 forwards read a to server 1 sends 27"
    ∷ codes "48 server 1 reads a version 0 sends 28"
    ∷ codes "49 switch 0 answers client 0 seq 4 version 0 unlisted sends 29"
    ∷ codes "50 client 0 answered 4 version 0 -"
    ∷ codes "51 switch 0 forwards write c version 3 to server 1 sends 30"
    ∷ codes "52 server 1 applies c version 3 sends 31"
    ∷ codes "53 foreign switch 0"
    ∷ codes "54 write 0 seq 5 sends 32"
    ∷ codes "55 switch 0 applies 1 not listed sends 33"
    ∷ codes "56 controller takes 1 not listed"
    ∷ codes "57 switch 0 forwards write c version 4 to server 1 sends 34"
    ∷ codes "58 server 1 applies c version 4 sends 35"
    ∷ codes "59 switch 0 answers client 1 seq 2 version 3 unlisted sends 36"
    ∷ codes "60 switch 0 answers client 0 seq 5 version 4 unlisted sends 37"
    ∷ codes "61 client 0 answered 5 version 4"
    ∷ codes "62 write 0 seq 6 sends 38"
    ∷ codes "63 switch 0 forwards write c version 4 to server 1 sends 39"
    ∷ codes "64 server 1 keeps c version 4 sends 40"
    ∷ codes "65 busy 1 seq 2"
    ∷ codes "66 busy 0 seq 6"
    ∷ codes "67 switch 0 forwards write k version 5 to server 1 sends 41"
    ∷ codes "68 switch 0 answers client 0 seq 5 version 4 unlisted sends 42"
    ∷ codes "69 server 1 applies k version 5 sends 43"
    ∷ codes "70 client 0 ignores"
    ∷ codes "71 controller orders 2 copy a to server 1 sends 44"
    ∷ codes "72 end foreign 4"
    ∷ codes "history 8"
    ∷ (codes "op 0 client 0 write e" ++ (34 ∷ []) ++ codes " =v1 issued 3 answered 14")
    ∷ codes "op 1 client 0 read a issued 17 answered 26 -"
    ∷ codes "op 2 client 0 read k issued 28 answered 37 -"
    ∷ codes "op 3 client 1 write k =v25 issued 31 answered 41"
    ∷ codes "op 4 client 0 read a issued 42 answered 50 -"
    ∷ codes "op 5 client 1 write c =v34 issued 43 open"
    ∷ codes "op 6 client 0 write c =v45 issued 54 answered 61"
    ∷ codes "op 7 client 0 write k =v50 issued 62 open"
    ∷ (codes "order e" ++ (34 ∷ []) ++ codes " 1")
    ∷ codes "at 0"
    ∷ codes "order a 2"
    ∷ codes "at 1"
    ∷ codes "at 4"
    ∷ codes "order k 2"
    ∷ codes "at 2"
    ∷ codes "at 3"
    ∷ codes "order c 1"
    ∷ codes "at 6"
    ∷ codes "done"
    ∷ []
    )) (7000 ∷ 7001 ∷ 7008 ∷ 7009 ∷ 7128 ∷ 7129 ∷ []) (
    sent 6 4 7001 (codes "5047020200000000000000000001000000000000000000000265220100027631")
    ∷ sent 10 1 7009 (codes "5047020400000000000000000001000000000000000101000265220100027631")
    ∷ sent 12 3 7001 (codes "504702060000000000000000000100000000000000010100026522")
    ∷ sent 14 4 7001 (codes "5047020200000000000000000001000000000000000000000265220100027631")
    ∷ sent 16 1 7128 (codes "504702060000000000000000000100000000000000010100026522")
    ∷ sent 18 1 7009 (codes "5047020400000000000000000001000000000000000101000265220100027631")
    ∷ sent 20 3 7001 (codes "504702060000000000000000000100000000000000010100026522")
    ∷ sent 24 1 7009 (codes "5047020400000000000000000001000000000000000101000265220100027631")
    ∷ sent 26 3 7001 (codes "504702060000000000000000000100000000000000010100026522")
    ∷ sent 29 4 7001 (codes "5047020100000000000000000002000000000000000000000161")
    ∷ sent 31 1 7128 (codes "504702060000000000000000000100000000000000010100026522")
    ∷ sent 38 1 7128 (codes "504702060000000000000000000100000000000000010100026522")
    ∷ sent 44 1 7009 (codes "5047020300000000000000000002000000000000000001000161")
    ∷ sent 46 3 7001 (codes "504702050000000000000000000200000000000000000100016100")
    ∷ sent 50 1 7128 (codes "504702050000000000000000000200000000000000000100016100")
    ∷ sent 54 4 7001 (codes "504702010000000000000000000300000000000000000000016b")
    ∷ sent 55 5 7001 (codes "504702020001000000000000000100000000000000000000016b010003763235")
    ∷ sent 57 1 7009 (codes "504702030000000000000000000300000000000000000100016b")
    ∷ sent 59 3 7001 (codes "504702050000000000000000000300000000000000000100016b00")
    ∷ sent 63 1 7009 (codes "504702040001000000000000000100000000000000020100016b010003763235")
    ∷ sent 65 3 7001 (codes "504702060001000000000000000100000000000000020100016b")
    ∷ sent 69 1 7128 (codes "504702050000000000000000000300000000000000000100016b00")
    ∷ sent 75 1 7128 (codes "504702050000000000000000000300000000000000000100016b00")
    ∷ sent 82 1 7129 (codes "504702060001000000000000000100000000000000020100016b")
    ∷ sent 86 4 7001 (codes "5047020100000000000000000004000000000000000000000161")
    ∷ sent 87 5 7001 (codes "5047020200010000000000000002000000000000000000000163010003763334")
    ∷ sent 87 0 7001 (codes "504702070000000000000001060161")
    ∷ sent 90 1 7009 (codes "5047020300000000000000000004000000000000000001000161")
    ∷ sent 92 3 7001 (codes "504702050000000000000000000400000000000000000100016100")
    ∷ sent 96 1 7128 (codes "504702050000000000000000000400000000000000000100016100")
    ∷ sent 102 1 7009 (codes "5047020400010000000000000002000000000000000301000163010003763334")
    ∷ sent 104 3 7001 (codes "5047020600010000000000000002000000000000000301000163")
    ∷ sent 114 4 7001 (codes "5047020200000000000000000005000000000000000000000163010003763435")
    ∷ sent 115 1 7000 (codes "504702080000000000000001050000000000000000")
    ∷ sent 117 1 7009 (codes "5047020400000000000000000005000000000000000401000163010003763435")
    ∷ sent 119 3 7001 (codes "5047020600000000000000000005000000000000000401000163")
    ∷ sent 123 1 7129 (codes "5047020600010000000000000002000000000000000301000163")
    ∷ sent 129 1 7128 (codes "5047020600000000000000000005000000000000000401000163")
    ∷ sent 133 4 7001 (codes "504702020000000000000000000600000000000000000000016b010003763530")
    ∷ sent 143 1 7009 (codes "5047020400000000000000000005000000000000000401000163010003763435")
    ∷ sent 145 3 7001 (codes "5047020600000000000000000005000000000000000401000163")
    ∷ sent 148 1 7009 (codes "504702040000000000000000000600000000000000050100016b010003763530")
    ∷ sent 150 1 7128 (codes "5047020600000000000000000005000000000000000401000163")
    ∷ sent 152 3 7001 (codes "504702060000000000000000000600000000000000050100016b")
    ∷ sent 154 0 7001 (codes "50470207000000000000000203010161")
    ∷ []
    ))
unfolding
    digits servers_from servers_of spelling in_range packet_of state_bytes state_of server_step
    client_step controller_step switch_step happens order_of said_text played rack_two_inputs
rack_two_plays = refl
