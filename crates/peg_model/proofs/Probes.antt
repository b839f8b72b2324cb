-- What nodes do with packets that were changed in a field, in their format, or cut, in the states
-- after some of the random runs: what each says, and how many packets it sends. The independent
-- model gave the answers.
use Rattle.std.specs.Prelude.{◌≡◌, true, List, [], ◌∷◌, ◌++◌, refl, codes, replicate}
use Rattle.std.specs.List.{list_all}
use Rattle.std.specs.Fmt.{digits}
use Rattle.peg_name.specs.Holders.{servers_from, servers_of}
use Rattle.peg_name.specs.declared.Format.TheVariants.{One, Two}
use Rattle.peg_name.specs.declared.Node.TheVariants as node
use Rattle.peg_model.specs.Packet.{in_range, spelling}
use Rattle.peg_model.specs.Reading.{packet_of}
use Rattle.peg_model.specs.Handover.{state_bytes, state_of}
use Rattle.peg_model.specs.Server.{server_step}
use Rattle.peg_model.specs.Client.{client_step}
use Rattle.peg_model.specs.Controller.{controller_step}
use Rattle.peg_model.specs.Switch.{switch_step}
use Rattle.peg_model.specs.World.{happens, run}
use Rattle.peg_model.specs.Order.{order_of}
use Rattle.peg_model.specs.Trace.{said_text}
use Rattle.peg_model.specs.World.{start}
use Rattle.peg_model.proofs.Computed.{rack_with, hex, Probe, probe, answers, long_key}
use Rattle.peg_model.proofs.MixedFences.{voids_one_events, directed_two_events, barred_one_events}
use Rattle.peg_model.proofs.MixedFences.{barred_again_two_events}
use Rattle.peg_model.proofs.MixedCopies.{cycles_one_events, deep_two_events, copies_two_events}
use Rattle.peg_model.proofs.MixedHandovers.{handovers_one_events, part_again_two_events}
use Rattle.peg_model.proofs.MixedRetries.{repeats_one_events, resends_two_events, plans_one_events}

-- after the run with writes that fences void, in format 1
voids_one_probes : List Probe
voids_one_probes =
    probe (node.Switch 0) 0 (hex (
    codes "50470107000000000000000706206464646464646464646464646464646464646464646464646464"
    ++ codes "646464646464"))
    (codes "switch 0 skips 7 at 12")
    ∷ probe (node.Server 1) 0 (hex (
    codes "5047010b000000000000000005027a7a"))
    (codes "server 1 out of place")
    ∷ probe (node.Server 0) 0 (hex (
    codes "5047010400020000000000000003000000000000000401000265220100027634"))
    (codes "server 0 out of place")
    ∷ probe (node.Switch 0) 1 (hex (
    codes "504701060002000000000000000200000000000000020100026522"))
    (codes "switch 0 answers client 2 seq 2 version 2 unlisted")
    ∷ probe (node.Client 2) 0 (hex (
    codes "50470106000200000000000000020000000000000003000120646464646464646464646464646464"
    ++ codes "6464646464646464646464646464646464"))
    (codes "client 2 ignores")
    ∷ probe (node.Switch 0) 0 (hex (
    codes "504701060002000000000000000000000000000000020100026522"))
    (codes "switch 0 malformed")
    ∷ probe (node.Switch 0) 0 (hex (
    codes "50470107000000000000000106206464646464646464646464646464646464646464646464646464"
    ++ codes "646464646464"))
    (codes "switch 0 skips 1 at 12")
    ∷ probe (node.Client 0) 0 (hex (
    codes "504702080000000000000008040000000000000008"))
    (codes "client 0 ignores")
    ∷ probe (node.Switch 0) 1 (hex (
    codes "504701060002000000000000000300000000000000060100026522"))
    (codes "switch 0 answers client 2 seq 3 version 6 unlisted")
    ∷ probe (node.Switch 0) 1 (hex (
    codes "504701060002000000000000000200000000000000030000016b"))
    (codes "switch 0 answers client 2 seq 2 version 3 unlisted")
    ∷ probe (node.Switch 0) 0 (hex (
    codes "50470107000000000000000706206464646464646464646464646464646464646464646464646464"
    ++ codes "646464646464"))
    (codes "switch 0 skips 7 at 12")
    ∷ probe (node.Switch 0) 1 (hex (
    codes "504701060000000000000000000100000000000000050100026522"))
    (codes "switch 0 answers client 0 seq 1 version 5 unlisted")
    ∷ probe (node.Switch 0) 0 (hex (
    codes "50470207000000000000000601206464646464646464646464646464646464646464646464646464"
    ++ codes "646464646464"))
    (codes "switch 0 out of place")
    ∷ probe node.Controller 0 (hex (
    codes "504702080000000000000007040000000000000007"))
    (codes "controller out of place")
    ∷ probe (node.Switch 0) 2 (hex (
    codes "50470107000000000000000d06206464646464646464646464646464646464646464646464646464"
    ++ codes "646464646464"))
    (codes "switch 0 applies 13 fenced 5")
    ∷ probe (node.Client 2) 0 (hex (
    codes "504701060002000000000000000100000000000000060100026522"))
    (codes "client 2 ignores")
    ∷ probe (node.Switch 0) 0 (hex (
    codes "5047010200010000000000000000000000000000000000000265220100027630"))
    (codes "switch 0 malformed")
    ∷ probe (node.Server 1) 1 (hex (
    codes "504701040002000000000000000200000000000000020100016b0100027631"))
    (codes "server 1 applies k version 2")
    ∷ probe (node.Switch 0) 1 (hex (
    codes "504701060000000000000000000100000000000000080100026522"))
    (codes "switch 0 answers client 0 seq 1 version 8 unlisted")
    ∷ probe (node.Switch 0) 0 (hex (
    codes "504701060002000000000000000300000000000000050102026522"))
    (codes "switch 0 out of place")
    ∷ probe (node.Client 1) 0 (hex (
    codes "504701060001000000000000000100000000000000010100027a7a"))
    (codes "client 1 ignores")
    ∷ probe (node.Switch 0) 1 (hex (
    codes "50470101000000000000000000020000000000000000000020646464646464646464646464646464"
    ++ codes "6464646464646464646464646464646464"))
    (codes "switch 0 forwards read " ++ replicate 32 100 ++ codes " to server 0")
    ∷ probe (node.Server 0) 0 (hex (
    codes "50470210000900000000000000052064646464646464646464646464646464646464646464646464"
    ++ codes "646464646464"))
    (codes "server 0 malformed")
    ∷ probe (node.Switch 0) 0 (hex (
    codes "5047020200000000000000000003000000000000000000000265220100027632"))
    (codes "switch 0 out of place")
    ∷ probe (node.Switch 0) 1 (hex (
    codes "504701060002000000000000000100000000000000040100016b"))
    (codes "switch 0 answers client 2 seq 1 version 4 unlisted")
    ∷ probe (node.Server 0) 0 (hex (
    codes "50470103000200000000000000020000000000000000020020646464646464646464646464646464"
    ++ codes "6464646464646464646464646464646464"))
    (codes "server 0 out of place")
    ∷ probe node.Controller 0 (hex (
    codes "50470107000000000000000501206464646464646464646464646464646464646464646464646464"
    ++ codes "646464646464"))
    (codes "controller out of place")
    ∷ probe (node.Client 0) 0 (hex (
    codes "504701060000000000000000000100000000000000060200026522"))
    (codes "client 0 ignores")
    ∷ probe (node.Switch 0) 0 (hex (
    codes "50470202000200000000000000020000000000000000000020646464646464646464646464646464"
    ++ codes "646464646464646464646464646464646401000276"))
    (codes "switch 0 malformed")
    ∷ probe (node.Client 2) 0 (hex (
    codes "504701060002000000000000000100000000000000020100026522"))
    (codes "client 2 ignores")
    ∷ probe (node.Switch 0) 2 (hex (
    codes "50470107000000000000000d06206464646464646464646464646464646464646464646464646464"
    ++ codes "646464646464"))
    (codes "switch 0 applies 13 fenced 5")
    ∷ probe (node.Switch 0) 0 (hex (
    codes "50470107000000000000000306206464646464646464646464646464646464646464646464646464"
    ++ codes "646464646464"))
    (codes "switch 0 skips 3 at 12")
    ∷ probe (node.Switch 0) 0 (hex (
    codes "5047010b000000000000000004206464646464646464646464646464646464646464646464646464"
    ++ codes "646464646464"))
    (codes "switch 0 notes server 0 version 4 kept")
    ∷ probe (node.Server 1) 0 (hex (
    codes "504702040002000000000000000100000000000000020100027a7a0100027631"))
    (codes "server 1 out of place")
    ∷ probe (node.Server 1) 1 (hex (
    codes "504701040002000000000000000100000000000000020100027a7a0100027631"))
    (codes "server 1 applies zz version 2")
    ∷ probe (node.Server 0) 1 (hex (
    codes "50470103000000000000000000020000000000000000000020646464646464646464646464646464"
    ++ codes "6464646464646464646464646464646464"))
    (codes "server 0 reads " ++ replicate 32 100 ++ codes " version 5")
    ∷ probe (node.Switch 0) 0 (hex (
    codes "504701070000000000000006010161"))
    (codes "switch 0 skips 6 at 12")
    ∷ probe (node.Switch 0) 0 (hex (
    codes "50470107000000000000000f060161"))
    (codes "switch 0 skips 15 at 12")
    ∷ probe (node.Client 2) 0 (hex (
    codes "504701060002000000000000000300000000000000030100026522"))
    (codes "client 2 ignores")
    ∷ probe (node.Server 1) 1 (hex (
    codes "5047010400000000000000000001000000000000000601000265220100027632"))
    (codes "server 1 keeps e" ++ (34 ∷ []) ++ codes " version 6")
    ∷ probe node.Controller 0 (hex (
    codes "50470108000000000000000b050000000000000000"))
    (codes "controller ignores")
    ∷ probe node.Controller 0 (hex (
    codes "504701080000000000000001050000000000000000"))
    (codes "controller ignores")
    ∷ probe (node.Client 1) 0 (hex (
    codes "504701080000000000000006010000000000000006"))
    (codes "client 1 ignores")
    ∷ probe (node.Switch 0) 0 (hex (
    codes "5047020400020000000000000001000000000000000209000265220100027631"))
    (codes "switch 0 out of place")
    ∷ probe (node.Server 0) 0 (hex (
    codes "5047011000000000000000000005016b"))
    (codes "server 0 out of place")
    ∷ probe node.Controller 0 (hex (
    codes "504701080000000000000004050000000000000001"))
    (codes "controller malformed")
    ∷ probe (node.Switch 0) 0 (hex (
    codes "50470207000000000000000d060161"))
    (codes "switch 0 out of place")
    ∷ probe (node.Switch 0) 0 (hex (
    codes "50470207000000000000000106027a7a"))
    (codes "switch 0 out of place")
    ∷ probe (node.Switch 0) 0 (hex (
    codes "50470107000000000000000601027a7a"))
    (codes "switch 0 skips 6 at 12")
    ∷ probe (node.Client 0) 0 (hex (
    codes "5047010200020000000000000001000000000000000000000265220100027631"))
    (codes "client 0 ignores")
    ∷ probe (node.Server 0) 0 (hex (
    codes "504701080000000000000002050000000000000000"))
    (codes "server 0 out of place")
    ∷ probe (node.Client 2) 0 (hex (
    codes "504701060002000000000000000100000000000000050100026522"))
    (codes "client 2 ignores")
    ∷ probe (node.Switch 0) 0 (hex (
    codes "5047010200020000000000000002000000000000000000000265220100027634"))
    (codes "switch 0 stale 3")
    ∷ probe (node.Switch 0) 1 (hex (
    codes "504701020000000000000000000100000000000000000000016b0100027632"))
    (codes "switch 0 forwards write k version 6 to server 1")
    ∷ probe (node.Switch 0) 0 (hex (
    codes "50470107000000000000000a06206464646464646464646464646464646464646464646464646464"
    ++ codes "646464646464"))
    (codes "switch 0 skips 10 at 12")
    ∷ probe node.Controller 0 (hex (
    codes "504701080000000000000004050000000000000000"))
    (codes "controller ignores")
    ∷ probe node.Controller 0 (hex (
    codes "50470108000000000000000a0b0000000000000004"))
    (codes "controller ignores")
    ∷ probe node.Controller 0 (hex (
    codes "504701080000000000000004050000000000000000"))
    (codes "controller ignores")
    ∷ probe (node.Server 1) 1 (hex (
    codes "5047010400020000000000000003000000000000000401000265220100027634"))
    (codes "server 1 keeps e" ++ (34 ∷ []) ++ codes " version 6")
    ∷ probe (node.Server 1) 0 (hex (
    codes "5047020400020000000000000004000000000000000401000265220100027634"))
    (codes "server 1 out of place")
    ∷ []

voids_one_answers :
    list_all (answers (run (start (rack_with One 2 3 1 1 3 1) []) 2 voids_one_events).0)
    voids_one_probes
    ≡ true
unfolding
    digits servers_from servers_of spelling in_range packet_of state_bytes state_of server_step
    client_step controller_step switch_step happens run order_of said_text voids_one_probes
    voids_one_events
voids_one_answers = refl

-- after the run with late writes under a fence, in format 2
directed_two_probes : List Probe
directed_two_probes =
    probe (node.Client 1) 0 (hex (
    codes "504701050001000000000000000100000000000000000100012500"))
    (codes "client 1 ignores")
    ∷ probe (node.Switch 0) 0 (hex (
    codes "504701010000000000000000000400000000000000000000026522"))
    (codes "switch 0 out of place")
    ∷ probe (node.Server 0) 0 (hex (
    codes "50470210000200000000000000020265"))
    (codes "server 0 malformed")
    ∷ probe node.Controller 0 (hex (
    codes "5047020300020000000000000003000000000000000001000265"))
    (codes "controller malformed")
    ∷ probe (node.Client 0) 0 (hex (
    codes "50470205000000000000000000020000000000000003010001610100027632"))
    (codes "client 0 ignores")
    ∷ probe node.Controller 0 (hex (
    codes "504702080000000000000006030000000000000002"))
    (codes "controller ignores")
    ∷ probe (node.Client 0) 0 (hex (
    codes "504702050001000000000000000100000000000000000100016100"))
    (codes "client 0 ignores")
    ∷ probe (node.Server 1) 0 (hex (
    codes "504702040001000000000000000400000000000000040102012500"))
    (codes "server 1 out of place")
    ∷ probe (node.Switch 0) 0 (hex (
    codes "5047010500000000000000000002000000000000000301000265220100027632"))
    (codes "switch 0 out of place")
    ∷ probe (node.Switch 0) 1 (hex (
    codes "504702010001000000000000000200000000000000000000026522"))
    (codes "switch 0 forwards read e" ++ (34 ∷ []) ++ codes " to server 0")
    ∷ probe (node.Server 0) 0 (hex (
    codes "504702070000000000000005010125"))
    (codes "server 0 out of place")
    ∷ probe (node.Switch 0) 1 (hex (
    codes "504702060000000000000000000300000000000000050000026522"))
    (codes "switch 0 answers client 0 seq 3 version 5 kept")
    ∷ probe (node.Switch 0) 1 (hex (
    codes "504702020001000000000000000400000000000000000000012500"))
    (codes "switch 0 forwards write %25 version 4 to server 1")
    ∷ probe node.Controller 0 (hex (
    codes "504702080000000000000001010000000000000002"))
    (codes "controller ignores")
    ∷ probe (node.Switch 0) 1 (hex (
    codes "504702010001000000000000000300000000000000000000016b"))
    (codes "switch 0 forwards read k to server 2")
    ∷ probe (node.Switch 0) 1 (hex (
    codes "504702060000000000000000000100000000000000020100026522"))
    (codes "switch 0 answers client 0 seq 1 version 2 kept")
    ∷ probe (node.Switch 0) 1 (hex (
    codes "5047020100010000000000000002000000000000000000000125"))
    (codes "switch 0 forwards read %25 to server 1")
    ∷ probe (node.Switch 0) 0 (hex (
    codes "50470107000000000000000306026522"))
    (codes "switch 0 out of place")
    ∷ probe (node.Server 1) 0 (hex (
    codes "5047020500010000000000000003000000000000000303000265220100027632"))
    (codes "server 1 out of place")
    ∷ probe (node.Switch 0) 0 (hex (
    codes "50470107000000000000000801016b"))
    (codes "switch 0 out of place")
    ∷ probe node.Controller 0 (hex (
    codes "5047020500010000000000000001000000000000000001030125"))
    (codes "controller malformed")
    ∷ probe (node.Switch 0) 0 (hex (
    codes "5047010800000000000000030b0000000000000001"))
    (codes "switch 0 out of place")
    ∷ probe node.Controller 0 (hex (
    codes "504702080000000000000001050000000000000000"))
    (codes "controller ignores")
    ∷ probe (node.Server 1) 1 (hex (
    codes "5047020300010000000000000001000000000000000001000125"))
    (codes "server 1 reads %25 version 4")
    ∷ probe (node.Switch 0) 1 (hex (
    codes "504702020001000000000000000600000000000000000000012500"))
    (codes "switch 0 forwards write %25 version 6 to server 1")
    ∷ probe (node.Server 1) 0 (hex (
    codes "504702040001000000000000000400000000000000040102012500"))
    (codes "server 1 out of place")
    ∷ probe (node.Switch 0) 1 (hex (
    codes "5047020200010000000000000004000000000000000000000265220100027632"))
    (codes "switch 0 forwards write e" ++ (34 ∷ []) ++ codes " version 4 to server 0")
    ∷ probe (node.Server 1) 0 (hex (
    codes "504702030000000000000000000300000000000000000000026522"))
    (codes "server 1 out of place")
    ∷ probe (node.Switch 0) 1 (hex (
    codes "50470207000000000000000801027a7a"))
    (codes "switch 0 applies 8 full 1")
    ∷ probe (node.Server 1) 0 (hex (
    codes "504702070000000000000005010125"))
    (codes "server 1 out of place")
    ∷ probe (node.Server 1) 0 (hex (
    codes "504702030002000000000000000300000000000000000100026522"))
    (codes "server 1 out of place")
    ∷ probe (node.Switch 0) 0 (hex (
    codes "504701010000000000000000000100000000000000000000026522"))
    (codes "switch 0 out of place")
    ∷ probe (node.Server 0) 0 (hex (
    codes "504702080000000000000007030000000000000001"))
    (codes "server 0 out of place")
    ∷ probe (node.Switch 0) 1 (hex (
    codes "5047020500000000000000000002000000000000000301000265220100027632"))
    (codes "switch 0 answers client 0 seq 2 version 3 kept")
    ∷ probe (node.Switch 0) 0 (hex (
    codes "5047010700000000000000090101"))
    (codes "switch 0 malformed")
    ∷ probe (node.Server 0) 1 (hex (
    codes "50470204000000000000000000040000000000000005000002652200"))
    (codes "server 0 keeps e" ++ (34 ∷ []) ++ codes " version 5")
    ∷ probe (node.Switch 0) 0 (hex (
    codes "5047020700000000000000030201"))
    (codes "switch 0 malformed")
    ∷ probe (node.Switch 0) 1 (hex (
    codes "504702010001000000000000000200000000000000000000026522"))
    (codes "switch 0 forwards read e" ++ (34 ∷ []) ++ codes " to server 0")
    ∷ probe (node.Switch 0) 0 (hex (
    codes "504702080000000000000005030000000000000001"))
    (codes "switch 0 out of place")
    ∷ probe (node.Switch 0) 1 (hex (
    codes "504702010001000000000000000300000000000000000000026522"))
    (codes "switch 0 forwards read e" ++ (34 ∷ []) ++ codes " to server 0")
    ∷ probe node.Controller 0 (hex (
    codes "504701080000000000000006030000000000000001"))
    (codes "controller out of place")
    ∷ probe (node.Server 1) 0 (hex (
    codes "504702070000000000000004010125"))
    (codes "server 1 out of place")
    ∷ probe (node.Switch 0) 1 (hex (
    codes "504702050001000000000000000100000000000000020100016b00"))
    (codes "switch 0 answers client 1 seq 1 version 2 unlisted")
    ∷ probe node.Controller 0 (hex (
    codes "504702080000000000000006030000000000000001"))
    (codes "controller ignores")
    ∷ probe (node.Switch 0) 1 (hex (
    codes "504702010000000000000000000100000000000000000000026522"))
    (codes "switch 0 forwards read e" ++ (34 ∷ []) ++ codes " to server 0")
    ∷ probe (node.Switch 0) 0 (hex (
    codes "504702070000000000000005010125"))
    (codes "switch 0 skips 5 at 7")
    ∷ probe node.Controller 0 (hex (
    codes "504702080000000000000004030000000000000001"))
    (codes "controller ignores")
    ∷ probe (node.Switch 0) 0 (hex (
    codes "504701050001000000000000000100000000000000010100012500"))
    (codes "switch 0 out of place")
    ∷ probe (node.Server 1) 0 (hex (
    codes "504702010000000000000000000200000000000000000000026522"))
    (codes "server 1 out of place")
    ∷ probe node.Controller 0 (hex (
    codes "504702050000000000000000000300000000000000030100027a7a0100027632"))
    (codes "controller out of place")
    ∷ probe (node.Server 1) 1 (hex (
    codes "504702030000000000000000000300000000000000000100016b"))
    (codes "server 1 reads k version 0")
    ∷ probe (node.Server 1) 1 (hex (
    codes "504702030001000000000000000300000000000000000100026522"))
    (codes "server 1 reads e" ++ (34 ∷ []) ++ codes " version 3")
    ∷ probe node.Controller 0 (hex (
    codes "5047020200000000000000000002000000000000000000000265220100027631"))
    (codes "controller out of place")
    ∷ []

directed_two_answers :
    list_all (answers (run (start (rack_with Two 3 2 1 1 1 1) []) 2 directed_two_events).0)
    directed_two_probes
    ≡ true
unfolding
    digits servers_from servers_of spelling in_range packet_of state_bytes state_of server_step
    client_step controller_step switch_step happens run order_of said_text directed_two_probes
    directed_two_events
directed_two_answers = refl

-- after the run with promotions and demotions in turn, in format 1
cycles_one_probes : List Probe
cycles_one_probes =
    probe node.Controller 0 (hex (
    codes "50470107000000000000000306016b"))
    (codes "controller out of place")
    ∷ probe (node.Server 1) 1 (hex (
    codes "50470109000100016b"))
    (codes "server 1 copies k version 8 to server 0")
    ∷ probe (node.Switch 0) 0 (hex (
    codes "5047010700000000000000010201"))
    (codes "switch 0 malformed")
    ∷ probe (node.Switch 0) 0 (hex (
    codes "50470107000000000000000402016b"))
    (codes "switch 0 skips 4 at 11")
    ∷ probe (node.Switch 0) 0 (hex (
    codes "50470107000000000000000102016b"))
    (codes "switch 0 skips 1 at 11")
    ∷ probe (node.Switch 0) 0 (hex (
    codes "50470107000000000000000601016b"))
    (codes "switch 0 skips 6 at 11")
    ∷ probe node.Controller 0 (hex (
    codes "504701080000000000000004080000000000000000"))
    (codes "controller ignores")
    ∷ probe (node.Switch 0) 0 (hex (
    codes "50470108000000000000000b070000000000000000"))
    (codes "switch 0 out of place")
    ∷ probe node.Controller 0 (hex (
    codes "504701080000000000000002010000000000000001"))
    (codes "controller ignores")
    ∷ probe (node.Switch 0) 0 (hex (
    codes "50470107000000000000000202016b"))
    (codes "switch 0 skips 2 at 11")
    ∷ probe (node.Switch 0) 0 (hex (
    codes "5047020b01000000000000000801"))
    (codes "switch 0 malformed")
    ∷ probe (node.Switch 0) 1 (hex (
    codes "504701020000000000000000000300000000000000000000016b0100027633"))
    (codes "switch 0 forwards write k version 5 to server 1")
    ∷ probe node.Controller 0 (hex (
    codes "504701080000000000000002040000000000000001"))
    (codes "controller ignores")
    ∷ probe (node.Switch 0) 0 (hex (
    codes "5047010b000000000000000007016b"))
    (codes "switch 0 notes server 0 version 7 kept")
    ∷ probe (node.Server 0) 0 (hex (
    codes "504701080000000000000008040000000000000009"))
    (codes "server 0 out of place")
    ∷ probe (node.Switch 0) 1 (hex (
    codes "5047010600000000000000000003000000000000000501000161"))
    (codes "switch 0 answers client 0 seq 3 version 5 unlisted")
    ∷ probe (node.Switch 0) 0 (hex (
    codes "5047020700000000000000050300016b"))
    (codes "switch 0 out of place")
    ∷ probe (node.Switch 0) 0 (hex (
    codes "504701060000000000000000000200000000000000030103016b"))
    (codes "switch 0 out of place")
    ∷ probe node.Controller 0 (hex (
    codes "5047010800000000000000050800000000000000"))
    (codes "controller malformed")
    ∷ probe (node.Switch 0) 1 (hex (
    codes "504701060001000000000000000200000000000000060100016b"))
    (codes "switch 0 answers client 1 seq 2 version 6 kept")
    ∷ probe (node.Server 1) 1 (hex (
    codes "504701040001000000000000000300000000000000070100016b0100027635"))
    (codes "server 1 voids k version 7 under 8")
    ∷ probe (node.Switch 0) 0 (hex (
    codes "5047010b090000000000000008016b"))
    (codes "switch 0 out of place")
    ∷ probe (node.Switch 0) 0 (hex (
    codes "504701020001000000000000000200000000000000000000027a7a0100027634"))
    (codes "switch 0 stale 3")
    ∷ probe (node.Server 1) 1 (hex (
    codes "5047011000010000000000000009016b"))
    (codes "server 1 fences k version 9 from 8")
    ∷ probe (node.Server 1) 0 (hex (
    codes "504701020002000000000000000300000000000000000000016b0100027633"))
    (codes "server 1 out of place")
    ∷ probe (node.Switch 0) 0 (hex (
    codes "50470207000000000000000201016b"))
    (codes "switch 0 out of place")
    ∷ probe (node.Switch 0) 0 (hex (
    codes "504701060002000000000000000300000000000000050000016b"))
    (codes "switch 0 out of place")
    ∷ probe (node.Switch 0) 1 (hex (
    codes "504701020001000000000000000300000000000000000000016b0100027635"))
    (codes "switch 0 forwards write k version 9 to server 1")
    ∷ probe node.Controller 0 (hex (
    codes "504702080000000000000007010000000000000007"))
    (codes "controller out of place")
    ∷ probe (node.Switch 0) 1 (hex (
    codes "504701060000000000000000000300000000000000020100016b"))
    (codes "switch 0 answers client 0 seq 3 version 2 kept")
    ∷ probe (node.Client 1) 0 (hex (
    codes "504701060001000000000000000300000000000000010100016b"))
    (codes "client 1 answered 3 version 1")
    ∷ probe node.Controller 0 (hex (
    codes "504701020000000000000000000000000000000000000000016b01000276"))
    (codes "controller malformed")
    ∷ probe (node.Switch 0) 0 (hex (
    codes "504701020000000000000000000100000000000000000000016b0100027631"))
    (codes "switch 0 stale 3")
    ∷ probe (node.Server 1) 1 (hex (
    codes "504701040001000000000000000300000000000000070100016b0100027635"))
    (codes "server 1 voids k version 7 under 8")
    ∷ probe (node.Switch 0) 0 (hex (
    codes "504701020000000000000000000200000000000000000000016b0100027632"))
    (codes "switch 0 stale 3")
    ∷ probe (node.Switch 0) 0 (hex (
    codes "504702020000000000000000000000000000000000000000016b0100027631"))
    (codes "switch 0 malformed")
    ∷ probe (node.Switch 0) 1 (hex (
    codes "504701020001000000000000000500000000000000000000016b0100027635"))
    (codes "switch 0 forwards write k version 9 to server 1")
    ∷ probe (node.Server 1) 1 (hex (
    codes "504701040001000000000000000200000000000000060100016b0100027634"))
    (codes "server 1 keeps k version 8")
    ∷ probe (node.Switch 0) 1 (hex (
    codes "50470107000000000000000b0300027a7a"))
    (codes "switch 0 repeats 11")
    ∷ probe (node.Switch 0) 0 (hex (
    codes "5047020700000000000000060300016b"))
    (codes "switch 0 out of place")
    ∷ probe (node.Switch 0) 0 (hex (
    codes "504701020001000000000000000100000000000000000000016b0100027630"))
    (codes "switch 0 stale 3")
    ∷ probe (node.Switch 0) 0 (hex (
    codes "5047020b0100000000000000040161"))
    (codes "switch 0 out of place")
    ∷ []

cycles_one_answers :
    list_all
    (answers (run (start (rack_with One 2 2 1 1 2 1) ((codes "k") ∷ [])) 2 cycles_one_events).0)
    cycles_one_probes
    ≡ true
unfolding
    digits servers_from servers_of spelling in_range packet_of state_bytes state_of server_step
    client_step controller_step switch_step happens run order_of said_text cycles_one_probes
    cycles_one_events
cycles_one_answers = refl

-- after the run with packets that are delivered late, in format 2
deep_two_probes : List Probe
deep_two_probes =
    probe (node.Switch 1) 1 (hex (
    codes "504702070000000000000007020161"))
    (codes "switch 1 applies 7 already marked 5")
    ∷ probe (node.Server 1) 0 (hex (
    codes "504702040001000000000000000300000000000000000100016b0100027631"))
    (codes "server 1 malformed")
    ∷ probe (node.Switch 0) 0 (hex (
    codes "504702020001000000000000000100000000000000000000027a7a0100027631"))
    (codes "switch 0 not active epoch 1")
    ∷ probe (node.Switch 0) 0 (hex (
    codes "504702060002000000000000000200000000000000020100016b"))
    (codes "switch 0 not active epoch 1")
    ∷ probe (node.Server 1) 0 (hex (
    codes "5047020700000000000000060300016b"))
    (codes "server 1 out of place")
    ∷ probe (node.Switch 0) 0 (hex (
    codes "504702020000000000000000000100000000000000000000016b0100027633"))
    (codes "switch 0 not active epoch 1")
    ∷ probe node.Controller 0 (hex (
    codes "504702050002000000000000000000000000000000030100016b0100027633"))
    (codes "controller malformed")
    ∷ probe node.Controller 0 (hex (
    codes "504702080000000000000001050000000000000002"))
    (codes "controller malformed")
    ∷ probe (node.Switch 0) 0 (hex (
    codes "504702050002000000000000000100000000000000020100016b0100027633"))
    (codes "switch 0 not active epoch 1")
    ∷ probe (node.Switch 0) 0 (hex (
    codes "504701010003000000000000000100000000000000000000016b"))
    (codes "switch 0 out of place")
    ∷ probe (node.Switch 0) 0 (hex (
    codes "504702050002000000000000000100000000000000030100016b0100027633"))
    (codes "switch 0 not active epoch 1")
    ∷ probe (node.Switch 0) 0 (hex (
    codes "504702020001000000000000000100000000000000000000016b0100027631"))
    (codes "switch 0 not active epoch 1")
    ∷ probe (node.Switch 0) 0 (hex (
    codes "504702050003000000000000000200000000000000030100016b0100027633"))
    (codes "switch 0 out of place")
    ∷ probe (node.Switch 0) 0 (hex (
    codes "504702050002000000000000000100000000000000030900016b0100027633"))
    (codes "switch 0 out of place")
    ∷ probe (node.Server 1) 0 (hex (
    codes "504702090101000161"))
    (codes "server 1 has no a")
    ∷ probe (node.Switch 0) 0 (hex (
    codes "504702050002000000000000000100000000000000030100016b0100027633"))
    (codes "switch 0 not active epoch 1")
    ∷ probe (node.Switch 0) 0 (hex (
    codes "504702050002000000000000000100000000000000010100016b00"))
    (codes "switch 0 not active epoch 1")
    ∷ probe (node.Switch 1) 1 (hex (
    codes "5047020c000000000000000200010043000000000000000400000000000000020003000000000000"
    ++ codes "00010000000000000003000000000000000100000000000000010000000000000002000000000000"
    ++ codes "000200"))
    (codes "switch 1 repeats 6")
    ∷ probe node.Controller 0 (hex (
    codes "504702060002000000000000000200000000000000020100016b"))
    (codes "controller out of place")
    ∷ probe (node.Switch 1) 0 (hex (
    codes "5047010c000000000000000201010043000000000000000400000000000000020003000000000000"
    ++ codes "00010000000000000003000000000000000100000000000000010000000000000002000000000000"
    ++ codes "000200"))
    (codes "switch 1 malformed")
    ∷ probe (node.Switch 1) 0 (hex (
    codes "5047010c000000000000000100010043000000000000000400000000000000020003000000000000"
    ++ codes "00010000000000000003000000000000000100000000000000010000000000000002000000000000"
    ++ codes "000200"))
    (codes "switch 1 malformed")
    ∷ probe (node.Switch 0) 0 (hex (
    codes "504702050002000000000000000100000000000000050100016b0100027633"))
    (codes "switch 0 not active epoch 1")
    ∷ probe node.Controller 0 (hex (
    codes "5047020800000000000000020900000000000000"))
    (codes "controller malformed")
    ∷ probe (node.Switch 0) 0 (hex (
    codes "504702090301000161"))
    (codes "switch 0 out of place")
    ∷ probe (node.Server 0) 0 (hex (
    codes "504702050002000000000000000100000000000000030101016b0100027633"))
    (codes "server 0 out of place")
    ∷ probe (node.Switch 1) 0 (hex (
    codes "504702060002000000000000000200000000000000020102016b"))
    (codes "switch 1 out of place")
    ∷ probe node.Controller 0 (hex (
    codes "504702050002000000000000000100000000000000030200016b0100027633"))
    (codes "controller out of place")
    ∷ probe (node.Switch 0) 0 (hex (
    codes "504702020000000000000000000100000000000000000000016b0100027633"))
    (codes "switch 0 not active epoch 1")
    ∷ probe (node.Switch 0) 0 (hex (
    codes "504701050002000000000000000100000000000000030100016b0100027633"))
    (codes "switch 0 out of place")
    ∷ probe (node.Server 1) 0 (hex (
    codes "504702040001000000000000000100000000000000010102016b0100027631"))
    (codes "server 1 out of place")
    ∷ probe (node.Server 1) 0 (hex (
    codes "504702070000000000000001020161"))
    (codes "server 1 out of place")
    ∷ probe (node.Server 0) 0 (hex (
    codes "504702080000000000000005070000000000000001"))
    (codes "server 0 out of place")
    ∷ probe (node.Switch 0) 0 (hex (
    codes "504702050002000000000000000000000000000000030100016b0100027633"))
    (codes "switch 0 malformed")
    ∷ probe node.Controller 0 (hex (
    codes "504702020001000000000000000100000000000000000000016b0100027631"))
    (codes "controller out of place")
    ∷ probe node.Controller 0 (hex (
    codes "504702080000000000000002050000000000000001"))
    (codes "controller malformed")
    ∷ probe (node.Switch 0) 0 (hex (
    codes "504702020002000000000000000200000000000000000000027a7a00"))
    (codes "switch 0 not active epoch 1")
    ∷ probe (node.Switch 1) 0 (hex (
    codes "504701070000000000000007020161"))
    (codes "switch 1 out of place")
    ∷ []

deep_two_answers :
    list_all (answers (run (start (rack_with Two 2 3 2 1 3 1) []) 2 deep_two_events).0)
    deep_two_probes
    ≡ true
unfolding
    digits servers_from servers_of spelling in_range packet_of state_bytes state_of server_step
    client_step controller_step switch_step happens run order_of said_text deep_two_probes
    deep_two_events
deep_two_answers = refl

-- after the run with handovers, in format 1
handovers_one_probes : List Probe
handovers_one_probes =
    probe (node.Server 2) 0 (hex (
    codes "50470107000000000000000202027a7a"))
    (codes "server 2 out of place")
    ∷ probe (node.Server 1) 0 (hex (
    codes "50470110030100000000000000052064646464646464646464646464646464646464646464646464"
    ++ codes "64646464646464"))
    (codes "server 1 out of place")
    ∷ probe (node.Switch 2) 0 (hex (
    codes "50470105000200000000000000000000000000000003010220646464646464646464646464646464"
    ++ codes "64646464646464646464646464646464640100027634"))
    (codes "switch 2 malformed")
    ∷ probe (node.Server 1) 1 (hex (
    codes "50470104000100000000000000010000000000000002010020646464646464646464646464646464"
    ++ codes "64646464646464646464646464646464640100027631"))
    (codes "server 1 keeps " ++ replicate 32 100 ++ codes " version 4")
    ∷ probe (node.Switch 2) 1 (hex (
    codes "50470101000100000000000000050000000000000000000020646464646464646464646464646464"
    ++ codes "6464646464646464646464646464646464"))
    (codes "switch 2 forwards read " ++ replicate 32 100 ++ codes " to server 1")
    ∷ probe (node.Switch 1) 0 (hex (
    codes "5047010b010000000000000002206464646464646464646464646464646464646464646464646464"
    ++ codes "646464646464"))
    (codes "switch 1 not active epoch 0")
    ∷ probe (node.Switch 0) 0 (hex (
    codes "504701080000000000000002050000000000000001"))
    (codes "switch 0 malformed")
    ∷ probe (node.Switch 2) 1 (hex (
    codes "5047010c000000000000000200010043000000000000000300000000000000030003000000000000"
    ++ codes "00010000000000000001000000000000000100000000000000020000000000000000000000000000"
    ++ codes "000000"))
    (codes "switch 2 repeats 8")
    ∷ probe (node.Switch 1) 0 (hex (
    codes "50470206000100000000000000010000000000000002090020646464646464646464646464646464"
    ++ codes "6464646464646464646464646464646464"))
    (codes "switch 1 out of place")
    ∷ probe node.Controller 0 (hex (
    codes "50470103000200000000000000010000000000000000010120646464646464646464646464646464"
    ++ codes "6464646464646464646464646464646464"))
    (codes "controller out of place")
    ∷ probe (node.Switch 1) 0 (hex (
    codes "5047020d000000000000000300"))
    (codes "switch 1 out of place")
    ∷ probe node.Controller 0 (hex (
    codes "504702080000000000000006050000000000000000"))
    (codes "controller out of place")
    ∷ probe (node.Server 2) 0 (hex (
    codes "50470101000300000000000000010000000000000000000020646464646464646464646464646464"
    ++ codes "6464646464646464646464646464646464"))
    (codes "server 2 out of place")
    ∷ probe node.Controller 0 (hex (
    codes "50470107000000000000000701027a7a"))
    (codes "controller out of place")
    ∷ probe (node.Switch 1) 0 (hex (
    codes "5047010d000000000000000201"))
    (codes "switch 1 out of place")
    ∷ probe (node.Server 1) 1 (hex (
    codes "50470104000200000000000000010000000000000001010020646464646464646464646464646464"
    ++ codes "64646464646464646464646464646464640100027630"))
    (codes "server 1 keeps " ++ replicate 32 100 ++ codes " version 4")
    ∷ probe (node.Server 2) 0 (hex (
    codes "5047010d000000000000000203"))
    (codes "server 2 out of place")
    ∷ probe node.Controller 0 (hex (
    codes "504701080000000000000002050000000000000002"))
    (codes "controller malformed")
    ∷ probe (node.Switch 0) 0 (hex (
    codes "5047020100020000000000000001000000000000000000000161"))
    (codes "switch 0 out of place")
    ∷ probe (node.Switch 0) 0 (hex (
    codes "50470101000200000000000000020000000000000000000020646464646464646464646464646464"
    ++ codes "6464646464646464646464646464646464"))
    (codes "switch 0 not active epoch 1")
    ∷ probe (node.Client 2) 0 (hex (
    codes "5047010d000000000000000302"))
    (codes "client 2 moves to switch 2 epoch 3")
    ∷ probe (node.Server 1) 0 (hex (
    codes "504701010001000000000000000300000000000000000000016b"))
    (codes "server 1 out of place")
    ∷ probe (node.Client 0) 0 (hex (
    codes "5047010d000000000000000302"))
    (codes "client 0 moves to switch 2 epoch 3")
    ∷ probe (node.Switch 0) 0 (hex (
    codes "50470201000200000000000000030000000000000000000020646464646464646464646464646464"
    ++ codes "6464646464646464646464646464646464"))
    (codes "switch 0 out of place")
    ∷ probe node.Controller 0 (hex (
    codes "504701080000000000000004050000000000000001"))
    (codes "controller malformed")
    ∷ probe (node.Server 1) 1 (hex (
    codes "5047010300010000000000000003000000000000000001020161"))
    (codes "server 1 reads a version 0")
    ∷ probe (node.Server 0) 0 (hex (
    codes "504702080000000000000004050000000000000002"))
    (codes "server 0 malformed")
    ∷ probe node.Controller 0 (hex (
    codes "504702080000000000000007010000000000000007"))
    (codes "controller out of place")
    ∷ probe (node.Server 1) 1 (hex (
    codes "50470103000200000000000000030000000000000000010220646464646464646464646464646464"
    ++ codes "6464646464646464646464646464646464"))
    (codes "server 1 reads " ++ replicate 32 100 ++ codes " version 4")
    ∷ probe node.Controller 0 (hex (
    codes "50470101000200000000000000030000000000000000000020646464646464646464646464646464"
    ++ codes "6464646464646464646464646464646464"))
    (codes "controller out of place")
    ∷ probe (node.Server 1) 0 (hex (
    codes "50470110030100000000000000042064646464646464646464646464646464646464646464646464"
    ++ codes "646464646464"))
    (codes "server 1 malformed")
    ∷ probe (node.Switch 2) 1 (hex (
    codes "5047010c000000000000000200010043000000000000000300000000000000030003000000000000"
    ++ codes "00010000000000000001000000000000000100000000000000020000000000000000000000000000"
    ++ codes "000000"))
    (codes "switch 2 repeats 8")
    ∷ probe (node.Server 2) 0 (hex (
    codes "504702080000000000000002050000000000000000"))
    (codes "server 2 out of place")
    ∷ probe node.Controller 0 (hex (
    codes "50470107000000000000000304020000000000000002"))
    (codes "controller out of place")
    ∷ probe (node.Server 1) 0 (hex (
    codes "50470104000100000000000000020000000000000003000220646464646464646464646464646464"
    ++ codes "64646464646464646464646464646464640100027634"))
    (codes "server 1 out of place")
    ∷ probe node.Controller 0 (hex (
    codes "504701080000000000000008050000000000000000"))
    (codes "controller takes 8 not listed")
    ∷ probe node.Controller 0 (hex (
    codes "504701080000000000000006050000000000000001"))
    (codes "controller malformed")
    ∷ probe (node.Switch 0) 0 (hex (
    codes "50470107000000000000000304030000000000000002"))
    (codes "switch 0 out of place")
    ∷ probe (node.Server 1) 0 (hex (
    codes "50470204000100000000000000000000000000000003010020646464646464646464646464646464"
    ++ codes "64646464646464646464646464646464640100027631"))
    (codes "server 1 malformed")
    ∷ []

handovers_one_answers :
    list_all (answers (run (start (rack_with One 3 3 3 1 3 1) []) 2 handovers_one_events).0)
    handovers_one_probes
    ≡ true
unfolding
    digits servers_from servers_of spelling in_range packet_of state_bytes state_of server_step
    client_step controller_step switch_step happens run order_of said_text handovers_one_probes
    handovers_one_events
handovers_one_answers = refl

-- after the run with copies, in format 2
copies_two_probes : List Probe
copies_two_probes =
    probe (node.Switch 0) 0 (hex (
    codes "504702020001000000000000000100000000000000000000016b0100027632"))
    (codes "switch 0 stale 2")
    ∷ probe (node.Server 0) 1 (hex (
    codes "50470204000000000000000000010000000000000002000020646464646464646464646464646464"
    ++ codes "64646464646464646464646464646464640100027630"))
    (codes "server 0 voids " ++ replicate 32 100 ++ codes " version 2 under 2")
    ∷ probe (node.Switch 0) 1 (hex (
    codes "50470202000100000000000000020000000000000000000020646464646464646464646464646464"
    ++ codes "64646464646464646464646464646464640100027634"))
    (codes "switch 0 forwards write " ++ replicate 32 100 ++ codes " version 5 to server 0")
    ∷ probe node.Controller 0 (hex (
    codes "5047020800000000000000030700000000000000"))
    (codes "controller malformed")
    ∷ probe (node.Switch 0) 0 (hex (
    codes "5047020b000000000000000001027a7a"))
    (codes "switch 0 notes server 0 version 1 unlisted")
    ∷ probe (node.Switch 0) 0 (hex (
    codes "5047020b0100000000000000020161"))
    (codes "switch 0 notes server 1 version 2 unlisted")
    ∷ probe (node.Switch 0) 0 (hex (
    codes "5047020b0100000000000000040161"))
    (codes "switch 0 notes server 1 version 4 unlisted")
    ∷ probe (node.Switch 0) 0 (hex (
    codes "5047020b020000000000000002206464646464646464646464646464646464646464646464646464"
    ++ codes "646464646464"))
    (codes "switch 0 out of place")
    ∷ probe (node.Switch 0) 1 (hex (
    codes "504702020000000000000000000300000000000000000000016100"))
    (codes "switch 0 forwards write a version 4 to server 1")
    ∷ probe (node.Server 0) 1 (hex (
    codes "50470204000000000000000000010000000000000001000020646464646464646464646464646464"
    ++ codes "64646464646464646464646464646464640100027630"))
    (codes "server 0 keeps " ++ replicate 32 100 ++ codes " version 4")
    ∷ probe (node.Switch 0) 0 (hex (
    codes "5047020b000000000000000002027a7a"))
    (codes "switch 0 notes server 0 version 2 unlisted")
    ∷ probe (node.Switch 0) 0 (hex (
    codes "5047020b010000000000000002206464646464646464646464646464646464646464646464646464"
    ++ codes "646464646464"))
    (codes "switch 0 notes server 1 version 2 kept")
    ∷ probe (node.Switch 0) 0 (hex (
    codes "5047020b000000000000000002206464646464646464646464646464646464646464646464646464"
    ++ codes "646464646464"))
    (codes "switch 0 notes server 0 version 2 kept")
    ∷ probe node.Controller 0 (hex (
    codes "50470201000100000000000000040000000000000000000020646464646464646464646464646464"
    ++ codes "6464646464646464646464646464646464"))
    (codes "controller out of place")
    ∷ probe (node.Switch 0) 0 (hex (
    codes "50470102000100000000000000020000000000000000000020646464646464646464646464646464"
    ++ codes "64646464646464646464646464646464640100027634"))
    (codes "switch 0 out of place")
    ∷ probe (node.Switch 0) 1 (hex (
    codes "5047020100000000000000000002000000000000000000000161"))
    (codes "switch 0 forwards read a to server 1")
    ∷ probe (node.Switch 0) 0 (hex (
    codes "5047020b000000000000000002027a7a"))
    (codes "switch 0 notes server 0 version 2 unlisted")
    ∷ probe (node.Switch 0) 0 (hex (
    codes "50470205000000000000000000020000000000000002000220646464646464646464646464646464"
    ++ codes "64646464646464646464646464646464640100027630"))
    (codes "switch 0 out of place")
    ∷ probe (node.Switch 0) 0 (hex (
    codes "5047020b000000000000000002206464646464646464646464646464646464646464646464646464"
    ++ codes "646464646464"))
    (codes "switch 0 notes server 0 version 2 kept")
    ∷ probe node.Controller 0 (hex (
    codes "504701090000010161"))
    (codes "controller out of place")
    ∷ probe (node.Switch 0) 0 (hex (
    codes "5047020b090000000000000003206464646464646464646464646464646464646464646464646464"
    ++ codes "646464646464"))
    (codes "switch 0 out of place")
    ∷ probe (node.Switch 0) 1 (hex (
    codes "50470207000000000000000506206464646464646464646464646464646464646464646464646464"
    ++ codes "646464646464"))
    (codes "switch 0 repeats 5")
    ∷ probe (node.Switch 0) 0 (hex (
    codes "5047010b010000000000000002206464646464646464646464646464646464646464646464646464"
    ++ codes "646464646464"))
    (codes "switch 0 out of place")
    ∷ probe (node.Server 1) 1 (hex (
    codes "50470204000100000000000000010000000000000005010020646464646464646464646464646464"
    ++ codes "64646464646464646464646464646464640100027634"))
    (codes "server 1 keeps " ++ replicate 32 100 ++ codes " version 5")
    ∷ probe (node.Server 0) 0 (hex (
    codes "504701080000000000000001010000000000000001"))
    (codes "server 0 out of place")
    ∷ probe (node.Server 1) 0 (hex (
    codes "5047020b020000000000000002206464646464646464646464646464646464646464646464646464"
    ++ codes "6464646464"))
    (codes "server 1 malformed")
    ∷ probe (node.Switch 0) 1 (hex (
    codes "50470201000100000000000000020000000000000000000020646464646464646464646464646464"
    ++ codes "6464646464646464646464646464646464"))
    (codes "switch 0 forwards read " ++ replicate 32 100 ++ codes " to server 1")
    ∷ probe (node.Server 0) 1 (hex (
    codes "50470204000000000000000000030000000000000004000020646464646464646464646464646464"
    ++ codes "646464646464646464646464646464646400"))
    (codes "server 0 keeps " ++ replicate 32 100 ++ codes " version 4")
    ∷ probe (node.Switch 0) 0 (hex (
    codes "5047010b000000000000000002206464646464646464646464646464646464646464646464646464"
    ++ codes "646464646464"))
    (codes "switch 0 out of place")
    ∷ []

copies_two_answers :
    list_all (answers (run (start (rack_with Two 2 2 1 1 2 1) []) 2 copies_two_events).0)
    copies_two_probes
    ≡ true
unfolding
    digits servers_from servers_of spelling in_range packet_of state_bytes state_of server_step
    client_step controller_step switch_step happens run order_of said_text copies_two_probes
    copies_two_events
copies_two_answers = refl

-- after the run with packets that come again, in format 1
repeats_one_probes : List Probe
repeats_one_probes =
    probe (node.Server 1) 0 (hex (
    codes "50470207000000000000000402016b"))
    (codes "server 1 out of place")
    ∷ probe node.Controller 0 (hex (
    codes "504702080000000000000001010000000000000001"))
    (codes "controller out of place")
    ∷ probe (node.Switch 0) 1 (hex (
    codes "504701020002000000000000000100000000000000000000016b0100027632"))
    (codes "switch 0 forwards write k version 3 to server 2")
    ∷ probe (node.Switch 0) 1 (hex (
    codes "50470107000000000000000402016b"))
    (codes "switch 0 repeats 4")
    ∷ probe (node.Switch 0) 1 (hex (
    codes "504701020000000000000000000100000000000000000000016b0100027631"))
    (codes "switch 0 forwards write k version 2 to server 2")
    ∷ probe (node.Server 1) 1 (hex (
    codes "5047010300000000000000000004000000000000000001000125"))
    (codes "server 1 reads %25 version 2")
    ∷ probe node.Controller 0 (hex (
    codes "504701020002000000000000000300000000000000000000016b0100027632"))
    (codes "controller out of place")
    ∷ probe (node.Switch 0) 1 (hex (
    codes "504701020002000000000000000100000000000000000000016b0100027632"))
    (codes "switch 0 forwards write k version 3 to server 2")
    ∷ probe node.Controller 0 (hex (
    codes "504702080000000000000001010000000000000000"))
    (codes "controller out of place")
    ∷ probe (node.Switch 0) 1 (hex (
    codes "504701010001000000000000000100000000000000000000027a7a"))
    (codes "switch 0 forwards read zz to server 1")
    ∷ probe (node.Server 2) 0 (hex (
    codes "504701050001000000000000000100000000000000040200016b00"))
    (codes "server 2 out of place")
    ∷ probe (node.Server 2) 0 (hex (
    codes "504702040002000000000000000100000000000000050200016b0100027632"))
    (codes "server 2 out of place")
    ∷ probe (node.Switch 0) 1 (hex (
    codes "5047010100000000000000000002000000000000000000000161"))
    (codes "switch 0 forwards read a to server 1")
    ∷ probe (node.Server 1) 0 (hex (
    codes "50470104000000000000000000010000000000000002090001250100027631"))
    (codes "server 1 out of place")
    ∷ probe (node.Switch 0) 1 (hex (
    codes "504701020002000000000000000100000000000000000000016b0100027632"))
    (codes "switch 0 forwards write k version 3 to server 2")
    ∷ probe (node.Server 2) 0 (hex (
    codes "504701020002000000000000000100000000000000000000016b0100027632"))
    (codes "server 2 out of place")
    ∷ probe (node.Server 2) 1 (hex (
    codes "5047010a00020000000000000002016b0100027631"))
    (codes "server 2 keeps k version 3")
    ∷ probe node.Controller 0 (hex (
    codes "504702080000000000000002040000000000000002"))
    (codes "controller out of place")
    ∷ probe (node.Server 2) 1 (hex (
    codes "504701040002000000000000000300000000000000030201016b0100027632"))
    (codes "server 2 keeps k version 3")
    ∷ probe (node.Switch 0) 1 (hex (
    codes "504701010001000000000000000300000000000000000000016b"))
    (codes "switch 0 forwards read k to server 2")
    ∷ probe (node.Server 1) 0 (hex (
    codes "5047020300000000000000000002000000000000000001000125"))
    (codes "server 1 out of place")
    ∷ probe node.Controller 0 (hex (
    codes "504702080000000000000003010000000000000001"))
    (codes "controller out of place")
    ∷ probe node.Controller 0 (hex (
    codes "504701040002000000000000000100000000000000030200027a7a0100027632"))
    (codes "controller out of place")
    ∷ probe (node.Server 1) 0 (hex (
    codes "504701090000020125"))
    (codes "server 1 out of place")
    ∷ probe (node.Switch 0) 1 (hex (
    codes "50470107000000000000000402016b"))
    (codes "switch 0 repeats 4")
    ∷ probe (node.Server 2) 0 (hex (
    codes "50470107000000000000000303020125"))
    (codes "server 2 out of place")
    ∷ probe (node.Server 2) 0 (hex (
    codes "50470204000200000000000000010000000000000003020001610100027632"))
    (codes "server 2 out of place")
    ∷ probe node.Controller 0 (hex (
    codes "504702080000000000000001010000000000000003"))
    (codes "controller out of place")
    ∷ probe (node.Server 1) 1 (hex (
    codes "50470104000000000000000000010000000000000002010001250100027631"))
    (codes "server 1 keeps %25 version 2")
    ∷ []

repeats_one_answers :
    list_all (answers (run (start (rack_with One 3 3 2 1 1 1) []) 2 repeats_one_events).0)
    repeats_one_probes
    ≡ true
unfolding
    digits servers_from servers_of spelling in_range packet_of state_bytes state_of server_step
    client_step controller_step switch_step happens run order_of said_text repeats_one_probes
    repeats_one_events
repeats_one_answers = refl

-- after the run with requests sent again, in format 2
resends_two_probes : List Probe
resends_two_probes =
    probe (node.Server 1) 1 (hex (
    codes "504702040001000000000000000300000000000000040100027a7a0100027635"))
    (codes "server 1 applies zz version 4")
    ∷ probe (node.Client 0) 0 (hex (
    codes "50470205000000000000000000020000000000000003010220646464646464646464646464646464"
    ++ codes "646464646464646464646464646464646400"))
    (codes "client 0 answered 2 version 3 -")
    ∷ probe (node.Server 1) 1 (hex (
    codes "504702030000000000000000000200000000000000000100027a7a"))
    (codes "server 1 reads zz version 0")
    ∷ probe node.Controller 0 (hex (
    codes "504702060002000000000000000100000000000000010100027a7a"))
    (codes "controller out of place")
    ∷ probe (node.Server 1) 0 (hex (
    codes "50470203000000000000000000020000000000000000010301"))
    (codes "server 1 malformed")
    ∷ probe (node.Switch 0) 0 (hex (
    codes "50470202000100000000000000020000000000000000000020646464646464646464646464646464"
    ++ codes "64646464646464646464646464646464640100027635"))
    (codes "switch 0 stale 3")
    ∷ probe (node.Server 1) 1 (hex (
    codes "50470204000000000000000000010000000000000003010020646464646464646464646464646464"
    ++ codes "646464646464646464646464646464646400"))
    (codes "server 1 keeps " ++ replicate 32 100 ++ codes " version 3")
    ∷ probe (node.Server 1) 0 (hex (
    codes "504701040000000000000000000100000000000000030100016b00"))
    (codes "server 1 malformed")
    ∷ probe (node.Server 1) 1 (hex (
    codes "50470203000000000000000000020000000000000000010120646464646464646464646464646464"
    ++ codes "6464646464646464646464646464646464"))
    (codes "server 1 reads " ++ replicate 32 100 ++ codes " version 3")
    ∷ []

resends_two_answers :
    list_all (answers (run (start (rack_with Two 3 3 2 1 1 1) []) 2 resends_two_events).0)
    resends_two_probes
    ≡ true
unfolding
    digits servers_from servers_of spelling in_range packet_of state_bytes state_of server_step
    client_step controller_step switch_step happens run order_of said_text resends_two_probes
    resends_two_events
resends_two_answers = refl

-- after the run with reports and plans, in format 1
plans_one_probes : List Probe
plans_one_probes =
    probe (node.Switch 0) 0 (hex (
    codes "5047010200020000000000000002000000000000000000000300207a0100027632"))
    (codes "switch 0 stale 4")
    ∷ probe node.Controller 0 (hex (
    codes "5047010400010000000000000001000000000000000300000300207a0100027631"))
    (codes "controller out of place")
    ∷ probe node.Controller 0 (hex (
    codes "504702080000000000000005020000000000000001"))
    (codes "controller out of place")
    ∷ probe (node.Switch 0) 0 (hex (
    codes "5047010200020000000000000003000000000000000000000300207a0100027634"))
    (codes "switch 0 stale 4")
    ∷ probe node.Controller 0 (hex (
    codes "504702080000000000000002040000000000000004"))
    (codes "controller out of place")
    ∷ probe node.Controller 0 (hex (
    codes "5047010200010000000000000001000000000000000000000300207a0100027631"))
    (codes "controller out of place")
    ∷ probe node.Controller 0 (hex (
    codes "504701040001000000000000000300000000000000030000016b0100027631"))
    (codes "controller out of place")
    ∷ probe (node.Client 1) 0 (hex (
    codes "5047010600010000000000000001000000000000000300000300207a"))
    (codes "client 1 answered 1 version 3")
    ∷ probe node.Controller 0 (hex (
    codes "5047010400010000000000000001000000000000000301000300207a0100027631"))
    (codes "controller out of place")
    ∷ probe node.Controller 0 (hex (
    codes "5047010f00000000000000010000000000000005010300207a000000000000000500000000000000"
    ++ codes "00"))
    (codes "controller has report of 1 rows")
    ∷ probe (node.Server 0) 1 (hex (
    codes "504701040001000000000000000100000000000000030000027a7a0100027631"))
    (codes "server 0 applies zz version 3")
    ∷ probe node.Controller 0 (hex (
    codes "5047020400010000000000000001000000000000000200000300207a0100027631"))
    (codes "controller out of place")
    ∷ probe (node.Switch 0) 1 (hex (
    codes "5047010e"))
    (codes "switch 0 reports 1 rows")
    ∷ probe (node.Switch 0) 0 (hex (
    codes "504701020002000000000000000200000000000000000000027a7a0100027632"))
    (codes "switch 0 stale 4")
    ∷ probe node.Controller 0 (hex (
    codes "5047010200020000000000000006000000000000000000000300207a0100027635"))
    (codes "controller out of place")
    ∷ probe node.Controller 0 (hex (
    codes "5047010f00000000000000010000000000000003010300207a000000000000000300000000000000"
    ++ codes "00"))
    (codes "controller has report of 1 rows")
    ∷ []

plans_one_answers :
    list_all (answers (run (start (rack_with One 2 3 2 1 2 1) []) 2 plans_one_events).0)
    plans_one_probes
    ≡ true
unfolding
    digits servers_from servers_of spelling in_range packet_of state_bytes state_of server_step
    client_step controller_step switch_step happens run order_of said_text plans_one_probes
    plans_one_events
plans_one_answers = refl

-- after the run with a write that is barred, in format 1
barred_one_probes : List Probe
barred_one_probes =
    probe (node.Switch 0) 0 (hex (
    codes "5047010200010000000000000001000000000000000000000265220100027632"))
    (codes "switch 0 stale 3")
    ∷ probe (node.Switch 0) 0 (hex (
    codes "5047010200020000000000000001000000000000000000000265220100027630"))
    (codes "switch 0 stale 6")
    ∷ probe (node.Switch 0) 0 (hex (
    codes "504701020001000000000000000200000000000000000000026522010003763130"))
    (codes "switch 0 stale 3")
    ∷ probe node.Controller 0 (hex (
    codes "5047010400010000000000000003000000000000000c0200026522010003763130"))
    (codes "controller out of place")
    ∷ probe (node.Server 0) 0 (hex (
    codes "504701040000000000000000000100000000000000020000027a7a01000276"))
    (codes "server 0 malformed")
    ∷ probe (node.Server 0) 0 (hex (
    codes "5047010400020000000000000004000000000000000300000265220100027633"))
    (codes "server 0 bars e" ++ (34 ∷ []) ++ codes " version 3 under 6")
    ∷ probe node.Controller 0 (hex (
    codes "504702040002000000000000000200000000000000030200027a7a0100027633"))
    (codes "controller out of place")
    ∷ probe (node.Switch 0) 1 (hex (
    codes "50470107000000000000000706026522"))
    (codes "switch 0 repeats 7")
    ∷ probe (node.Switch 0) 1 (hex (
    codes "50470107000000000000000706026522"))
    (codes "switch 0 repeats 7")
    ∷ probe node.Controller 0 (hex (
    codes "504702080000000000000005040000000000000009"))
    (codes "controller out of place")
    ∷ probe (node.Server 0) 1 (hex (
    codes "50470109000001026522"))
    (codes "server 0 copies e" ++ (34 ∷ []) ++ codes " version 9 to server 1")
    ∷ probe node.Controller 0 (hex (
    codes "5047020600000000000000000002000000000000000a0900026522"))
    (codes "controller out of place")
    ∷ []

barred_one_answers :
    list_all
    (answers (run (start (rack_with One 3 3 1 1 2 1)
    ((101 ∷ 34 ∷ []) ∷ [])) 2 barred_one_events).0)
    barred_one_probes
    ≡ true
unfolding
    digits servers_from servers_of spelling in_range packet_of state_bytes state_of server_step
    client_step controller_step switch_step happens run order_of said_text barred_one_probes
    barred_one_events
barred_one_answers = refl

-- after the run with another write that is barred, in format 2
barred_again_two_probes : List Probe
barred_again_two_probes =
    probe (node.Server 0) 0 (hex (
    codes "504702100002000000000000000201"))
    (codes "server 0 malformed")
    ∷ probe node.Controller 0 (hex (
    codes "504701040001000000000000000100000000000000060100016b0100027635"))
    (codes "controller out of place")
    ∷ probe (node.Server 1) 1 (hex (
    codes "504702030000000000000000000700000000000000000100016b"))
    (codes "server 1 reads k version 6")
    ∷ probe (node.Switch 0) 1 (hex (
    codes "50470207000000000000000701016b"))
    (codes "switch 0 repeats 7")
    ∷ probe node.Controller 0 (hex (
    codes "504702040000000000000000000600000000000000080003016b0100027636"))
    (codes "controller out of place")
    ∷ probe (node.Switch 0) 0 (hex (
    codes "5047020b010000000000000005016b"))
    (codes "switch 0 notes server 1 version 5 kept")
    ∷ probe (node.Server 0) 1 (hex (
    codes "504702040000000000000000000900000000000000080000016b0100027636"))
    (codes "server 0 applies k version 8")
    ∷ probe (node.Switch 0) 0 (hex (
    codes "5047020b010000000000000002016b"))
    (codes "switch 0 notes server 1 version 2 kept")
    ∷ probe (node.Server 1) 1 (hex (
    codes "504702030000000000000000000600000000000000000100016b"))
    (codes "server 1 reads k version 6")
    ∷ probe (node.Server 1) 1 (hex (
    codes "504702040001000000000000000100000000000000050100016b0100027635"))
    (codes "server 1 voids k version 5 under 5")
    ∷ probe (node.Server 0) 1 (hex (
    codes "504702040000000000000000000500000000000000080000016b0100027636"))
    (codes "server 0 applies k version 8")
    ∷ []

barred_again_two_answers :
    list_all (answers (run (start (rack_with Two 2 2 1 1 2 1) []) 2 barred_again_two_events).0)
    barred_again_two_probes
    ≡ true
unfolding
    digits servers_from servers_of spelling in_range packet_of state_bytes state_of server_step
    client_step controller_step switch_step happens run order_of said_text barred_again_two_probes
    barred_again_two_events
barred_again_two_answers = refl

-- after the run with a part that is held already, in format 2
part_again_two_probes : List Probe
part_again_two_probes =
    probe node.Controller 0 (hex (
    codes "504702080000000000000007090000000000000006"))
    (codes "controller out of place")
    ∷ probe (node.Switch 2) 1 (hex (
    codes "50470207000000000000000404010000000000000005"))
    (codes "switch 2 repeats 4")
    ∷ probe (node.Switch 1) 2 (hex (
    codes "50470207000000000000000704000000000000000004"))
    (codes "switch 1 repeats 7")
    ∷ probe (node.Server 1) 1 (hex (
    codes "50470210010100000000000000042078787878787878787878787878787878787878787878787878"
    ++ codes "78787878787847"))
    (codes "server 1 fences xxxxxxxxxxxxxxxxxxxxxxxxxxxxxxxG version 4 from 2")
    ∷ probe (node.Switch 0) 1 (hex (
    codes "5047020c000000000000000401020032787878787878787878450000000000000006000000000000"
    ++ codes "0003000000000000000300000000000000020000000000000000"))
    (codes "switch 0 repeats 7")
    ∷ probe (node.Switch 1) 0 (hex (
    codes "5047020c000000000000000401020032787878787878787878450000000000000006000000000000"
    ++ codes "0003000000000000000300000000000000020000000000000000"))
    (codes "switch 1 collects 1 of 2")
    ∷ probe (node.Switch 1) 0 (hex (
    codes "5047020c0000000000000003000101e9000000000000000300000000000000040002000000000000"
    ++ codes "00000000000000000000000000000000000100000000000000010620787878787878787878787878"
    ++ codes "78787878787878787878787878787878787878410000000000000000000000000000000000000000"
    ++ codes "00000000000000000000000200000000000000002078787878787878787878787878787878787878"
    ++ codes "78787878787878787878787842000000000000000000000000000000000000000000000000000000"
    ++ codes "00000000010000000000000000207878787878787878787878787878787878787878787878787878"
    ++ codes "78787878784300000000000000000000000000000000000000000000000000000000000000020000"
    ++ codes "00000000000020787878787878787878787878787878787878787878787878787878787878784400"
    ++ codes "00000000000000000000000000000000000000000000000000000000000001000000000000000020"
    ++ codes "78787878787878787878787878787878787878787878787878787878787878460000000000000000"
    ++ codes "00000000000000000000000000000000000000000000000100000000000000002078787878787878"
    ++ codes "78787878787878787878787878787878787878787878787847000000000000000200000000000000"
    ++ codes "02000000000000000200000000000000020000000000000000"))
    (codes "switch 1 old part of epoch 3")
    ∷ probe (node.Switch 1) 0 (hex (
    codes "5047020c0000000000000003010201e9000000000000000300000000000000040002000000000000"
    ++ codes "00000000000000000000000000000000000100000000000000010620787878787878787878787878"
    ++ codes "78787878787878787878787878787878787878410000000000000000000000000000000000000000"
    ++ codes "00000000000000000000000200000000000000002078787878787878787878787878787878787878"
    ++ codes "78787878787878787878787842000000000000000000000000000000000000000000000000000000"
    ++ codes "00000000010000000000000000207878787878787878787878787878787878787878787878787878"
    ++ codes "78787878784300000000000000000000000000000000000000000000000000000000000000020000"
    ++ codes "00000000000020787878787878787878787878787878787878787878787878787878787878784400"
    ++ codes "00000000000000000000000000000000000000000000000000000000000001000000000000000020"
    ++ codes "78787878787878787878787878787878787878787878787878787878787878460000000000000000"
    ++ codes "00000000000000000000000000000000000000000000000100000000000000002078787878787878"
    ++ codes "78787878787878787878787878787878787878787878787847000000000000000200000000000000"
    ++ codes "02000000000000000200000000000000020000000000000000"))
    (codes "switch 1 old part of epoch 3")
    ∷ []

part_again_two_answers :
    list_all
    (answers (run (start (rack_with Two 2 2 3 8 2 1) (
    (long_key 65) ∷ (long_key 66) ∷ (long_key 67) ∷ (long_key 68) ∷ (long_key 69)
    ∷ (long_key 70) ∷ [])) 2 part_again_two_events).0)
    part_again_two_probes
    ≡ true
unfolding
    digits servers_from servers_of spelling in_range packet_of state_bytes state_of server_step
    client_step controller_step switch_step happens run order_of said_text part_again_two_probes
    part_again_two_events
part_again_two_answers = refl
