-- Made workloads. An independent model gave the summary of each.
use Rattle.std.specs.Prelude.{◌≡◌, ℕ, List, [], ◌∷◌, ◌+◌, refl, codes}
use Rattle.std.specs.Fmt.{digits}
use Rattle.peg_name.specs.Holders.{servers_from, servers_of}
use Rattle.peg_model.specs.Packet.{in_range, spelling}
use Rattle.peg_model.specs.Reading.{packet_of}
use Rattle.peg_model.specs.Handover.{state_bytes, state_of}
use Rattle.peg_model.specs.Server.{server_step}
use Rattle.peg_model.specs.Client.{client_step}
use Rattle.peg_model.specs.Controller.{controller_step}
use Rattle.peg_model.specs.Switch.{switch_step}
use Rattle.peg_model.specs.World.{happens}
use Rattle.peg_model.specs.Order.{order_of}
use Rattle.peg_model.specs.Trace.{said_text}
use Rattle.peg_event.specs.declared.Event.{Event}
use Rattle.peg_event.specs.declared.Event.TheVariants as event
use Rattle.peg_name.specs.declared.Node.TheVariants as node
use Rattle.rand_pcg.specs.Pcg.{pcg64}
use Rattle.peg_meaning.specs.Workload.{drawn, made, soak_text, soak_generator}
use Rattle.peg_model.proofs.Computed.{lines}

soaked : soak_text 300 7 ≡ lines (
    codes "events 300"
    ∷ codes "packets 128"
    ∷ codes "operations 19"
    ∷ codes "answered 6"
    ∷ codes "keys 7"
    ∷ codes "check yes"
    ∷ []
    )
unfolding
    digits servers_from servers_of spelling in_range packet_of state_bytes state_of server_step
    client_step controller_step switch_step happens order_of said_text drawn made
soaked = refl

-- ---- the events themselves, where so many packets were sent before each

abbrev all_drawn : {G : Type 0} → (G → ℕ × G) → ℕ → List ℕ → G → List Event
all_drawn draw number [] g = []
all_drawn draw number (sent ∷ sents) g =
    let e = drawn draw number sent g in e.0 ∷ all_drawn draw (number + 1) sents e.1

drawn_from_seven : all_drawn pcg64 1 (0 ∷ 1 ∷ 1 ∷ 2 ∷ 11 ∷ 11 ∷ 11 ∷ 13 ∷ 13 ∷ 14 ∷ 16 ∷ 16 ∷ 18 ∷ 18 ∷ 18 ∷ 18 ∷ 19 ∷ 20 ∷ 20 ∷ 20 ∷ 20 ∷ 22 ∷ 23 ∷ 23 ∷ 25 ∷ 25 ∷ 25 ∷ 34 ∷ 43 ∷ 45 ∷ 45 ∷ 47 ∷ 49 ∷ 50 ∷ 50 ∷ 50 ∷ 50 ∷ 52 ∷ 52 ∷ 53 ∷ 54 ∷ 54 ∷ 56 ∷ 56 ∷ 58 ∷ 59 ∷ 61 ∷ 70 ∷ 70 ∷ 70 ∷ 72 ∷ 74 ∷ 83 ∷ 83 ∷ 84 ∷ 84 ∷ 86 ∷ 95 ∷ 95 ∷ 97 ∷ 97 ∷ 99 ∷ 99 ∷ 100 ∷ 109 ∷ 111 ∷ 112 ∷ 113 ∷ 114 ∷ 116 ∷ []) (soak_generator 7) ≡
    (event.Promote (codes "k11"))
    ∷ (event.Deliver 0 0)
    ∷ (event.Copy (codes "k1") 2)
    ∷ (event.Read 1 (codes "k15"))
    ∷ event.Clear
    ∷ (event.Deliver 5 8)
    ∷ (event.Plan 8 2)
    ∷ event.Survey
    ∷ (event.Deliver 7 1)
    ∷ (event.Demote (codes "k0"))
    ∷ (event.Deliver 7 5)
    ∷ (event.Deliver 9 3)
    ∷ (event.Deliver 17 10)
    ∷ (event.Write 6 (codes "k3") (codes "v14"))
    ∷ (event.Deliver 15 2)
    ∷ (event.Deliver 5 8)
    ∷ (event.Write 1 (codes "k0") (codes "v17"))
    ∷ event.Clear
    ∷ event.Retry
    ∷ (event.Demote (codes "k0"))
    ∷ (event.Write 7 (codes "k0") (codes "v21"))
    ∷ (event.Deliver 10 4)
    ∷ (event.Deliver 8 3)
    ∷ (event.Write 1 (codes "k1") (codes "v24"))
    ∷ (event.Read 1 (codes "k3"))
    ∷ (event.Deliver 18 6)
    ∷ event.Clear
    ∷ (event.Write 2 (codes "k13") (codes "v28"))
    ∷ (event.Junk (node.Switch 1) (201 ∷ 117 ∷ 3 ∷ 245 ∷ 234 ∷ 43 ∷ 52 ∷ 165 ∷ []))
    ∷ (event.Handover 1)
    ∷ (event.Copy (codes "k0") 2)
    ∷ (event.Write 5 (codes "k1") (codes "v32"))
    ∷ (event.Handover 0)
    ∷ (event.Demote (codes "k0"))
    ∷ event.Survey
    ∷ (event.Deliver 38 1)
    ∷ (event.Read 0 (codes "k0"))
    ∷ (event.Deliver 34 6)
    ∷ (event.Promote (codes "k0"))
    ∷ (event.Read 5 (codes "k0"))
    ∷ (event.Deliver 46 5)
    ∷ (event.Deliver 45 4)
    ∷ (event.Write 3 (codes "k3") (codes "v43"))
    ∷ (event.Copy (codes "k0") 1)
    ∷ event.Retry
    ∷ event.Retry
    ∷ (event.Deliver 40 8)
    ∷ (event.Deliver 53 11)
    ∷ event.Survey
    ∷ (event.Deliver 64 7)
    ∷ (event.Plan 8 2)
    ∷ event.Clear
    ∷ (event.Plan 8 2)
    ∷ (event.GiveUp 5)
    ∷ event.Survey
    ∷ (event.Copy (codes "k1") 2)
    ∷ (event.Resend 6)
    ∷ (event.Read 7 (codes "k0"))
    ∷ (event.Deliver 89 2)
    ∷ (event.Write 7 (codes "k12") (codes "v60"))
    ∷ event.Retry
    ∷ (event.Deliver 90 7)
    ∷ (event.Deliver 98 3)
    ∷ (event.Deliver 82 2)
    ∷ (event.Promote (codes "k0"))
    ∷ (event.Deliver 101 8)
    ∷ (event.Copy (codes "k0") 0)
    ∷ (event.Read 5 (codes "k1"))
    ∷ (event.Deliver 95 5)
    ∷ (event.Write 7 (codes "k1") (codes "v70"))
    ∷ []
unfolding digits drawn
drawn_from_seven = refl

drawn_from_nothing : all_drawn pcg64 1 (0 ∷ 1 ∷ 2 ∷ 2 ∷ 3 ∷ 5 ∷ 6 ∷ 7 ∷ 8 ∷ 9 ∷ 10 ∷ 12 ∷ 12 ∷ 14 ∷ 14 ∷ 15 ∷ 15 ∷ 15 ∷ 17 ∷ 18 ∷ 20 ∷ 29 ∷ 31 ∷ 31 ∷ 32 ∷ 32 ∷ 41 ∷ 41 ∷ 50 ∷ 51 ∷ 52 ∷ 54 ∷ 54 ∷ 55 ∷ 56 ∷ 57 ∷ 59 ∷ 68 ∷ 68 ∷ 70 ∷ 71 ∷ 72 ∷ 74 ∷ 75 ∷ 75 ∷ 77 ∷ 77 ∷ 77 ∷ 86 ∷ 87 ∷ 96 ∷ 105 ∷ 114 ∷ 114 ∷ 116 ∷ 117 ∷ 118 ∷ 118 ∷ 127 ∷ 128 ∷ 137 ∷ 137 ∷ 137 ∷ 139 ∷ 139 ∷ 139 ∷ 139 ∷ 141 ∷ 142 ∷ 142 ∷ []) (soak_generator 0) ≡
    event.Retry
    ∷ (event.Plan 8 2)
    ∷ (event.Deliver 1 10)
    ∷ (event.Deliver 0 3)
    ∷ (event.Deliver 0 7)
    ∷ (event.Plan 8 2)
    ∷ event.Retry
    ∷ (event.Deliver 1 10)
    ∷ (event.Deliver 5 3)
    ∷ (event.Write 5 (codes "k1") (codes "v10"))
    ∷ (event.Deliver 5 4)
    ∷ (event.Resend 0)
    ∷ (event.Deliver 11 9)
    ∷ event.Clear
    ∷ (event.GiveUp 4)
    ∷ (event.Deliver 8 6)
    ∷ (event.Handover 0)
    ∷ (event.Deliver 6 3)
    ∷ (event.Deliver 0 2)
    ∷ (event.Deliver 14 8)
    ∷ (event.Read 0 (codes "k9"))
    ∷ (event.Deliver 15 8)
    ∷ (event.Deliver 18 5)
    ∷ (event.Deliver 21 2)
    ∷ (event.Write 7 (codes "k2") (codes "v25"))
    ∷ (event.GiveUp 0)
    ∷ (event.Deliver 21 4)
    ∷ (event.Write 5 (codes "k8") (codes "v28"))
    ∷ (event.Resend 4)
    ∷ (event.Deliver 33 6)
    ∷ (event.Resend 3)
    ∷ (event.Write 2 (codes "k1") (codes "v32"))
    ∷ (event.Deliver 43 6)
    ∷ (event.Deliver 33 6)
    ∷ (event.Read 5 (codes "k1"))
    ∷ (event.Deliver 46 5)
    ∷ (event.Write 6 (codes "k1") (codes "v37"))
    ∷ (event.Write 7 (codes "k8") (codes "v38"))
    ∷ (event.Promote (codes "k0"))
    ∷ (event.Deliver 64 4)
    ∷ (event.Write 4 (codes "k7") (codes "v41"))
    ∷ event.Clear
    ∷ (event.Handover 0)
    ∷ (event.Copy (codes "k0") 3)
    ∷ (event.Demote (codes "k7"))
    ∷ (event.Deliver 56 7)
    ∷ (event.Promote (codes "k0"))
    ∷ (event.Write 4 (codes "k1") (codes "v48"))
    ∷ (event.Plan 8 2)
    ∷ (event.Read 3 (codes "k0"))
    ∷ (event.Deliver 73 2)
    ∷ event.Clear
    ∷ (event.Deliver 91 9)
    ∷ (event.Copy (codes "k14") 2)
    ∷ (event.Resend 3)
    ∷ (event.Copy (codes "k13") 3)
    ∷ (event.Deliver 116 11)
    ∷ (event.Write 7 (codes "k0") (codes "v58"))
    ∷ (event.Deliver 105 7)
    ∷ (event.Junk (node.Switch 0) (168 ∷ 66 ∷ 112 ∷ 92 ∷ 194 ∷ 107 ∷ 2 ∷ 67 ∷ []))
    ∷ (event.Deliver 122 9)
    ∷ (event.Deliver 119 0)
    ∷ (event.Read 7 (codes "k1"))
    ∷ (event.Plan 8 2)
    ∷ (event.Deliver 138 7)
    ∷ (event.Read 1 (codes "k1"))
    ∷ (event.Read 4 (codes "k9"))
    ∷ (event.Plan 8 2)
    ∷ (event.Deliver 141 4)
    ∷ (event.Write 4 (codes "k0") (codes "v70"))
    ∷ []
unfolding digits drawn
drawn_from_nothing = refl
