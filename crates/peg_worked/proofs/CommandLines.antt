-- Words of command lines, and the jobs that they call for. An independent model gave the jobs.
use Rattle.std.specs.Prelude.{◌≡◌, ◌==◌, ℕ, Bool, Option, Some, None, List, [], ◌∷◌, map, replicate}
use Rattle.std.specs.Prelude.{refl, codes}
use Rattle.std.specs.Fmt.{digits}
use Rattle.std.specs.List.{slice_split}
use Rattle.peg_name.specs.declared.Format.TheVariants.{One, Two}
use Rattle.peg_name.specs.declared.Node.TheVariants as node
use Rattle.peg_meaning.specs.Commands.{Job, Replay, Check, Soak, Switch, Server, Control, Ask}
use Rattle.peg_meaning.specs.Commands.{WholeRack, Racks, Balanced, Record, Audit, job_of}
use Rattle.peg_model.proofs.Computed.{rack_with}

abbrev is_blank : ℕ → Bool
is_blank b = b == 32

-- the job of the words between the blanks
abbrev job : List ℕ → Option Job
job line = job_of (slice_split is_blank line)

nothing : job_of [] ≡ None
nothing = refl

plain :
    map job (codes "replay" ∷ codes "check" ∷ codes "racks" ∷ codes "audit" ∷ [])
    ≡ Some Replay ∷ Some Check ∷ Some Racks ∷ Some Audit ∷ []
plain = refl

no_commands :
    map job
    (codes ""
    ∷ codes "Replay"
    ∷ codes "-x"
    ∷ codes "--help"
    ∷ codes " 0"
    ∷ codes "replay x"
    ∷ codes "racks 0"
    ∷ codes "rack 1023 0"
    ∷ codes "switch 23539 1:256:3:26:3:1 2"
    ∷ [])
    ≡ replicate 9 None
no_commands = refl

soaks :
    map job
    (codes "soak 1 9481381274139862896"
    ∷ codes "soak 20000 0"
    ∷ codes "soak 15666 18446744073709551615"
    ∷ [])
    ≡ Some (Soak 1 9481381274139862896)
    ∷ Some (Soak 20000 0)
    ∷ Some (Soak 15666 18446744073709551615)
    ∷ []
unfolding digits
soaks = refl

-- a number is in its range, and is written in one way
no_soaks :
    map job
    (codes "soak 0 1"
    ∷ codes "soak 20001 1"
    ∷ codes "soak 1 18446744073709551616"
    ∷ codes "soak 01 1"
    ∷ codes "soak +1 1"
    ∷ codes "soak 1a 1"
    ∷ codes "soak  1"
    ∷ [])
    ≡ replicate 7 None
unfolding digits
no_soaks = refl

racks :
    map job (codes "rack 1023" ∷ codes "rack 1024" ∷ codes "rack 60000" ∷ codes "rack 60001" ∷ [])
    ≡ None ∷ Some (WholeRack 1024) ∷ Some (WholeRack 60000) ∷ None ∷ []
unfolding digits
racks = refl

-- the seventh number of a rack is its format, and is missing in the first
nodes :
    map job
    (codes "switch 7000 1:1:1:1:1:1 0 2"
    ∷ codes "server 24836 57:977:2:16:4:11603183243871008074:2 0 515333631"
    ∷ codes "server 60000 1:256:1:25:2:4192646095165062114 0 759425663"
    ∷ [])
    ≡ Some (Switch 7000 (rack_with One 1 1 1 1 1 1) 0 2)
    ∷ Some (Server 24836 (rack_with Two 57 977 2 16 4 11603183243871008074) 0 515333631)
    ∷ Some (Server 60000 (rack_with One 1 256 1 25 2 4192646095165062114) 0 759425663)
    ∷ []
unfolding digits
nodes = refl

no_racks :
    map job
    (codes "switch 7000 0:1:1:1:1:1 0 2"
    ∷ codes "server 1024 61:586:1:1:12:1:3 0 0"
    ∷ codes "switch 1024 1:1:1:1:1:1:1 0 0"
    ∷ codes "switch 1024 50:1:4:23:5:18446744073709551615:2 4 1000000000"
    ∷ codes "switch 1024 1a:770:1:1:12:18446744073709551615:2 0 522136745"
    ∷ codes "server 1024 32:920:2:1:0:11419820018948246807:2 0 0"
    ∷ codes "record 35554 18446744073709551616:1:3:64:1:8169738979371200333 controller 0"
    ∷ [])
    ≡ replicate 7 None
unfolding digits
no_racks = refl

control :
    map job
    (codes "control 1024 16:160:1:6:2:13483507683373660315 100 1000"
    ∷ codes "control 43467 16:94:4:64:12:1 42 0"
    ∷ codes "control 51914 14:1:1:6:12:1 100 18446744073709551616"
    ∷ codes "control 51914 14:1:1:6:12:1 0 0"
    ∷ codes "control 51914 14:1:1:6:12:1 101 0"
    ∷ codes "control 51914 14:1:1:6:12:1 1 1001"
    ∷ [])
    ≡ Some (Control 1024 (rack_with One 16 160 1 6 2 13483507683373660315) 100 1000)
    ∷ Some (Control 43467 (rack_with One 16 94 4 64 12 1) 42 0)
    ∷ replicate 4 None
unfolding digits
control = refl

asks :
    map job
    (codes "ask 54018 10:256:1:38:11:5892099628497492208 255 11529055517166206273 29 782"
    ∷ codes "ask 27101 1:1:2:64:12:1 0 2115514909007327649 84 0"
    ∷ codes "ask 27101 1:1:2:64:12:1 1 2115514909007327649 84 0"
    ∷ codes "ask 27101 1:1:2:64:12:1 0 0 84 0"
    ∷ codes "ask 8131 1:104:1:57:1:12229835486043855430 0 18446744073709551616 100 679"
    ∷ [])
    ≡ Some
    (Ask 54018 (rack_with One 10 256 1 38 11 5892099628497492208) 255 11529055517166206273 29 782)
    ∷ Some (Ask 27101 (rack_with One 1 1 2 64 12 1) 0 2115514909007327649 84 0)
    ∷ replicate 3 None
unfolding digits
asks = refl

weights :
    map job
    (codes "balanced 7000 1:1:1:1:1:1 0 2 1"
    ∷ codes "balanced 7000 1:1:1:1:1:1 0 2 0"
    ∷ codes "balanced 7000 1:1:1:1:1:1 0 2 1001"
    ∷ codes "balanced 7000 1:1:1:1:1:1 0 2 1:1"
    ∷ codes "balanced 7000 2:1:1:1:1:1 0 1000000000 1000:7"
    ∷ codes "balanced 7000 2:1:1:1:1:1 0 1000000001 1000:7"
    ∷ [])
    ≡ Some (Balanced 7000 (rack_with One 1 1 1 1 1 1) 0 2 (1 ∷ []))
    ∷ None
    ∷ None
    ∷ None
    ∷ Some (Balanced 7000 (rack_with One 2 1 1 1 1 1) 0 1000000000 (1000 ∷ 7 ∷ []))
    ∷ None
    ∷ []
unfolding digits
weights = refl

records :
    map job
    (codes "record 7000 1:1:1:1:1:1 switch 0"
    ∷ codes "record 7000 1:1:1:1:1:1 controller 0"
    ∷ codes "record 7000 1:1:1:1:1:1 controller 1"
    ∷ codes "record 7000 1:1:1:1:1:1 client 1"
    ∷ codes "record 7000 1:1:1:1:1:1 rack 0"
    ∷ [])
    ≡ Some (Record 7000 (rack_with One 1 1 1 1 1 1) (node.Switch 0))
    ∷ Some (Record 7000 (rack_with One 1 1 1 1 1 1) node.Controller)
    ∷ replicate 3 None
unfolding digits
records = refl
