-- The words behind the program's name, and the job that they call for. A command has a name, and
-- behind it exactly its arguments.
--     Job      what the program is to do
--     number_within low high word      the number that a word spells, where it is one of these
--     rack_of word      the rack that six or seven numbers with colons between say
--     job_of words      the job, where the words are a command
use Rattle.std.specs.Prelude.{◌-◌, ℕ, Bool, ◌&&◌, ◌==◌, Option, Some, None, Result, Ok, Err}
use Rattle.std.specs.Prelude.{option_and_then, option_map, List, [], ◌∷◌, length, if◌then◌else◌}
use Rattle.std.specs.Prelude.{codes, decimal}
use Rattle.std.specs.List.{slice_split}
use Rattle.std.specs.Map.{lookup}
use Rattle.std.specs.Str.{bytes_eq}
use Rattle.std.specs.Str.Parse.{digits_value}
use Rattle.peg_name.specs.Name.{Rack}
use Rattle.peg_name.specs.Limits.{is_between, config_of}
use Rattle.peg_name.specs.declared.Format.TheVariants.{One}
use Rattle.peg_name.specs.declared.config.ConfigFault.{ConfigFault}
use Rattle.peg_name.specs.declared.Node.{Node}
use Rattle.peg_name.specs.declared.Node.TheVariants as node
use Rattle.peg_model.specs.Words.{last_number}

pub data Job : Type 0 where
  Replay : Job
  Check : Job
  Soak : (events start : ℕ) → Job
  Switch : (base : ℕ) (rack : Rack) (switch turns : ℕ) → Job
  Server : (base : ℕ) (rack : Rack) (server turns : ℕ) → Job
  Control : (base : ℕ) (rack : Rack) (tries waits : ℕ) → Job
  Ask : (base : ℕ) (rack : Rack) (client first tries waits : ℕ) → Job
  WholeRack : (base : ℕ) → Job
  Racks : Job
  Balanced : (base : ℕ) (rack : Rack) (switch turns : ℕ) (weights : List ℕ) → Job
  Record : (base : ℕ) (rack : Rack) (node : Node) → Job
  Audit : Job

-- ---- numbers

-- the number whose decimal digits the word is, where it is one of these
abbrev pub number_within : ℕ → ℕ → List ℕ → Option ℕ
number_within low high w =
    let n = digits_value 10 w in
    if is_between low high n && bytes_eq (decimal n) w then Some n else None

-- what is made of the number that a word is
abbrev pub reading : {A : Type 0} → ℕ → ℕ → List ℕ → (ℕ → Option A) → Option A
reading low high w make = option_and_then make (number_within low high w)

abbrev pub numbers_within : ℕ → ℕ → List (List ℕ) → Option (List ℕ)
numbers_within low high [] = Some []
numbers_within low high (w ∷ ws) =
    reading low high w (λ n. option_map (λ ns. n ∷ ns) (numbers_within low high ws))

abbrev pub is_colon : ℕ → Bool
is_colon b = b == 58

abbrev pub between_colons : List ℕ → List (List ℕ)
between_colons w = slice_split is_colon w

-- ---- racks

abbrev pub if_ok : Result Rack ConfigFault → Option Rack
if_ok (Ok rack) = Some rack
if_ok (Err fault) = None

abbrev pub rack_with : ℕ → ℕ → ℕ → ℕ → ℕ → ℕ → ℕ → Option Rack
rack_with format servers clients switches listed hot first =
    if_ok
    (config_of format
    (record {
      format = One;
      servers = servers;
      clients = clients;
      switches = switches;
      listed = listed;
      hot = hot;
      first = first;
    }))

-- the seventh number is 2, the format, and is missing in format 1
abbrev pub rack_of_numbers : List ℕ → Option Rack
rack_of_numbers (servers ∷ clients ∷ switches ∷ listed ∷ hot ∷ first ∷ []) =
    rack_with 1 servers clients switches listed hot first
rack_of_numbers (servers ∷ clients ∷ switches ∷ listed ∷ hot ∷ first ∷ format ∷ []) =
    if format == 2 then rack_with 2 servers clients switches listed hot first else None
rack_of_numbers _ = None

abbrev pub rack_of : List ℕ → Option Rack
rack_of w =
    option_and_then rack_of_numbers (numbers_within 0 last_number (between_colons w))

-- ---- the arguments of each command

abbrev pub Arguments : Type 0
Arguments = List (List ℕ)

-- a base and a rack
abbrev pub at_base : List ℕ → List ℕ → (ℕ → Rack → Option Job) → Option Job
at_base base rack make =
    reading 1024 60000 base (λ b. option_and_then (λ r. make b r) (rack_of rack))

abbrev pub turns_most : ℕ
turns_most = 1000000000

abbrev pub plain_job : Job → Arguments → Option Job
plain_job job [] = Some job
plain_job job (argument ∷ rest) = None

abbrev pub soak_job : Arguments → Option Job
soak_job (events ∷ start ∷ []) =
    reading 1 20000 events (λ n. reading 0 last_number start (λ s. Some (Soak n s)))
soak_job _ = None

abbrev pub switch_job : Arguments → Option Job
switch_job (base ∷ rack ∷ switch ∷ turns ∷ []) =
    at_base base rack
    (λ b r. reading 0 (r.switches - 1) switch
    (λ w. reading 0 turns_most turns (λ t. Some (Switch b r w t))))
switch_job _ = None

abbrev pub server_job : Arguments → Option Job
server_job (base ∷ rack ∷ server ∷ turns ∷ []) =
    at_base base rack
    (λ b r. reading 0 (r.servers - 1) server
    (λ s. reading 0 turns_most turns (λ t. Some (Server b r s t))))
server_job _ = None

abbrev pub control_job : Arguments → Option Job
control_job (base ∷ rack ∷ tries ∷ waits ∷ []) =
    at_base base rack
    (λ b r. reading 1 100 tries (λ t. reading 0 1000 waits (λ w. Some (Control b r t w))))
control_job _ = None

abbrev pub ask_job : Arguments → Option Job
ask_job (base ∷ rack ∷ client ∷ first ∷ tries ∷ waits ∷ []) =
    at_base base rack
    (λ b r. reading 0 (r.clients - 1) client
    (λ c. reading 1 last_number first
    (λ f. reading 1 100 tries (λ t. reading 0 1000 waits (λ w. Some (Ask b r c f t w))))))
ask_job _ = None

abbrev pub rack_job : Arguments → Option Job
rack_job (base ∷ []) = reading 1024 60000 base (λ b. Some (WholeRack b))
rack_job _ = None

abbrev pub if_so_many : ℕ → List ℕ → Option (List ℕ)
if_so_many count weights = if length weights == count then Some weights else None

-- a weight for each server
abbrev pub weights_of : Rack → List ℕ → Option (List ℕ)
weights_of rack w =
    option_and_then (if_so_many rack.servers) (numbers_within 1 1000 (between_colons w))

abbrev pub balanced_job : Arguments → Option Job
balanced_job (base ∷ rack ∷ switch ∷ turns ∷ weights ∷ []) =
    at_base base rack
    (λ b r. reading 0 (r.switches - 1) switch
    (λ w. reading 0 turns_most turns
    (λ t. option_map (λ ws. Balanced b r w t ws) (weights_of r weights))))
balanced_job _ = None

-- how many nodes of a kind there are, and the node of this number
abbrev pub kinds : Rack → List (List ℕ × ℕ × (ℕ → Node))
kinds rack =
    (codes "controller", 1, λ id. node.Controller)
    ∷ (codes "switch", rack.switches, node.Switch)
    ∷ (codes "server", rack.servers, node.Server)
    ∷ (codes "client", rack.clients, node.Client)
    ∷ []

abbrev pub node_in : List (List ℕ × ℕ × (ℕ → Node)) → List ℕ → List ℕ → Option Node
node_in [] kind number = None
node_in (k ∷ rest) kind number =
    if bytes_eq k.0 kind then reading 0 (k.1 - 1) number (λ id. Some (k.2 id))
    else node_in rest kind number

abbrev pub record_job : Arguments → Option Job
record_job (base ∷ rack ∷ kind ∷ number ∷ []) =
    at_base base rack (λ b r. option_map (λ n. Record b r n) (node_in (kinds r) kind number))
record_job _ = None

-- ---- all commands

abbrev pub commands : List (List ℕ × (Arguments → Option Job))
commands =
    (codes "replay", plain_job Replay)
    ∷ (codes "check", plain_job Check)
    ∷ (codes "soak", soak_job)
    ∷ (codes "switch", switch_job)
    ∷ (codes "server", server_job)
    ∷ (codes "control", control_job)
    ∷ (codes "ask", ask_job)
    ∷ (codes "rack", rack_job)
    ∷ (codes "racks", plain_job Racks)
    ∷ (codes "balanced", balanced_job)
    ∷ (codes "record", record_job)
    ∷ (codes "audit", plain_job Audit)
    ∷ []

abbrev pub job_by : Option (Arguments → Option Job) → Arguments → Option Job
job_by None arguments = None
job_by (Some read) arguments = read arguments

-- a word that begins with a hyphen is no name of a command, and no argument of one
abbrev pub job_of : List (List ℕ) → Option Job
job_of [] = None
job_of (name ∷ arguments) = job_by (lookup (bytes_eq name) commands) arguments
