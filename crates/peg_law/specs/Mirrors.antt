-- What it means that a world of the book and a state of the protocol machine tell the same, node
-- by node and packet by packet.
--     rack_code rack keys      the rack of the protocol machine
--     IsSent rack to p      a packet that a node of the rack may send to this node
--     Mirrors keys w s      the world and the state tell the same
use Rattle.std.specs.Prelude.{◌≡◌, ◌⊎◌, ◌<◌, ◌≤◌, ◌+◌, ◌-◌, ℕ, Bool, true, false, List, [], ◌∷◌}
use Rattle.std.specs.Prelude.{Option, Some, None, option_map, map, length, reverse, Contains}
use Rattle.std.specs.Prelude.{slice_get, IsSome}
use Rattle.std.specs.List.{AllByRecursion, IsDistinct}
use Rattle.std.specs.Map.{keys_of}
use Rattle.std.specs.Str.{bytes_eq}
use Rattle.peg_name.specs.Name.{Rack, InLimits, IsKey, home_of}
use Rattle.peg_grammar.specs.State.{SpellsState, is_rising}
use Rattle.peg_name.specs.declared.value.Content.{Content}
use Rattle.peg_name.specs.declared.Node.{Node}
use Rattle.peg_name.specs.declared.Row as counted
use Rattle.peg_name.specs.declared.Node.TheVariants as node
use Rattle.peg_event.specs.declared.history.Act.{Act}
use Rattle.peg_event.specs.declared.history.Act.TheVariants as act
use Rattle.peg_event.specs.declared.Command.{Command}
use Rattle.peg_event.specs.declared.Command.TheVariants as command
use Rattle.peg_event.specs.declared.answers.Listing.{Listing}
use Rattle.peg_event.specs.declared.Outcome.{Outcome}
use Rattle.peg_event.specs.declared.answers.Pending.{Pending}
use Rattle.peg_model.specs.Words.{below, last_number}
use Rattle.peg_model.specs.Packet as packet
use Rattle.peg_model.specs.Packet.{Packet, What}
use Rattle.peg_model.specs.Rules.{Stamps, Directory, row_of}
use Rattle.peg_model.specs.Handover.{State, state_bytes, parts, part_of, Collected, has_part}
use Rattle.peg_model.specs.Handover.{is_whole}
use Rattle.peg_model.specs.Server.{Server, held}
use Rattle.peg_model.specs.Client.{Client}
use Rattle.peg_model.specs.Controller.{Controller, what_of}
use Rattle.peg_model.specs.Switch as switch
use Rattle.peg_model.specs.Switch.{Switch}
use Rattle.peg_model.specs.World.{World, Operation, AppliedFence, client_of, server_of, switch_of}
use Rattle.peg_law.specs.Codes.{number_of, bytes_of, content_code, ask_code, plan_code}
use Rattle.peg_law.specs.Codes.{node_code, entries_code, pair_code, guard_code, what_code}
use Rattle.peg_law.specs.Codes.{outcome_code, packet_code}
use Rattle.peg_protocol.specs.Packet as law
use Rattle.peg_protocol.specs.Core as core
use Rattle.peg_protocol.specs.Core.{Row, Entry}
use Rattle.peg_protocol.specs.Machine.{Plan, Answer, Pair, Guard, Applied, Id}
use Rattle.peg_protocol.specs.Printed.{tag_of}
use Rattle.peg_protocol.specs.System as system
use Rattle.peg_protocol.specs.System.{System, Gathered}

-- ---- the rack, and the state that a core of the protocol machine tells

abbrev pub row_told : Row → ℕ × ℕ
row_told row = (row.seq, row.version)

abbrev pub entry_told : Entry → List ℕ × Listing
entry_told entry = (
  bytes_of entry.key,
  record {
    listing = entry.listing;
    base = entry.base;
    completed = entry.completed;
    holders = entry.holders;
    mark = entry.mark;
  },
)

abbrev pub state_told : Rack → core.Core → State
state_told rack c =
    record {
      stamps = record {
        next = c.next;
        rows = map (λ client. row_told (c.rows client)) (below rack.clients);
      };
      last = c.last;
      entries = map entry_told c.entries;
    }

abbrev pub part_bytes : Rack → core.Core → List ℕ
part_bytes rack c = state_bytes rack.format (state_told rack c)

abbrev pub rack_code : Rack → List (List ℕ) → core.Rack
rack_code rack keys =
    record {
      home = λ key. home_of rack.servers (bytes_of key);
      servers = rack.servers;
      room = rack.listed;
      keys = map number_of keys;
      first = rack.first;
      parts = λ c. length (parts (part_bytes rack c));
      clients = rack.clients;
    }

-- ---- stamps and entries

abbrev pub AreServers : Rack → List ℕ → Type 0
AreServers rack holders = (0 < length holders) × AllByRecursion (λ s. s < rack.servers) holders

-- the holders are servers in rising order, and the key and the listing are in their ranges
abbrev pub IsListing : Rack → List ℕ × Listing → Type 0
IsListing rack e =
    AreServers rack e.1.holders × (is_rising e.1.holders ≡ true) × IsKey e.0
    × (e.1.listing ≤ last_number)

pub record CoreFits (rack : Rack) (stamps : Stamps) (entries : Directory) (last : ℕ) (c : core.Core)
    : Type 0 where
  pub next_is : c.next ≡ stamps.next
  pub count : length stamps.rows ≡ rack.clients
  pub rows : (client : ℕ) → row_told (c.rows client) ≡ row_of stamps client
  pub entries_is : c.entries ≡ entries_code entries
  pub most : stamps.next ≤ last_number
  pub holders : AllByRecursion (IsListing rack) entries
  pub distinct : IsDistinct bytes_eq (keys_of entries)
  pub last_is : c.last ≡ last

-- ---- packets

abbrev pub WhatInRack : Rack → What → Type 0
WhatInRack rack (packet.Promote key) = IsKey key
WhatInRack rack (packet.Copy target key) = target < rack.servers
WhatInRack rack (packet.Seal target epoch) = target < rack.switches
WhatInRack rack _ = Unit {0}

abbrev pub AreKeyed : List counted.Row → Type 0
AreKeyed rows = AllByRecursion (λ (row : counted.Row). IsKey row.key) rows

-- the nodes that a packet names are in the rack, and the one that it is sent to is among them
abbrev pub IsSent : Rack → Node → Packet → Type 0
IsSent rack (node.Switch id) (packet.Read client seq key) =
    (id < rack.switches) × (client < rack.clients) × IsKey key
IsSent rack (node.Switch id) (packet.Write client seq key content) =
    (id < rack.switches) × (client < rack.clients) × IsKey key
IsSent rack (node.Server id) (packet.ToServerRead client seq server switch key) =
    (server ≡ id) × (id < rack.servers) × (client < rack.clients) × (switch < rack.switches)
IsSent rack (node.Server id) (packet.ToServerWrite client seq version server switch key content) =
    (server ≡ id) × (id < rack.servers) × (client < rack.clients) × (switch < rack.switches)
IsSent rack (node.Switch id) (packet.ReadReply client seq version server switch key content) =
    (id < rack.switches) × (client < rack.clients) × (server < rack.servers)
    × (switch < rack.switches)
IsSent rack (node.Client id) (packet.ReadReply client seq version server switch key content) =
    id < rack.clients
IsSent rack (node.Switch id) (packet.WriteReply client seq version server switch key) =
    (id < rack.switches) × (client < rack.clients) × (server < rack.servers)
    × (switch < rack.switches)
IsSent rack (node.Client id) (packet.WriteReply client seq version server switch key) =
    id < rack.clients
IsSent rack (node.Switch id) (packet.Command number what) =
    (id < rack.switches) × (1 ≤ number) × (number ≤ last_number) × WhatInRack rack what
IsSent rack node.Controller (packet.CommandAck number outcome) = Unit {0}
IsSent rack (node.Server id) (packet.CopyOrder switch server target key) =
    (server ≡ id) × (id < rack.servers) × (switch < rack.switches) × (target < rack.servers)
IsSent rack (node.Server id) (packet.CopyData switch server version key content) =
    (server ≡ id) × (id < rack.servers) × (switch < rack.switches)
IsSent rack (node.Switch id) (packet.Held server version key) =
    (id < rack.switches) × (server < rack.servers)
IsSent rack (node.Switch id) (packet.Part epoch index count bytes) =
    id < rack.switches
IsSent rack (node.Client id) (packet.Announce epoch switch) =
    (id < rack.clients) × (switch < rack.switches)
IsSent rack (node.Switch id) packet.Survey = id < rack.switches
IsSent rack node.Controller (packet.Report epoch total rows) = AreKeyed rows
IsSent rack (node.Server id) (packet.Fence switch server version key) =
    (server ≡ id) × (id < rack.servers) × (switch < rack.switches)
IsSent rack (node.Switch id) (packet.Void client seq version server switch key) =
    (id < rack.switches) × (client < rack.clients) × (server < rack.servers)
    × (switch < rack.switches)
IsSent rack _ _ = ⊥

-- a part is a slice of the bytes of the state that the protocol machine's part has
pub record PartFits (rack : Rack) (epoch index count : ℕ) (bytes : List ℕ) (p : law.Packet)
    : Type 0 where
  pub state : core.Core
  pub is : p ≡ law.Part epoch index count state
  pub parts : count ≡ length (parts (part_bytes rack state))
  pub among : index < count
  pub slice : bytes ≡ part_of (part_bytes rack state) index
  pub fits :
      CoreFits rack (state_told rack state).stamps (state_told rack state).entries state.last state
  pub spelled : SpellsState rack (part_bytes rack state) (state_told rack state)

abbrev pub PacketFits : Rack → Packet → law.Packet → Type 0
PacketFits rack (packet.Part epoch index count bytes) p = PartFits rack epoch index count bytes p
PacketFits rack q p = p ≡ packet_code q

pub record ItemFits (rack : Rack) (item : Node × Packet) (i : law.Item) : Type 0 where
  pub sent : IsSent rack item.0 item.1
  pub to : i.to ≡ node_code item.0
  pub packet : PacketFits rack item.1 i.packet

-- two lists, place by place
abbrev pub Paired : {A B : Type 0} → (A → B → Type 0) → List A → List B → Type 0
Paired R [] [] = Unit {0}
Paired R (x ∷ xs) (y ∷ ys) = R x y × Paired R xs ys
Paired R _ _ = ⊥

-- ---- clients

abbrev pub PendingFits : Option Pending → Bool → ℕ → Plan → Type 0
PendingFits None pending issued plan = pending ≡ false
PendingFits (Some p) pending issued plan =
    (pending ≡ true) × (p.seq ≡ issued) × (plan.key ≡ number_of p.key)
    × (plan.act ≡ ask_code p.ask) × IsKey p.key

pub record ClientFits
    (rack : Rack) (id : ℕ) (c : Client) (switch epoch issued : ℕ) (pending : Bool) (plan : Plan)
    : Type 0 where
  pub id_is : c.id ≡ id
  pub next_is : c.next ≡ issued + 1
  pub most : c.next ≤ last_number
  pub switch_is : switch ≡ c.switch
  pub in_rack : c.switch < rack.switches
  pub epoch_is : epoch ≡ c.epoch
  pub pending_is : PendingFits c.pending pending issued plan

-- ---- servers

pub record StoredFits (s : Server) (key : List ℕ) (pair : Pair) (guard : Guard) : Type 0 where
  pub pair_is : pair ≡ pair_code (held s.store key)
  pub guard_is : guard ≡ guard_code (held s.store key)

pub record ServerFits (rack : Rack) (id : ℕ) (s : Server) (pairs : ℕ → Pair) (guards : ℕ → Guard)
    : Type 0 where
  pub rack_is : s.rack ≡ rack
  pub id_is : s.id ≡ id
  pub keys : (key : List ℕ) → StoredFits s key (pairs (number_of key)) (guards (number_of key))

-- ---- switches

abbrev pub mode_code : switch.Mode → system.Mode
mode_code switch.Idle = system.Idle
mode_code switch.Active = system.Active
mode_code (switch.Sealed target) = system.Sealed target

abbrev pub TargetInRack : Rack → switch.Mode → Type 0
TargetInRack rack (switch.Sealed target) = target < rack.switches
TargetInRack rack _ = Unit {0}

-- an active switch that took a command kept its outcome
abbrev pub KeptFits : switch.Mode → ℕ → Option Outcome → law.Outcome → Type 0
KeptFits mode last (Some kept) outcome = outcome ≡ outcome_code kept
KeptFits switch.Active last None outcome = last ≡ 0
KeptFits mode last None outcome = Unit {0}

-- what a sealed switch hands over has a spelling
abbrev pub HandsOver : Rack → switch.Mode → State → Type 0
HandsOver rack (switch.Sealed target) state =
    SpellsState rack (state_bytes rack.format state) state
HandsOver rack _ state = Unit {0}

-- the parts that are held were sent to the switch, and some are missing
pub record GatheredFits (id : ℕ) (packets : List (Node × Packet)) (c : Collected) (g : Gathered)
    : Type 0 where
  pub epoch_is : g.epoch ≡ c.epoch
  pub has : (index : ℕ) → g.has index ≡ has_part c index
  pub was_sent :
      (index : ℕ) (bytes : List ℕ) → slice_get c.parts index ≡ Some (Some bytes)
      → Contains packets
      (node.Switch id, packet.Part c.epoch index (length c.parts) bytes)
  pub missing : is_whole c ≡ true → c.parts ≡ []
  pub some :
      (c.epoch ≡ 0)
      ⊎ ((index : ℕ) × (bytes : List ℕ) × (slice_get c.parts index ≡ Some (Some bytes)))

pub record SwitchFits
    (rack : Rack) (id : ℕ) (packets : List (Node × Packet)) (s : Switch) (mode : system.Mode)
    (epoch : ℕ) (c : core.Core) (outcome : law.Outcome) (gathered : Gathered)
    : Type 0 where
  pub rack_is : s.rack ≡ rack
  pub id_is : s.id ≡ id
  pub mode_is : mode ≡ mode_code s.mode
  pub target : TargetInRack rack s.mode
  pub epoch_is : epoch ≡ s.epoch
  pub core_is : CoreFits rack s.stamps s.entries s.last c
  pub kept_is : KeptFits s.mode s.last s.kept outcome
  pub gathered_is : GatheredFits id packets s.collected gathered
  pub counts : AreKeyed s.counts.rows
  pub handed : HandsOver rack s.mode (switch.state_held s)

-- ---- the controller

abbrev pub IsQueued : Command → Type 0
IsQueued (command.Promote key) = IsKey key
IsQueued (command.Demote key) = Unit {0}
IsQueued _ = ⊥

abbrev pub PendingInRack : Rack → Option Command → Type 0
PendingInRack rack None = Unit {0}
PendingInRack rack (Some c) = WhatInRack rack (what_of 0 c)

abbrev pub HasKeyed : Option (List counted.Row) → Type 0
HasKeyed None = Unit {0}
HasKeyed (Some rows) = AreKeyed rows

pub record ControllerFits
    (rack : Rack) (c : Controller) (number : ℕ) (pending : Option law.What) (switch epoch : ℕ)
    (known : List ℕ)
    : Type 0 where
  pub rack_is : c.rack ≡ rack
  pub number_is : number ≡ c.last
  pub pending_is : pending ≡ option_map (λ k. what_code (what_of c.epoch k)) c.pending
  pub in_rack : PendingInRack rack c.pending
  pub some : IsSome c.pending → 1 ≤ c.last
  pub switch_is : switch ≡ c.switch
  pub switch_in_rack : c.switch < rack.switches
  pub epoch_is : epoch ≡ c.epoch
  pub known_is : known ≡ map number_of c.known
  pub room : length c.known ≤ rack.listed
  pub queue : AllByRecursion IsQueued c.queue
  pub idle : c.pending ≡ None → c.queue ≡ []
  pub most : c.last + length c.queue ≤ last_number - 1
  pub report : HasKeyed c.report

-- ---- the history

abbrev pub ReadFits : Act → Content → Answer → Type 0
ReadFits act.Read content a = a.content ≡ content_code content
ReadFits act.Write content a = Unit {0}

abbrev pub AnswerFits : Option ℕ → Operation → Answer → Type 0
AnswerFits None o a = ⊥
AnswerFits (Some at) o a = (a.place ≡ at) × ReadFits o.op.act o.op.content a

abbrev pub AnsweredFits : Operation → Option Answer → Type 0
AnsweredFits o None = o.op.answered ≡ None
AnsweredFits o (Some a) = AnswerFits o.op.answered o a

pub record OperationFits
    (o : Operation) (id : Id) (issued : ℕ) (plan : Plan) (answer : Option Answer) (stamp : ℕ)
    : Type 0 where
  pub client_is : id.client ≡ o.op.client
  pub seq_is : id.seq ≡ o.seq
  pub begun : o.seq ≤ issued
  pub plan_is : plan ≡ plan_code o.op
  pub answer_is : AnsweredFits o answer
  pub tag_is : o.tag ≡ tag_of answer plan.act stamp

module _
    (issued : ℕ → ℕ) (plans : ℕ → ℕ → Plan) (answers : ℕ → ℕ → Option Answer)
    (stamps : ℕ → ℕ → ℕ) where
  abbrev pub IsOperation : Operation → Id → Type 0
  IsOperation o id =
      OperationFits o id (issued id.client) (plans id.client id.seq) (answers id.client id.seq)
      (stamps id.client id.seq)

abbrev pub fence_code : AppliedFence → Applied
fence_code f =
    record { key = number_of f.key; version = f.version; before = f.held; origin = f.origin }

-- ---- the whole

pub record Mirrors (keys : List (List ℕ)) (w : World) (s : System) : Type 0 where
  pub limits : InLimits w.rack
  pub named : length keys ≤ w.rack.listed
  pub rack : s.rack ≡ rack_code w.rack keys
  pub place : s.place ≡ w.place
  pub sent : Paired (ItemFits w.rack) w.packets s.sent
  pub clients :
      (id : ℕ)
      → ClientFits w.rack id (client_of w id) (s.client_switch id) (s.client_epoch id)
      (s.issued id) (s.pending id) (s.plans id (s.issued id))
  pub servers :
      (id : ℕ) → ServerFits w.rack id (server_of w id) (s.held id) (s.guards id)
  pub switches :
      (id : ℕ)
      → SwitchFits w.rack id w.packets (switch_of w id) (s.modes id) (s.epochs id) (s.cores id)
      (s.outcomes id) (s.gathered id)
  pub controller :
      ControllerFits w.rack w.controller s.number s.command s.switch s.epoch s.known
  pub history :
      Paired (IsOperation s.issued s.plans s.answers s.stamps) w.operations s.log
  pub fences : map fence_code w.fences ≡ reverse s.fences
  pub promoted : map (λ p. p.version) w.promotions ≡ reverse s.promoted
  -- each node of the rack has its place
  pub lengths :
      (length w.clients ≡ w.rack.clients) × (length w.servers ≡ w.rack.servers)
      × (length w.switches ≡ w.rack.switches)
