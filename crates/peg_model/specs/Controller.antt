-- The controller: numbered commands, one at a time.
--     order_command c command      a command is to be ordered
--     retry_command, survey, make_plan      the other calls
--     controller_step c packet      one step on a packet
use Rattle.std.specs.Prelude.{◌+◌, ◌-◌, ℕ, Bool, true, false, not, ◌&&◌, ◌||◌, ◌==◌, nat_lt}
use Rattle.std.specs.Prelude.{nat_le, Option, Some, None, is_some, List, [], ◌∷◌, ◌++◌, length}
use Rattle.std.specs.Prelude.{map, filter, take, if◌then◌else◌}
use Rattle.std.specs.List.{list_any}
use Rattle.std.specs.Str.{bytes_eq}
use Rattle.std.specs.Ordering.{is_lt}
use Rattle.peg_name.specs.Name.{Rack, key_cmp}
use Rattle.peg_name.specs.declared.Node.{Node}
use Rattle.peg_name.specs.declared.Node.TheVariants as node
use Rattle.peg_name.specs.declared.Row.{Row}
use Rattle.peg_event.specs.declared.Outcome.{Outcome}
use Rattle.peg_event.specs.declared.Outcome.TheVariants.{Listed, Already, Full, Marked, NotListed}
use Rattle.peg_event.specs.declared.Outcome.TheVariants.{AlreadyMarked, Ordered, Holds, Activated}
use Rattle.peg_event.specs.declared.Outcome.TheVariants.{Cleared, Fenced, NoBase, NoVersion}
use Rattle.peg_event.specs.declared.Command.{Command}
use Rattle.peg_event.specs.declared.Command.TheVariants.{Promote, Demote, Copy, Fence, Handover}
use Rattle.peg_event.specs.declared.Command.TheVariants.{Clear}
use Rattle.peg_event.specs.declared.ControlDid.{ControlDid}
use Rattle.peg_event.specs.declared.ControlDid.TheVariants as did
use Rattle.peg_event.specs.declared.answers.Order.{Order}
use Rattle.peg_event.specs.declared.answers.Order.TheVariants as order
use Rattle.peg_event.specs.declared.answers.Retry.{Retry}
use Rattle.peg_event.specs.declared.answers.Retry.TheVariants as retry
use Rattle.peg_event.specs.declared.answers.Plan.{Plan}
use Rattle.peg_event.specs.declared.answers.Plan.TheVariants as plan
use Rattle.peg_model.specs.Words.{last_number, is_in, below, sorted, Step, refuse}
use Rattle.peg_model.specs.Packet as packet
use Rattle.peg_model.specs.Packet.{Packet, What, CommandAck, Announce, Survey, Report}

pub record Controller : Type 0 where
  pub rack : Rack
  pub last : ℕ
  pub pending : Option Command
  pub switch : ℕ
  pub epoch : ℕ
  pub known : List (List ℕ)
  pub report : Option (List Row)
  pub queue : List Command

abbrev pub new_controller : Rack → List (List ℕ) → Controller
new_controller rack keys =
    record {
      rack = rack;
      last = 0;
      pending = None;
      switch = 0;
      epoch = 1;
      known = keys;
      report = None;
      queue = [];
    }

-- ---- commands

abbrev pub what_of : ℕ → Command → What
what_of epoch (Promote key) = packet.Promote key
what_of epoch (Demote key) = packet.Demote key
what_of epoch (Copy key target) = packet.Copy target key
what_of epoch (Fence key) = packet.FenceKey key
what_of epoch (Handover target) = packet.Seal target (epoch + 1)
what_of epoch Clear = packet.Clear

-- the command of the last number, to the current switch
abbrev pub command_packet : Controller → Command → Node × Packet
command_packet c command = (node.Switch c.switch, packet.Command c.last (what_of c.epoch command))

-- the command gets the next number and is pending
abbrev pub with_command : Controller → Command → Controller
with_command c command = record c { last = c.last + 1; pending = Some command }

abbrev pub sends_command :
    {D : Type 0} → Controller → Command → D → Step Controller (Node × Packet) D
sends_command c command did =
    let now = with_command c command in
    record { state = now; sent = command_packet now command ∷ []; did = did }

-- a target that the rack hasn't
abbrev pub no_such : Rack → Command → Option ℕ
no_such rack (Copy key target) = if nat_lt target rack.servers then None else Some target
no_such rack (Handover target) = if nat_lt target rack.switches then None else Some target
no_such rack _ = None

abbrev pub is_handover_to : ℕ → Command → Bool
is_handover_to switch (Handover target) = target == switch
is_handover_to switch _ = false

abbrev pub ordered : Option ℕ → Controller → Command → Step Controller (Node × Packet) Order
ordered (Some target) c command = refuse c (order.NoSuch target)
ordered None c command =
    if is_handover_to c.switch command then refuse c (order.SameSwitch c.switch)
    else sends_command c command (order.Sent (c.last + 1))

abbrev pub order_command : Controller → Command → Step Controller (Node × Packet) Order
order_command c command =
    if is_some c.pending then refuse c (order.Busy c.last)
    else (if c.last == last_number - 1 then refuse c (order.Spent c.last)
    else ordered (no_such c.rack command) c command)

-- Announce to every client, in rising order
abbrev pub announces : Rack → ℕ → ℕ → List (Node × Packet)
announces rack epoch switch =
    map (λ client. (node.Client client, Announce epoch switch)) (below rack.clients)

abbrev pub retry_of : Option Command → Rack → Controller → Step Controller (Node × Packet) Retry
retry_of (Some command) rack c =
    record { state = c; sent = command_packet c command ∷ []; did = retry.Command c.last }
retry_of None rack c =
    record { state = c; sent = announces rack c.epoch c.switch; did = retry.Announced c.epoch }

abbrev pub retry_command : Controller → Step Controller (Node × Packet) Retry
retry_command c = retry_of c.pending c.rack c

abbrev pub survey : Controller → Step Controller (Node × Packet) (Unit {0})
survey c = record { state = c; sent = (node.Switch c.switch, Survey) ∷ []; did = tt }

-- ---- plans

abbrev pub count_of : List ℕ → List Row → ℕ
count_of key [] = 0
count_of key (row ∷ rows) = if bytes_eq row.key key then row.count else count_of key rows

abbrev pub has_row : List ℕ → List Row → Bool
has_row key rows = list_any (λ row. bytes_eq row.key key) rows

-- greater counts first, and lesser keys first among equals
abbrev pub is_hotter : Row → Row → Bool
is_hotter a b = nat_lt b.count a.count || (a.count == b.count && is_lt (key_cmp a.key b.key))

abbrev pub demotions : List (List ℕ) → List Row → ℕ → List Command
demotions known rows demote_below =
    map Demote
    (filter (λ key. not (has_row key rows) || nat_lt (count_of key rows) demote_below) known)

-- whether a row is sure of this count and its key isn't known yet
abbrev pub is_worth : ℕ → List (List ℕ) → Row → Bool
is_worth promote_at known row =
    nat_le promote_at (row.count - row.error) && not (is_in row.key known)

abbrev pub promotions : List (List ℕ) → List Row → ℕ → List Command
promotions known rows promote_at =
    map (λ row. Promote row.key) (filter (is_worth promote_at known) (sorted is_hotter rows))

abbrev pub is_demotion : Command → Bool
is_demotion (Demote key) = true
is_demotion _ = false

-- the first command is sent at once, and the others are queued
abbrev pub sends_all :
    {D : Type 0} → Controller → List Command → D → Step Controller (Node × Packet) D
sends_all c [] did = refuse c did
sends_all c (command ∷ queue) did = sends_command (record c { queue = queue }) command did

abbrev pub planned : Option (List Row) → Controller → ℕ → ℕ → Step Controller (Node × Packet) Plan
planned None c promote_at demote_below = refuse c plan.NoReport
planned (Some rows) c promote_at demote_below =
    let commands =
    take 64 (demotions c.known rows demote_below ++ promotions c.known rows promote_at) in
    let demotes = length (filter is_demotion commands) in
    sends_all c commands (plan.Planned demotes (length commands - demotes))

abbrev pub make_plan : Controller → ℕ → ℕ → Step Controller (Node × Packet) Plan
make_plan c promote_at demote_below =
    if is_some c.pending then refuse c (plan.Busy c.last)
    else (if nat_lt (last_number - 65) c.last then refuse c (plan.Spent c.last)
    else planned c.report c promote_at demote_below)

-- ---- acknowledgements

-- whether the outcome can belong to the command of this number
abbrev pub belongs : ℕ → What → Outcome → Bool
belongs number (packet.Promote key) (Listed listing) = listing == number
belongs number (packet.Promote key) (Already listing) = true
belongs number (packet.Promote key) (Full count) = true
belongs number (packet.Promote key) (NoVersion next) = true
belongs number (packet.Demote key) (Marked mark) = true
belongs number (packet.Demote key) NotListed = true
belongs number (packet.Demote key) (AlreadyMarked mark) = true
belongs number (packet.Copy target key) (Ordered server) = true
belongs number (packet.Copy target key) NotListed = true
belongs number (packet.Copy target key) Holds = true
belongs number (packet.FenceKey key) (Fenced base) = true
belongs number (packet.FenceKey key) NotListed = true
belongs number (packet.FenceKey key) NoBase = true
belongs number (packet.Seal target epoch) (Activated active) = active == epoch
belongs number packet.Clear Cleared = true
belongs number _ _ = false

abbrev pub is_listed : Outcome → Bool
is_listed (Listed listing) = true
is_listed _ = false

-- an outcome that can't be of the pending command, or a listing where as many keys are known as
-- there is room for
abbrev pub is_strange : Rack → Controller → Command → Outcome → Bool
is_strange rack c command outcome =
    not (belongs c.last (what_of c.epoch command) outcome)
    || (is_listed outcome && nat_le rack.listed (length c.known))

-- what the controller knows once the outcome of its command is taken
abbrev pub learned : Controller → Command → Outcome → Controller
learned c (Promote key) (Listed listing) =
    record c { known = if is_in key c.known then c.known else c.known ++ key ∷ [] }
learned c (Demote key) (Marked mark) =
    record c { known = filter (λ other. not (bytes_eq other key)) c.known }
learned c (Handover target) (Activated epoch) = record c { switch = target; epoch = epoch }
learned c _ _ = c

abbrev pub announced : Rack → Controller → Outcome → List (Node × Packet)
announced rack c (Activated epoch) = announces rack c.epoch c.switch
announced rack c _ = []

-- then the next queued command is sent
abbrev pub next_queued : Controller → List Command → Step Controller (Node × Packet) (Unit {0})
next_queued c queue = sends_all c queue tt

abbrev pub takes :
    Rack → Controller → Command → Outcome → Step Controller (Node × Packet) ControlDid
takes rack c command outcome =
    let now = record (learned c command outcome) { pending = None } in
    let rest = next_queued now c.queue in
    record {
      state = rest.state;
      sent = announced rack now outcome ++ rest.sent;
      did = did.Took c.last outcome;
    }

abbrev pub acknowledged :
    Option Command → Rack → Controller → ℕ → Outcome → Step Controller (Node × Packet) ControlDid
acknowledged None rack c number outcome = refuse c did.Ignored
acknowledged (Some command) rack c number outcome =
    if not (number == c.last) then refuse c did.Ignored
    else (if is_strange rack c command outcome then refuse c did.OutOfPlace
    else takes rack c command outcome)

unfoldable pub controller_step : Controller → Packet → Step Controller (Node × Packet) ControlDid
controller_step c (CommandAck number outcome) = acknowledged c.pending c.rack c number outcome
controller_step c (Report epoch total rows) =
    record {
      state = record c { report = Some rows };
      sent = [];
      did = did.HasReport (length rows);
    }
controller_step c _ = refuse c did.OutOfPlace
