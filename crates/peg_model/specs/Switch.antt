-- A switch: it forwards requests and replies while it is active, carries out commands in their
-- order, and hands its state over.
--     Mode, Switch      idle, active or sealed towards a target; the state of a switch
--     out_of_place s packet      whether the packet is refused for its kind, its numbers or its
--         place
--     switch_step s packet pick      one step on a packet
use Rattle.std.specs.Prelude.{◌+◌, ◌-◌, ℕ, Bool, true, false, not, ◌&&◌, ◌||◌, ◌==◌, nat_lt}
use Rattle.std.specs.Prelude.{nat_le, Option, Some, None, List, [], ◌∷◌, ◌++◌, length, map}
use Rattle.std.specs.Prelude.{replicate, slice_index_or, if◌then◌else◌}
use Rattle.peg_name.specs.Name.{Rack, home_of}
use Rattle.peg_name.specs.declared.value.Content.{Content}
use Rattle.peg_name.specs.declared.Node.{Node}
use Rattle.peg_name.specs.declared.Node.TheVariants as node
use Rattle.peg_event.specs.declared.Outcome.{Outcome}
use Rattle.peg_event.specs.declared.Outcome.TheVariants as outcome
use Rattle.peg_event.specs.declared.SwitchDid.{SwitchDid}
use Rattle.peg_event.specs.declared.SwitchDid.TheVariants as did
use Rattle.peg_event.specs.declared.answers.Forward.{Forward}
use Rattle.peg_event.specs.declared.answers.Forward.TheVariants as forward
use Rattle.peg_event.specs.declared.answers.Promoted.{Promoted}
use Rattle.peg_event.specs.declared.answers.Promoted.TheVariants as promoted
use Rattle.peg_event.specs.declared.answers.MarkDid.{MarkDid}
use Rattle.peg_event.specs.declared.answers.MarkDid.TheVariants as mark_did
use Rattle.peg_event.specs.declared.answers.CopyFrom.{CopyFrom}
use Rattle.peg_event.specs.declared.answers.CopyFrom.TheVariants as copy_from
use Rattle.peg_event.specs.declared.answers.FenceOf.{FenceOf}
use Rattle.peg_event.specs.declared.answers.FenceOf.TheVariants as fence_at
use Rattle.peg_model.specs.Words.{Step, refuse, below}
use Rattle.peg_model.specs.Packet.{What, Promote, Demote, Copy, Seal, Clear, FenceKey, Packet}
use Rattle.peg_model.specs.Packet.{Read, Write, ToServerRead, ToServerWrite, ReadReply, WriteReply}
use Rattle.peg_model.specs.Packet.{Command, CommandAck, CopyOrder, Held, Part, Survey, Report}
use Rattle.peg_model.specs.Packet.{Fence, Void}
use Rattle.peg_model.specs.Counts.{Counts, no_counts, see}
use Rattle.peg_model.specs.Rules.{Stamps, Directory, Core, new_listing, read_request}
use Rattle.peg_model.specs.Rules.{write_request, on_report, on_void, promote, demote, copy_source}
use Rattle.peg_model.specs.Rules.{fence_of}
use Rattle.peg_model.specs.Handover.{State, state_bytes, parts, state_of, Collected}
use Rattle.peg_model.specs.Handover.{none_collected, held_count, is_whole, bytes_of, begun}
use Rattle.peg_model.specs.Handover.{with_part, has_part, fits}

pub data Mode : Type 0 where
  Idle : Mode
  Active : Mode
  Sealed : (target : ℕ) → Mode

pub record Switch : Type 0 where
  pub rack : Rack
  pub id : ℕ
  pub mode : Mode
  pub epoch : ℕ
  pub stamps : Stamps
  pub entries : Directory
  pub counts : Counts
  -- the number of the last command that was taken, 0 at first, and its outcome
  pub last : ℕ
  pub kept : Option Outcome
  pub collected : Collected

abbrev pub SwitchStep : Type 0
SwitchStep = Step Switch (Node × Packet) SwitchDid

-- switch 0 starts active at epoch 1, with the keys of the rack line listed, and the others idle at
-- epoch 0
abbrev pub new_switch : Rack → List (List ℕ) → ℕ → Switch
new_switch rack keys id = record {
  rack = rack;
  id = id;
  mode = if id == 0 then Active else Idle;
  epoch = if id == 0 then 1 else 0;
  stamps = record { next = rack.first; rows = replicate rack.clients (0, 0) };
  entries =
      if id == 0
      then map (λ key. (key, new_listing 0 (home_of rack.servers key) (rack.first - 1))) keys
      else [];
  counts = no_counts;
  last = 0;
  kept = None;
  collected = none_collected;
}

abbrev pub core_of : Switch → Core
core_of s = record { rack = s.rack; stamps = s.stamps; entries = s.entries }

abbrev pub with_core : Switch → Core → Switch
with_core s core = record s { stamps = core.stamps; entries = core.entries }

-- the state that this switch would hand over
abbrev pub state_held : Switch → State
state_held s = record { stamps = s.stamps; last = s.last; entries = s.entries }

-- ---- what is out of place

abbrev pub is_active : Mode → Bool
is_active Active = true
is_active _ = false

abbrev pub what_in_rack : Rack → What → Bool
what_in_rack rack (Copy target key) = nat_lt target rack.servers
what_in_rack rack (Seal target epoch) = nat_lt target rack.switches
what_in_rack rack _ = true

abbrev pub switch_takes : Rack → Packet → Bool
switch_takes rack (Read client seq key) = nat_lt client rack.clients
switch_takes rack (Write client seq key content) = nat_lt client rack.clients
switch_takes rack (ReadReply client seq version server switch key content) =
    nat_lt client rack.clients && nat_lt server rack.servers && nat_lt switch rack.switches
switch_takes rack (WriteReply client seq version server switch key) =
    nat_lt client rack.clients && nat_lt server rack.servers && nat_lt switch rack.switches
switch_takes rack (Void client seq version server switch key) =
    nat_lt client rack.clients && nat_lt server rack.servers && nat_lt switch rack.switches
switch_takes rack (Held server version key) = nat_lt server rack.servers
switch_takes rack (Command number what) = what_in_rack rack what
switch_takes rack (Part epoch index count bytes) = true
switch_takes rack Survey = true
switch_takes rack _ = false

-- a part of an epoch that this switch has passed, or below the one that it collects
abbrev pub is_old : Switch → ℕ → Bool
is_old s epoch = nat_le epoch s.epoch || nat_lt epoch s.collected.epoch

abbrev pub is_misplaced : Switch → Packet → Bool
is_misplaced s (Command number (Seal target epoch)) =
    is_active s.mode && number == s.last + 1 && (target == s.id || not (epoch == s.epoch + 1))
is_misplaced s (Part epoch index count bytes) =
    if is_active s.mode then nat_lt s.epoch epoch || (epoch == s.epoch && s.last == 0)
    else not (is_old s epoch)
    && not (fits s.rack (begun s.collected epoch count) index count bytes)
is_misplaced s _ = false

abbrev pub out_of_place : Switch → Packet → Bool
out_of_place s packet = not (switch_takes s.rack packet) || is_misplaced s packet

-- ---- requests and replies

abbrev pub counted : Switch → List ℕ → Switch
counted s key = record s { counts = see s.rack.hot s.counts key }

abbrev pub forwards_read : Forward → Switch → ℕ → ℕ → List ℕ → SwitchStep
forwards_read (forward.To server version) s client seq key =
    record {
      state = counted s key;
      sent = (node.Server server, ToServerRead client seq server s.id key) ∷ [];
      did = did.Read server key;
    }
forwards_read (forward.Stale last) s client seq key = refuse s (did.Stale last)
forwards_read (forward.Exhausted next) s client seq key = refuse s (did.Exhausted next)

-- the write goes out with its version, and the core is that after it
abbrev pub forwards_write : Forward × Core → Switch → ℕ → ℕ → List ℕ → Content → SwitchStep
forwards_write (forward.To server version, core) s client seq key content =
    record {
      state = with_core (counted s key) core;
      sent = (node.Server server, ToServerWrite client seq version server s.id key content) ∷ [];
      did = did.Wrote server key version;
    }
forwards_write (forward.Stale last, core) s client seq key content = refuse s (did.Stale last)
forwards_write (forward.Exhausted next, core) s client seq key content =
    refuse s (did.Exhausted next)

-- a reply is noted, and goes on to its client as it is
abbrev pub on_reply : Switch → ℕ → ℕ → ℕ → ℕ → List ℕ → Packet → SwitchStep
on_reply s client seq version server key reply =
    let noted = on_report (core_of s) server key version in
    record {
      state = with_core s noted.1;
      sent = (node.Client client, reply) ∷ [];
      did = did.Answered client seq version noted.0;
    }

abbrev pub on_held : Switch → ℕ → ℕ → List ℕ → SwitchStep
on_held s server version key =
    let noted = on_report (core_of s) server key version in
    record { state = with_core s noted.1; sent = []; did = did.Noted server version noted.0 }

-- a void opens the row of its client, where it is of the last stamp, and goes on to nobody
abbrev pub takes_void : Bool × Core → Switch → ℕ → ℕ → ℕ → SwitchStep
takes_void (true, core) s client seq version =
    record { state = with_core s core; sent = []; did = did.Voided client seq version }
takes_void (false, core) s client seq version = refuse s (did.VoidSkipped client seq)

-- ---- commands

abbrev pub acknowledgement : ℕ → Outcome → Node × Packet
acknowledgement number outcome = (node.Controller, CommandAck number outcome)

abbrev pub kept_of : Option Outcome → ℕ → List (Node × Packet)
kept_of (Some outcome) last = acknowledgement last outcome ∷ []
kept_of None last = []

abbrev pub kept_acknowledgement : Switch → List (Node × Packet)
kept_acknowledgement s = kept_of s.kept s.last

-- the command is taken with this outcome, and what it sends goes before the acknowledgement
abbrev pub settled : Switch → ℕ → Outcome → List (Node × Packet) → SwitchStep
settled s number outcome sent =
    record {
      state = record s { last = number; kept = Some outcome };
      sent = sent ++ acknowledgement number outcome ∷ [];
      did = did.Applied number outcome;
    }

abbrev pub promoted_outcome : ℕ → Promoted → Outcome
promoted_outcome number promoted.Listed = outcome.Listed number
promoted_outcome number (promoted.Already listing) = outcome.Already listing
promoted_outcome number (promoted.Full count) = outcome.Full count
promoted_outcome number (promoted.NoVersion next) = outcome.NoVersion next

abbrev pub marked_outcome : MarkDid → Outcome
marked_outcome mark_did.NotListed = outcome.NotListed
marked_outcome (mark_did.AlreadyMarked mark) = outcome.AlreadyMarked mark
marked_outcome (mark_did.Marked mark) = outcome.Marked mark

-- the parts of the state that a sealed switch hands to the target
abbrev pub part_packets : Switch → ℕ → List (Node × Packet)
part_packets s target =
    let all = parts (state_bytes s.rack.format (state_held s)) in
    map (λ i. (node.Switch target, Part (s.epoch + 1) i (length all) (slice_index_or all i [])))
    (below (length all))

abbrev pub sealed : Switch → ℕ → ℕ → SwitchStep
sealed s number target =
    let now = record s { mode = Sealed target; last = number; kept = None } in
    record { state = now; sent = part_packets now target; did = did.Sealed (s.epoch + 1) target }

abbrev pub copies : CopyFrom → Switch → ℕ → ℕ → List ℕ → SwitchStep
copies copy_from.NotListed s number target key = settled s number outcome.NotListed []
copies copy_from.Holds s number target key = settled s number outcome.Holds []
copies (copy_from.From source) s number target key =
    settled s number (outcome.Ordered source)
    ((node.Server source, CopyOrder s.id source target key) ∷ [])

abbrev pub fences : FenceOf → Switch → ℕ → List ℕ → SwitchStep
fences fence_at.NotListed s number key = settled s number outcome.NotListed []
fences fence_at.NoBase s number key = settled s number outcome.NoBase []
fences (fence_at.At home base) s number key =
    settled s number (outcome.Fenced base) ((node.Server home, Fence s.id home base key) ∷ [])

abbrev pub promotes : Promoted × Core → Switch → ℕ → SwitchStep
promotes (promoted, core) s number =
    settled (with_core s core) number (promoted_outcome number promoted) []

abbrev pub demotes : MarkDid × Core → Switch → ℕ → SwitchStep
demotes (marked, core) s number = settled (with_core s core) number (marked_outcome marked) []

abbrev pub carry_out : Switch → ℕ → What → SwitchStep
carry_out s number (Promote key) = promotes (promote (core_of s) key number) s number
carry_out s number (Demote key) = demotes (demote (core_of s) key) s number
carry_out s number (Copy target key) =
    copies (copy_source (core_of s) key target) s number target key
carry_out s number (FenceKey key) = fences (fence_of (core_of s) key) s number key
carry_out s number (Seal target epoch) = sealed s number target
carry_out s number Clear = settled (record s { counts = no_counts }) number outcome.Cleared []

-- the last command is acknowledged again
abbrev pub repeats : Switch → SwitchStep
repeats s = record { state = s; sent = kept_acknowledgement s; did = did.Repeated s.last }

abbrev pub on_command : Switch → ℕ → What → SwitchStep
on_command s number what =
    if number == s.last + 1 then carry_out s number what
    else (if number == s.last then repeats s
    else refuse s (did.Skipped number s.last))

-- ---- parts

-- a whole state makes the switch active
abbrev pub activates : Option State → Switch → ℕ → SwitchStep
activates None s epoch = refuse s did.OutOfPlace
activates (Some state) s epoch = record {
  state = record {
    rack = s.rack;
    id = s.id;
    mode = Active;
    epoch = epoch;
    stamps = state.stamps;
    entries = state.entries;
    counts = no_counts;
    last = state.last;
    kept = Some (outcome.Activated epoch);
    collected = none_collected;
  };
  sent = acknowledgement state.last (outcome.Activated epoch) ∷ [];
  did = did.Activated epoch;
}

-- the parts that are held, with one more
abbrev pub collects : Collected → Switch → ℕ → ℕ → SwitchStep
collects now s epoch count =
    if is_whole now then activates (state_of s.rack (bytes_of now)) s epoch
    else record {
      state = record s { collected = now };
      sent = [];
      did = did.Collected (held_count now) count;
    }

abbrev pub on_part : Switch → ℕ → ℕ → ℕ → List ℕ → SwitchStep
on_part s epoch index count bytes =
    if is_old s epoch then refuse s (did.OldPart epoch)
    else (if has_part (begun s.collected epoch count) index then refuse s (did.HasPart index)
    else collects (with_part (begun s.collected epoch count) index bytes) s epoch count)

-- ---- the step

abbrev pub active_step : Switch → Packet → ℕ → SwitchStep
active_step s (Read client seq key) pick =
    forwards_read (read_request (core_of s) key pick) s client seq key
active_step s (Write client seq key content) pick =
    forwards_write (write_request (core_of s) key client seq pick) s client seq key content
active_step s (ReadReply client seq version server switch key content) pick =
    on_reply s client seq version server key
    (ReadReply client seq version server switch key content)
active_step s (WriteReply client seq version server switch key) pick =
    on_reply s client seq version server key (WriteReply client seq version server switch key)
active_step s (Void client seq version server switch key) pick =
    takes_void (on_void (core_of s) client seq version) s client seq version
active_step s (Held server version key) pick = on_held s server version key
active_step s (Command number what) pick = on_command s number what
active_step s (Part epoch index count bytes) pick =
    if epoch == s.epoch then repeats s else refuse s (did.OldPart epoch)
active_step s Survey pick =
    record {
      state = s;
      sent = (node.Controller, Report s.epoch s.counts.total s.counts.rows) ∷ [];
      did = did.Reported (length s.counts.rows);
    }
active_step s _ pick = refuse s did.OutOfPlace

abbrev pub idle_step : Switch → Packet → SwitchStep
idle_step s (Part epoch index count bytes) = on_part s epoch index count bytes
idle_step s _ = refuse s (did.NotActive s.epoch)

abbrev pub sends_again : Switch → ℕ → SwitchStep
sends_again s target =
    record { state = s; sent = part_packets s target; did = did.Repeated s.last }

-- a sealed switch sends its parts again for the number last
abbrev pub sealed_step : Switch → ℕ → Packet → SwitchStep
sealed_step s target (Part epoch index count bytes) = on_part s epoch index count bytes
sealed_step s target (Command number what) =
    if number == s.last then sends_again s target else refuse s (did.Skipped number s.last)
sealed_step s target _ = refuse s (did.NotActive s.epoch)

abbrev pub in_mode : Mode → Switch → Packet → ℕ → SwitchStep
in_mode Active s packet pick = active_step s packet pick
in_mode Idle s packet pick = idle_step s packet
in_mode (Sealed target) s packet pick = sealed_step s target packet

unfoldable pub switch_step : Switch → Packet → ℕ → SwitchStep
switch_step s packet pick =
    if out_of_place s packet then refuse s did.OutOfPlace else in_mode s.mode s packet pick
