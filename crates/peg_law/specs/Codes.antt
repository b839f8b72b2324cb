-- How the protocol machine tells what the book says in lists of bytes: keys and values as numbers.
--     number_of bytes, bytes_of n      a number for each list of numbers, and the list back
--     content_code, act_code, node_code, entry_code      contents, acts, nodes and entries
--     what_code, outcome_code, packet_code      commands, outcomes and packets
use Rattle.std.specs.Prelude.{◌+◌, ◌*◌, ◌/◌, ◌%◌, ◌^◌, ◌==◌, ℕ, zero, suc, List, [], ◌∷◌}
use Rattle.std.specs.Prelude.{Option, Some, None, map, if◌then◌else◌}
use Rattle.peg_name.specs.declared.value.Content.{Content}
use Rattle.peg_name.specs.declared.value.Content.TheVariants.{Absent, Present}
use Rattle.peg_name.specs.declared.Node.{Node}
use Rattle.peg_name.specs.declared.Node.TheVariants as node
use Rattle.peg_event.specs.declared.history.Act.{Act}
use Rattle.peg_event.specs.declared.history.Act.TheVariants as act
use Rattle.peg_event.specs.declared.answers.Ask.{Ask}
use Rattle.peg_event.specs.declared.answers.Ask.TheVariants as ask
use Rattle.peg_event.specs.declared.answers.Listing.{Listing}
use Rattle.peg_event.specs.declared.Outcome.{Outcome}
use Rattle.peg_event.specs.declared.Outcome.TheVariants as outcome
use Rattle.peg_event.specs.declared.answers.Stored.{Stored}
use Rattle.peg_event.specs.declared.history.Op.{Op}
use Rattle.peg_model.specs.Packet as packet
use Rattle.peg_model.specs.Packet.{Packet, What}
use Rattle.peg_model.specs.Rules.{Directory}
use Rattle.peg_protocol.specs.Packet as law
use Rattle.peg_protocol.specs.Core.{Entry}
use Rattle.peg_protocol.specs.Machine as machine

-- a list of numbers as one number: x ones of base two behind the rest and a one
unfoldable pub number_of : List ℕ → ℕ
number_of [] = 0
number_of (x ∷ xs) = 2 ^ x * (2 * number_of xs + 1)

-- read from its low end, where x zeros were passed
unfoldable pub bytes_from : ℕ → ℕ → ℕ → List ℕ
bytes_from zero x n = []
bytes_from (suc steps) x n =
    if n == 0 then []
    else (if n % 2 == 0 then bytes_from steps (x + 1) (n / 2) else x ∷ bytes_from steps 0 (n / 2))

unfoldable pub bytes_of : ℕ → List ℕ
bytes_of n = bytes_from n 0 n

abbrev pub content_code : Content → Option ℕ
content_code Absent = None
content_code (Present value) = Some (number_of value)

-- what an operation does, with the content that it writes
abbrev pub act_code : Act → Content → machine.Act
act_code act.Read content = machine.Reads
act_code act.Write content = machine.Writes (content_code content)

abbrev pub ask_code : Ask → machine.Act
ask_code ask.Read = machine.Reads
ask_code (ask.Write content) = machine.Writes (content_code content)

abbrev pub plan_code : Op → machine.Plan
plan_code op =
    record { key = number_of op.key; act = act_code op.act op.content; issue = op.issued }

abbrev pub node_code : Node → law.Node
node_code (node.Client id) = law.Client id
node_code (node.Server id) = law.Server id
node_code (node.Switch id) = law.Switch id
node_code node.Controller = law.Controller

abbrev pub entry_code : List ℕ × Listing → Entry
entry_code (key, entry) =
    record {
      key = number_of key;
      listing = entry.listing;
      base = entry.base;
      completed = entry.completed;
      holders = entry.holders;
      mark = entry.mark;
    }

abbrev pub entries_code : Directory → List Entry
entries_code entries = map entry_code entries

abbrev pub pair_code : Stored → machine.Pair
pair_code was = record { version = was.version; content = content_code was.content }

abbrev pub guard_code : Stored → machine.Guard
guard_code was = record { low = was.low; floor = was.floor; old = was.old }

abbrev pub what_code : What → law.What
what_code (packet.Promote key) = law.Promote (number_of key)
what_code (packet.Demote key) = law.Demote (number_of key)
what_code (packet.Copy target key) = law.Copy target (number_of key)
what_code (packet.Seal target epoch) = law.Seal target epoch
what_code packet.Clear = law.Clear
what_code (packet.FenceKey key) = law.FenceKey (number_of key)

abbrev pub outcome_code : Outcome → law.Outcome
outcome_code (outcome.Listed listing) = law.Listed listing
outcome_code (outcome.Already listing) = law.Already listing
outcome_code (outcome.Full count) = law.Full count
outcome_code (outcome.Marked mark) = law.Marked mark
outcome_code outcome.NotListed = law.NotListed
outcome_code (outcome.AlreadyMarked mark) = law.AlreadyMarked mark
outcome_code (outcome.Ordered server) = law.Ordered server
outcome_code outcome.Holds = law.Holds
outcome_code (outcome.Activated epoch) = law.Activated epoch
outcome_code outcome.Cleared = law.Cleared
outcome_code (outcome.Fenced base) = law.Fenced base
outcome_code outcome.NoBase = law.NoBase
outcome_code (outcome.NoVersion next) = law.NoVersion next

-- a part is told otherwise, with the whole state
abbrev pub packet_code : Packet → law.Packet
packet_code (packet.Read client seq key) = law.Read client seq (number_of key)
packet_code (packet.Write client seq key content) =
    law.Write client seq (number_of key) (content_code content)
packet_code (packet.ToServerRead client seq server switch key) =
    law.ToServerRead client seq switch (number_of key)
packet_code (packet.ToServerWrite client seq version server switch key content) =
    law.ToServerWrite client seq version switch (number_of key) (content_code content)
packet_code (packet.ReadReply client seq version server switch key content) =
    law.ReadReply client seq version server switch (number_of key) (content_code content)
packet_code (packet.WriteReply client seq version server switch key) =
    law.WriteReply client seq version server switch (number_of key)
packet_code (packet.Command number what) = law.Command number (what_code what)
packet_code (packet.CommandAck number outcome) = law.Ack number (outcome_code outcome)
packet_code (packet.CopyOrder switch server target key) =
    law.CopyOrder switch target (number_of key)
packet_code (packet.CopyData switch server version key content) =
    law.CopyData version switch (number_of key) (content_code content)
packet_code (packet.Held server version key) = law.Held server version (number_of key)
packet_code (packet.Part epoch index count bytes) = law.Other
packet_code (packet.Announce epoch switch) = law.Announce epoch switch
packet_code packet.Survey = law.Other
packet_code (packet.Report epoch total rows) = law.Other
packet_code (packet.Fence switch server version key) = law.Fence version switch (number_of key)
packet_code (packet.Void client seq version server switch key) =
    law.Void client seq version server switch (number_of key)
