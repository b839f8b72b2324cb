-- The commands of a controller, apart from what it knows of the rack.
--     Orders      the last number, the command that has it while it waits for its
--         acknowledgement, and the commands that wait for that one
--     with_begun o command      the command gets the next number and is pending
--     with_next o      nothing is pending any more, and the first command that waits begins
--     with_waiting o command      the command waits last
--     orders_of c, with_orders c o      those of a controller, and the controller with others
--     pending_packets c      the pending command as it is sent, if there is one
use Rattle.std.specs.Prelude.{ℕ, ◌+◌, Option, Some, None, List, [], ◌∷◌, ◌++◌}
use Rattle.peg_name.specs.declared.Node.{Node}
use Rattle.peg_event.specs.declared.Command.{Command}
use Rattle.peg_model.specs.Packet.{Packet}
use Rattle.peg_model.specs.Controller.{Controller, command_packet}

pub record Orders : Type 0 where
  pub last : ℕ
  pub pending : Option Command
  pub queue : List Command

abbrev pub with_begun : Orders → Command → Orders
with_begun o command = record o { last = o.last + 1; pending = Some command }

abbrev pub with_first : Orders → List Command → Orders
with_first o [] = record o { pending = None; queue = [] }
with_first o (command ∷ queue) = with_begun (record o { queue = queue }) command

abbrev pub with_next : Orders → Orders
with_next o = with_first o o.queue

abbrev pub with_waiting : Orders → Command → Orders
with_waiting o command = record o { queue = o.queue ++ command ∷ [] }

abbrev pub orders_of : Controller → Orders
orders_of c = record { last = c.last; pending = c.pending; queue = c.queue }

abbrev pub with_orders : Controller → Orders → Controller
with_orders c o = record c { last = o.last; pending = o.pending; queue = o.queue }

abbrev pub packets_of : Controller → Option Command → List (Node × Packet)
packets_of c None = []
packets_of c (Some command) = command_packet c command ∷ []

abbrev pub pending_packets : Controller → List (Node × Packet)
pending_packets c = packets_of c c.pending
