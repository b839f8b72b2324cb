-- The fields of a machine, seen as a world in the middle of an event.
--     world_of nodes place packets operations fences promotions      the world that they make
--     Knows id c o      an operation of the client of this number has a number that it gave, and
--         where it is the pending one it is open
--     midway_of, IsMachine machine      what the fields hold, and what they keep
use Rattle.std.specs.Prelude.{◌≡◌, ◌<◌, ◌≤◌, ◌==◌, ℕ, Bool, true, false, Option, Some, None, List}
use Rattle.std.specs.Prelude.{map, min}
use Rattle.std.specs.List.{AllByRecursion}
use Rattle.peg_name.specs.declared.Node.{Node}
use Rattle.peg_event.specs.declared.answers.Pending.{Pending}
use Rattle.peg_model.specs.Packet.{Packet}
use Rattle.peg_model.specs.Client.{Client}
use Rattle.peg_model.specs.World.{World, Operation, AppliedFence, Promotion}
use Rattle.peg_pool.specs.Flight.{Flight}
use Rattle.peg_world.specs.Acting.{Acting}
use Rattle.peg_world.specs.Sound.{packet_in, IsFlown, Each}
use Rattle.peg_world.specs.Midway.{Midway}
use Rattle.peg_world.specs.declared.machine.Machine.TheInside.{Inside}

abbrev pub world_of :
    Acting → ℕ → List (Node × Packet) → List Operation → List AppliedFence → List Promotion → World
world_of nodes place packets operations fences promotions = record {
  rack = nodes.rack;
  place = place;
  clients = nodes.clients;
  servers = nodes.servers;
  switches = nodes.switches;
  controller = nodes.controller;
  packets = packets;
  operations = operations;
  fences = fences;
  promotions = promotions;
}

abbrev pub is_pending : Option Pending → ℕ → Bool
is_pending None seq = false
is_pending (Some pending) seq = pending.seq == seq

pub record Knows (id : ℕ) (c : Client) (o : Operation) : Type 0 where
  pub given : o.op.client ≡ id → o.seq < c.next
  pub open_one : o.op.client ≡ id → is_pending c.pending o.seq ≡ true → o.op.answered ≡ None

abbrev pub midway_of : Inside → Midway
midway_of m = record {
  world = world_of m.nodes m.place (map packet_in m.soup.items) m.operations.operations
      m.fences.fences m.promotions.promotions;
  sent = m.nodes.sent;
  spare = m.soup.spare;
  notes = min m.operations.spare (min m.fences.spare m.promotions.spare);
  room = m.operations.room;
}

pub record AreKept (nodes : Acting) (place : ℕ) (flight : Flight) (operations : List Operation) : Type
    0
  where
    pub format : flight.format ≡ nodes.rack.format
    pub flown : AllByRecursion (IsFlown nodes.rack) flight.items
    pub knows : Each (λ id c. AllByRecursion (Knows id c) operations) nodes.clients
    pub issued : AllByRecursion (λ o. o.op.issued ≤ place) operations

abbrev pub IsMachine : Inside → Type 0
IsMachine m = AreKept m.nodes m.place m.soup m.operations.operations
