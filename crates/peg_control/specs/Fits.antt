-- What a controller keeps, so that each of its packets is one and each of its numbers is left.
--     command_fits rack command      what the command names is in the rack
--     pending_fits rack pending      the same of a pending command
--     is_keyed command      the key that it names is one
--     most_epoch pending last, most_waiting pending      the greatest epoch, and the most commands
--         that wait, where the last number is `last`
--     IsController c      what every controller keeps
use Rattle.std.specs.Prelude.{◌≡◌, ◌≤◌, ◌<◌, ◌+◌, ℕ, Bool, true, Option, Some, None}
use Rattle.std.specs.Prelude.{length, nat_lt}
use Rattle.std.specs.List.{list_all}
use Rattle.peg_name.specs.Name.{Rack}
use Rattle.peg_event.specs.declared.Command.{Command}
use Rattle.peg_event.specs.declared.Command.TheVariants.{Promote, Demote, Copy, Fence, Handover}
use Rattle.peg_event.specs.declared.Command.TheVariants.{Clear}
use Rattle.peg_model.specs.Packet.{is_key}
use Rattle.peg_model.specs.Controller.{Controller}

abbrev pub command_fits : Rack → Command → Bool
command_fits rack (Promote key) = true
command_fits rack (Demote key) = true
command_fits rack (Copy key target) = nat_lt target rack.servers
command_fits rack (Fence key) = true
command_fits rack (Handover target) = nat_lt target rack.switches
command_fits rack Clear = true

abbrev pub is_keyed : Command → Bool
is_keyed (Promote key) = is_key key
is_keyed (Demote key) = is_key key
is_keyed (Copy key target) = is_key key
is_keyed (Fence key) = is_key key
is_keyed (Handover target) = true
is_keyed Clear = true

abbrev pub pending_fits : Rack → Option Command → Bool
pending_fits rack None = true
pending_fits rack (Some command) = command_fits rack command

-- an epoch was begun by each command at most, and the pending one has begun none yet
abbrev pub most_epoch : Option Command → ℕ → ℕ
most_epoch None last = last + 1
most_epoch (Some command) last = last

-- commands wait for a pending one alone
abbrev pub most_waiting : Option Command → ℕ
most_waiting None = 0
most_waiting (Some command) = 64

pub record IsController (c : Controller) : Type 0 where
  pub switch : c.switch < c.rack.switches
  pub known : length c.known ≤ c.rack.listed
  pub pending : pending_fits c.rack c.pending ≡ true
  pub queue : list_all (command_fits c.rack) c.queue ≡ true
  pub waiting : length c.queue ≤ most_waiting c.pending
  pub some : 1 ≤ c.epoch
  pub epoch : c.epoch ≤ most_epoch c.pending c.last
