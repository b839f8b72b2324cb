-- What the commands and their outcomes tell the controller, in a world.
--     names_key command key      the command is about the key
--     is_unmarked entry      the key is listed, without a mark
--     CommandsSettle w      an outcome can belong to its command, the pending command is the one
--         that was sent with its number, the controller knows the listed keys but for the pending
--         command's, and a sealed state has its handover pending
use Rattle.std.specs.Prelude.{◌≡◌, ◌+◌, ℕ, Bool, true, false, List, Option, Some, None, IsSome}
use Rattle.std.specs.Prelude.{Contains, is_none}
use Rattle.std.specs.Str.{bytes_eq}
use Rattle.peg_name.specs.declared.Node.TheVariants as node
use Rattle.peg_event.specs.declared.Command.{Command}
use Rattle.peg_event.specs.declared.Command.TheVariants.{Promote, Demote, Copy, Fence, Handover}
use Rattle.peg_event.specs.declared.Command.TheVariants.{Clear}
use Rattle.peg_event.specs.declared.answers.Listing.{Listing}
use Rattle.peg_event.specs.declared.Outcome.{Outcome}
use Rattle.peg_event.specs.declared.Outcome.TheVariants.{Activated}
use Rattle.peg_model.specs.Controller.{belongs, what_of}
use Rattle.peg_model.specs.Packet as packet
use Rattle.peg_model.specs.Packet.{What, CommandAck}
use Rattle.peg_model.specs.Rules.{entry_of}
use Rattle.peg_model.specs.Switch.{Sealed}
use Rattle.peg_model.specs.Words.{is_in}
use Rattle.peg_model.specs.World.{World, switch_of}
use Rattle.peg_law.specs.Covered.{IsCurrent}

abbrev pub names_key : Option Command → List ℕ → Bool
names_key None key = false
names_key (Some (Promote other)) key = bytes_eq other key
names_key (Some (Demote other)) key = bytes_eq other key
names_key (Some (Copy other target)) key = bytes_eq other key
names_key (Some (Fence other)) key = bytes_eq other key
names_key (Some (Handover target)) key = false
names_key (Some Clear) key = false

abbrev pub is_unmarked : Option Listing → Bool
is_unmarked None = false
is_unmarked (Some entry) = is_none entry.mark

-- the handover to the switch is pending, for the epoch that follows the controller's
abbrev pub IsHandingOver : World → ℕ → ℕ → Type 0
IsHandingOver w target epoch =
    (w.controller.pending ≡ Some (Handover target)) × (w.controller.epoch + 1 ≡ epoch)

pub record CommandsSettle (w : World) : Type 0 where
  pub holder : ℕ
  pub current : IsCurrent w holder
  pub belongs :
      (a number : ℕ) (what : What) (outcome : Outcome)
      → Contains w.packets (node.Switch a, packet.Command number what)
      → Contains w.packets (node.Controller, CommandAck number outcome)
      → belongs number what outcome ≡ true
  -- a command of the controller's last number is the pending one, at the controller's epoch
  pub pending :
      (a : ℕ) (what : What) (command : Command) → w.controller.pending ≡ Some command
      → Contains w.packets (node.Switch a, packet.Command w.controller.last what)
      → what ≡ what_of w.controller.epoch command
  -- the known keys are the listed ones without a mark, but for that of the pending command
  pub known :
      (key : List ℕ) → names_key w.controller.pending key ≡ false
      → is_in key w.controller.known ≡ is_unmarked (entry_of (switch_of w holder).entries key)
  -- where the current state is sealed, the command that sealed it is pending
  pub sealed :
      (target : ℕ) → (switch_of w holder).mode ≡ Sealed target
      → IsHandingOver w target ((switch_of w holder).epoch + 1)
  -- the pending command was acknowledged as activated only where its target is current
  pub activated :
      (epoch : ℕ) → IsSome w.controller.pending
      → Contains w.packets (node.Controller, CommandAck w.controller.last (Activated epoch))
      → IsHandingOver w holder (switch_of w holder).epoch
