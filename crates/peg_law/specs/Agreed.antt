-- What the parts of a state, the commands and their outcomes agree on, in a world.
--     OneState w      the parts of one epoch are of one state, and their epochs are where they
--         should be
--     OneVoice w      a command number has one command and one outcome, and the controller knows
--         where the current state is
use Rattle.std.specs.Prelude.{◌≡◌, ◌≤◌, ◌<◌, ◌+◌, ◌⊎◌, ℕ, List, Some, IsSome, Contains}
use Rattle.std.specs.Prelude.{slice_get, length}
use Rattle.peg_name.specs.declared.Format.{Format}
use Rattle.peg_name.specs.declared.Node.TheVariants as node
use Rattle.peg_event.specs.declared.Command.TheVariants.{Handover}
use Rattle.peg_event.specs.declared.Outcome.{Outcome}
use Rattle.peg_model.specs.Packet.{What, Part, Command, CommandAck}
use Rattle.peg_model.specs.Handover.{State, state_bytes, parts, part_of}
use Rattle.peg_model.specs.Switch.{Mode, Idle, Active, Sealed, state_held}
use Rattle.peg_model.specs.World.{World, switch_of}
use Rattle.peg_law.specs.Covered.{IsCurrent}

abbrev pub PartWasSent : World → ℕ → ℕ → ℕ → ℕ → List ℕ → Type 0
PartWasSent w a epoch index count bytes =
    Contains w.packets (node.Switch a, Part epoch index count bytes)

abbrev pub IsSealed : Mode → Type 0
IsSealed Idle = ⊥
IsSealed Active = ⊥
IsSealed (Sealed target) = Unit {0}

-- a part of the state's bytes, with the count of their parts
abbrev pub IsPartOf : Format → State → ℕ → ℕ → List ℕ → Type 0
IsPartOf format state index count bytes =
    (count ≡ length (parts (state_bytes format state))) × (index < count)
    × (bytes ≡ part_of (state_bytes format state) index)

pub record OneState (w : World) : Type 0 where
  pub holder : ℕ
  pub current : IsCurrent w holder
  -- one target and one count for each epoch, one slice for each index, and one state for all
  pub one_target :
      (a b epoch index other count count' : ℕ) (bytes bytes' : List ℕ)
      → PartWasSent w a epoch index count bytes → PartWasSent w b epoch other count' bytes'
      → (a ≡ b) × (count ≡ count')
  pub one_slice :
      (a b epoch index count count' : ℕ) (bytes bytes' : List ℕ)
      → PartWasSent w a epoch index count bytes → PartWasSent w b epoch index count' bytes'
      → bytes ≡ bytes'
  pub one_state :
      (a epoch index count : ℕ) (bytes : List ℕ) → PartWasSent w a epoch index count bytes
      → (state : State)
      × ((b other count' : ℕ) (bytes' : List ℕ) → PartWasSent w b epoch other count' bytes'
      → IsPartOf w.rack.format state other count' bytes')
  -- that of the next epoch is the current one
  pub sealed_state :
      (a index count : ℕ) (bytes : List ℕ)
      → PartWasSent w a ((switch_of w holder).epoch + 1) index count bytes
      → IsPartOf w.rack.format (state_held (switch_of w holder)) index count bytes
  pub old :
      (a epoch index count : ℕ) (bytes : List ℕ) → PartWasSent w a epoch index count bytes
      → epoch ≤ (switch_of w holder).epoch → epoch ≤ (switch_of w a).epoch
  pub new :
      (a epoch index count : ℕ) (bytes : List ℕ) → PartWasSent w a epoch index count bytes
      → (epoch ≤ (switch_of w holder).epoch)
      ⊎ (IsSealed (switch_of w holder).mode × (epoch ≡ (switch_of w holder).epoch + 1))
  -- what a switch has collected was sent to it
  pub collected :
      (a index : ℕ) (bytes : List ℕ)
      → slice_get (switch_of w a).collected.parts index ≡ Some (Some bytes)
      → (count : ℕ) × PartWasSent w a (switch_of w a).collected.epoch index count bytes

pub record OneVoice (w : World) : Type 0 where
  pub holder : ℕ
  pub current : IsCurrent w holder
  pub one_command :
      (a b number : ℕ) (what other : What)
      → Contains w.packets (node.Switch a, Command number what)
      → Contains w.packets (node.Switch b, Command number other) → what ≡ other
  pub one_outcome :
      (number : ℕ) (outcome other : Outcome)
      → Contains w.packets (node.Controller, CommandAck number outcome)
      → Contains w.packets (node.Controller, CommandAck number other) → outcome ≡ other
  -- the current state has taken each command but for the pending one
  pub last :
      ((switch_of w holder).last ≡ w.controller.last)
      ⊎ (((switch_of w holder).last + 1 ≡ w.controller.last) × IsSome w.controller.pending)
  -- the controller knows the current switch, or has a handover to it pending
  pub place :
      ((w.controller.switch ≡ holder) × (w.controller.epoch ≡ (switch_of w holder).epoch))
      ⊎ ((w.controller.pending ≡ Some (Handover holder))
      × (w.controller.epoch + 1 ≡ (switch_of w holder).epoch))
