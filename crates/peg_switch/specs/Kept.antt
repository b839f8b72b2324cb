-- What every switch keeps.
--     answers format last kept      the outcome that it keeps is of a command of this number, and
--         goes into a packet
--     may_hand_over rack mode epoch      a sealed switch has a target in the rack, and its parts an
--         epoch
--     comes_next epoch what      a command to seal is of the epoch after this one
--     some_parts bytes target epoch n, each_part bytes target epoch      the packets that carry the
--         first n parts of a state's bytes, and all of them
use Rattle.std.specs.Prelude.{ℕ, ◌+◌, ◌^◌, Bool, true, ◌&&◌, ◌==◌, nat_lt, Option, Some, None}
use Rattle.std.specs.Prelude.{List, [], map, length, slice_index_or}
use Rattle.peg_name.specs.Name.{Rack}
use Rattle.peg_name.specs.declared.Format.{Format}
use Rattle.peg_event.specs.declared.Outcome.{Outcome}
use Rattle.peg_name.specs.declared.Node.{Node}
use Rattle.peg_name.specs.declared.Node.TheVariants as node
use Rattle.peg_model.specs.Words.{below}
use Rattle.peg_model.specs.Packet.{is_positive, outcome_in_range, What, Seal, Part, Packet}
use Rattle.peg_model.specs.Handover.{parts}
use Rattle.peg_model.specs.Switch.{Mode, Idle, Active, Sealed}

abbrev pub answers : Format → ℕ → Option Outcome → Bool
answers format last None = true
answers format last (Some outcome) = is_positive last && outcome_in_range format outcome

abbrev pub may_hand_over : Rack → Mode → ℕ → Bool
may_hand_over rack Idle epoch = true
may_hand_over rack Active epoch = nat_lt 0 epoch
may_hand_over rack (Sealed target) epoch =
    nat_lt 0 epoch && nat_lt (epoch + 1) (2 ^ 64) && nat_lt target rack.switches

abbrev pub comes_next : ℕ → What → Bool
comes_next epoch (Seal target next) = next == epoch + 1
comes_next epoch _ = true

-- the first n parts of these bytes in their order, as they are sent
abbrev pub some_parts : List ℕ → ℕ → ℕ → ℕ → List (Node × Packet)
some_parts bytes target epoch n =
    let all = parts bytes in
    map (λ i. (node.Switch target, Part epoch i (length all) (slice_index_or all i []))) (below n)

abbrev pub each_part : List ℕ → ℕ → ℕ → List (Node × Packet)
each_part bytes target epoch = some_parts bytes target epoch (length (parts bytes))
