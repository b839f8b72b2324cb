-- What a plan is made of.
--     is_cold rows below key      the key has no row, or one of a count below this
--     commands_of known rows promote_at demote_below      the first 64 commands of the plan
use Rattle.std.specs.Prelude.{ℕ, Bool, ◌||◌, not, nat_lt, List, ◌++◌, take}
use Rattle.peg_name.specs.declared.Row.{Row}
use Rattle.peg_event.specs.declared.Command.{Command}
use Rattle.peg_model.specs.Controller.{has_row, count_of, demotions, promotions}

abbrev pub is_cold : List Row → ℕ → List ℕ → Bool
is_cold rows below key = not (has_row key rows) || nat_lt (count_of key rows) below

abbrev pub commands_of : List (List ℕ) → List Row → ℕ → ℕ → List Command
commands_of known rows promote_at demote_below =
    take 64 (demotions known rows demote_below ++ promotions known rows promote_at)
