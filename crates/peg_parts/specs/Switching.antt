-- What a switch that isn't active does with a part, by what its collector answers.
--     is_malformed answer      whether the part is out of place
--     part_step t s epoch index count      the switch's step where its collector takes as t says
use Rattle.std.specs.Prelude.{ℕ, Bool, true, false, []}
use Rattle.peg_event.specs.declared.SwitchDid.TheVariants as did
use Rattle.peg_model.specs.Words.{refuse}
use Rattle.peg_model.specs.Switch.{Switch, SwitchStep, activates}
use Rattle.peg_parts.specs.declared.Taken.{Taken}
use Rattle.peg_parts.specs.declared.Taken.TheVariants.{Old, Malformed, Repeated, More, Whole}
use Rattle.peg_parts.specs.Taking.{Take}

abbrev pub is_malformed : Taken → Bool
is_malformed Malformed = true
is_malformed _ = false

abbrev pub step_of : Taken → Take → Switch → ℕ → ℕ → ℕ → SwitchStep
step_of Old t s epoch index count = refuse s (did.OldPart epoch)
step_of Malformed t s epoch index count = refuse s did.OutOfPlace
step_of Repeated t s epoch index count = refuse s (did.HasPart index)
step_of (More held) t s epoch index count =
    record {
      state = record s { collected = t.collected };
      sent = [];
      did = did.Collected held count;
    }
step_of (Whole last) t s epoch index count = activates t.state s epoch

abbrev pub part_step : Take → Switch → ℕ → ℕ → ℕ → SwitchStep
part_step t s epoch index count = step_of t.answer t s epoch index count
