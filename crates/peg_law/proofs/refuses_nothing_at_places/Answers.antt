use Rattle.peg_law.specs.Places.{filled}
use Rattle.peg_law.proofs.Gaps.{in_place_at}
use Rattle.peg_law.proofs.Places.{filled_of_lines}
use Rattle.peg_model.specs.World.{start}
use Rattle.peg_law.proofs.refuses_nothing_at_places.Goals as goal

pub returns : goal.returns
returns c = λ rack keys placed is rising lines m.
    in_place_at (start rack keys) 2 placed m rising
    (c.refuses_nothing.ensures rack keys (filled 2 placed) is (filled_of_lines rack 2 placed lines))
