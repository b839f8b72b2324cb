use Rattle.peg_law.specs.Places.{filled}
use Rattle.peg_law.proofs.Gaps.{answered_at_places}
use Rattle.peg_model.specs.World.{start}
use Rattle.peg_law.proofs.answers_full_rounds_at_places.Goals as goal

pub returns : goal.returns
returns c = λ rack keys placed client seq last rising.
    answered_at_places (start rack keys) 2 placed rising
    (c.answers_full_rounds.ensures rack keys (filled 2 placed)) client seq last
