use Rattle.peg_protocol.specs.System.{run, start}
use Rattle.peg_protocol.proofs.Whole.{run_whole, start_whole}
use Rattle.peg_protocol.proofs.Rounds.{full_round}
use Rattle.peg_protocol.proofs.answers_full_rounds.Goals as goal

pub returns : goal.returns
returns c = λ rack events s' s'' t c n i i' i'' j pick some f. full_round (run events (start rack))
    s' s'' t c n i i' i'' j pick (run_whole (start rack) events (start_whole rack some)) f
