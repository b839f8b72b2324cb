use Rattle.peg_protocol.specs.System.{run, start}
use Rattle.peg_protocol.proofs.Whole.{run_whole, start_whole}
use Rattle.peg_protocol.proofs.Telling.{telling}
use Rattle.peg_protocol.proofs.tells_what_was_asked.Goals as goal

pub returns : goal.returns
returns c = λ rack events some.
    telling (run events (start rack)) (run_whole (start rack) events (start_whole rack some))
