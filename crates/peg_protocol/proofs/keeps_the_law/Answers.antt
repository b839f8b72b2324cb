use Rattle.peg_protocol.specs.System.{run, start}
use Rattle.peg_protocol.proofs.Whole.{run_whole, start_whole}
use Rattle.peg_protocol.proofs.Theorems.{rack_law}
use Rattle.peg_protocol.proofs.keeps_the_law.Goals as goal

pub returns : goal.returns
returns c = λ rack events some. rack_law (run events (start rack))
    (run_whole (start rack) events (start_whole rack some))
