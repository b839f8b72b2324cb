use Rattle.peg_protocol.specs.System.{run, start}
use Rattle.peg_protocol.proofs.Whole.{run_whole, start_whole}
use Rattle.peg_protocol.specs.System.{ground}
use Rattle.peg_protocol.proofs.Orders.{is_register_history}
use Rattle.peg_protocol.proofs.prints_register_histories.Goals as goal

pub returns : goal.returns
returns c = λ rack events key some.
    let s = run events (start rack) in
    let h = run_whole (start rack) events (start_whole rack some) in
    is_register_history (ground s (s.cores h.holder)) h.g h.kept key
