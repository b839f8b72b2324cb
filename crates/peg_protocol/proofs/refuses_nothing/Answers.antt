use Rattle.std.proofs.Common.{◌≤◌, length, sym, subst}
use Rattle.peg_protocol.specs.Core.{Rack}
use Rattle.peg_protocol.specs.System.{run, start}
use Rattle.peg_protocol.specs.OutOfPlace.{NoRepeats}
use Rattle.peg_protocol.proofs.Whole.{run_whole, start_whole}
use Rattle.peg_protocol.proofs.Constant.{run_stays}
use Rattle.peg_protocol.proofs.Refusals.{nothing_refused}
use Rattle.peg_protocol.proofs.refuses_nothing.Goals as goal

pub returns : goal.returns
returns c = λ rack events some distinct few.
    let s = run events (start rack) in
    let same = sym (run_stays events (start rack)).rack in
    nothing_refused s (run_whole (start rack) events (start_whole rack some))
    (subst (λ (r : Rack). NoRepeats r.keys) same distinct)
    (subst (λ (r : Rack). length r.keys ≤ r.room) same few)
