use Rattle.peg_law.specs.Mirrors.{rack_code}
use Rattle.peg_law.proofs.Running.{whole_run}
use Rattle.peg_law.proofs.Orders.{orders_are}
use Rattle.peg_model.specs.World.{start, run}
use Rattle.peg_protocol.specs.System as system
use Rattle.peg_law.proofs.prints_register_histories.Goals as goal

pub returns : goal.returns
returns c = λ rack keys events is lines.
    let coded = rack_code rack keys in
    let x =
    whole_run rack keys events is lines
    (λ past. c.tells_what_was_asked.ensures coded past is.limits.first.0)
    c.reads_back_what_is_spelled.ensures.state in
    orders_are keys (run (start rack keys) 2 events).0
    (system.run x.0 (system.start coded)) x.1
    (λ key. c.prints_register_histories.ensures coded x.0 key is.limits.first.0)
