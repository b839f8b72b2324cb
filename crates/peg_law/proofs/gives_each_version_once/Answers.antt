use Rattle.peg_law.specs.Mirrors.{rack_code}
use Rattle.peg_law.proofs.Running.{whole_run}
use Rattle.peg_law.proofs.Logged.{logged}
use Rattle.peg_law.proofs.Given.{given_versions}
use Rattle.peg_model.specs.World.{start, run}
use Rattle.peg_protocol.specs.System as system
use Rattle.peg_law.proofs.gives_each_version_once.Goals as goal

pub returns : goal.returns
returns c = λ rack keys events is lines.
    let coded = rack_code rack keys in
    let first = is.limits.first.0 in
    let x =
    whole_run rack keys events is lines (λ past. c.tells_what_was_asked.ensures coded past first)
    c.reads_back_what_is_spelled.ensures.state in
    let s = system.run x.0 (system.start coded) in
    let law = c.keeps_the_law.ensures coded x.0 first in
    given_versions keys (run (start rack keys) 2 events).0 s x.1
    (c.tells_what_was_asked.ensures coded x.0 first) (logged coded x.0) law.holder law.handover
    law.law
