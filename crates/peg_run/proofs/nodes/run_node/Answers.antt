use Rattle.std.proofs.Common.{sym, subst, ◌∙◌}
use Rattle.peg_run.specs.Ends.{HasCause}
use Rattle.peg_run.specs.declared.Status.{Status}
use Rattle.peg_run.proofs.RoleEnds.{status_cause, wire_cause}
use Rattle.peg_run.proofs.Verdicts.{no_usage}
use Rattle.peg_run.proofs.nodes.run_node.Goals as goal

pub returns-clause-node : goal.returns-clause-node
returns-clause-node g c =
    (c.end_of_node.result, c.status_of.ensures, c.end_of_node.ensures.runs)

pub returns-clause-cause : goal.returns-clause-cause
returns-clause-cause g c =
    let reads = g.S.Source.faults c.args.source.now in
    let reads' = g.S.Source.faults c.end_of_node.new.source in
    let writes = g.K.Sink.faults c.args.sink.now in
    let writes' = g.K.Sink.faults c.end_of_node.new.sink in
    subst (λ (s : Status). HasCause s reads reads' writes writes') (sym c.status_of.ensures)
    (status_cause c.end_of_node.result reads reads' writes writes' _ _ c.end_of_node.ensures.cause)

pub returns-clause-wire_fault : goal.returns-clause-wire_fault
returns-clause-wire_fault g c =
    λ is.
    wire_cause c.end_of_node.result _ _ _ _ _ _ c.end_of_node.ensures.cause
    (sym c.status_of.ensures ∙ is)

pub returns-clause-no_usage : goal.returns-clause-no_usage
returns-clause-no_usage g c = λ is. no_usage c.end_of_node.result (sym c.status_of.ensures ∙ is)
