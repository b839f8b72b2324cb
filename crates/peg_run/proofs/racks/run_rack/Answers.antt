use Rattle.std.proofs.Common.{sym, subst, ◌∙◌}
use Rattle.peg_meaning.specs.RackWord.{serves_rack, rack_start}
use Rattle.peg_session.specs.Ends.{Ended, told}
use Rattle.peg_session.specs.declared.End.{End}
use Rattle.peg_run.specs.Ends.{HasCause}
use Rattle.peg_run.specs.declared.Status.{Status}
use Rattle.peg_run.proofs.RackEnds.{shows_histories}
use Rattle.peg_run.proofs.RoleEnds.{status_cause, wire_cause}
use Rattle.peg_run.proofs.Verdicts.{no_usage, done_by}
use Rattle.peg_run.proofs.racks.run_rack.Goals as goal

pub returns-clause-ended : goal.returns-clause-ended
returns-clause-ended g c = (c.serve_rack.result, c.status_of.ensures, c.serve_rack.ensures.ended)

pub returns-clause-histories : goal.returns-clause-histories
returns-clause-histories g c =
    λ is.
    let before =
    told (g.S.Source.left c.args.source.now) (g.K.Sink.held c.args.sink.now)
    (g.W.Wire.carried c.args.wire.now) (g.W.Wire.slots c.args.wire.now) in
    let now =
    told (g.S.Source.left c.serve_rack.new.source) (g.K.Sink.held c.serve_rack.new.sink)
    (g.W.Wire.carried c.serve_rack.new.wire) (g.W.Wire.slots c.serve_rack.new.wire) in
    let done = done_by c.serve_rack.result (sym c.status_of.ensures ∙ is) in
    shows_histories c.args.base before now c.serves_a_run.ensures
    c.prints_register_histories.ensures
    (subst (λ (e : End). Ended serves_rack (rack_start c.args.base) before now e) done
    c.serve_rack.ensures.ended)

pub returns-clause-no_usage : goal.returns-clause-no_usage
returns-clause-no_usage g c = λ is. no_usage c.serve_rack.result (sym c.status_of.ensures ∙ is)

pub returns-clause-cause : goal.returns-clause-cause
returns-clause-cause g c =
    let reads = g.S.Source.faults c.args.source.now in
    let reads' = g.S.Source.faults c.serve_rack.new.source in
    let writes = g.K.Sink.faults c.args.sink.now in
    let writes' = g.K.Sink.faults c.serve_rack.new.sink in
    subst (λ (s : Status). HasCause s reads reads' writes writes') (sym c.status_of.ensures)
    (status_cause c.serve_rack.result reads reads' writes writes' _ _ c.serve_rack.ensures.cause)

pub returns-clause-wire_fault : goal.returns-clause-wire_fault
returns-clause-wire_fault g c =
    λ is.
    wire_cause c.serve_rack.result _ _ _ _ _ _ c.serve_rack.ensures.cause
    (sym c.status_of.ensures ∙ is)
