use Rattle.std.proofs.Common.{sym, subst, ◌∙◌, None}
use Rattle.peg_meaning.specs.Racks.{plays_racks, racks_start}
use Rattle.peg_session.specs.Ends.{Ended, told}
use Rattle.peg_session.specs.declared.End.{End}
use Rattle.peg_run.specs.Ends.{HasCause}
use Rattle.peg_run.specs.declared.Status.{Status}
use Rattle.peg_run.proofs.RacksEnds.{shows_racks, no_wire_fault}
use Rattle.peg_run.proofs.ReplayEnds.{cause_of}
use Rattle.peg_run.proofs.Verdicts.{no_usage, done_by}
use Rattle.peg_run.proofs.racks.run_racks.Goals as goal

pub returns-clause-ended : goal.returns-clause-ended
returns-clause-ended g c = (c.play_racks.result, c.status_of.ensures, c.play_racks.ensures.ended)

pub returns-clause-divided : goal.returns-clause-divided
returns-clause-divided g c =
    λ is.
    let before =
    told (g.S.Source.left c.args.source.now) (g.K.Sink.held c.args.sink.now) None 0 in
    let now =
    told (g.S.Source.left c.play_racks.new.source) (g.K.Sink.held c.play_racks.new.sink) None 0 in
    let done = done_by c.play_racks.result (sym c.status_of.ensures ∙ is) in
    shows_racks before now c.plays_runs.ensures c.plays_its_lines.ensures
    c.keeps_keys_apart.ensures c.prints_register_histories.ensures c.isolates_racks.ensures
    (subst (λ (e : End). Ended plays_racks racks_start before now e) done
    c.play_racks.ensures.ended)

pub returns-clause-cause : goal.returns-clause-cause
returns-clause-cause g c =
    let reads = g.S.Source.faults c.args.source.now in
    let reads' = g.S.Source.faults c.play_racks.new.source in
    let writes = g.K.Sink.faults c.args.sink.now in
    let writes' = g.K.Sink.faults c.play_racks.new.sink in
    subst (λ (s : Status). HasCause s reads reads' writes writes') (sym c.status_of.ensures)
    (cause_of c.play_racks.result reads reads' writes writes' c.play_racks.ensures.read_fault
    c.play_racks.ensures.write_fault)

pub returns-clause-no_usage : goal.returns-clause-no_usage
returns-clause-no_usage g c = λ is. no_usage c.play_racks.result (sym c.status_of.ensures ∙ is)

pub returns-clause-no_wire_fault : goal.returns-clause-no_wire_fault
returns-clause-no_wire_fault g c =
    λ is.
    no_wire_fault _ _ c.play_racks.result c.play_racks.ensures.ended (sym c.status_of.ensures ∙ is)
