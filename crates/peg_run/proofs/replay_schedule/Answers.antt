use Rattle.std.proofs.Common.{sym, subst, None}
use Rattle.peg_run.specs.Ends.{Ended, HasCause}
use Rattle.peg_run.specs.declared.Status.{Status}
use Rattle.peg_run.proofs.ReplayEnds.{ended_as_replay, cause_of}
use Rattle.peg_run.proofs.replay_schedule.Goals as goal

pub returns-clause-ended : goal.returns-clause-ended
returns-clause-ended g c =
    let l = g.S.Source.left c.args.source.now in
    let l' = g.S.Source.left c.replay.new.source in
    let h = g.K.Sink.held c.args.sink.now in
    let h' = g.K.Sink.held c.replay.new.sink in
    subst (λ (s : Status). Ended s l l' h h') (sym c.status_of.ensures)
    (ended_as_replay l l' h h' None None 0 0 c.replay.result c.replay.ensures.ended)

pub returns-clause-cause : goal.returns-clause-cause
returns-clause-cause g c =
    let reads = g.S.Source.faults c.args.source.now in
    let reads' = g.S.Source.faults c.replay.new.source in
    let writes = g.K.Sink.faults c.args.sink.now in
    let writes' = g.K.Sink.faults c.replay.new.sink in
    subst (λ (s : Status). HasCause s reads reads' writes writes') (sym c.status_of.ensures)
    (cause_of c.replay.result reads reads' writes writes' c.replay.ensures.read_fault
    c.replay.ensures.write_fault)
