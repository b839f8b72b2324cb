use Rattle.std.proofs.Common.{◌∙◌, sym, subst, None}
use Rattle.peg_meaning.specs.CheckWord.{judges, check_start}
use Rattle.peg_session.specs.Ends.{Ended, told}
use Rattle.peg_session.specs.declared.End.{End}
use Rattle.peg_run.specs.Ends.{HasCause}
use Rattle.peg_run.specs.declared.Status.{Status}
use Rattle.peg_run.proofs.ReplayEnds.{cause_of}
use Rattle.peg_run.proofs.Verdicts.{verdict_of_done, no_wire_fault, no_usage, done_by}
use Rattle.peg_run.proofs.judge_history.Goals as goal

pub returns-clause-ended : goal.returns-clause-ended
returns-clause-ended g c = (c.check.result, c.status_of.ensures, c.check.ensures.ended)

pub returns-clause-verdict : goal.returns-clause-verdict
returns-clause-verdict g c =
    λ is.
    let l = g.S.Source.left c.args.source.now in
    let l' = g.S.Source.left c.check.new.source in
    let h = g.K.Sink.held c.args.sink.now in
    let h' = g.K.Sink.held c.check.new.sink in
    let done = done_by c.check.result (sym c.status_of.ensures ∙ is) in
    verdict_of_done l l' h h' c.judges_histories.ensures c.says_yes_of_histories.ensures
    (subst (λ (e : End). Ended judges check_start (told l h None 0) (told l' h' None 0) e) done
    c.check.ensures.ended)

pub returns-clause-cause : goal.returns-clause-cause
returns-clause-cause g c =
    let reads = g.S.Source.faults c.args.source.now in
    let reads' = g.S.Source.faults c.check.new.source in
    let writes = g.K.Sink.faults c.args.sink.now in
    let writes' = g.K.Sink.faults c.check.new.sink in
    subst (λ (s : Status). HasCause s reads reads' writes writes') (sym c.status_of.ensures)
    (cause_of c.check.result reads reads' writes writes' c.check.ensures.read_fault
    c.check.ensures.write_fault)

pub returns-clause-no_usage : goal.returns-clause-no_usage
returns-clause-no_usage g c = λ is. no_usage c.check.result (sym c.status_of.ensures ∙ is)

pub returns-clause-no_wire_fault : goal.returns-clause-no_wire_fault
returns-clause-no_wire_fault g c =
    λ is.
    no_wire_fault _ _ c.check.result c.check.ensures.ended (sym c.status_of.ensures ∙ is)
