use Rattle.std.proofs.Common.{sym, subst, ◌∙◌}
use Rattle.peg_run.specs.Soaks.{Soaks}
use Rattle.peg_run.specs.declared.Status.{Status}
use Rattle.peg_run.proofs.Soaks.{soaks_by, write_fault_by}
use Rattle.peg_run.proofs.soak_workload.Goals as goal

pub returns-clause-soaks : goal.returns-clause-soaks
returns-clause-soaks g c =
    let h = g.K.Sink.held c.args.sink.now in
    let h' = g.K.Sink.held c.soak.new.sink in
    subst (λ (s : Status). Soaks c.args.events c.args.start s h h') (sym c.status_of.ensures)
    (soaks_by c.args.events c.args.start c.soak.result h h' c.soak.ensures.ended)

pub returns-clause-write_fault : goal.returns-clause-write_fault
returns-clause-write_fault g c =
    λ is.
    c.soak.ensures.write_fault
    (write_fault_by c.soak.result (sym c.status_of.ensures ∙ is))

pub returns-clause-no_usage : goal.returns-clause-no_usage
returns-clause-no_usage g c =
    λ is.
    let h = g.K.Sink.held c.args.sink.now in
    let h' = g.K.Sink.held c.soak.new.sink in
    subst (λ (s : Status). Soaks c.args.events c.args.start s h h') (sym c.status_of.ensures ∙ is)
    (soaks_by c.args.events c.args.start c.soak.result h h' c.soak.ensures.ended)

pub returns-clause-no_read_fault : goal.returns-clause-no_read_fault
returns-clause-no_read_fault g c =
    λ is.
    let h = g.K.Sink.held c.args.sink.now in
    let h' = g.K.Sink.held c.soak.new.sink in
    subst (λ (s : Status). Soaks c.args.events c.args.start s h h') (sym c.status_of.ensures ∙ is)
    (soaks_by c.args.events c.args.start c.soak.result h h' c.soak.ensures.ended)

pub returns-clause-no_wire_fault : goal.returns-clause-no_wire_fault
returns-clause-no_wire_fault g c =
    λ is.
    let h = g.K.Sink.held c.args.sink.now in
    let h' = g.K.Sink.held c.soak.new.sink in
    subst (λ (s : Status). Soaks c.args.events c.args.start s h h') (sym c.status_of.ensures ∙ is)
    (soaks_by c.args.events c.args.start c.soak.result h h' c.soak.ensures.ended)
