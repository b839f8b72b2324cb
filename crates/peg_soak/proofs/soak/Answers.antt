use Rattle.std.proofs.Common.{◌∙◌, refl}
use Rattle.peg_soak.proofs.Ends.{done_by, cut_by, stopped_as, stopped_before}
use Rattle.peg_soak.proofs.soak.Goals as goal

pub returns-in-Err-clause-ended : goal.returns-in-Err-clause-ended
returns-in-Err-clause-ended g c =
    stopped_as c.args.events c.args.start c.in-Err.end (g.K.Sink.held c.args.sink.now)
    c.in-Err.ensures

pub returns-in-Err-clause-write_fault : goal.returns-in-Err-clause-write_fault
returns-in-Err-clause-write_fault g c =
    λ is.
    absurd (stopped_before c.args.events c.args.start c.in-Err.end c.in-Err.ensures is)

pub returns-in_default-clause-ended : goal.returns-in_default-clause-ended
returns-in_default-clause-ended g c = (tt, refl)

pub returns-in_default-clause-write_fault : goal.returns-in_default-clause-write_fault
returns-in_default-clause-write_fault g c = λ is. absurd (cc)

pub returns-then-write_all-clause-ended : goal.returns-then-write_all-clause-ended
returns-then-write_all-clause-ended g c =
    done_by c.args.events c.args.start c.in-Ok.world.world c.as_bytes.result.now
    (g.K.Sink.held c.args.sink.now) (g.K.Sink.held c.write_all.new.sink) c.in-Ok.ensures
    (c.as_bytes.ensures.value ∙ c.in-Ok-summary_of.ensures.text) c.in-Ok-summary_of.ensures.yes
    c.if-write_all.ensures.content

pub returns-then-write_all-clause-write_fault : goal.returns-then-write_all-clause-write_fault
returns-then-write_all-clause-write_fault g c = λ is. absurd (cc)

pub returns-clause-ended : goal.returns-clause-ended
returns-clause-ended g c =
    cut_by c.args.events c.args.start c.in-Ok.world.world c.as_bytes.result.now
    (g.K.Sink.held c.args.sink.now) (g.K.Sink.held c.write_all.new.sink) c.in-Ok.ensures
    (c.as_bytes.ensures.value ∙ c.in-Ok-summary_of.ensures.text) c.if-write_all.ensures.content

pub returns-clause-write_fault : goal.returns-clause-write_fault
returns-clause-write_fault g c = λ is. c.if-write_all.ensures.cause
