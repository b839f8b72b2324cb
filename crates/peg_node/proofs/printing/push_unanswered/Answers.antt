use Rattle.std.proofs.Common.{◌++◌, subst}
use Rattle.std.specs.Prelude.{codes, decimal}
use Rattle.peg_model.specs.Schedule.{fed}
use Rattle.peg_session.specs.Pages.{Passes}
use Rattle.peg_node.proofs.printing.push_unanswered.Goals as goal

pub returns-clause-content : goal.returns-clause-content
returns-clause-content g c =
    subst
    (λ n. Passes c.push_number.result (fed (codes "unanswered " ++ decimal n)) c.args.page.now
    c.push_number.new.page (g.K.Sink.held c.args.sink.now)
    (g.K.Sink.held c.push_number.new.sink))
    c.number_of.ensures c.push_number.ensures.content
