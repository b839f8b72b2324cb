use Rattle.std.proofs.Common.{refl, subst, None}
use Rattle.peg_event.specs.declared.Said.TheVariants as said
use Rattle.peg_session.specs.Pages.{Passes}
use Rattle.peg_racks.proofs.TailLines.{rack_text}
use Rattle.peg_racks.proofs.printing.push_rack.Goals as goal

pub returns-clause-content : goal.returns-clause-content
returns-clause-content g c =
    subst (λ xs. Passes c.push_line.result xs c.args.page.now c.push_line.new.page
    (g.K.Sink.held c.args.sink.now) (g.K.Sink.held c.push_line.new.sink))
    (rack_text c.args.place (record { said = said.Rack; sent = None }) refl)
    c.push_line.ensures.content
