use Rattle.std.proofs.Common.{[], ap, sym, subst, ◌∙◌}
use Rattle.peg_meaning.specs.RackWord.{Racked, Running, serves_rack, passes_first}
use Rattle.peg_session.specs.Took.{Takes}
use Rattle.peg_session.specs.declared.Taken.{Taken}
use Rattle.peg_session.specs.declared.Stepped.TheVariants as stepped
use Rattle.peg_session.proofs.Passing.{passes_nothing}
use Rattle.peg_rack.specs.Racking.{racked_of, word_of, letters_of}
use Rattle.peg_rack.proofs.rig.Rig.take.Goals as goal

pub returns-in-Pause-clause-took : goal.returns-in-Pause-clause-took
returns-in-Pause-clause-took g c =
    let held = g.K.Sink.held c.args.sink.now in
    let now = c.pass.new.self in
    subst
    (λ (t : Taken). Takes serves_rack (Running (racked_of c.args.self.now)) t stepped.Goes
    (word_of now) [] (letters_of now) c.args.page.now c.args.page.now held held)
    (sym c.in-Pause.is)
    (record {
      text = [];
      is = ap (λ (r : Racked). passes_first r.takes r) (sym c.clear.ensures.same) ∙ c.pass.ensures.goes;
      over = passes_nothing c.args.page.now held;
    })
