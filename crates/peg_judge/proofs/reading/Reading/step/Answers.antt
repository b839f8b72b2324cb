use Rattle.peg_judge.specs.Judging.{checked_of}
use Rattle.peg_judge.proofs.Stepping.{finished_as, did_add}
use Rattle.peg_judge.proofs.reading.Reading.step.Goals as goal
use Rattle.peg_judge.proofs.reading.Reading.step.Goals.{in-Done, in_default}

pub returns-then-matches-clause-took : goal.returns-then-matches-clause-took
returns-then-matches-clause-took g c =
    let s = c.args.self.now in
    elim c.match-matches.branch [
      | in-Done w ↦
          finished_as c.args.lines (checked_of s) c.args.entry.now s.is_over
          c.finish.new.self.is_over (checked_of c.finish.new.self) c.finish.result
          c.args.page.now c.finish.new.page (g.K.Sink.held c.args.sink.now)
          (g.K.Sink.held c.finish.new.sink) w.in-Done.is c.requires.on c.requires.few
          c.finish.ensures.same c.finish.ensures.ends c.finish.ensures.over
      | in_default w ↦ absurd (cc (w.matches-is, c.if-matches.true))
    ]

pub returns-in-Ok-clause-took : goal.returns-in-Ok-clause-took
returns-in-Ok-clause-took g c =
    let s = c.args.self.now in
    elim c.match-matches.branch [
      | in-Done w ↦ absurd (cc (w.matches-is, c.if-matches.false))
      | in_default w ↦
          did_add c.args.lines (checked_of s) s.is_over c.add.new.self.is_over c.args.entry.now
          (checked_of c.add.new.self) c.args.page.now (g.K.Sink.held c.args.sink.now)
          c.requires.on c.in-Ok.ensures.on w.in_default.not-Done c.requires.few
          c.in-Ok.ensures.added
    ]
