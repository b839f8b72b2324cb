use Rattle.std.proofs.Common.{arith}
use Rattle.peg_judge.specs.Judging.{checked_of, checker_at, said}
use Rattle.peg_judge.proofs.Stepping.{past_line}
use Rattle.peg_judge.proofs.reading.Reading.take.Goals as goal

pub returns-then-lines-eq2000000-clause-took : goal.returns-then-lines-eq2000000-clause-took
returns-then-lines-eq2000000-clause-took g c =
    let s = c.args.self.now in
    past_line c.args.lines (checked_of s) s.is_over c.args.line.now (said c.in-Some.entry)
    (checker_at c.args.lines s)
    c.args.page.now (g.K.Sink.held c.args.sink.now) c.requires.on c.in-Some.ensures
    (omega arith)
