use Rattle.std.proofs.Common.{◌+◌, arith}
use Rattle.peg_replay.proofs.Stepping.{step_on}
use Rattle.peg_replay.proofs.play.Play.step.Goals as goal

pub returns-else-push_line-clause-took : goal.returns-else-push_line-clause-took
returns-else-push_line-clause-took g c =
    let s = c.args.self.now in
    record {
      came = _;
      is =
          step_on s.rack.0 s.rack.1 s.world s.is_over c.step.new.self c.args.event.now
          (s.place + 1) c.line.result c.requires.on c.requires.tied.goes_on
          (omega (arith, c.requires.tied.count)) c.in-Ok.ensures.ok c.line.ensures c.in-Ok.ensures.within;
      over = c.if-push_line.ensures.content;
    }
