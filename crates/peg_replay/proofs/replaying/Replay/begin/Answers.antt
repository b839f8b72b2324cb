use Rattle.peg_meaning.specs.ReplayWord.{Named}
use Rattle.peg_replay.proofs.Stepping.{only_rack, begin_on}
use Rattle.peg_replay.proofs.replaying.Replay.begin.Goals as goal

pub returns-then-not-push-clause-took : goal.returns-then-not-push-clause-took
returns-then-not-push-clause-took g c =
    let r = c.in-Some.rack in (
      Named r.0 r.1,
      only_rack c.rack_of.result c.args.line.now r.0 r.1 c.in-Some.is c.rack_of.ensures.complete
          c.in-Some.ensures.sound,
      record {
        came = _;
        is =
            begin_on r.0 c.config.result.now r.1 c.keys.result.now c.in-Ok.world c.in-Ok.ensures
            c.config.ensures c.keys.ensures;
        over = c.if-not-push.ensures.content;
      },
    )

pub returns-clause-took : goal.returns-clause-took
returns-clause-took g c =
    let r = c.in-Some.rack in (
      Named r.0 r.1,
      only_rack c.rack_of.result c.args.line.now r.0 r.1 c.in-Some.is c.rack_of.ensures.complete
          c.in-Some.ensures.sound,
      record {
        text = _;
        is =
            begin_on r.0 c.config.result.now r.1 c.keys.result.now c.in-Ok.world c.in-Ok.ensures
            c.config.ensures c.keys.ensures;
        over = c.if-not-push.ensures.content;
      },
    )
