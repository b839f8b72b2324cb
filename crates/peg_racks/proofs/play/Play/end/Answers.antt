use Rattle.std.proofs.Common.{◌+◌, true, false}
use Rattle.peg_racks.specs.Worlds.{worlds_of}
use Rattle.peg_racks.proofs.Stepping.{end_on}
use Rattle.peg_racks.proofs.TailLines.{end_then, end_none}
use Rattle.peg_racks.proofs.play.Play.end.Goals as goal

pub returns-then-not-push_end-clause-took : goal.returns-then-not-push_end-clause-took
returns-then-not-push_end-clause-took g c =
    let s = c.args.self.now in
    record {
      came = _;
      is = end_on s.is_over s.racks s.unnamed s.place s.lines c.requires.on;
      over =
          end_none (s.place + 1) (worlds_of s.racks) c.args.page.now c.push_end.new.page
          (g.K.Sink.held c.args.sink.now) (g.K.Sink.held c.push_end.new.sink)
          c.if-not-push_end.ensures.content;
    }

pub returns-then-not-push_tails-clause-took : goal.returns-then-not-push_tails-clause-took
returns-then-not-push_tails-clause-took g c =
    let s = c.args.self.now in
    record {
      came = _;
      is = end_on s.is_over s.racks s.unnamed s.place s.lines c.requires.on;
      over =
          end_then (s.place + 1) (worlds_of s.racks) c.args.page.now c.push_end.new.page
          (g.K.Sink.held c.args.sink.now) (g.K.Sink.held c.push_end.new.sink) false
          c.push_tails.new.page (g.K.Sink.held c.push_tails.new.sink)
          c.if-not-push_end.ensures.content c.if-not-push_tails.ensures.content;
    }

pub returns-clause-took : goal.returns-clause-took
returns-clause-took g c =
    let s = c.args.self.now in
    record {
      text = _;
      is = end_on s.is_over s.racks s.unnamed s.place s.lines c.requires.on;
      over =
          end_then (s.place + 1) (worlds_of s.racks) c.args.page.now c.push_end.new.page
          (g.K.Sink.held c.args.sink.now) (g.K.Sink.held c.push_end.new.sink) true
          c.push_tails.new.page (g.K.Sink.held c.push_tails.new.sink)
          c.if-not-push_end.ensures.content c.if-not-push_tails.ensures.content;
    }
