use Rattle.std.proofs.Common.{ap}
use Rattle.peg_session.proofs.Passing.{passes_nothing}
use Rattle.peg_node.specs.Askers.{asker_of}
use Rattle.peg_node.specs.Phases.{phase_as}
use Rattle.peg_node.proofs.AskSteps.{asked_again, posted_items}
use Rattle.peg_node.proofs.asker.Asker.again.Goals as goal

pub returns-clause-took : goal.returns-clause-took
returns-clause-took g c =
    let s = c.args.self.now in
    record {
      text = _;
      is =
          asked_again (asker_of s) c.args.sends 0 c.resend.new.self c.resend.new.post.items
          (ap phase_as c.requires.awaiting) c.if-sends-eq0.false c.resend.ensures.after
          (posted_items s.client.format s.post c.resend.new.post _ c.requires.empty
          c.requires.asker.same_format c.resend.ensures.sent);
      over = passes_nothing c.args.page.now (g.K.Sink.held c.args.sink.now);
    }
