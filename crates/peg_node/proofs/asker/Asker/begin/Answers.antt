use Rattle.std.proofs.Common.{ap}
use Rattle.peg_event.specs.declared.answers.Issue.TheVariants as issue
use Rattle.peg_node.specs.Askers.{asker_of}
use Rattle.peg_node.specs.Phases.{phase_as}
use Rattle.peg_node.proofs.AskSteps.{line_issues, posted_items}
use Rattle.peg_node.proofs.asker.Asker.begin.Goals as goal

pub returns-then-not-push-clause-took : goal.returns-then-not-push-clause-took
returns-then-not-push-clause-took g c =
    let s = c.args.self.now in
    record {
      came = _;
      is =
          line_issues (asker_of s) (c.args.key.now, c.args.ask.now) c.issue.new.self
          c.issue.result issue.Spent c.issue.new.post.items (ap phase_as c.requires.reading)
          c.requires.few c.issue.ensures.answer c.issue.ensures.after
          (posted_items s.client.format s.post c.issue.new.post _ c.requires.empty
          c.requires.asker.same_format c.issue.ensures.sent)
          c.in-Spent.is;
      over = c.if-not-push.ensures.content;
    }
