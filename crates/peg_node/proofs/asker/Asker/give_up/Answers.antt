use Rattle.std.proofs.Common.{ap, Some}
use Rattle.peg_node.specs.Askers.{asker_of}
use Rattle.peg_node.specs.Phases.{phase_as}
use Rattle.peg_node.proofs.AskSteps.{given_up}
use Rattle.peg_node.proofs.asker.Asker.give_up.Goals as goal

pub returns-then-not-push_unanswered-clause-took : goal.returns-then-not-push_unanswered-clause-took
returns-then-not-push_unanswered-clause-took g c =
    let s = c.args.self.now in
    record {
      came = _;
      is =
          given_up (asker_of s) 0 c.give_up.new.self c.give_up.result (Some c.in-Some.seq)
          s.post.items (ap phase_as c.requires.awaiting) c.give_up.ensures.answer
          c.give_up.ensures.after c.requires.empty c.in-Some.is;
      over = c.if-not-push_unanswered.ensures.content;
    }
