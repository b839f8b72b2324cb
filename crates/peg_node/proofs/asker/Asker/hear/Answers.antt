use Rattle.std.proofs.Common.{ap, sym, true, false, ◌∙◌}
use Rattle.peg_session.proofs.Passing.{passes_nothing}
use Rattle.peg_node.specs.Askers.{asker_of}
use Rattle.peg_node.specs.Phases.{phase_as}
use Rattle.peg_node.proofs.AskSteps.{datagram_heard}
use Rattle.peg_node.proofs.asker.Asker.hear.Goals as goal

pub returns-then-not-push_answer-clause-took : goal.returns-then-not-push_answer-clause-took
returns-then-not-push_answer-clause-took g c =
    let s = c.args.self.now in
    record {
      came = _;
      is =
          datagram_heard (asker_of s) c.args.bytes.now c.args.sends c.args.turns
          c.step-did.new.self c.step-did.result true s.post.items
          (ap phase_as c.requires.awaiting) c.step-did.ensures.answer c.step-did.ensures.after
          (sym c.is_answer.ensures ∙ c.if-is_answer.true) c.requires.empty;
      over = c.if-not-push_answer.ensures.content;
    }

pub returns-clause-took : goal.returns-clause-took
returns-clause-took g c =
    let s = c.args.self.now in
    record {
      text = _;
      is =
          datagram_heard (asker_of s) c.args.bytes.now c.args.sends c.args.turns
          c.step-did.new.self c.step-did.result false s.post.items
          (ap phase_as c.requires.awaiting) c.step-did.ensures.answer c.step-did.ensures.after
          (sym c.is_answer.ensures ∙ c.if-is_answer.false) c.requires.empty;
      over = passes_nothing c.args.page.now (g.K.Sink.held c.args.sink.now);
    }
