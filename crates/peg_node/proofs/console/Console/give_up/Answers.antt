use Rattle.std.proofs.Common.{ap}
use Rattle.peg_node.specs.Consoles.{console_of}
use Rattle.peg_node.specs.Phases.{phase_as}
use Rattle.peg_node.proofs.ControlSteps.{given_up_number, given_up_survey}
use Rattle.peg_node.proofs.console.Console.give_up.Goals as goal

pub returns-then-not-push_number-clause-took : goal.returns-then-not-push_number-clause-took
returns-then-not-push_number-clause-took g c =
    let s = c.args.self.now in
    record {
      came = _;
      is =
          given_up_number (console_of s) 0 c.in-Some.number s.post.items c.pending.result
          (ap phase_as c.requires.awaiting) c.requires.empty c.pending.ensures c.in-Some.is;
      over = c.if-not-push_number.ensures.content;
    }

pub returns-then-not-push-clause-took : goal.returns-then-not-push-clause-took
returns-then-not-push-clause-took g c =
    let s = c.args.self.now in
    record {
      came = _;
      is =
          given_up_survey (console_of s) 0 s.post.items c.pending.result
          (ap phase_as c.requires.awaiting) c.requires.empty c.pending.ensures c.in-None.is;
      over = c.if-not-push.ensures.content;
    }
