use Rattle.std.proofs.Common.{ap}
use Rattle.peg_node.specs.Calls.{call_as}
use Rattle.peg_node.specs.Consoles.{console_of}
use Rattle.peg_node.specs.Phases.{phase_as}
use Rattle.std.proofs.Common.{◌-◌, arith}
use Rattle.peg_node.proofs.ControlSteps.{few_left}
use Rattle.peg_node.proofs.ControlSteps.{called_again, posted_items, kept}
use Rattle.peg_node.proofs.console.Console.again.Goals as goal

pub returns-then-not-push_said-clause-took : goal.returns-then-not-push_said-clause-took
returns-then-not-push_said-clause-took g c =
    let s = c.args.self.now in
    record {
      came = _;
      is =
          called_again (console_of s) c.args.sends 0 (call_as c.call_again.result)
          c.make-said.new.controller c.make-said.result c.make-said.new.post.items
          (ap phase_as c.requires.awaiting) c.if-sends-eq0.false c.call_again.ensures
          c.make-said.ensures.answer c.make-said.ensures.after
          (posted_items s.controller.rack.format s.post c.make-said.new.post _ c.requires.empty
          c.requires.console.same_format c.make-said.ensures.sent);
      over = c.if-not-push_said.ensures.content;
    }

pub returns-clause-console : goal.returns-clause-console
returns-clause-console g c =
    let s = c.args.self.now in
    let after =
    kept s.controller c.make-said.new.controller s.post c.make-said.new.post _ c.requires.console.same_format c.requires.console.room
    c.requires.empty c.make-said.ensures.sent c.make-said.ensures.rack c.make-said.ensures.nodes in
    let left = few_left s.phase c.args.sends 0 c.requires.awaiting c.requires.console.phase in
    λ is. (record {
      same_format = after.0;
      room = after.1.0;
      low = c.requires.console.low;
      some_tries = c.requires.console.some_tries;
      few_tries = c.requires.console.few_tries;
      few_waits = c.requires.console.few_waits;
      few_lines = c.requires.console.few_lines;
      phase = (omega (arith, left.0), c.requires.console.few_waits);
      nodes = after.1.1;
    })
