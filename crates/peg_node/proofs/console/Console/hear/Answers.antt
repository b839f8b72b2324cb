use Rattle.std.proofs.Common.{ap, refl}
use Rattle.peg_node.specs.Consoles.{console_of}
use Rattle.peg_node.specs.Phases.{phase_as}
use Rattle.std.proofs.Common.{subst, sym}
use Rattle.peg_node.specs.Consoles.{IsConsole}
use Rattle.peg_node.specs.declared.console.Console.{Console}
use Rattle.peg_node.proofs.ControlSteps.{datagram_heard, posted_items, kept}
use Rattle.peg_node.proofs.console.Console.hear.Goals as goal

pub returns-then-not-push_said-clause-took : goal.returns-then-not-push_said-clause-took
returns-then-not-push_said-clause-took g c =
    let s = c.args.self.now in
    record {
      came = _;
      is =
          datagram_heard (console_of s) c.args.bytes.now c.args.sends c.args.turns
          c.step-did.new.self c.step-did.result _ c.step-did.new.post.items (ap phase_as c.requires.awaiting)
          c.step-did.ensures.answer c.step-did.ensures.after
          (posted_items s.controller.rack.format s.post c.step-did.new.post _ c.requires.empty
          c.requires.console.same_format c.step-did.ensures.sent)
          refl;
      over = c.if-not-push_said.ensures.content;
    }

pub returns-clause-console : goal.returns-clause-console
returns-clause-console g c =
    let s = c.args.self.now in
    let after =
    kept s.controller c.step-did.new.self s.post c.step-did.new.post _ c.requires.console.same_format c.requires.console.room
    c.requires.empty c.step-did.ensures.sent c.step-did.ensures.rack c.step-did.ensures.nodes in
    λ is. c.wait_on.ensures.console
    (subst (λ (k : Console). IsConsole k) (sym c.note.ensures)
    (record {
      same_format = after.0;
      room = after.1.0;
      low = c.requires.console.low;
      some_tries = c.requires.console.some_tries;
      few_tries = c.requires.console.few_tries;
      few_waits = c.requires.console.few_waits;
      few_lines = c.requires.console.few_lines;
      phase = c.requires.console.phase;
      nodes = after.1.1;
    }))
