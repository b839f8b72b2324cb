use Rattle.std.proofs.Common.{sym, ◌∙◌}
use Rattle.peg_event.specs.declared.SwitchDid.TheVariants as did
use Rattle.peg_model.specs.Switch.{switch_step}
use Rattle.peg_packet.specs.Seen.{seen}
use Rattle.peg_switch.proofs.Steps.{misplaced, unsent}
use Rattle.peg_switch.proofs.Switch.pass.Goals as goal

pub returns-then-is_misplaced-clause-sent : goal.returns-then-is_misplaced-clause-sent
returns-then-is_misplaced-clause-sent c =
    let s = c.args.self.now in
    let p = seen c.args.packet.now in
    let pick = c.args.pick in
    unsent c.args.post.now (switch_step s p pick) s did.OutOfPlace
    (misplaced s p pick c.requires.taken (sym c.is_misplaced.ensures ∙ c.if-is_misplaced.true))
