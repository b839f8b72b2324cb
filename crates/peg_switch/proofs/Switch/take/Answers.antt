use Rattle.std.proofs.Common.{ap, sym, ◌∙◌}
use Rattle.peg_event.specs.declared.SwitchDid.TheVariants as did
use Rattle.peg_model.specs.Switch.{Switch, SwitchStep, switch_step}
use Rattle.peg_packet.specs.Seen.{seen}
use Rattle.peg_switch.specs.Seen.{mode_seen}
use Rattle.peg_switch.proofs.Lasting.{id_stays}
use Rattle.peg_switch.proofs.Steps.{not_taken, unsent, sealed_does}
use Rattle.peg_switch.proofs.Switch.take.Goals as goal

pub returns-then-not-takes-clause-sent : goal.returns-then-not-takes-clause-sent
returns-then-not-takes-clause-sent c =
    let s = c.args.self.now in
    let p = seen c.args.packet.now in
    let pick = c.args.pick in
    unsent c.args.post.now (switch_step s p pick) s did.OutOfPlace
    (not_taken s p pick (sym c.takes.ensures ∙ c.if-not-takes.true))

pub returns-in-Sealed-clause-id : goal.returns-in-Sealed-clause-id
returns-in-Sealed-clause-id c =
    let s = c.args.self.now in
    let p = seen c.args.packet.now in
    let pick = c.args.pick in
    let step =
    sealed_does s c.in-Sealed.target p pick c.takes_a_state_over.ensures.any_pick
    (sym c.takes.ensures ∙ c.if-not-takes.false)
    (sym (ap (λ (t : Switch). t.mode) c.self.view_is) ∙ ap mode_seen c.in-Sealed.is) in
    ap (λ (t : Switch). t.id) c.hand_over.ensures.after
    ∙ sym (ap (λ (t : SwitchStep). t.state.id) step)
    ∙ id_stays s p pick
