use Rattle.std.proofs.Common.{ap, sym, ◌∙◌}
use Rattle.peg_event.specs.declared.SwitchDid.TheVariants as switch_did
use Rattle.peg_model.specs.Packet.{Command}
use Rattle.peg_packet.specs.Seen.{seen, what_seen}
use Rattle.peg_world.specs.Notes.{note_by}
use Rattle.peg_world.proofs.saying.listed.Goals as goal

pub returns-in-Command : goal.returns-in-Command
returns-in-Command c = λ number.
    c.promoted.ensures c.in-Command.number number c.in-Listed.field-0
    ∙ ap (λ o. note_by (Command c.in-Command.number (what_seen c.in-Command.what))
    (switch_did.Applied number o)) (sym c.in-Listed.is)
    ∙ ap (λ p. note_by (seen p) (switch_did.Applied number c.args.outcome.now)) (sym c.in-Command.is)
