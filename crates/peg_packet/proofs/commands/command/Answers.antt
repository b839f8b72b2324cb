use Rattle.peg_packet.proofs.Maybe.{command_none, command_found}
use Rattle.peg_packet.proofs.commands.command.Goals as goal

pub returns-in_default : goal.returns-in_default
returns-in_default c =
    λ format begun p is ranges spelled. command_none format c.args.bytes.now p c.in_default.ensures
    is spelled

pub returns : goal.returns
returns c =
    λ format begun.
    command_found format c.args.bytes.now _ c.eight_at.result begun c.in-Some.ensures.read
    c.eight_at.ensures.split c.in-Some.ensures.whole c.eight_at.ensures.number
