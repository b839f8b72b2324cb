use Rattle.peg_packet.proofs.Maybe.{acknowledged_long, acknowledged_none, acknowledged_found}
use Rattle.peg_packet.proofs.commands.acknowledgement.Goals as goal

pub returns-then-bytes-ne21 : goal.returns-then-bytes-ne21
returns-then-bytes-ne21 c =
    λ format begun p is ranges spelled. acknowledged_long format c.args.bytes.now p is spelled
    c.if-bytes-ne21.true

pub returns-in_err-_outcome : goal.returns-in_err-_outcome
returns-in_err-_outcome c =
    rw c.from_residual.ensures
    (λ format begun p is ranges spelled.
    acknowledged_none format c.args.bytes.now c.eight_at-value.result p
    c.eight_at-value.ensures.number c.if-bytes-ne21.false c.eight_at-value.ensures.split
    c.in_err-_outcome.ensures.none is spelled)

pub returns : goal.returns
returns c =
    λ format begun.
    acknowledged_found format c.args.bytes.now c.eight_at-value.result c.eight_at.result _ begun
    c.eight_at-value.ensures.number c.eight_at.ensures.number
    c.if-bytes-ne21.false c.eight_at-value.ensures.split c.eight_at.ensures.split
    c.in_ok-_outcome.ensures.read c.in_ok-_outcome.ensures.spelled c.in_ok-_outcome.ensures.seen
