use Rattle.std.proofs.Common.{ap, sym, ◌∙◌}
use Rattle.peg_model.specs.Packet.{in_range}
use Rattle.peg_packet.specs.Seen.{seen}
use Rattle.peg_packet.proofs.range.other_in_range.Goals as goal

pub returns-in-CommandAck : goal.returns-in-CommandAck
unfolding in_range
returns-in-CommandAck c =
    c.is_acknowledgement.ensures
    ∙ ap (λ p. in_range c.args.format (seen p)) (sym c.in-CommandAck.is)
