use Rattle.std.proofs.Common.{ap, sym, ◌∙◌}
use Rattle.peg_model.specs.Reading.{one_at, packet_of}
use Rattle.peg_grammar.proofs.Read.{unbegun, unspelled, out_of_range}
use Rattle.peg_grammar.proofs.Whole.{packet_of-spelling}
use Rattle.peg_packet.specs.Seen.{seen}
use Rattle.peg_packet.proofs.read.decode.Goals as goal

pub returns-in_err-format-clause-packet : goal.returns-in_err-format-clause-packet
returns-in_err-format-clause-packet c =
    rw c.from_residual.ensures
    (sym (unbegun c.args.bytes.now c.in_err-format.ensures.none))

pub returns-in_default-clause-packet : goal.returns-in_default-clause-packet
returns-in_default-clause-packet c =
    sym
    (unspelled c.args.bytes.now c.in_ok-format.format (one_at c.args.bytes.now 3)
    c.in_ok-format.ensures.begun (c.in_default.ensures c.in_ok-format.format
    c.in_ok-format.ensures.begun))

pub returns-then-is_in_range-clause-packet : goal.returns-then-is_in_range-clause-packet
returns-then-is_in_range-clause-packet c =
    let found = c.in-Some.ensures c.in_ok-format.format c.in_ok-format.ensures.begun in
    sym
    (ap packet_of found.1 ∙ packet_of-spelling c.in_ok-format.format (seen c.in-Some.packet)
    (sym c.is_in_range.ensures ∙ c.if-is_in_range.true))

pub returns-else-is_in_range-clause-packet : goal.returns-else-is_in_range-clause-packet
returns-else-is_in_range-clause-packet c =
    let found = c.in-Some.ensures c.in_ok-format.format c.in_ok-format.ensures.begun in
    sym
    (out_of_range c.args.bytes.now c.in_ok-format.format (one_at c.args.bytes.now 3)
    (seen c.in-Some.packet) c.in_ok-format.ensures.begun found.0
    (sym c.is_in_range.ensures ∙ c.if-is_in_range.false))
