use Rattle.std.proofs.Common.{arith}
use Rattle.peg_grammar.proofs.Lay.{eight_split}
use Rattle.peg_packet.proofs.parts.eight_at.Goals as goal

pub returns-clause-split : goal.returns-clause-split
returns-clause-split c =
    eight_split c.args.bytes.now c.args.at c.requires (λ i. omega (arith, c.type_inv.bytes i))
