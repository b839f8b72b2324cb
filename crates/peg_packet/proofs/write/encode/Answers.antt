use Rattle.std.proofs.Common.{arith, ap, ◌∙◌}
use Rattle.peg_model.specs.Reading.{packet_of}
use Rattle.peg_grammar.proofs.Most.{length-spelling}
use Rattle.peg_grammar.proofs.Whole.{packet_of-spelling}
use Rattle.peg_packet.specs.Seen.{seen}
use Rattle.peg_packet.proofs.write.encode.Goals as goal

pub put-requires : goal.put-requires
put-requires c =
    c.requires

pub returns-clause-spelled : goal.returns-clause-spelled
returns-clause-spelled c =
    c.put.ensures.written

pub returns-clause-len : goal.returns-clause-len
returns-clause-len c =
    omega (arith, c.put.ensures.next)

pub returns-clause-most : goal.returns-clause-most
returns-clause-most c =
    omega (
      arith,
      c.put.ensures.next,
      length-spelling c.args.format (seen c.args.packet.now)
          c.requires,
    )

pub returns-clause-decoded : goal.returns-clause-decoded
returns-clause-decoded c =
    ap packet_of c.put.ensures.written ∙ packet_of-spelling c.args.format (seen c.args.packet.now)
    c.requires
