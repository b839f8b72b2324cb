use Rattle.std.proofs.Common.{arith}
use Rattle.peg_model.specs.Packet.{Announce}
use Rattle.peg_model.specs.Reading.{one_at}
use Rattle.peg_grammar.proofs.Parts.{announce_says, announce_whole}
use Rattle.peg_packet.proofs.read.announce.Goals as goal

pub returns-then-bytes-ne13 : goal.returns-then-bytes-ne13
returns-then-bytes-ne13 c =
    λ format begun ranges spelled. c.if-bytes-ne13.true
    (announce_says format _ _ c.args.bytes.now spelled)

pub eight_at-requires : goal.eight_at-requires
eight_at-requires c =
    omega (arith, c.if-bytes-ne13.false)

pub bounds-bytes-12 : goal.bounds-bytes-12
bounds-bytes-12 c =
    omega (arith, c.if-bytes-ne13.false)

pub returns : goal.returns
returns c =
    λ format begun. (
      λ i. Announce (c.eight_at.ensures.number i) (one_at c.args.bytes.now 12),
      announce_whole
          format c.args.bytes.now begun c.if-bytes-ne13.false c.eight_at.ensures.split,
    )
