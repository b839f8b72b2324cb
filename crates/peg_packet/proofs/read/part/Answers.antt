use Rattle.std.proofs.Common.{arith}
use Rattle.peg_model.specs.Packet.{Part}
use Rattle.peg_model.specs.Reading.{one_at}
use Rattle.peg_packet.specs.Shapes.{value_at}
use Rattle.peg_grammar.proofs.Parts.{part_says, part_whole}
use Rattle.peg_packet.proofs.read.part.Goals as goal

pub returns-in_err-part : goal.returns-in_err-part
returns-in_err-part c =
    rw c.from_residual.ensures
    (λ format begun ranges spelled. c.in_err-part.ensures
    (part_says format _ _ _ _ c.args.bytes.now spelled))

pub eight_at-requires : goal.eight_at-requires
eight_at-requires c =
    omega (arith, c.in_ok-part.ensures.fits)

pub bounds-bytes-12 : goal.bounds-bytes-12
bounds-bytes-12 c =
    omega (arith, c.in_ok-part.ensures.fits)

pub bounds-bytes-13 : goal.bounds-bytes-13
bounds-bytes-13 c =
    omega (arith, c.in_ok-part.ensures.fits)

pub returns : goal.returns
returns c =
    λ format begun. (
      λ i. Part (c.eight_at.ensures.number i) (one_at c.args.bytes.now 12)
          (one_at c.args.bytes.now 13) (c.in_ok-part.ensures.value_is i),
      part_whole format c.args.bytes.now (value_at c.args.bytes.now 14) begun
          (omega (arith, c.in_ok-part.ensures.fits)) c.eight_at.ensures.split c.in_ok-part.ensures.whole,
    )
