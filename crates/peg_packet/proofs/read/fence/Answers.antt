use Rattle.std.proofs.Common.{arith}
use Rattle.peg_model.specs.Packet.{Fence}
use Rattle.peg_model.specs.Reading.{one_at, key_at}
use Rattle.peg_grammar.proofs.Parts.{fence_says, fence_whole}
use Rattle.peg_packet.proofs.read.fence.Goals as goal

pub returns-in_err-key : goal.returns-in_err-key
returns-in_err-key c =
    rw c.from_residual.ensures
    (λ format begun ranges spelled. c.in_err-key.ensures
    (fence_says format _ _ _ _ c.args.bytes.now spelled))

pub bounds-bytes-4 : goal.bounds-bytes-4
bounds-bytes-4 c =
    omega (arith, c.in_ok-key.ensures.fits)

pub bounds-bytes-5 : goal.bounds-bytes-5
bounds-bytes-5 c =
    omega (arith, c.in_ok-key.ensures.fits)

pub eight_at-requires : goal.eight_at-requires
eight_at-requires c =
    omega (arith, c.in_ok-key.ensures.fits)

pub returns : goal.returns
returns c =
    λ format begun. (
      λ i. Fence (one_at c.args.bytes.now 4) (one_at c.args.bytes.now 5)
          (c.eight_at.ensures.number i) (c.in_ok-key.ensures.key_is i),
      fence_whole format
          c.args.bytes.now (key_at c.args.bytes.now 14) begun
          (omega (arith, c.in_ok-key.ensures.fits))
          c.eight_at.ensures.split c.in_ok-key.ensures.whole,
    )
