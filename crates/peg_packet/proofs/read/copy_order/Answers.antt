use Rattle.std.proofs.Common.{arith}
use Rattle.peg_model.specs.Packet.{CopyOrder}
use Rattle.peg_model.specs.Reading.{one_at, key_at}
use Rattle.peg_grammar.proofs.Parts.{copy_order_says, copy_order_whole}
use Rattle.peg_packet.proofs.read.copy_order.Goals as goal

pub returns-in_err-key : goal.returns-in_err-key
returns-in_err-key c =
    rw c.from_residual.ensures
    (λ format begun ranges spelled. c.in_err-key.ensures
    (copy_order_says format _ _ _ _ c.args.bytes.now spelled))

pub bounds-bytes-4 : goal.bounds-bytes-4
bounds-bytes-4 c =
    omega (arith, c.in_ok-key.ensures.fits)

pub bounds-bytes-5 : goal.bounds-bytes-5
bounds-bytes-5 c =
    omega (arith, c.in_ok-key.ensures.fits)

pub bounds-bytes-6 : goal.bounds-bytes-6
bounds-bytes-6 c =
    omega (arith, c.in_ok-key.ensures.fits)

pub returns : goal.returns
returns c =
    λ format begun. (
      λ i. CopyOrder (one_at c.args.bytes.now 4) (one_at c.args.bytes.now 5)
          (one_at c.args.bytes.now 6) (c.in_ok-key.ensures.key_is i),
      copy_order_whole format
          c.args.bytes.now (key_at c.args.bytes.now 7) begun
          (omega (arith, c.in_ok-key.ensures.fits))
          c.in_ok-key.ensures.whole,
    )
