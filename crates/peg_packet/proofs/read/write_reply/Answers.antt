use Rattle.std.proofs.Common.{arith}
use Rattle.peg_model.specs.Packet.{WriteReply}
use Rattle.peg_grammar.proofs.Parts.{write_reply_says, write_reply_whole}
use Rattle.peg_packet.proofs.read.write_reply.Goals as goal

pub returns-in_err-key : goal.returns-in_err-key
returns-in_err-key c =
    rw c.from_residual.ensures
    (λ format begun ranges spelled. c.in_err-key.ensures
    (write_reply_says format _ _ _ _ _ _ c.args.bytes.now spelled))

pub header-header-requires : goal.header-header-requires
header-header-requires c =
    omega (arith, c.in_ok-key.ensures.fits)

pub returns : goal.returns
returns c =
    λ format begun. (
      λ i. WriteReply (c.header-header.ensures.client i) (c.header-header.ensures.seq i)
          (c.header-header.ensures.version_is i) (c.header-header.ensures.server i)
          (c.header-header.ensures.switch i) (c.in_ok-key.ensures.key_is i),
      write_reply_whole format c.args.bytes.now begun c.header-header.ensures.whole
          c.in_ok-key.ensures.whole,
    )
