use Rattle.std.proofs.Common.{arith}
use Rattle.peg_model.specs.Packet.{ToServerWrite}
use Rattle.peg_grammar.proofs.Parts.{to_server_write_says, to_server_write_whole}
use Rattle.peg_packet.proofs.read.to_server_write.Goals as goal

pub returns-in_err-key : goal.returns-in_err-key
returns-in_err-key c =
    rw c.from_residual.ensures
    (λ format begun ranges spelled. c.in_err-key.ensures
    (to_server_write_says format _ _ _ _ _ _ _ c.args.bytes.now spelled))

pub header-header-requires : goal.header-header-requires
header-header-requires c =
    omega (arith, c.in_ok-key.ensures.fits)

pub returns : goal.returns
returns c =
    λ format begun. (
      λ i. ToServerWrite (c.header-header.ensures.client i) (c.header-header.ensures.seq i)
          (c.header-header.ensures.version_is i) (c.header-header.ensures.server i)
          (c.header-header.ensures.switch i) (c.in_ok-key.ensures.key_is i)
          (c.in_ok-key.ensures.content_is i),
      to_server_write_whole format c.args.bytes.now begun c.header-header.ensures.whole
          c.in_ok-key.ensures.whole,
    )
