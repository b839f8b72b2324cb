use Rattle.std.proofs.Common.{arith}
use Rattle.peg_model.specs.Packet.{Read}
use Rattle.peg_grammar.proofs.Parts.{read_says, read_whole}
use Rattle.peg_packet.proofs.read.read.Goals as goal

pub returns-in_err-key : goal.returns-in_err-key
returns-in_err-key c =
    rw c.from_residual.ensures
    (λ format begun ranges spelled. c.in_err-key.ensures
    (read_says format _ _ _ c.args.bytes.now spelled).0)

pub is_request-requires : goal.is_request-requires
is_request-requires c =
    omega (arith, c.in_ok-key.ensures.fits)

pub returns-then-not-is_request : goal.returns-then-not-is_request
returns-then-not-is_request c =
    λ format begun ranges spelled.
    let says =
    read_says format _ _ _ c.args.bytes.now spelled in cc
    (c.is_request.ensures.only says.1 says.2 says.3)

pub header-header-requires : goal.header-header-requires
header-header-requires c =
    omega (arith, c.in_ok-key.ensures.fits)

pub returns : goal.returns
returns c =
    λ format begun. (
      λ i. Read (c.header-header.ensures.client i) (c.header-header.ensures.seq i)
          (c.in_ok-key.ensures.key_is i),
      read_whole format c.args.bytes.now begun c.header-header.ensures.whole c.in_ok-key.ensures.whole
          (c.is_request.ensures.version c.if-not-is_request.false)
          (c.is_request.ensures.server c.if-not-is_request.false)
          (c.is_request.ensures.switch c.if-not-is_request.false),
    )
