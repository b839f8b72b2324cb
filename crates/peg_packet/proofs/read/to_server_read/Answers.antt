use Rattle.std.proofs.Common.{arith, sym, ◌∙◌}
use Rattle.peg_model.specs.Packet.{ToServerRead}
use Rattle.peg_grammar.proofs.Parts.{to_server_read_says, to_server_read_whole}
use Rattle.peg_packet.proofs.read.to_server_read.Goals as goal

pub returns-in_err-key : goal.returns-in_err-key
returns-in_err-key c =
    rw c.from_residual.ensures
    (λ format begun ranges spelled. c.in_err-key.ensures
    (to_server_read_says format _ _ _ _ _ c.args.bytes.now spelled).0)

pub header-header-requires : goal.header-header-requires
header-header-requires c =
    omega (arith, c.in_ok-key.ensures.fits)

pub returns-then-version-ne0 : goal.returns-then-version-ne0
returns-then-version-ne0 c =
    λ format begun ranges spelled.
    let says = to_server_read_says format _ _ _ _ _ c.args.bytes.now spelled in
    c.if-version-ne0.true (c.version.view_is ∙ c.header-header.ensures.version_is ∙ says.1)

pub returns : goal.returns
returns c =
    λ format begun. (
      λ i. ToServerRead (c.header-header.ensures.client i) (c.header-header.ensures.seq i)
          (c.header-header.ensures.server i) (c.header-header.ensures.switch i)
          (c.in_ok-key.ensures.key_is i),
      to_server_read_whole format c.args.bytes.now begun c.header-header.ensures.whole
          c.in_ok-key.ensures.whole
          (sym c.header-header.ensures.version_is ∙ sym c.version.view_is ∙ c.if-version-ne0.false),
    )
