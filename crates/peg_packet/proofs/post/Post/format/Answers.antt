use Rattle.std.proofs.Common.{ap}
use Rattle.peg_packet.proofs.post.Post.format.Goals as goal

pub returns : goal.returns
returns c =
    ap (λ o. o.format) c.self.view_is
