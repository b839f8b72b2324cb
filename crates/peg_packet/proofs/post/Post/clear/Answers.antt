use Rattle.std.proofs.Common.{[], arith}
use Rattle.peg_packet.proofs.post.Post.clear.Goals as goal

pub invariant_of-self : goal.invariant_of-self
invariant_of-self c =
    record { room = omega arith; fits = c.self.invariant.fits }

pub returns : goal.returns
returns c =
    λ i. record {
      format = (c.self.view_is i).format;
      slots = (c.self.view_is i).slots;
      items = [];
    }
