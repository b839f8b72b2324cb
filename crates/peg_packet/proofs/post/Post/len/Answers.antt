use Rattle.std.proofs.Common.{ap, sym, ◌∙◌, length, arith}
use Rattle.peg_packet.proofs.Posting.{length_items}
use Rattle.peg_packet.proofs.post.Post.len.Goals as goal

pub returns-clause-len : goal.returns-clause-len
returns-clause-len c =
    sym (length_items c.self.inside c.self.invariant) ∙ ap (λ o. length o.items) c.self.view_is

pub returns-clause-room : goal.returns-clause-room
returns-clause-room c =
    let len =
    sym (length_items c.self.inside c.self.invariant) ∙ ap (λ o. length o.items) c.self.view_is
    in
    let slots = ap (λ o. o.slots) c.self.view_is in
    omega (arith, len, slots, c.self.invariant.room)
