use Rattle.std.proofs.Common.{arith, ap, ◌∙◌}
use Rattle.peg_model.specs.Packet.{in_range, spelling}
use Rattle.peg_packet.specs.Seen.{seen}
use Rattle.peg_packet.proofs.Posting.{room_left, put_in, put_seen}
use Rattle.peg_packet.proofs.post.Post.put.Goals as goal

pub index_mut-slot-requires : goal.index_mut-slot-requires
index_mut-slot-requires c =
    let left =
    room_left c.self.inside c.args.self.now c.self.invariant c.self.view_is c.requires.room in
    omega (arith, left, c.self.inside.slots.ok.0)

pub encode-slot-requires : goal.encode-slot-requires
encode-slot-requires c =
    ap (λ o. in_range o.format (seen c.args.packet.now)) c.self.view_is ∙ c.requires.in_range

pub overflow_add-self : goal.overflow_add-self
overflow_add-self c =
    let left =
    room_left c.self.inside c.args.self.now c.self.invariant c.self.view_is c.requires.room in
    omega (arith, left, c.self.inside.slots.ok.0, c.self.inside.slots.small)

pub invariant_of-self : goal.invariant_of-self
invariant_of-self c =
    put_in c.self.inside _ c.self.invariant
    (room_left c.self.inside c.args.self.now c.self.invariant c.self.view_is c.requires.room)
    (c.encode-slot.ensures.most, c.encode-slot.array_long)

pub returns : goal.returns
returns c =
    put_seen c.self.inside c.args.self.now _ _ c.self.view_is
    (room_left c.self.inside c.args.self.now c.self.invariant c.self.view_is c.requires.room)
    (λ i. (
      c.args.to,
      (c.encode-slot.ensures.spelled
          ∙ ap (λ o. spelling o.format (seen c.args.packet.now)) c.self.view_is) i,
    ))
