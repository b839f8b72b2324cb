use Rattle.std.proofs.Common.{arith, ap, ◌≤◌, length}
use Rattle.peg_name.specs.Name.{packet_most}
use Rattle.peg_packet.proofs.Posting.{room_left, put_in, put_seen, most_in_slot}
use Rattle.peg_packet.proofs.post.Post.forward.Goals as goal

pub index_mut-slot-requires : goal.index_mut-slot-requires
index_mut-slot-requires c =
    let left =
    room_left c.self.inside c.args.self.now c.self.invariant c.self.view_is c.requires.room in
    omega (arith, left, c.self.inside.slots.ok.0)

pub put_slice-slot-requires : goal.put_slice-slot-requires
put_slice-slot-requires c =
    let fits = most_in_slot c.args.self.now.format (length c.args.bytes.now) c.requires.most in
    omega (arith, fits)

pub overflow_add-self : goal.overflow_add-self
overflow_add-self c =
    let left =
    room_left c.self.inside c.args.self.now c.self.invariant c.self.view_is c.requires.room in
    omega (arith, left, c.self.inside.slots.ok.0, c.self.inside.slots.small)

pub invariant_of-self : goal.invariant_of-self
invariant_of-self c =
    let most : length c.args.bytes.now ≤ packet_most c.self.inside.format =
    rw (ap (λ o. packet_most o.format) c.self.view_is) c.requires.most in
    put_in c.self.inside _ c.self.invariant
    (room_left c.self.inside c.args.self.now c.self.invariant c.self.view_is c.requires.room)
    (omega (arith, most, c.put_slice-slot.ensures.next), c.put_slice-slot.array_long)

pub returns : goal.returns
returns c =
    put_seen c.self.inside c.args.self.now _ _ c.self.view_is
    (room_left c.self.inside c.args.self.now c.self.invariant c.self.view_is c.requires.room)
    (λ i. (c.args.to, c.put_slice-slot.ensures.written i))
