use Rattle.std.proofs.Common.{arith, ap, sym, length-take-le}
use Rattle.peg_name.specs.Name.{packet_most}
use Rattle.peg_packet.specs.Posted.{FitsSlot}
use Rattle.peg_packet.proofs.Posting.{item_used, item_seen, fits_there, most_in_slot}
use Rattle.peg_packet.proofs.post.Post.item.Goals as goal

pub index-slot-requires : goal.index-slot-requires
index-slot-requires c =
    let used =
    item_used c.self.inside c.args.self.now c.args.i c.self.invariant c.self.view_is c.requires
    in
    omega (arith, used, c.self.invariant.room, c.self.inside.slots.ok.0)

pub shared_ref_as_front-result : goal.shared_ref_as_front-result
shared_ref_as_front-result c =
    let used =
    item_used c.self.inside c.args.self.now c.args.i c.self.invariant c.self.view_is c.requires
    in
    let fits : FitsSlot c.self.inside.format c.index-slot.result.now =
    fits_there c.self.inside c.args.i c.index-slot.result.now c.self.invariant
    (omega (arith, used, c.self.invariant.room)) c.index-slot.ensures in
    most_in_slot c.self.inside.format c.index-slot.result.now.len fits.0

pub returns-clause-item : goal.returns-clause-item
returns-clause-item c =
    item_seen c.self.inside c.args.self.now c.args.i c.index-slot.result.now c.self.invariant
    c.self.view_is
    (item_used c.self.inside c.args.self.now c.args.i c.self.invariant c.self.view_is
    c.requires)
    c.index-slot.ensures

pub returns-clause-most : goal.returns-clause-most
returns-clause-most c =
    let used =
    item_used c.self.inside c.args.self.now c.args.i c.self.invariant c.self.view_is c.requires
    in
    let fits : FitsSlot c.self.inside.format c.index-slot.result.now =
    fits_there c.self.inside c.args.i c.index-slot.result.now c.self.invariant
    (omega (arith, used, c.self.invariant.room)) c.index-slot.ensures in
    let most = most_in_slot c.self.inside.format c.index-slot.result.now.len fits.0 in
    rw (
      length-take-le c.index-slot.result.now.len c.index-slot.result.now.bytes
          (omega (arith, most, fits.1)),
      ap (λ o. packet_most o.format) (sym c.self.view_is),
    ) fits.0
