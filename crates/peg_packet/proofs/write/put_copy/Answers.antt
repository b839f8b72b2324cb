use Rattle.std.proofs.Common.{refl, ap, sym, arith}
use Rattle.peg_model.specs.Packet.{spelling}
use Rattle.peg_packet.specs.Seen.{seen}
use Rattle.peg_packet.proofs.Putting.{puts_then, puts_same}
use Rattle.peg_packet.proofs.Fitting.{fits_at}
use Rattle.peg_packet.proofs.write.put_copy.Goals as goal

pub slice_bounds-put_copy_order-end : goal.slice_bounds-put_copy_order-end
slice_bounds-put_copy_order-end c =
    refl

pub put_copy_order-requires : goal.put_copy_order-requires
put_copy_order-requires c =
    fits_at c.args.format c.args.packet.now _ c.requires.in_range c.in-CopyOrder.is

pub slice_bounds-put_at_version-end : goal.slice_bounds-put_at_version-end
slice_bounds-put_at_version-end c =
    refl

pub put_at_version-at-requires : goal.put_at_version-at-requires
put_at_version-at-requires c =
    (fits_at c.args.format c.args.packet.now _ c.requires.in_range c.in-CopyData.is).0

pub put_content-requires-clause-room : goal.put_content-requires-clause-room
put_content-requires-clause-room c =
    let fits = fits_at c.args.format c.args.packet.now _ c.requires.in_range c.in-CopyData.is in
    omega (arith, c.put_at_version-at.ensures.next, fits.0)

pub put_content-requires-clause-fits : goal.put_content-requires-clause-fits
put_content-requires-clause-fits c =
    (fits_at c.args.format c.args.packet.now _ c.requires.in_range c.in-CopyData.is).1

pub slice_bounds-put_held-end : goal.slice_bounds-put_held-end
slice_bounds-put_held-end c =
    refl

pub put_held-requires : goal.put_held-requires
put_held-requires c =
    fits_at c.args.format c.args.packet.now _ c.requires.in_range c.in-Held.is

pub slice_bounds-put_at_version-end-in-Fence : goal.slice_bounds-put_at_version-end-in-Fence
slice_bounds-put_at_version-end-in-Fence c =
    refl

pub put_at_version-requires : goal.put_at_version-requires
put_at_version-requires c =
    fits_at c.args.format c.args.packet.now _ c.requires.in_range c.in-Fence.is

pub returns-in-CopyOrder : goal.returns-in-CopyOrder
unfolding spelling
returns-in-CopyOrder c =
    puts_same c.put_copy_order.ensures
    (ap (λ p. spelling c.args.format (seen p)) (sym c.in-CopyOrder.is))

pub returns-in-Held : goal.returns-in-Held
unfolding spelling
returns-in-Held c =
    puts_same c.put_held.ensures (ap (λ p. spelling c.args.format (seen p)) (sym c.in-Held.is))

pub returns-in-Fence : goal.returns-in-Fence
unfolding spelling
returns-in-Fence c =
    puts_same c.put_at_version.ensures
    (ap (λ p. spelling c.args.format (seen p)) (sym c.in-Fence.is))

pub returns-in-CopyData : goal.returns-in-CopyData
unfolding spelling
returns-in-CopyData c =
    puts_same (puts_then c.put_at_version-at.ensures c.put_content.ensures)
    (ap (λ p. spelling c.args.format (seen p)) (sym c.in-CopyData.is))
