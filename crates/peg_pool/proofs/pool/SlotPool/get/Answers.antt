use Rattle.std.proofs.Common.{◌*◌, ◌/◌, ◌%◌, ap, sym, ◌∙◌, arith, None, Some, length, drop, is_some, refl}
use Rattle.std.specs.Prelude.{slice_index_or}
use Rattle.peg_pool.specs.Held.{joined}
use Rattle.std.proofs.lemmas.List.{length-take, length-map}
use Rattle.peg_pool.proofs.Patches.{whole-at, read-joined, place-of}
use Rattle.peg_pool.proofs.Pools.{live-length, within-live, block-of, fits-block}
use Rattle.peg_pool.proofs.Rooms.{fits-at, held-live, filled-at, values-map}
use Rattle.peg_pool.specs.Places.{values}
use Rattle.peg_pool.proofs.pool.SlotPool.get.Goals as goal

pub length_of-len-requires : goal.length_of-len-requires
length_of-len-requires c =
    ap is_some (live-length c.self.inside c.args.self.now c.args.slot c.self.view_is c.requires).1

pub index-block-requires : goal.index-block-requires
index-block-requires c =
    let p = c.self.inside in
    let below =
    within-live p.lengths.items c.args.slot c.length_of-len.result (sym c.length_of-len.ensures) in
    omega (
      arith,
      p.blocks.ok.0,
      block-of p.blocks c.args.slot (omega (arith, below, p.lengths.ok.0, c.self.invariant.used)),
    )

pub bytes-requires : goal.bytes-requires
bytes-requires c =
    let p = c.self.inside in
    let below =
    within-live p.lengths.items c.args.slot c.length_of-len.result (sym c.length_of-len.ensures) in
    let block =
    block-of p.blocks c.args.slot (omega (arith, below, p.lengths.ok.0, c.self.invariant.used)) in
    let short =
    fits-at p.size p.lengths.items c.args.slot c.length_of-len.result c.self.invariant.fits
    (sym c.length_of-len.ensures) in
    let written =
    filled-at p.size (joined p.blocks.items) p.lengths.items c.args.slot (c.args.slot * p.size)
    c.length_of-len.result c.self.invariant.filled (sym c.length_of-len.ensures) refl in (
      omega (
        arith,
        whole-at (64 * p.size) p.blocks.items (c.args.slot / 64) c.index-block.result.now
            c.self.invariant.whole block c.index-block.ensures,
        fits-block c.args.slot p.size c.length_of-len.result short,
      ),
      (
        written.0,
        read-joined (64 * p.size) p.blocks.items (c.args.slot / 64) (c.args.slot % 64 * p.size)
            (c.args.slot * p.size) c.length_of-len.result c.index-block.result.now
            c.self.invariant.whole block c.index-block.ensures
            (fits-block c.args.slot p.size c.length_of-len.result short)
            (place-of c.args.slot p.size)
            ∙ written.1,
      ),
    )

pub returns-clause-bytes : goal.returns-clause-bytes
returns-clause-bytes c =
    let p = c.self.inside in
    let below =
    within-live p.lengths.items c.args.slot c.length_of-len.result (sym c.length_of-len.ensures) in
    let block =
    block-of p.blocks c.args.slot (omega (arith, below, p.lengths.ok.0, c.self.invariant.used)) in
    let short =
    fits-at p.size p.lengths.items c.args.slot c.length_of-len.result c.self.invariant.fits
    (sym c.length_of-len.ensures) in
    ap Some
    (sym (values-map c.bytes.result.now)
    ∙ ap values
    (sym c.bytes.ensures
    ∙ read-joined (64 * p.size) p.blocks.items (c.args.slot / 64)
    (c.args.slot % 64 * p.size) (c.args.slot * p.size) c.length_of-len.result
    c.index-block.result.now c.self.invariant.whole block c.index-block.ensures
    (fits-block c.args.slot p.size c.length_of-len.result short)
    (place-of c.args.slot p.size)))
    ∙ sym
    (held-live p.size (joined p.blocks.items) p.lengths.items c.args.slot
    (c.args.slot * p.size) c.length_of-len.result (sym c.length_of-len.ensures) refl)
    ∙ ap (λ pool. slice_index_or pool.slots.used c.args.slot None) c.self.view_is

pub returns-clause-most : goal.returns-clause-most
returns-clause-most c =
    let p = c.self.inside in
    let short =
    fits-at p.size p.lengths.items c.args.slot c.length_of-len.result c.self.invariant.fits
    (sym c.length_of-len.ensures) in
    omega (
      arith,
      ap length c.bytes.ensures,
      length-map c.bytes.result.now Some,
      length-take c.length_of-len.result
          (drop (c.args.slot % 64 * p.size) c.index-block.result.now),
      short,
      ap (λ pool. pool.slots.size) c.self.view_is,
    )
