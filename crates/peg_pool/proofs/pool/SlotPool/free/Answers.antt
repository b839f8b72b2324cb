use Rattle.std.proofs.Common.{◌++◌, ◌∷◌, [], ap, ◌∙◌, arith, None, length}
use Rattle.std.specs.Prelude.{slice_set, slice_index_or}
use Rattle.peg_pool.specs.Held.{joined}
use Rattle.peg_pool.proofs.Free.{count-below, count-freed, free-freed}
use Rattle.peg_pool.proofs.Pools.{live-length, within-live, set-at}
use Rattle.peg_pool.proofs.Rooms.{fits-freed, filled-freed, held-freed, length-held}
use Rattle.peg_pool.proofs.pool.SlotPool.free.Goals as goal

pub index_mut-requires : goal.index_mut-requires
index_mut-requires c =
    let live =
    live-length c.self.inside c.args.self.now c.args.slot c.self.view_is c.requires in
    omega (
      arith,
      within-live c.self.inside.lengths.items c.args.slot live.0 live.1,
      c.self.inside.lengths.ok.0,
    )

pub push_reserved-requires : goal.push_reserved-requires
push_reserved-requires c =
    let live =
    live-length c.self.inside c.args.self.now c.args.slot c.self.view_is c.requires in
    omega (
      arith,
      count-below c.self.inside.lengths.items c.args.slot live.0 live.1,
      c.self.inside.lengths.ok.0,
      c.self.invariant.count,
      c.self.invariant.used,
      c.self.invariant.freed,
    )

pub invariant_of-self : goal.invariant_of-self
invariant_of-self c =
    let p = c.self.inside in
    let is = c.self.invariant in
    let live = live-length p c.args.self.now c.args.slot c.self.view_is c.requires in
    let below = within-live p.lengths.items c.args.slot live.0 live.1 in
    record {
      least = is.least;
      most = is.most;
      few = is.few;
      whole = is.whole;
      used = is.used;
      fits = fits-freed p.size p.lengths.items c.args.slot is.fits;
      filled = filled-freed p.size (joined p.blocks.items) p.lengths.items c.args.slot is.filled;
      free = rw c.push_reserved.ensures.items
          (free-freed p.lengths.items p.freed.items c.args.slot live.0 is.free below live.1);
      count = omega (
        arith,
        count-freed p.lengths.items c.args.slot live.0 live.1,
        is.count,
        c.push_reserved.ensures.len,
      );
      lengths = is.lengths;
      freed = omega (arith, is.freed, c.push_reserved.ensures.capacity);
    }

pub returns-clause-slots : goal.returns-clause-slots
returns-clause-slots c =
    let p = c.self.inside in
    λ i. record {
      size = (c.self.view_is i).slots.size;
      used =
          (held-freed p.size (joined p.blocks.items) p.lengths.items c.args.slot
          ∙ ap (λ pool. slice_set pool.slots.used c.args.slot None) c.self.view_is) i;
      freed =
          (c.push_reserved.ensures.items
          ∙ ap (λ pool. pool.slots.freed ++ c.args.slot ∷ []) c.self.view_is) i;
    }

pub returns-clause-map : goal.returns-clause-map
returns-clause-map c = λ other.
    let p = c.self.inside in
    let live = live-length p c.args.self.now c.args.slot c.self.view_is c.requires in
    let below = within-live p.lengths.items c.args.slot live.0 live.1 in
    ap (λ used. slice_index_or used other None)
    (held-freed p.size (joined p.blocks.items) p.lengths.items c.args.slot
    ∙ ap (λ pool. slice_set pool.slots.used c.args.slot None) c.self.view_is)
    ∙ set-at c.args.self.now.slots.used c.args.slot other None None
    (omega (
      arith,
      below,
      length-held p.size (joined p.blocks.items) p.lengths.items,
      ap (λ pool. length pool.slots.used) c.self.view_is,
    ))
