use Rattle.std.proofs.Common.{◌≤◌, ap, sym, ◌∙◌, arith, None, Some, length, subst}
use Rattle.std.specs.Prelude.{slice_index_or}
use Rattle.peg_pool.specs.Held.{joined}
use Rattle.peg_pool.proofs.Free.{count-replaced, free-replaced}
use Rattle.peg_pool.proofs.Pools.{live-length, within-live, placed-at, kept, filled-kept}
use Rattle.peg_pool.proofs.Rooms.{fits-placed, length-held, placed-within}
use Rattle.peg_pool.specs.Held.{held, AreFilled}
use Rattle.peg_pool.proofs.pool.SlotPool.replace.Goals as goal

pub fill-requires-clause-slot : goal.fill-requires-clause-slot
fill-requires-clause-slot c =
    let live =
    live-length c.self.inside c.args.self.now c.args.slot c.self.view_is c.requires.live in
    omega (
      arith,
      within-live c.self.inside.lengths.items c.args.slot live.0 live.1,
      c.self.inside.lengths.ok.0,
      c.self.invariant.used,
    )

pub index_mut-requires : goal.index_mut-requires
index_mut-requires c =
    let live =
    live-length c.self.inside c.args.self.now c.args.slot c.self.view_is c.requires.live in
    omega (
      arith,
      within-live c.self.inside.lengths.items c.args.slot live.0 live.1,
      c.self.inside.lengths.ok.0,
    )

pub invariant_of-self : goal.invariant_of-self
invariant_of-self c =
    let p = c.self.inside in
    let is = c.self.invariant in
    let live = live-length p c.args.self.now c.args.slot c.self.view_is c.requires.live in
    let below = within-live p.lengths.items c.args.slot live.0 live.1 in
    let short : length c.args.bytes.now ≤ p.size = omega (arith, c.requires.fits, ap (λ pool. pool.slots.size) c.self.view_is) in
    record {
      least = is.least;
      most = is.most;
      few = omega (arith, is.few, c.fill.ensures.len);
      whole = c.fill.ensures.whole;
      used = omega (arith, is.used, c.fill.ensures.len);
      fits = rw (sym (placed-within p.lengths.items c.args.slot (Some (length c.args.bytes.now)) below))
          (fits-placed p.size p.lengths.items c.args.slot (length c.args.bytes.now) is.fits short);
      filled = subst (AreFilled p.size (joined c.fill.new.blocks.items))
          (placed-within p.lengths.items c.args.slot (Some (length c.args.bytes.now)) below)
          (filled-kept p c.args.slot c.args.bytes.now c.fill.new.blocks.items is
          (omega (arith, below)) (omega (arith, below, p.lengths.ok.0, is.used)) short
          c.fill.ensures.written);
      free = free-replaced p.lengths.items p.freed.items c.args.slot live.0
          (length c.args.bytes.now) is.free live.1;
      count = count-replaced p.lengths.items c.args.slot live.0 (length c.args.bytes.now) live.1
          ∙ is.count;
      lengths = omega (arith, is.lengths, c.fill.ensures.len);
      freed = omega (arith, is.freed, c.fill.ensures.len);
    }

pub returns-clause-slots : goal.returns-clause-slots
returns-clause-slots c =
    let p = c.self.inside in
    let live = live-length p c.args.self.now c.args.slot c.self.view_is c.requires.live in
    let below = within-live p.lengths.items c.args.slot live.0 live.1 in
    λ i. record {
      size = (c.self.view_is i).slots.size;
      used =
          (ap (held p.size (joined c.fill.new.blocks.items))
          (sym (placed-within p.lengths.items c.args.slot (Some (length c.args.bytes.now)) below))
          ∙ kept p c.args.self.now c.args.slot c.args.bytes.now c.fill.new.blocks.items
          c.self.invariant c.self.view_is (omega (arith, below))
          (omega (arith, below, p.lengths.ok.0, c.self.invariant.used))
          (omega (arith, c.requires.fits, ap (λ pool. pool.slots.size) c.self.view_is))
          c.fill.ensures.written) i;
      freed = (c.self.view_is i).slots.freed;
    }

pub returns-clause-map : goal.returns-clause-map
returns-clause-map c = λ other.
    let p = c.self.inside in
    let live = live-length p c.args.self.now c.args.slot c.self.view_is c.requires.live in
    let below = within-live p.lengths.items c.args.slot live.0 live.1 in
    ap (λ used. slice_index_or used other None)
    (ap (held p.size (joined c.fill.new.blocks.items))
    (sym (placed-within p.lengths.items c.args.slot (Some (length c.args.bytes.now)) below))
    ∙ kept p c.args.self.now c.args.slot c.args.bytes.now c.fill.new.blocks.items
    c.self.invariant c.self.view_is (omega (arith, below))
    (omega (arith, below, p.lengths.ok.0, c.self.invariant.used))
    (omega (arith, c.requires.fits, ap (λ pool. pool.slots.size) c.self.view_is))
    c.fill.ensures.written)
    ∙ placed-at c.args.self.now.slots.used c.args.slot other (Some c.args.bytes.now) None
    (omega (
      arith,
      below,
      length-held p.size (joined p.blocks.items) p.lengths.items,
      ap (λ pool. length pool.slots.used) c.self.view_is,
    ))
