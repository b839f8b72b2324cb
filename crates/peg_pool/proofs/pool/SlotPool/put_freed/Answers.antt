use Rattle.std.proofs.Common.{◌≤◌, ap, sym, ◌∙◌, arith, None, Some, length, subst}
use Rattle.std.specs.Prelude.{slice_index_or, slice_set}
use Rattle.peg_pool.specs.Held.{joined}
use Rattle.std.proofs.lemmas.List.{length-set}
use Rattle.peg_pool.proofs.Free.{count-taken, free-last, free-taken}
use Rattle.peg_pool.proofs.Pools.{placed-at, kept, filled-kept, last-is, front-is}
use Rattle.peg_pool.proofs.Rooms.{fits-placed, length-held, placed-within, held-none}
use Rattle.peg_pool.specs.Held.{held, AreFree, AreFilled}
use Rattle.peg_pool.specs.Slots.{placed}
use Rattle.peg_pool.proofs.pool.SlotPool.put_freed.Goals as goal

pub fill-requires-clause-slot : goal.fill-requires-clause-slot
fill-requires-clause-slot c =
    let p = c.self.inside in
    let last = free-last p.lengths.items c.take_last-slot.new.self.items c.take_last-slot.result
    (subst (AreFree p.lengths.items) c.take_last-slot.ensures.items c.self.invariant.free) in
    omega (arith, last.0, p.lengths.ok.0, c.self.invariant.used)

pub index_mut-requires : goal.index_mut-requires
index_mut-requires c =
    let p = c.self.inside in
    let last = free-last p.lengths.items c.take_last-slot.new.self.items c.take_last-slot.result
    (subst (AreFree p.lengths.items) c.take_last-slot.ensures.items c.self.invariant.free) in
    omega (arith, last.0, p.lengths.ok.0)

pub invariant_of-self : goal.invariant_of-self
invariant_of-self c =
    let p = c.self.inside in
    let is = c.self.invariant in
    let free =
    subst (AreFree p.lengths.items) c.take_last-slot.ensures.items is.free in
    let last =
    free-last p.lengths.items c.take_last-slot.new.self.items c.take_last-slot.result free in
    let short : length c.args.bytes.now ≤ p.size = omega (arith, c.requires.fits, ap (λ pool. pool.slots.size) c.self.view_is) in
    record {
      least = is.least;
      most = is.most;
      few = omega (arith, is.few, c.fill.ensures.len);
      whole = c.fill.ensures.whole;
      used = omega (arith, is.used, c.fill.ensures.len);
      fits = rw
          (sym (placed-within p.lengths.items c.take_last-slot.result
          (Some (length c.args.bytes.now)) last.0))
          (fits-placed p.size p.lengths.items c.take_last-slot.result (length c.args.bytes.now)
          is.fits short);
      filled = subst (AreFilled p.size (joined c.fill.new.blocks.items))
          (placed-within p.lengths.items c.take_last-slot.result
          (Some (length c.args.bytes.now)) last.0)
          (filled-kept p c.take_last-slot.result c.args.bytes.now c.fill.new.blocks.items is
          (omega (arith, last.0)) (omega (arith, last.0, p.lengths.ok.0, is.used)) short
          c.fill.ensures.written);
      free = free-taken p.lengths.items c.take_last-slot.new.self.items c.take_last-slot.result
          (length c.args.bytes.now) free;
      count = omega (
        arith,
        count-taken p.lengths.items c.take_last-slot.result (length c.args.bytes.now) last.0 last.1,
        is.count,
        c.take_last-slot.ensures.len,
      );
      lengths = omega (arith, is.lengths, c.fill.ensures.len);
      freed = omega (arith, is.freed, c.fill.ensures.len, c.take_last-slot.ensures.capacity);
    }

pub returns-clause-fresh : goal.returns-clause-fresh
returns-clause-fresh c =
    let p = c.self.inside in
    let last = free-last p.lengths.items c.take_last-slot.new.self.items c.take_last-slot.result
    (subst (AreFree p.lengths.items) c.take_last-slot.ensures.items c.self.invariant.free) in
    ap (λ pool. slice_index_or pool.slots.used c.take_last-slot.result None) (sym c.self.view_is)
    ∙ held-none p.size (joined p.blocks.items) p.lengths.items c.take_last-slot.result last.1

pub returns-clause-slots : goal.returns-clause-slots
returns-clause-slots c =
    let p = c.self.inside in
    let now = c.args.self.now in
    let last = free-last p.lengths.items c.take_last-slot.new.self.items c.take_last-slot.result
    (subst (AreFree p.lengths.items) c.take_last-slot.ensures.items c.self.invariant.free) in
    let freed =
    ap (λ pool. pool.slots.freed) (sym c.self.view_is) ∙ c.take_last-slot.ensures.items in
    λ i. record {
      size = (c.self.view_is i).slots.size;
      used =
          (ap (held p.size (joined c.fill.new.blocks.items))
          (sym (placed-within p.lengths.items c.take_last-slot.result
          (Some (length c.args.bytes.now)) last.0))
          ∙ kept p now c.take_last-slot.result c.args.bytes.now c.fill.new.blocks.items
          c.self.invariant c.self.view_is (omega (arith, last.0))
          (omega (arith, last.0, p.lengths.ok.0, c.self.invariant.used))
          (omega (arith, c.requires.fits, ap (λ pool. pool.slots.size) c.self.view_is))
          c.fill.ensures.written
          ∙ ap (λ n. placed now.slots.used n (Some c.args.bytes.now))
          (sym (last-is now.slots.freed c.take_last-slot.new.self.items c.take_last-slot.result
          (length now.slots.used) freed))) i;
      freed =
          sym (front-is now.slots.freed c.take_last-slot.new.self.items c.take_last-slot.result
          freed) i;
    }

pub returns-clause-map : goal.returns-clause-map
returns-clause-map c = λ other.
    let p = c.self.inside in
    let now = c.args.self.now in
    let last = free-last p.lengths.items c.take_last-slot.new.self.items c.take_last-slot.result
    (subst (AreFree p.lengths.items) c.take_last-slot.ensures.items c.self.invariant.free) in
    ap (λ used. slice_index_or used other None)
    (ap (held p.size (joined c.fill.new.blocks.items))
    (sym (placed-within p.lengths.items c.take_last-slot.result
    (Some (length c.args.bytes.now)) last.0))
    ∙ kept p now c.take_last-slot.result c.args.bytes.now c.fill.new.blocks.items
    c.self.invariant c.self.view_is (omega (arith, last.0))
    (omega (arith, last.0, p.lengths.ok.0, c.self.invariant.used))
    (omega (arith, c.requires.fits, ap (λ pool. pool.slots.size) c.self.view_is))
    c.fill.ensures.written)
    ∙ placed-at now.slots.used c.take_last-slot.result other (Some c.args.bytes.now) None
    (omega (
      arith,
      last.0,
      length-held p.size (joined p.blocks.items) p.lengths.items,
      ap (λ pool. length pool.slots.used) c.self.view_is,
    ))

pub returns-clause-few : goal.returns-clause-few
returns-clause-few c =
    let p = c.self.inside in
    omega (
      arith,
      length-held p.size (joined c.fill.new.blocks.items)
          (slice_set p.lengths.items c.take_last-slot.result (Some (length c.args.bytes.now))),
      length-set p.lengths.items c.take_last-slot.result (Some (length c.args.bytes.now)),
      p.lengths.ok.0,
      c.self.invariant.used,
      c.self.invariant.few,
    )
