use Rattle.std.proofs.Common.{◌*◌, ◌++◌, ◌∷◌, [], ◌≤◌, ap, ◌∙◌, arith, length}
use Rattle.peg_pool.specs.Held.{joined}
use Rattle.peg_pool.specs.Held.{held}
use Rattle.peg_pool.proofs.Free.{count-most}
use Rattle.peg_pool.proofs.Patches.{joined-push, length-joined, whole-push}
use Rattle.peg_pool.proofs.Pools.{room-used}
use Rattle.peg_pool.proofs.Rooms.{held-more, filled-more}
use Rattle.peg_pool.proofs.pool.SlotPool.grow.Goals as goal

pub overflow_sub-slots-2 : goal.overflow_sub-slots-2
overflow_sub-slots-2 c =
    omega (
      arith,
      count-most c.self.inside.lengths.items,
      c.self.invariant.count,
      c.self.invariant.used,
      c.self.inside.lengths.ok.0,
      c.len-4.ensures,
      c.len-2.ensures,
    )

pub invariant_of-self-2 : goal.invariant_of-self-2
invariant_of-self-2 c =
    let p = c.self.inside in
    let is = c.self.invariant in
    let room : length p.lengths.items * p.size ≤ length (joined p.blocks.items) =
    omega (
      arith,
      length-joined (64 * p.size) p.blocks.items is.whole,
      room-used (length p.lengths.items) (length p.blocks.items) p.size
          (omega (arith, is.used, p.lengths.ok.0, p.blocks.ok.0)),
    ) in
    let blocks =
    c.push_reserved.ensures.items
    ∙ ap (λ bs. bs ++ c.in_ok-block.block ∷ []) c.reserve-3.ensures.items in
    record {
      least = is.least;
      most = is.most;
      few = omega (
        arith,
        c.if-len-eq-BLOCKS.false,
        c.len.ensures,
        is.few,
        c.push_reserved.ensures.len,
        c.reserve-3.ensures.len,
      );
      whole = rw blocks
          (whole-push (64 * p.size) p.blocks.items c.in_ok-block.block is.whole
          c.in_ok-block.ensures);
      used = omega (
        arith,
        is.used,
        c.reserve.ensures.len,
        c.push_reserved.ensures.len,
        c.reserve-3.ensures.len,
      );
      fits = rw c.reserve.ensures.items is.fits;
      filled = rw (blocks, c.reserve.ensures.items, joined-push p.blocks.items c.in_ok-block.block)
          (filled-more p.size (joined p.blocks.items) c.in_ok-block.block p.lengths.items is.fits
          is.filled room);
      free = rw (c.reserve.ensures.items, c.reserve-2.ensures.items) is.free;
      count = rw c.reserve.ensures.items (omega (arith, is.count, c.reserve-2.ensures.len));
      lengths = omega (
        arith,
        c.in_ok-reserve.ensures.ok,
        c.reserve.ensures.len,
        c.len-2.ensures,
        c.len-3.ensures,
        c.push_reserved.ensures.len,
        c.reserve-3.ensures.len,
        is.used,
      );
      freed = omega (
        arith,
        c.in_ok-reserve-2.ensures.ok,
        c.reserve-2.ensures.len,
        c.len-2.ensures,
        c.len-4.ensures,
        c.push_reserved.ensures.len,
        c.reserve-3.ensures.len,
        is.count,
        count-most p.lengths.items,
        p.lengths.ok.0,
        is.used,
      );
    }

pub returns-clause-same : goal.returns-clause-same
returns-clause-same c =
    let p = c.self.inside in
    let blocks =
    c.push_reserved.ensures.items
    ∙ ap (λ bs. bs ++ c.in_ok-block.block ∷ []) c.reserve-3.ensures.items in
    let used =
    ap (λ bs. held p.size (joined bs) c.reserve.new.self.items) blocks
    ∙ ap (λ r. held p.size r c.reserve.new.self.items)
    (joined-push p.blocks.items c.in_ok-block.block)
    ∙ ap (λ ls. held p.size (joined p.blocks.items ++ c.in_ok-block.block) ls)
    c.reserve.ensures.items
    ∙ held-more p.size (joined p.blocks.items) c.in_ok-block.block p.lengths.items
    c.self.invariant.fits
    (omega (
      arith,
      length-joined (64 * p.size) p.blocks.items c.self.invariant.whole,
      room-used (length p.lengths.items) (length p.blocks.items) p.size
          (omega (arith, c.self.invariant.used, p.lengths.ok.0, p.blocks.ok.0)),
    ))
    ∙ ap (λ pool. pool.slots.used) c.self.view_is in
    λ i. record {
      size = (c.self.view_is i).slots.size;
      used = used i;
      freed = (c.reserve-2.ensures.items ∙ ap (λ pool. pool.slots.freed) c.self.view_is) i;
    }
