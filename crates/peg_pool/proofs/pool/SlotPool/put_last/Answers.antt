use Rattle.std.proofs.Common.{◌≡◌, ◌<◌, ◌≤◌, ◌*◌, [], ap, sym, ◌∙◌, arith, None, Some, length}
use Rattle.std.proofs.Common.{subst}
use Rattle.std.specs.Prelude.{slice_index_or, vec_len}
use Rattle.std.specs.List.{AllByRecursion}
use Rattle.peg_pool.specs.Held.{joined}
use Rattle.std.proofs.lemmas.List.{get_or_past}
use Rattle.peg_pool.proofs.Free.{count-push}
use Rattle.peg_pool.proofs.Pools.{placed-at, kept, filled-kept, next-unused, nothing-to-take, length-seen}
use Rattle.peg_pool.proofs.Rooms.{fits-placed, length-held, placed-last}
use Rattle.peg_pool.specs.Held.{held, FitsSize, AreFree, AreFilled, count_none}
use Rattle.peg_pool.specs.Slots.{placed, next_slot}
use Rattle.peg_pool.proofs.pool.SlotPool.put_last.Goals as goal

pub invariant_of-self : goal.invariant_of-self
invariant_of-self c =
    let p = c.self.inside in
    let is = c.self.invariant in
    let short : length c.args.bytes.now ≤ p.size =
    omega (arith, c.requires.fits, ap (λ pool. pool.slots.size) c.self.view_is) in
    let none : p.freed.items ≡ [] =
    ap (λ pool. pool.slots.freed) c.self.view_is ∙ c.requires.none in
    let room : vec_len p.lengths < 64 * vec_len p.blocks =
    omega (
      arith,
      c.requires.room,
      ap (λ pool. pool.spare) c.self.view_is,
      ap length none,
      p.freed.ok.0,
    ) in
    let last = placed-last p.lengths.items c.len-slot.result (Some (length c.args.bytes.now))
    (omega (arith, c.len-slot.ensures, p.lengths.ok.0)) in
    record {
      least = is.least;
      most = is.most;
      few = omega (arith, is.few, c.fill.ensures.len);
      whole = c.fill.ensures.whole;
      used = omega (arith, room, c.fill.ensures.len, c.push_reserved.ensures.len);
      fits = subst (AllByRecursion (FitsSize p.size)) (last ∙ sym c.push_reserved.ensures.items)
          (fits-placed p.size p.lengths.items c.len-slot.result (length c.args.bytes.now) is.fits
          short);
      filled = subst (AreFilled p.size (joined c.fill.new.blocks.items))
          (last ∙ sym c.push_reserved.ensures.items)
          (filled-kept p c.len-slot.result c.args.bytes.now c.fill.new.blocks.items is
          (omega (arith, c.len-slot.ensures, p.lengths.ok.0))
          (omega (arith, c.len-slot.ensures, room)) short c.fill.ensures.written);
      free = subst (AreFree c.push_reserved.new.self.items) (sym none) tt;
      count = omega (
        arith,
        ap count_none c.push_reserved.ensures.items,
        count-push p.lengths.items (length c.args.bytes.now),
        is.count,
      );
      lengths = omega (arith, is.lengths, c.fill.ensures.len, c.push_reserved.ensures.capacity);
      freed = omega (arith, is.freed, c.fill.ensures.len);
    }

pub returns-clause-slot : goal.returns-clause-slot
returns-clause-slot c =
    let p = c.self.inside in
    omega (
      arith,
      c.len-slot.ensures,
      p.lengths.ok.0,
      length-seen p c.args.self.now c.self.view_is,
      next-unused c.args.self.now.slots c.requires.none,
    )

pub returns-clause-fresh : goal.returns-clause-fresh
returns-clause-fresh c =
    get_or_past c.args.self.now.slots.used c.len-slot.result None
    (omega (
      arith,
      c.len-slot.ensures,
      c.self.inside.lengths.ok.0,
      length-seen c.self.inside c.args.self.now c.self.view_is,
    ))

pub returns-clause-slots : goal.returns-clause-slots
returns-clause-slots c =
    let p = c.self.inside in
    let now = c.args.self.now in
    let room : vec_len p.lengths < 64 * vec_len p.blocks =
    omega (
      arith,
      c.requires.room,
      ap (λ pool. pool.spare) c.self.view_is,
      ap (λ pool. length pool.slots.freed) c.self.view_is,
      ap length c.requires.none,
      p.freed.ok.0,
    ) in
    let last = placed-last p.lengths.items c.len-slot.result (Some (length c.args.bytes.now))
    (omega (arith, c.len-slot.ensures, p.lengths.ok.0)) in
    let next : c.len-slot.result ≡ next_slot now.slots =
    omega (
      arith,
      c.len-slot.ensures,
      p.lengths.ok.0,
      length-seen p now c.self.view_is,
      next-unused now.slots c.requires.none,
    ) in
    λ i. record {
      size = (c.self.view_is i).slots.size;
      used =
          (ap (held p.size (joined c.fill.new.blocks.items))
          (c.push_reserved.ensures.items ∙ sym last)
          ∙ kept p now c.len-slot.result c.args.bytes.now c.fill.new.blocks.items
          c.self.invariant c.self.view_is
          (omega (arith, c.len-slot.ensures, p.lengths.ok.0))
          (omega (arith, c.len-slot.ensures, room))
          (omega (arith, c.requires.fits, ap (λ pool. pool.slots.size) c.self.view_is))
          c.fill.ensures.written
          ∙ ap (λ n. placed now.slots.used n (Some c.args.bytes.now)) next) i;
      freed =
          (ap (λ pool. pool.slots.freed) c.self.view_is
          ∙ sym (nothing-to-take now.slots.freed c.requires.none)) i;
    }

pub returns-clause-map : goal.returns-clause-map
returns-clause-map c = λ other.
    let p = c.self.inside in
    let now = c.args.self.now in
    let room : vec_len p.lengths < 64 * vec_len p.blocks =
    omega (
      arith,
      c.requires.room,
      ap (λ pool. pool.spare) c.self.view_is,
      ap (λ pool. length pool.slots.freed) c.self.view_is,
      ap length c.requires.none,
      p.freed.ok.0,
    ) in
    let last = placed-last p.lengths.items c.len-slot.result (Some (length c.args.bytes.now))
    (omega (arith, c.len-slot.ensures, p.lengths.ok.0)) in
    ap (λ used. slice_index_or used other None)
    (ap (held p.size (joined c.fill.new.blocks.items))
    (c.push_reserved.ensures.items ∙ sym last)
    ∙ kept p now c.len-slot.result c.args.bytes.now c.fill.new.blocks.items
    c.self.invariant c.self.view_is
    (omega (arith, c.len-slot.ensures, p.lengths.ok.0))
    (omega (arith, c.len-slot.ensures, room))
    (omega (arith, c.requires.fits, ap (λ pool. pool.slots.size) c.self.view_is))
    c.fill.ensures.written)
    ∙ placed-at now.slots.used c.len-slot.result other (Some c.args.bytes.now) None
    (omega (
      arith,
      c.len-slot.ensures,
      p.lengths.ok.0,
      length-seen p now c.self.view_is,
    ))

pub returns-clause-few : goal.returns-clause-few
returns-clause-few c =
    let p = c.self.inside in
    let room : vec_len p.lengths < 64 * vec_len p.blocks =
    omega (
      arith,
      c.requires.room,
      ap (λ pool. pool.spare) c.self.view_is,
      ap (λ pool. length pool.slots.freed) c.self.view_is,
      ap length c.requires.none,
      p.freed.ok.0,
    ) in
    omega (
      arith,
      length-held p.size (joined c.fill.new.blocks.items) c.push_reserved.new.self.items,
      c.push_reserved.new.self.ok.0,
      c.push_reserved.ensures.len,
      room,
      c.self.invariant.few,
    )
