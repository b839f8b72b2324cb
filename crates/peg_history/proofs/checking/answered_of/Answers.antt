use Rattle.std.proofs.Common.{◌≡◌, ◌<◌, ◌≤◌, ◌∙◌, sym, arith, get_or, length}
use Rattle.std.proofs.lemmas.Option.{get_or_from_slice_get}
use Rattle.peg_history.proofs.Listed.{listed_more, listed_skip, listed_all}
use Rattle.peg_history.proofs.checking.answered_of.Goals as goal
use Rattle.peg_history.proofs.checking.answered_of.Goals.{then-is_some+in_ok-add_place, else-is_some}

pub loop-place-preserved : goal.loop-place-preserved
loop-place-preserved c =
    let ops = c.args.history.now.ops in
    let place = c.loop-place.place in
    let op = c.op-op.result in
    let within : place < length ops = omega (arith, c.len-place-end.ensures.len, c.loop-place-test.true) in
    let is : op ≡ get_or ops place op = sym (get_or_from_slice_get ops place op op (sym c.op-op.ensures)) in
    elim c.if-is_some.branch [
      | then-is_some+in_ok-add_place w ↦
          rw w.known-is (listed_more ops place op c.loop-place.known w.add_place.new.known within is
          (sym c.is_some.ensures ∙ w.if-is_some.true) w.in_ok-add_place.ensures c.loop-place.invariant)
      | else-is_some w ↦
          rw w.known-is (listed_skip ops place op c.loop-place.known within is
          (sym c.is_some.ensures ∙ w.if-is_some.false) c.loop-place.invariant)
    ]

pub returns : goal.returns
returns c =
    let past : length c.args.history.now.ops ≤ c.loop-place.place =
    omega (arith, c.len-place-end.ensures.len, c.loop-place-test.false) in
    listed_all c.args.history.now.ops c.loop-place.place c.loop-place.known past c.loop-place.invariant
