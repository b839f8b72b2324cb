use Rattle.std.proofs.Common.{◌≡◌, ◌∙◌, sym, arith, Some, None, get_or}
use Rattle.std.specs.Prelude.{slice_get}
use Rattle.peg_history.proofs.Walked.{within_marks, strange_at, own_at, late_at, walked_next_as, missing_at, order_at}
use Rattle.peg_history.proofs.checking.fault_in.Goals as goal

pub returns-in_default-clause-fault : goal.returns-in_default-clause-fault
returns-in_default-clause-fault c =
    let places = c.places-places.result.now in
    let is : slice_get c.args.history.now.ops (get_or places c.loop-i.i 0) ≡ None = sym c.op_if.ensures ∙ c.in_default.is in
    strange_at c.args.history.now.ops c.args.order.now.key places c.loop-i.i c.loop-i.marks c.args.mark c.loop-i.last c.loop-i.latest c.loop-i.invariant c.loop-i-test.true is
    ∙ order_at c.args.history.now.ops c.args.order.now.key c.places-places.ensures

pub returns-then-is_some-clause-fault : goal.returns-then-is_some-clause-fault
returns-then-is_some-clause-fault c =
    let places = c.places-places.result.now in
    let is : slice_get c.args.history.now.ops (get_or places c.loop-i.i 0) ≡ Some c.in-Some.op = sym c.op_if.ensures ∙ c.in-Some.is in
    own_at c.args.history.now.ops c.args.order.now.key places c.loop-i.i c.loop-i.marks c.args.mark c.loop-i.last c.loop-i.latest c.in-Some.op c.own_fault-own.result
    c.loop-i.invariant c.loop-i-test.true is c.own_fault-own.ensures (sym c.is_some.ensures ∙ c.if-is_some.true)
    ∙ order_at c.args.history.now.ops c.args.order.now.key c.places-places.ensures

pub returns-then-is_some-2-clause-fault : goal.returns-then-is_some-2-clause-fault
returns-then-is_some-2-clause-fault c =
    let places = c.places-places.result.now in
    let is : slice_get c.args.history.now.ops (get_or places c.loop-i.i 0) ≡ Some c.in-Some.op = sym c.op_if.ensures ∙ c.in-Some.is in
    late_at c.args.history.now.ops c.args.order.now.key places c.loop-i.i c.loop-i.marks c.args.mark c.loop-i.last c.loop-i.latest c.in-Some.op c.own_fault-own.result c.late_fault-late.result
    c.loop-i.invariant c.loop-i-test.true is c.own_fault-own.ensures c.late_fault-late.ensures (sym c.is_some.ensures ∙ c.if-is_some.false) (sym c.is_some-in-loop-i.ensures ∙ c.if-is_some-2.true)
    ∙ order_at c.args.history.now.ops c.args.order.now.key c.places-places.ensures

pub loop-i-preserved : goal.loop-i-preserved
loop-i-preserved c =
    let ops = c.args.history.now.ops in
    let places = c.places-places.result.now in
    let is : slice_get ops (get_or places c.loop-i.i 0) ≡ Some c.in-Some.op = sym c.op_if.ensures ∙ c.in-Some.is in
    walked_next_as ops c.args.order.now.key places c.loop-i.i c.loop-i.marks c.args.mark c.loop-i.last c.loop-i.latest c.in-Some.op c.own_fault-own.result c.late_fault-late.result
    c.last_write-last.result c.max-latest.result
    c.loop-i.invariant c.loop-i-test.true is
    (within_marks ops (get_or places c.loop-i.i 0) c.in-Some.op c.loop-i.marks is c.loop-i.invariant.even)
    c.own_fault-own.ensures c.late_fault-late.ensures (sym c.is_some.ensures ∙ c.if-is_some.false) (sym c.is_some-in-loop-i.ensures ∙ c.if-is_some-2.false)
    c.last_write-last.ensures c.max-latest.ensures

pub missing-requires : goal.missing-requires
missing-requires c =
    let first = c.requires.unused 0 in
    omega arith

pub returns-clause-fault : goal.returns-clause-fault
returns-clause-fault c =
    let places = c.places-places.result.now in
    c.missing.ensures
    ∙ missing_at c.args.history.now.ops c.args.order.now.key places c.loop-i.i c.loop-i.marks c.args.mark c.loop-i.last c.loop-i.latest c.args.answered.now c.loop-i.invariant c.loop-i-test.false c.requires.answered
    ∙ order_at c.args.history.now.ops c.args.order.now.key c.places-places.ensures
