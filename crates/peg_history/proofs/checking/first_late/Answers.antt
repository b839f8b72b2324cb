use Rattle.std.proofs.Common.{◌≡◌, ◌∙◌, sym, Some, None, get_or}
use Rattle.std.specs.Prelude.{slice_get}
use Rattle.peg_history.proofs.Walked.{late_found, late_passed, late_skipped}
use Rattle.peg_history.proofs.checking.first_late.Goals as goal
use Rattle.peg_history.proofs.checking.first_late.Goals.{in-Some+else-at-op, in_default}

pub returns-then-at-op : goal.returns-then-at-op
returns-then-at-op c =
    let place = get_or c.args.walked.now c.loop-first.first-index 0 in
    let is : slice_get c.args.history.now.ops place ≡ Some c.in-Some.op = sym c.op_if.ensures ∙ c.in-Some.is in
    sym (late_found c.args.history.now.ops c.args.walked.now c.loop-first.first-index c.args.place c.args.at c.in-Some.op c.loop-first-test.true is c.if-at-op.true) ∙ c.loop-first.invariant

pub loop-first-preserved : goal.loop-first-preserved
loop-first-preserved c =
    let place = get_or c.args.walked.now c.loop-first.first-index 0 in
    elim c.match-op_if.branch [
      | in-Some+else-at-op w ↦
          let is : slice_get c.args.history.now.ops place ≡ Some w.in-Some.op = sym c.op_if.ensures ∙ w.in-Some.is in
          late_passed c.args.history.now.ops c.args.walked.now c.loop-first.first-index c.args.place c.args.at w.in-Some.op c.loop-first-test.true is w.if-at-op.false ∙ c.loop-first.invariant
      | in_default w ↦
          let is : slice_get c.args.history.now.ops place ≡ None = sym c.op_if.ensures ∙ w.in_default.is in
          late_skipped c.args.history.now.ops c.args.walked.now c.loop-first.first-index c.args.place c.args.at c.loop-first-test.true is ∙ c.loop-first.invariant
    ]
