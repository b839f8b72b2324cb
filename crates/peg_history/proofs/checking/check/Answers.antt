use Rattle.peg_event.specs.declared.history.Verdict.TheVariants.{Yes, No}
use Rattle.peg_history.proofs.Judged.{judged_at, judged_all}
use Rattle.peg_history.proofs.Law.{yes_exactly}
use Rattle.peg_history.proofs.checking.check.Goals as goal

pub returns-in-Some-clause-yes : goal.returns-in-Some-clause-yes
returns-in-Some-clause-yes c =
    yes_exactly c.args.history.now.ops c.args.orders.now (No c.in-Some.fault)
    (judged_at c.args.history.now.ops c.args.orders.now c.loop-i.i c.loop-i.marks.items c.index-orders-i.result c.in-Some.fault c.loop-i-test.true c.index-orders-i.is c.in-Some.ensures.fault c.loop-i.invariant
    )

pub returns-clause-yes : goal.returns-clause-yes
returns-clause-yes c =
    yes_exactly c.args.history.now.ops c.args.orders.now Yes
    (judged_all c.args.history.now.ops c.args.orders.now c.loop-i.i c.loop-i.marks.items c.loop-i-test.false c.loop-i.invariant
    )
