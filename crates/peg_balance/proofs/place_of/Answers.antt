use Rattle.std.proofs.Common.{sym, ◌∙◌, arith}
use Rattle.peg_balance.proofs.Choosing.{place_here, place_later}
use Rattle.peg_balance.proofs.place_of.Goals as goal

pub returns-then-eq : goal.returns-then-eq
returns-then-eq c =
    place_here c.args.server c.loop-place.place c.nth.result c.args.servers
    (omega (arith, c.loop-place-test.true, c.count-count.ensures)) c.nth.ensures
    (sym c.eq.ensures ∙ c.if-eq.true) c.loop-place.invariant

pub loop-place-preserved : goal.loop-place-preserved
loop-place-preserved c =
    place_later c.args.server c.loop-place.place c.nth.result c.args.servers
    (omega (arith, c.loop-place-test.true, c.count-count.ensures)) c.nth.ensures
    (sym c.eq.ensures ∙ c.if-eq.false) c.loop-place.invariant
