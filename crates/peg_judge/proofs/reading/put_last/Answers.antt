use Rattle.std.proofs.Common.{arith, ◌-◌}
use Rattle.peg_judge.proofs.Stepping.{place_more}
use Rattle.peg_judge.proofs.reading.put_last.Goals as goal

pub returns : goal.returns
returns c =
    let old = c.index_mut-order.result.now in
    place_more c.args.orders.now.items (c.len-count.result - 1) c.args.place
    (record { key = old.key; ops = c.push.new.self }) old (omega arith)
    c.index_mut-order.ensures.value (λ i. (old.key, c.in_ok-push.ensures.ok i))
