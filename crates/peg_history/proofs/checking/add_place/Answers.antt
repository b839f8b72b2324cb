use Rattle.peg_history.proofs.Listed.{added_place}
use Rattle.peg_history.proofs.checking.add_place.Goals as goal

pub returns : goal.returns
returns c = λ q.
    added_place c.args.known.now c.remove.new.self c.insert.new.self c.args.key.now c.args.place c.new.result c.unwrap_or-places.result c.push.new.self c.remove.result
    c.remove.ensures.value c.unwrap_or-places.ensures c.new.ensures.items c.in_ok-push.ensures.items q (c.remove.ensures.updates.0 q) (c.in_ok-insert.ensures.updates.0 q)
