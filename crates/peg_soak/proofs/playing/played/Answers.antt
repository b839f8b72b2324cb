use Rattle.std.proofs.Common.{◌∙◌, ◌+◌, arith}
use Rattle.peg_soak.proofs.Played.{played_first, played_on, played_all, past_at, next_in_rack}
use Rattle.peg_soak.proofs.playing.played.Goals as goal

pub loop-done-init : goal.loop-done-init
loop-done-init c =
    played_first c.args.start c.rack.result c.in-Ok.world c.make-generator.result c.rack.ensures
    c.in-Ok.ensures c.make-generator.ensures

pub step-requires-clause-in_rack : goal.step-requires-clause-in_rack
step-requires-clause-in_rack c =
    let at = c.loop-done in
    next_in_rack at.world (at.done + 1) c.from.result at.generator c.next-event.result
    at.invariant.rack (omega arith) c.next-event.ensures.event

pub step-requires-clause-later : goal.step-requires-clause-later
step-requires-clause-later c = omega (arith, c.loop-done.invariant.place)

pub returns-in-Err-TooMuch : goal.returns-in-Err-TooMuch
returns-in-Err-TooMuch c =
    let at = c.loop-done in
    let drawn = c.next-event.ensures in
    past_at c.args.start at.done c.from.result at.world at.generator c.next-event.result
    c.next-event.new.self at.invariant (c.from.ensures ∙ c.packets.ensures) drawn.event drawn.after
    c.args.events (omega arith) c.requires (c.step.ensures.past (cc))

pub loop-done-preserved : goal.loop-done-preserved
loop-done-preserved c =
    let at = c.loop-done in
    let drawn = c.next-event.ensures in
    let on = c.in-Ok-step.ensures in
    played_on c.args.start at.done c.from.result at.world at.generator c.next-event.result
    c.next-event.new.self at.invariant (c.from.ensures ∙ c.packets.ensures) drawn.event drawn.after
    c.step.new.self on.ok on.within on.at (on.rack ∙ at.invariant.rack)

pub returns : goal.returns
returns c =
    let at = c.loop-done in
    played_all c.args.start at.done c.args.events at.world at.generator at.invariant (omega arith)
    (omega arith)
