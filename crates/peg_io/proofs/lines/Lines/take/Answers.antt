use Rattle.std.proofs.Common.{◌≤◌, ◌-◌, ap, arith, length}
use Rattle.peg_io.proofs.LineLemmas.{length-line_of}
use Rattle.peg_io.proofs.Reading.{takes_front, takes_all, takes_line}
use Rattle.peg_io.proofs.lines.Lines.take.Goals as goal

pub move_to_line-requires-clause-held : goal.move_to_line-requires-clause-held
move_to_line-requires-clause-held c = omega (arith, length-line_of c.args.self.now.held, c.feed_place-count.ensures.place)

pub returns-then-count-room-clause-content : goal.returns-then-count-room-clause-content
returns-then-count-room-clause-content c =
    takes_front c.args.limit (c.args.limit - length c.line.result.now) c.args.self.now c.move_to_line.new.self c.requires.fits
    (ap (λ xs. c.args.limit - length xs) c.line.ensures) (omega (arith, c.feed_place-count.ensures.place)) c.feed_place-count.ensures.within c.move_to_line.ensures

pub move_to_line-requires-2-clause-held : goal.move_to_line-requires-2-clause-held
move_to_line-requires-2-clause-held c = omega (arith, length-line_of c.args.self.now.held, c.feed_place-count.ensures.place)

pub returns-then-is_spent-clause-content : goal.returns-then-is_spent-clause-content
returns-then-is_spent-clause-content c =
    let room : c.feed_place-count.result ≤ c.args.limit - length c.args.self.now.line = omega (arith, ap length c.line.ensures) in
    takes_all c.args.limit c.feed_place-count.result c.args.self.now c.move_to_line-2.new.self c.feed_place-count.ensures.place room c.requires.fits
    c.move_to_line-2.ensures c.if-is_spent.ensures.spent

pub returns-clause-content : goal.returns-clause-content
returns-clause-content c =
    let room : c.feed_place-count.result ≤ c.args.limit - length c.args.self.now.line = omega (arith, ap length c.line.ensures) in
    takes_line c.args.limit c.feed_place-count.result c.args.self.now c.move_to_line-2.new.self c.skip_feed.new.self c.feed_place-count.ensures.place room
    c.requires.fits c.feed_place-count.ensures.within c.move_to_line-2.ensures c.if-is_spent.ensures.more c.skip_feed.ensures
