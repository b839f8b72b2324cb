use Rattle.std.proofs.Common.{◌∙◌, arith}
use Rattle.peg_judge.proofs.Behind.{count_sound, count_complete}
use Rattle.peg_judge.proofs.reading.count_of.Goals as goal

pub returns-clause-sound : goal.returns-clause-sound
returns-clause-sound c =
    count_sound c.args.key.now c.bytes-shown.result.now c.args.line.now _ c.number_behind.result
    (c.bytes-shown.ensures.bytes ∙ c.order_text.ensures) c.number_behind.ensures.sound
    (grind arith)

pub returns-clause-complete : goal.returns-clause-complete
returns-clause-complete c =
    count_complete c.args.key.now c.bytes-shown.result.now c.args.line.now _
    c.number_behind.result (c.bytes-shown.ensures.bytes ∙ c.order_text.ensures)
    c.number_behind.ensures.complete (grind arith)
