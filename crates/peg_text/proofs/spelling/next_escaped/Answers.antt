use Rattle.std.proofs.Common.{arith, sym, ◌∙◌}
use Rattle.peg_text.proofs.Plain.{escaped_is}
use Rattle.peg_text.proofs.spelling.next_escaped.Goals as goal

pub returns-then-is_pair : goal.returns-then-is_pair
returns-then-is_pair c =
    escaped_is c.args.text.now c.pair_value-byte.result (omega arith) c.pair_value-byte.ensures
    (sym c.is_plain.ensures ∙ c.if-is_plain.false)
    (sym c.is_pair.ensures ∙ c.if-is_pair.true)
