use Rattle.std.proofs.Common.{arith, sym, ◌∙◌}
use Rattle.peg_text.proofs.Plain.{pair_is}
use Rattle.peg_text.proofs.spelling.next_pair.Goals as goal

pub returns-then-is_pair : goal.returns-then-is_pair
returns-then-is_pair c =
    pair_is c.args.text.now c.pair_value-byte.result (omega arith) c.pair_value-byte.ensures
    (sym c.is_pair.ensures ∙ c.if-is_pair.true)
