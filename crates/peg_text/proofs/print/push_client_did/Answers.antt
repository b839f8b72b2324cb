use Rattle.std.proofs.Common.{codes, decimal}
use Rattle.peg_text.proofs.Appends.{then_word}
use Rattle.peg_text.proofs.print.push_client_did.Goals as goal

pub returns-in-Moved-clause-text : goal.returns-in-Moved-clause-text
returns-in-Moved-clause-text c =
    rw c.in-Moved.is
    (then_word (codes " epoch ") (decimal c.in-Moved.epoch) _ _ _ _ c.push_switch.ensures.text
    c.push_word_number.ensures.text)
