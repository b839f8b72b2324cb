use Rattle.std.proofs.Common.{codes, decimal}
use Rattle.peg_text.proofs.Appends.{then_word}
use Rattle.peg_text.proofs.print.push_own_did.Goals as goal

pub returns-in-Sealed-clause-text : goal.returns-in-Sealed-clause-text
returns-in-Sealed-clause-text c =
    rw c.in-Sealed.is
    (then_word (codes " to switch ") (decimal c.in-Sealed.target) _ _ _ _
    c.push_word_number-in-Sealed.ensures.text c.push_switch.ensures.text)

pub returns-in-OldPart-clause-text : goal.returns-in-OldPart-clause-text
returns-in-OldPart-clause-text c = rw c.in-OldPart.is c.push_word_number-in-OldPart.ensures.text

pub returns-in-OutOfPlace-clause-text : goal.returns-in-OutOfPlace-clause-text
returns-in-OutOfPlace-clause-text c = rw c.in-OutOfPlace.is c.push_bytes-in-OutOfPlace.ensures.text
