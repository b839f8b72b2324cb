use Rattle.std.proofs.Common.{codes, decimal}
use Rattle.peg_text.proofs.Appends.{then_word}
use Rattle.peg_text.proofs.print.push_command.Goals as goal

pub returns-in-Copy-clause-text : goal.returns-in-Copy-clause-text
returns-in-Copy-clause-text c =
    rw c.in-Copy.is
    (then_word (codes " to server ") (decimal c.in-Copy.target) _ _ _ _
    c.push_word_key-in-Copy.ensures.text c.push_server.ensures.text)
