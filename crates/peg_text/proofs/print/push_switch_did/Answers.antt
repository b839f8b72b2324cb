use Rattle.std.proofs.Common.{codes, decimal}
use Rattle.peg_text.proofs.Appends.{then_word}
use Rattle.peg_text.proofs.print.push_switch_did.Goals as goal

pub returns-in-Read-clause-text : goal.returns-in-Read-clause-text
returns-in-Read-clause-text c =
    rw c.in-Read.is
    (then_word (codes " to server ") (decimal c.in-Read.server) _ _ _ _
    c.push_word_key.ensures.text c.push_server.ensures.text)

pub returns-in-Wrote-clause-text : goal.returns-in-Wrote-clause-text
returns-in-Wrote-clause-text c =
    rw c.in-Wrote.is
    (then_word (codes " to server ") (decimal c.in-Wrote.server) _ _ _ _
    c.push_key_version.ensures.text c.push_server-in-Wrote.ensures.text)
