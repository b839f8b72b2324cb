use Rattle.std.proofs.Common.{codes, decimal}
use Rattle.peg_text.proofs.Appends.{then_word}
use Rattle.peg_text.proofs.print.push_voided.Goals as goal

pub returns-clause-text : goal.returns-clause-text
returns-clause-text c =
    then_word (codes " version ") (decimal c.args.version.now) _ _ _ _
    c.push_client_seq.ensures.text c.push_version.ensures.text
