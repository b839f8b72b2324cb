use Rattle.peg_grammar.proofs.Parts.{pair_none}
use Rattle.peg_packet.proofs.parts.last_pair.Goals as goal

pub returns-in_err-content : goal.returns-in_err-content
returns-in_err-content c =
    rw c.from_residual-in_err-content.ensures
    (pair_none c.args.bytes.now c.args.at c.in_ok-key.next c.in_ok-key.ensures.next_is
    c.in_ok-key.ensures.whole
    c.in_err-content.ensures)
