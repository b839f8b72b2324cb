use Rattle.peg_grammar.proofs.Parts.{key_none}
use Rattle.peg_packet.proofs.parts.last_key.Goals as goal

pub returns-in_err-key : goal.returns-in_err-key
returns-in_err-key c =
    rw c.from_residual.ensures
    (key_none c.args.bytes.now c.args.at c.in_err-key.ensures)
