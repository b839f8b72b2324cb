use Rattle.std.proofs.Common.{length, ap, ◌∙◌, arith}
use Rattle.peg_model.specs.Rules.{Stamps}
use Rattle.peg_parts.proofs.Reading.{not_clients, length_stamps_at}
use Rattle.peg_parts.proofs.read.read_state.Goals as goal

pub returns-then-from-clients-clause-none : goal.returns-then-from-clients-clause-none
returns-then-from-clients-clause-none c =
    not_clients c.args.config.now c.args.bytes.now
    (λ same. omega (arith, same, c.if-from-clients.true, c.from.ensures, c.two_at-clients.ensures, c.clients.ensures.clients))

pub returns-clause-clients : goal.returns-clause-clients
returns-clause-clients c =
    ap (λ (s : Stamps). length s.rows) c.read_rows.ensures
    ∙ length_stamps_at c.args.bytes.now c.two_at-clients.result 18
    ∙ omega (arith, c.if-from-clients.false, c.from.ensures, c.clients.ensures.clients)
