use Rattle.std.proofs.Common.{◌≡◌, true, sym, subst, arith}
use Rattle.std.proofs.lemmas.Bool.{lt-ltb}
use Rattle.peg_name.specs.Name.{clients_most}
use Rattle.peg_name.specs.declared.Format.{Format}
use Rattle.peg_model.specs.Packet.{is_client}
use Rattle.peg_session.proofs.Standings.{not_begun}
use Rattle.peg_node.proofs.client.ask.Goals as goal

pub returns-in_default-clause-ended : goal.returns-in_default-clause-ended
returns-in_default-clause-ended g c = not_begun _ _ _ _ _

pub new-asks-requires-clause-id : goal.new-asks-requires-clause-id
new-asks-requires-clause-id g c =
    let within = c.requires.within in
    let few = c.clients.ensures.limits.clients.1 in
    subst (λ (f : Format). is_client f c.args.client ≡ true) (sym c.format-format.ensures)
    (lt-ltb c.args.client (clients_most c.args.config.now.format) (omega (arith, within, few)))
