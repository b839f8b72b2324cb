use Rattle.std.proofs.Common.{◌≡◌, ◌-◌, ◌∙◌, Some, ap, sym, arith}
use Rattle.std.proofs.lemmas.Bool.{lt-ltb}
use Rattle.peg_name.specs.declared.Node.TheVariants as node
use Rattle.peg_rack.proofs.InOrder.{nodes_count, switch_at, server_at, client_at}
use Rattle.peg_rack.proofs.places.node_at.Goals as goal

pub returns-then-slot-first_server-clause-node : goal.returns-then-slot-first_server-clause-node
returns-then-slot-first_server-clause-node c =
    switch_at c.args.config.now c.args.slot (omega (arith, c.if-slot-eq0.false))
    (omega (arith, c.if-slot-first_server.true, c.first_server.ensures.first))

pub returns-then-slot-first_client-clause-node : goal.returns-then-slot-first_client-clause-node
returns-then-slot-first_client-clause-node c =
    server_at c.args.config.now c.args.slot
    (omega (arith, c.if-slot-first_server.false, c.first_server.ensures.first))
    (omega (arith, c.if-slot-first_client.true, c.first_client.ensures.first))
    ∙ ap (λ k. Some (node.Server (c.args.slot - k)))
    (sym c.first_server-then-slot-first_client.ensures.first)

pub overflow_cast-result-2 : goal.overflow_cast-result-2
overflow_cast-result-2 c =
    omega (arith, c.requires, c.count_of.ensures.count, c.count_of.ensures.few)

pub returns-clause-node : goal.returns-clause-node
returns-clause-node c =
    client_at c.args.config.now c.args.slot
    (omega (arith, c.if-slot-first_client.false, c.first_client.ensures.first)) c.requires
    ∙ ap (λ k. Some (node.Client (c.args.slot - k))) (sym c.first_client-2.ensures.first)

pub returns-clause-in_rack : goal.returns-clause-in_rack
returns-clause-in_rack c =
    lt-ltb (c.args.slot - c.first_client-2.result) c.args.config.now.clients
    (omega (
      arith,
      c.requires,
      nodes_count c.args.config.now,
      c.if-slot-first_client.false,
      c.first_client.ensures.first,
      c.first_client-2.ensures.first,
    ))
