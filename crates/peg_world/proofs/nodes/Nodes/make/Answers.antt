use Rattle.std.proofs.Common.{arith, ap, ◌∙◌, [], ℕ}
use Rattle.peg_packet.specs.Outbox.{Outbox}
use Rattle.peg_name.specs.declared.Format.{Format}
use Rattle.peg_world.proofs.Started.{nodes_started}
use Rattle.peg_world.proofs.nodes.Nodes.make.Goals as goal

abbrev post_of : Format → ℕ → Outbox
post_of f slots = record { format = f; slots = slots; items = [] }

pub invariant_of-result : goal.invariant_of-result
invariant_of-result c =
    nodes_started c.args.config.now c.args.keys.now c.in_ok-clients.field-0.items
    c.in_ok-servers.field-0.items c.in_ok-switches.field-0.items c.in_ok-make.field-0
    c.in_ok-make-2.field-0 c.max.result c.clients-2.ensures.limits (omega (arith, c.max.ensures))
    (omega (arith, c.max.ensures, c.clients.ensures.clients)) c.in_ok-clients.ensures.made
    c.in_ok-servers.ensures c.in_ok-switches.ensures c.in_ok-make.ensures
    (c.in_ok-make-2.ensures ∙ ap (λ (f : Format). post_of f c.max.result) c.format.ensures)
