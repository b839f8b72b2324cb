use Rattle.std.proofs.Common.{ap, sym, ◌∙◌}
use Rattle.peg_name.specs.declared.Node.{Node}
use Rattle.peg_event.specs.declared.ControlDid.{ControlDid}
use Rattle.peg_model.specs.Words.{Step}
use Rattle.peg_model.specs.Packet.{Packet}
use Rattle.peg_model.specs.Controller.{Controller}
use Rattle.peg_model.specs.Datagrams.{are_packets}
use Rattle.peg_packet.specs.Nodes.{are_in_rack}
use Rattle.peg_packet.specs.Outbox.{posted}
use Rattle.peg_control.proofs.Stepping.{step_acknowledged}
use Rattle.peg_control.proofs.Controller.take.Goals as goal

pub returns-in-CommandAck-clause-answer : goal.returns-in-CommandAck-clause-answer
returns-in-CommandAck-clause-answer c =
    let step = step_acknowledged c.args.self.now _ _ _ _ _ c.in-CommandAck.is c.outcome_of.ensures in
    c.acknowledge.ensures.answer
    ∙ ap (λ (s : Step Controller (Node × Packet) ControlDid). s.did) step

pub returns-in-CommandAck-clause-after : goal.returns-in-CommandAck-clause-after
returns-in-CommandAck-clause-after c =
    let step = step_acknowledged c.args.self.now _ _ _ _ _ c.in-CommandAck.is c.outcome_of.ensures in
    c.acknowledge.ensures.after
    ∙ ap (λ (s : Step Controller (Node × Packet) ControlDid). s.state) step

pub returns-in-CommandAck-clause-sent : goal.returns-in-CommandAck-clause-sent
returns-in-CommandAck-clause-sent c =
    let step = step_acknowledged c.args.self.now _ _ _ _ _ c.in-CommandAck.is c.outcome_of.ensures in
    c.acknowledge.ensures.sent
    ∙ ap (λ (s : Step Controller (Node × Packet) ControlDid). posted c.args.post.now s.sent) step

pub returns-in-CommandAck-clause-packets : goal.returns-in-CommandAck-clause-packets
returns-in-CommandAck-clause-packets c =
    let step = step_acknowledged c.args.self.now _ _ _ _ _ c.in-CommandAck.is c.outcome_of.ensures in
    ap
    (λ (s : Step Controller (Node × Packet) ControlDid).
    are_packets c.args.self.now.rack.format s.sent)
    (sym step)
    ∙ c.acknowledge.ensures.packets

pub returns-in-CommandAck-clause-nodes : goal.returns-in-CommandAck-clause-nodes
returns-in-CommandAck-clause-nodes c =
    let step = step_acknowledged c.args.self.now _ _ _ _ _ c.in-CommandAck.is c.outcome_of.ensures in
    ap
    (λ (s : Step Controller (Node × Packet) ControlDid). are_in_rack c.args.self.now.rack s.sent)
    (sym step)
    ∙ c.acknowledge.ensures.nodes
