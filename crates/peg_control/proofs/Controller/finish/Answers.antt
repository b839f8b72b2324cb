use Rattle.std.proofs.Common.{ap, ◌∙◌}
use Rattle.peg_model.specs.Controller.{Controller}
use Rattle.peg_control.proofs.Nodes.{finished_in_rack}
use Rattle.peg_control.proofs.Stepping.{room_left, finished_sent, finished_packets, takes_rack}
use Rattle.peg_control.proofs.Controller.finish.Goals as goal

pub send_pending-requires-clause-room : goal.send_pending-requires-clause-room
send_pending-requires-clause-room c =
    room_left c.args.post.now _ c.args.self.now.rack c.move_on.new.self c.args.outcome.now
    c.announce_if_activated.ensures.sent
    (ap (λ (s : Controller). s.rack) c.move_on.ensures.after
    ∙ takes_rack c.args.self.now c.args.command.now c.args.outcome.now)
    c.requires.room

pub returns-clause-sent : goal.returns-clause-sent
returns-clause-sent c =
    finished_sent c.args.post.now _ _ c.args.self.now c.move_on.new.self c.args.command.now
    c.args.outcome.now c.move_on.ensures.after c.announce_if_activated.ensures.sent
    c.send_pending.ensures.sent

pub returns-clause-packets : goal.returns-clause-packets
returns-clause-packets c =
    finished_packets c.args.self.now c.move_on.new.self c.args.command.now c.args.outcome.now
    c.move_on.ensures.after c.announce_if_activated.ensures.packets c.send_pending.ensures.packets

pub returns-clause-nodes : goal.returns-clause-nodes
returns-clause-nodes c =
    finished_in_rack c.args.self.now c.move_on.new.self c.args.command.now c.args.outcome.now
    c.move_on.ensures.after c.announce_if_activated.ensures.nodes c.send_pending.ensures.nodes
