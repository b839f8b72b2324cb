use Rattle.std.proofs.Common.{◌∙◌, ap, sym, subst, ◌<◌}
use Rattle.peg_model.specs.Packet.{in_range, Announce}
use Rattle.peg_packet.specs.Outbox.{Outbox}
use Rattle.peg_control.proofs.Sending.{posted_none, told_more, told_within}
use Rattle.peg_control.proofs.send.tell_all.Goals as goal

pub loop-client-init : goal.loop-client-init
loop-client-init c = sym (posted_none c.args.post.now)

pub put-requires-clause-room : goal.put-requires-clause-room
put-requires-clause-room c =
    told_within c.args.post.now c.loop-client.post c.args.epoch c.args.switch c.loop-client.client
    c.args.config.now.clients c.loop-client.invariant
    (subst (λ n. c.loop-client.client < n) c.clients-client-end.ensures.clients
    c.loop-client-test.true)
    c.requires.room

pub put-requires-clause-in_range : goal.put-requires-clause-in_range
put-requires-clause-in_range c =
    ap (λ (p : Outbox). in_range p.format (Announce c.args.epoch c.args.switch))
    c.loop-client.invariant
    ∙ c.requires.range

pub loop-client-preserved : goal.loop-client-preserved
loop-client-preserved c =
    c.put.ensures
    ∙ told_more c.args.post.now c.loop-client.post c.args.epoch c.args.switch c.loop-client.client
    c.loop-client.invariant
