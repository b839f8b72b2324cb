use Rattle.std.proofs.Common.{ap, ◌∙◌, refl, map, arith}
use Rattle.peg_event.specs.declared.history.Op.{Op}
use Rattle.peg_model.specs.World.{World}
use Rattle.peg_world.specs.Acting.{Acting, client_at}
use Rattle.peg_world.specs.Machine.{midway_of}
use Rattle.peg_world.specs.Midway.{Midway}
use Rattle.peg_world.specs.Sound.{packet_in}
use Rattle.peg_history.specs.Contents.{size_of}
use Rattle.peg_world.proofs.Issuing.{issue_fresh, issue_kept, issue_came, op_size}
use Rattle.peg_world.proofs.Kept.{kept_begun}
use Rattle.peg_world.proofs.Knowing.{op_client}
use Rattle.peg_world.proofs.machine.Machine.issue.Goals as goal

pub invariant_of-self : goal.invariant_of-self
invariant_of-self c =
    kept_begun c.self.inside.nodes c.issue-issue.new.self c.self.inside.place c.self.inside.soup
    c.self.inside.operations.operations c.args.id c.args.key.now c.args.ask.now c.self.invariant
    c.issue-issue.ensures.held c.issue-issue.ensures.named c.issue-issue.ensures.after

pub take_issue-requires-clause-fresh : goal.take_issue-requires-clause-fresh
take_issue-requires-clause-fresh c =
    let inside = c.self.inside in
    issue_fresh inside.nodes inside.place c.args.place (map packet_in inside.soup.items)
    inside.operations.operations inside.fences.fences inside.promotions.promotions c.args.id
    c.args.key.now c.args.ask.now c.self-2.inside.operations.operations c.new_op-op.result
    c.issue-issue.result
    (c.self.invariant.knows c.args.id (client_at inside.nodes c.args.id) c.issue-issue.ensures.held)
    (ap (λ (m : Midway). m.world.operations) (c.self-2.view_is ∙ c.in_ok-close.ensures.closes.0))
    c.issue-issue.ensures.answer
    (ap (λ (o : Op). o.client) c.new_op-op.ensures
    ∙ op_client c.args.id c.args.key.now c.args.ask.now c.args.place)

pub take_issue-requires-clause-bytes : goal.take_issue-requires-clause-bytes
take_issue-requires-clause-bytes c =
    omega (
      arith,
      c.in_ok-reserve.ensures.bytes,
      c.asked_size.ensures,
      ap (λ (m : Midway). m.room) (c.self-2.view_is ∙ c.in_ok-close.ensures.closes.0),
      ap (λ (m : Midway). m.room) c.self.view_is,
      ap (λ (o : Op). size_of o.content) c.new_op-op.ensures,
      op_size c.args.id c.args.key.now c.args.ask.now c.args.place,
    )

pub invariant_of-self-2 : goal.invariant_of-self-2
invariant_of-self-2 c =
    let inside = c.self.inside in
    let closed = c.self-2.view_is ∙ c.in_ok-close.ensures.closes.0 in
    issue_kept inside.nodes inside.place c.args.place (map packet_in inside.soup.items)
    inside.operations.operations inside.fences.fences inside.promotions.promotions c.args.id
    c.args.key.now c.args.ask.now c.self-2.inside.nodes c.self-2.inside.place inside.soup
    c.self-2.inside.soup c.self-2.inside.operations.operations c.take_issue.new.self.operations
    c.new_op-op.result c.issue-issue.result c.self.invariant c.issue-issue.ensures.held
    c.issue-issue.ensures.named
    (omega (
      arith,
      c.requires.later,
      ap (λ (m : Midway). m.world.place) c.self.view_is,
      ap (λ (w : World). w.place) c.reserve.ensures.world,
    ))
    c.self-2.invariant
    (ap (λ (m : Midway). m.world.clients) closed
    ∙ ap (λ (n : Acting). n.clients) c.issue-issue.ensures.after)
    (ap (λ (m : Midway). m.world.place) closed)
    (ap (λ (m : Midway). m.world.operations) closed) c.new_op-op.ensures
    c.issue-issue.ensures.answer c.in_ok-take_issue.ensures.ok

pub returns : goal.returns
returns c =
    let inside = c.self.inside in
    issue_came inside.nodes inside.place c.args.place (map packet_in inside.soup.items)
    inside.operations.operations inside.fences.fences inside.promotions.promotions c.args.id
    c.args.key.now c.args.ask.now c.args.self.now _ (midway_of c.self-2.inside)
    c.issue-issue.new.self inside.soup.spare _ _ c.take_issue.new.self.operations c.new_op-op.result
    c.issue-issue.result c.issue_said.result
    (ap (λ (m : Midway). m.world) c.self.view_is ∙ c.reserve.ensures.world)
    c.issue-issue.ensures.after (c.self-2.view_is ∙ c.in_ok-close.ensures.closes.0) refl refl refl
    c.in_ok-take_issue.ensures.ok c.new_op-op.ensures c.issue-issue.ensures.answer
    c.issue_said.ensures c.in_ok-close.ensures.closes.1
    (omega (
      arith,
      c.issue-issue.ensures.few,
      c.in_ok-reserve.ensures.room,
      ap (λ (m : Midway). m.spare) c.self.view_is,
    ))
