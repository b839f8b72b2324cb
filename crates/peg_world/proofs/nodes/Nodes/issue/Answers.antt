use Rattle.std.proofs.Common.{refl, length}
use Rattle.std.proofs.lemmas.Option.{slice_get_read}
use Rattle.peg_world.specs.Sound.{acting_of}
use Rattle.peg_world.proofs.Calls.{issue_called}
use Rattle.peg_world.proofs.nodes.Nodes.issue.Goals as goal

pub invariant_of-self : goal.invariant_of-self
invariant_of-self c =
    let old = c.index_mut.result.now in
    (issue_called (acting_of c.self.inside) c.args.self.now c.self.inside.post c.issue.new.post
    c.id.inside.0 c.args.id c.args.key.now c.args.ask.now old c.issue.new.self c.issue.result
    c.reads_back_what_is_spelled.ensures.packet c.self.invariant c.self.view_is refl c.id.view_is
    c.requires.id c.requires.empty
    (λ small. slice_get_read c.self.inside.clients.items (length c.self.inside.clients.items)
    c.id.inside.0 old refl small c.index_mut.ensures.value)
    c.issue.ensures.after c.issue.ensures.answer c.issue.ensures.sent
    c.issue.ensures.packets).kept

pub returns-clause-held : goal.returns-clause-held
returns-clause-held c =
    let old = c.index_mut.result.now in
    (issue_called (acting_of c.self.inside) c.args.self.now c.self.inside.post c.issue.new.post
    c.id.inside.0 c.args.id c.args.key.now c.args.ask.now old c.issue.new.self c.issue.result
    c.reads_back_what_is_spelled.ensures.packet c.self.invariant c.self.view_is refl c.id.view_is
    c.requires.id c.requires.empty
    (λ small. slice_get_read c.self.inside.clients.items (length c.self.inside.clients.items)
    c.id.inside.0 old refl small c.index_mut.ensures.value)
    c.issue.ensures.after c.issue.ensures.answer c.issue.ensures.sent
    c.issue.ensures.packets).held

pub returns-clause-after : goal.returns-clause-after
returns-clause-after c =
    let old = c.index_mut.result.now in
    (issue_called (acting_of c.self.inside) c.args.self.now c.self.inside.post c.issue.new.post
    c.id.inside.0 c.args.id c.args.key.now c.args.ask.now old c.issue.new.self c.issue.result
    c.reads_back_what_is_spelled.ensures.packet c.self.invariant c.self.view_is refl c.id.view_is
    c.requires.id c.requires.empty
    (λ small. slice_get_read c.self.inside.clients.items (length c.self.inside.clients.items)
    c.id.inside.0 old refl small c.index_mut.ensures.value)
    c.issue.ensures.after c.issue.ensures.answer c.issue.ensures.sent
    c.issue.ensures.packets).acts
