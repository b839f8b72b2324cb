use Rattle.std.proofs.Common.{refl, length}
use Rattle.std.proofs.lemmas.Option.{slice_get_read}
use Rattle.peg_world.specs.Sound.{acting_of}
use Rattle.peg_world.proofs.Calls.{client_handed}
use Rattle.peg_world.proofs.nodes.Nodes.client.Goals as goal

pub invariant_of-self : goal.invariant_of-self
invariant_of-self c =
    let old = c.index_mut.result.now in
    (client_handed (acting_of c.self.inside) c.args.self.now c.self.inside.post
    c.id.inside.0 c.args.id c.args.bytes.now old c.step.new.self c.step.result c.self.invariant
    c.self.view_is refl c.id.view_is c.requires.id c.requires.empty c.requires.reads
    c.requires.in_rack
    (λ small. slice_get_read c.self.inside.clients.items (length c.self.inside.clients.items)
    c.id.inside.0 old refl small c.index_mut.ensures.value)
    c.step.ensures.after c.step.ensures.answer).kept

pub returns-clause-held : goal.returns-clause-held
returns-clause-held c =
    let old = c.index_mut.result.now in
    (client_handed (acting_of c.self.inside) c.args.self.now c.self.inside.post
    c.id.inside.0 c.args.id c.args.bytes.now old c.step.new.self c.step.result c.self.invariant
    c.self.view_is refl c.id.view_is c.requires.id c.requires.empty c.requires.reads
    c.requires.in_rack
    (λ small. slice_get_read c.self.inside.clients.items (length c.self.inside.clients.items)
    c.id.inside.0 old refl small c.index_mut.ensures.value)
    c.step.ensures.after c.step.ensures.answer).held

pub returns-clause-after : goal.returns-clause-after
returns-clause-after c =
    let old = c.index_mut.result.now in
    (client_handed (acting_of c.self.inside) c.args.self.now c.self.inside.post
    c.id.inside.0 c.args.id c.args.bytes.now old c.step.new.self c.step.result c.self.invariant
    c.self.view_is refl c.id.view_is c.requires.id c.requires.empty c.requires.reads
    c.requires.in_rack
    (λ small. slice_get_read c.self.inside.clients.items (length c.self.inside.clients.items)
    c.id.inside.0 old refl small c.index_mut.ensures.value)
    c.step.ensures.after c.step.ensures.answer).acts
