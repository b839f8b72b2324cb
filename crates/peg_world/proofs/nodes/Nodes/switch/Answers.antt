use Rattle.std.proofs.Common.{refl, length}
use Rattle.std.proofs.lemmas.Option.{slice_get_read}
use Rattle.peg_world.specs.Sound.{acting_of}
use Rattle.peg_world.proofs.Calls.{switch_handed}
use Rattle.peg_world.proofs.nodes.Nodes.switch.Goals as goal

pub invariant_of-self : goal.invariant_of-self
invariant_of-self c =
    let old = c.index_mut.result.now in
    (switch_handed (acting_of c.self.inside) c.args.self.now c.self.inside.post c.step.new.post
    c.id.inside.0 c.args.id c.args.bytes.now c.args.pick old c.step.new.self c.step.result
    c.reads_back_what_is_spelled.ensures.packet c.self.invariant c.self.view_is refl c.id.view_is
    c.requires.id c.requires.empty c.requires.reads
    (λ small. slice_get_read c.self.inside.switches.items (length c.self.inside.switches.items)
    c.id.inside.0 old refl small c.index_mut.ensures.value)
    c.step.ensures.after c.step.ensures.answer c.step.ensures.sent c.step.ensures.packets
    c.step.ensures.nodes c.step.ensures.few c.step.ensures.rack c.step.ensures.id).kept

pub returns-clause-answer : goal.returns-clause-answer
returns-clause-answer c =
    let old = c.index_mut.result.now in
    (switch_handed (acting_of c.self.inside) c.args.self.now c.self.inside.post c.step.new.post
    c.id.inside.0 c.args.id c.args.bytes.now c.args.pick old c.step.new.self c.step.result
    c.reads_back_what_is_spelled.ensures.packet c.self.invariant c.self.view_is refl c.id.view_is
    c.requires.id c.requires.empty c.requires.reads
    (λ small. slice_get_read c.self.inside.switches.items (length c.self.inside.switches.items)
    c.id.inside.0 old refl small c.index_mut.ensures.value)
    c.step.ensures.after c.step.ensures.answer c.step.ensures.sent c.step.ensures.packets
    c.step.ensures.nodes c.step.ensures.few c.step.ensures.rack c.step.ensures.id).answer

pub returns-clause-after : goal.returns-clause-after
returns-clause-after c =
    let old = c.index_mut.result.now in
    (switch_handed (acting_of c.self.inside) c.args.self.now c.self.inside.post c.step.new.post
    c.id.inside.0 c.args.id c.args.bytes.now c.args.pick old c.step.new.self c.step.result
    c.reads_back_what_is_spelled.ensures.packet c.self.invariant c.self.view_is refl c.id.view_is
    c.requires.id c.requires.empty c.requires.reads
    (λ small. slice_get_read c.self.inside.switches.items (length c.self.inside.switches.items)
    c.id.inside.0 old refl small c.index_mut.ensures.value)
    c.step.ensures.after c.step.ensures.answer c.step.ensures.sent c.step.ensures.packets
    c.step.ensures.nodes c.step.ensures.few c.step.ensures.rack c.step.ensures.id).acts

pub returns-clause-held : goal.returns-clause-held
returns-clause-held c =
    let old = c.index_mut.result.now in
    (switch_handed (acting_of c.self.inside) c.args.self.now c.self.inside.post c.step.new.post
    c.id.inside.0 c.args.id c.args.bytes.now c.args.pick old c.step.new.self c.step.result
    c.reads_back_what_is_spelled.ensures.packet c.self.invariant c.self.view_is refl c.id.view_is
    c.requires.id c.requires.empty c.requires.reads
    (λ small. slice_get_read c.self.inside.switches.items (length c.self.inside.switches.items)
    c.id.inside.0 old refl small c.index_mut.ensures.value)
    c.step.ensures.after c.step.ensures.answer c.step.ensures.sent c.step.ensures.packets
    c.step.ensures.nodes c.step.ensures.few c.step.ensures.rack c.step.ensures.id).held

pub returns-clause-few : goal.returns-clause-few
returns-clause-few c =
    let old = c.index_mut.result.now in
    (switch_handed (acting_of c.self.inside) c.args.self.now c.self.inside.post c.step.new.post
    c.id.inside.0 c.args.id c.args.bytes.now c.args.pick old c.step.new.self c.step.result
    c.reads_back_what_is_spelled.ensures.packet c.self.invariant c.self.view_is refl c.id.view_is
    c.requires.id c.requires.empty c.requires.reads
    (λ small. slice_get_read c.self.inside.switches.items (length c.self.inside.switches.items)
    c.id.inside.0 old refl small c.index_mut.ensures.value)
    c.step.ensures.after c.step.ensures.answer c.step.ensures.sent c.step.ensures.packets
    c.step.ensures.nodes c.step.ensures.few c.step.ensures.rack c.step.ensures.id).few
