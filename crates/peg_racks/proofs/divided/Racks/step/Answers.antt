use Rattle.std.proofs.Common.{refl, length}
use Rattle.std.proofs.lemmas.Option.{slice_get_read}
use Rattle.peg_world.specs.declared.Halt.TheVariants as halt
use Rattle.peg_text.specs.Divides.{event_said}
use Rattle.peg_racks.proofs.Steps.{taken_at, called_book, called_steps, called_halts, called_past}
use Rattle.peg_racks.proofs.Steps.{called_over, called_others, called_kept, halt_as}
use Rattle.peg_racks.proofs.divided.Racks.step.Goals as goal

pub invariant_of-self : goal.invariant_of-self
invariant_of-self c =
    let items = c.self.inside.worlds.items in
    let r = c.index_mut.result.now in
    let e = event_said c.args.event.now in
    let found = taken_at c.args.self.now items e c.count.result c.rack_taking-rack.result c.from.result r
    c.self.view_is c.count.ensures.count c.rack_taking-rack.ensures c.from.ensures c.requires.below
    (λ small. slice_get_read items (length items) c.from.result r refl small c.index_mut.ensures.value) in
    called_kept c.args.self.now items c.self.view_is c.args.place e c.from.result r c.step.new.self
    c.told.result.now c.told.ensures found c.self.inside.configs.items c.self.invariant
    c.in-Err.ensures.rack

pub returns-in-Err-clause-halt : goal.returns-in-Err-clause-halt
returns-in-Err-clause-halt c =
    let items = c.self.inside.worlds.items in
    let r = c.index_mut.result.now in
    let e = event_said c.args.event.now in
    let found = taken_at c.args.self.now items e c.count.result c.rack_taking-rack.result c.from.result r
    c.self.view_is c.count.ensures.count c.rack_taking-rack.ensures c.from.ensures c.requires.below
    (λ small. slice_get_read items (length items) c.from.result r refl small c.index_mut.ensures.value) in
    called_halts c.args.self.now items c.self.view_is c.args.place e c.from.result r c.step.new.self
    c.told.result.now c.told.ensures found c.in-Err.halt c.in-Err.ensures.halt

pub returns-in-Err-clause-past : goal.returns-in-Err-clause-past
returns-in-Err-clause-past c =
    λ is.
    let items = c.self.inside.worlds.items in
    let r = c.index_mut.result.now in
    let e = event_said c.args.event.now in
    let found = taken_at c.args.self.now items e c.count.result c.rack_taking-rack.result c.from.result r
    c.self.view_is c.count.ensures.count c.rack_taking-rack.ensures c.from.ensures c.requires.below
    (λ small. slice_get_read items (length items) c.from.result r refl small c.index_mut.ensures.value) in
    called_past c.args.self.now items c.self.view_is c.args.place e c.from.result r c.step.new.self
    c.told.result.now c.told.ensures found
    (c.in-Err.ensures.past (halt_as c.in-Err.halt halt.TooMuch is))

pub returns-in-Err-clause-over : goal.returns-in-Err-clause-over
returns-in-Err-clause-over c =
    λ over.
    let items = c.self.inside.worlds.items in
    let r = c.index_mut.result.now in
    let e = event_said c.args.event.now in
    let found = taken_at c.args.self.now items e c.count.result c.rack_taking-rack.result c.from.result r
    c.self.view_is c.count.ensures.count c.rack_taking-rack.ensures c.from.ensures c.requires.below
    (λ small. slice_get_read items (length items) c.from.result r refl small c.index_mut.ensures.value) in
    halt_as c.in-Err.halt halt.TooMuch
    (c.in-Err.ensures.over
    (called_over c.args.self.now items c.self.view_is c.args.place e c.from.result r c.step.new.self
    c.told.result.now c.told.ensures found over))

pub returns-in-Err-clause-others : goal.returns-in-Err-clause-others
returns-in-Err-clause-others c =
    let items = c.self.inside.worlds.items in
    let r = c.index_mut.result.now in
    let e = event_said c.args.event.now in
    let found = taken_at c.args.self.now items e c.count.result c.rack_taking-rack.result c.from.result r
    c.self.view_is c.count.ensures.count c.rack_taking-rack.ensures c.from.ensures c.requires.below
    (λ small. slice_get_read items (length items) c.from.result r refl small c.index_mut.ensures.value) in
    called_others c.args.self.now items c.self.view_is c.args.place e c.from.result r c.step.new.self
    c.told.result.now c.told.ensures found

pub invariant_of-self-2 : goal.invariant_of-self-2
invariant_of-self-2 c =
    let items = c.self.inside.worlds.items in
    let r = c.index_mut.result.now in
    let e = event_said c.args.event.now in
    let found = taken_at c.args.self.now items e c.count.result c.rack_taking-rack.result c.from.result r
    c.self.view_is c.count.ensures.count c.rack_taking-rack.ensures c.from.ensures c.requires.below
    (λ small. slice_get_read items (length items) c.from.result r refl small c.index_mut.ensures.value) in
    called_kept c.args.self.now items c.self.view_is c.args.place e c.from.result r c.step.new.self
    c.told.result.now c.told.ensures found c.self.inside.configs.items c.self.invariant
    c.in_default.ensures.rack

pub returns-clause-step : goal.returns-clause-step
returns-clause-step c =
    let items = c.self.inside.worlds.items in
    let r = c.index_mut.result.now in
    let e = event_said c.args.event.now in
    let found = taken_at c.args.self.now items e c.count.result c.rack_taking-rack.result c.from.result r
    c.self.view_is c.count.ensures.count c.rack_taking-rack.ensures c.from.ensures c.requires.below
    (λ small. slice_get_read items (length items) c.from.result r refl small c.index_mut.ensures.value) in
    called_book c.args.self.now items c.self.view_is c.args.place e c.from.result r c.step.new.self
    c.told.result.now c.told.ensures found c.in_default.ensures.ok

pub returns-clause-steps : goal.returns-clause-steps
returns-clause-steps c =
    let items = c.self.inside.worlds.items in
    let r = c.index_mut.result.now in
    let e = event_said c.args.event.now in
    let found = taken_at c.args.self.now items e c.count.result c.rack_taking-rack.result c.from.result r
    c.self.view_is c.count.ensures.count c.rack_taking-rack.ensures c.from.ensures c.requires.below
    (λ small. slice_get_read items (length items) c.from.result r refl small c.index_mut.ensures.value) in
    called_steps c.args.self.now items c.self.view_is c.args.place e c.from.result r c.step.new.self
    c.told.result.now c.told.ensures found c.in_default.ensures.ok c.in_default.ensures.at
    c.in_default.ensures.within

pub returns-clause-over : goal.returns-clause-over
returns-clause-over c =
    λ over.
    let items = c.self.inside.worlds.items in
    let r = c.index_mut.result.now in
    let e = event_said c.args.event.now in
    let found = taken_at c.args.self.now items e c.count.result c.rack_taking-rack.result c.from.result r
    c.self.view_is c.count.ensures.count c.rack_taking-rack.ensures c.from.ensures c.requires.below
    (λ small. slice_get_read items (length items) c.from.result r refl small c.index_mut.ensures.value) in
    let never = c.in_default.ensures.over
    (called_over c.args.self.now items c.self.view_is c.args.place e c.from.result r c.step.new.self
    c.told.result.now c.told.ensures found over) in
    absurd (cc never)

pub returns-clause-others : goal.returns-clause-others
returns-clause-others c =
    let items = c.self.inside.worlds.items in
    let r = c.index_mut.result.now in
    let e = event_said c.args.event.now in
    let found = taken_at c.args.self.now items e c.count.result c.rack_taking-rack.result c.from.result r
    c.self.view_is c.count.ensures.count c.rack_taking-rack.ensures c.from.ensures c.requires.below
    (λ small. slice_get_read items (length items) c.from.result r refl small c.index_mut.ensures.value) in
    called_others c.args.self.now items c.self.view_is c.args.place e c.from.result r c.step.new.self
    c.told.result.now c.told.ensures found
