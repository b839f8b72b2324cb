use Rattle.std.proofs.Common.{◌≡◌, ap, sym, ◌∙◌, map, arith, subst, slice_get}
use Rattle.std.proofs.Common.{ℕ, List, refl, rules}
use Rattle.std.specs.Prelude.{Ok, Err}
use Rattle.peg_name.specs.Name.{Rack, parts_most}
use Rattle.peg_name.specs.declared.Node.{Node}
use Rattle.peg_name.specs.declared.Node.TheVariants as node
use Rattle.peg_event.specs.declared.Said.TheVariants as said
use Rattle.peg_model.specs.Switch.{switch_step}
use Rattle.peg_model.specs.World.{World, switch_stepped, switch_of}
use Rattle.peg_world.specs.Acting.{Acting, packet_read}
use Rattle.peg_world.specs.Midway.{Midway, Came, at_place, packet_at}
use Rattle.peg_world.specs.Notes.{note_of}
use Rattle.peg_world.specs.Sound.{packet_in}
use Rattle.peg_world.proofs.Delivering.{read_at, reads_at, switch_at_rack}
use Rattle.peg_world.proofs.Switching.{switch_stops, switch_came}
use Rattle.peg_world.proofs.machine.Machine.to_switch.Goals as goal

pub returns-in_err-close : goal.returns-in_err-close
returns-in_err-close c =
    let inside = c.self-2.inside in
    let item : Node × List ℕ = (c.get-to.result.0, c.get-to.result.1.now) in
    let old : Midway = c.args.self.now in
    let seen = ap (λ (m : Midway). m.world) c.self-2.view_is ∙ c.reserve.ensures.world in
    let read : packet_read item.1 ≡ packet_at old.world c.args.number =
    read_at inside.soup.items c.args.number item (node.Switch c.args.id)
    (packet_at old.world c.args.number) (sym c.get-to.ensures.item)
    (ap (λ (w : World). slice_get w.packets c.args.number) seen ∙ c.requires.to) in
    let fact : Came old c.close.new.self c.args.place
    (switch_stepped (at_place old.world c.args.place) c.args.id (packet_at old.world c.args.number)
    (switch_step (switch_of old.world c.args.id) (packet_at old.world c.args.number) c.args.pick))
    (Err c.in_err-close.field-0.0) =
    subst (λ q. Came old c.close.new.self c.args.place
    (switch_stepped (at_place old.world c.args.place) c.args.id q
    (switch_step (switch_of old.world c.args.id) q c.args.pick)) (Err c.in_err-close.field-0.0)) read
    (switch_stops inside.nodes c.switch-did.new.self inside.place c.args.place
    (map packet_in inside.soup.items) inside.operations.operations inside.fences.fences
    inside.promotions.promotions c.args.id (packet_read item.1) c.args.pick old c.close.new.self
    inside.soup.spare _ _ c.in_err-close.field-0.0 seen c.switch-did.ensures.after
    c.in_err-close.ensures.closes) in
    search (rules, fact)

pub note-requires-clause-id : goal.note-requires-clause-id
note-requires-clause-id c =
    let inside = c.self-2.inside in
    let item : Node × List ℕ = (c.get-to.result.0, c.get-to.result.1.now) in
    let old : Midway = c.args.self.now in
    let seen = ap (λ (m : Midway). m.world) c.self-2.view_is ∙ c.reserve.ensures.world in
    omega (
      arith,
      switch_at_rack inside.nodes.rack inside.soup.items c.args.number item c.args.id
          (packet_at old.world c.args.number) c.self-2.invariant.flown (sym c.get-to.ensures.item)
          (ap (λ (w : World). slice_get w.packets c.args.number) seen ∙ c.requires.to),
      ap (λ (m : Midway). m.world.rack.switches) c.in_ok-close.ensures.closes.0,
      ap (λ (n : Acting). n.rack.switches) c.switch-did.ensures.after,
    )

pub returns : goal.returns
returns c =
    let inside = c.self-2.inside in
    let item : Node × List ℕ = (c.get-to.result.0, c.get-to.result.1.now) in
    let old : Midway = c.args.self.now in
    let seen = ap (λ (m : Midway). m.world) c.self-2.view_is ∙ c.reserve.ensures.world in
    let read : packet_read item.1 ≡ packet_at old.world c.args.number =
    read_at inside.soup.items c.args.number item (node.Switch c.args.id)
    (packet_at old.world c.args.number) (sym c.get-to.ensures.item)
    (ap (λ (w : World). slice_get w.packets c.args.number) seen ∙ c.requires.to) in
    subst (λ q. Came old c.note.new.self c.args.place
    (switch_stepped (at_place old.world c.args.place) c.args.id q
    (switch_step (switch_of old.world c.args.id) q c.args.pick))
    (Ok (said.Switch c.args.id c.switch-did.result))) read
    (switch_came inside.nodes c.switch-did.new.self inside.place c.args.place
    (map packet_in inside.soup.items) inside.operations.operations inside.fences.fences
    inside.promotions.promotions c.args.id (packet_read item.1) c.args.pick old c.note.new.self
    inside.soup.spare _ _ c.close.new.self c.note_of-note.result c.switch-did.result
    (said.Switch c.args.id c.switch-did.result) seen c.switch-did.ensures.after
    c.switch-did.ensures.held
    (c.note_of-note.ensures
    ∙ ap (λ r. note_of r c.switch-did.result)
    (reads_at inside.nodes.rack inside.soup.items c.args.number item c.self-2.invariant.flown
    (sym c.get-to.ensures.item)))
    c.switch-did.ensures.answer refl c.in_ok-close.ensures.closes c.in_ok-note.ensures.world
    c.in_ok-note.ensures.sent c.in_ok-note.ensures.spare
    (omega (
      arith,
      c.switch-did.ensures.few,
      c.in_ok-reserve.ensures.room,
      c.most_packets-most.ensures.most
          ∙ ap parts_most (c.format.ensures
          ∙ ap (λ (r : Rack). r.format) (c.config.ensures
          ∙ ap (λ (m : Midway). m.world.rack) c.self.view_is
          ∙ sym (ap (λ (w : World). w.rack) seen))),
      ap (λ (m : Midway). m.spare) c.self-2.view_is,
    )))
