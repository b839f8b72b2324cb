use Rattle.std.proofs.Common.{◌≡◌, ap, sym, ◌∙◌, refl, map, arith, slice_get, Some}
use Rattle.std.proofs.Common.{ℕ, List, length}
use Rattle.std.proofs.lemmas.Bool.Decides.{nat_tests}
use Rattle.peg_event.specs.declared.Said.TheVariants as said
use Rattle.peg_name.specs.declared.Node.{Node}
use Rattle.peg_name.specs.declared.Node.TheVariants as node
use Rattle.peg_model.specs.Client.{client_step}
use Rattle.peg_model.specs.Packet.{Packet}
use Rattle.peg_ledger.specs.After.{answered_after}
use Rattle.peg_world.specs.Acting.{client_at, packet_read}
use Rattle.peg_world.specs.Midway.{Midway, packet_at}
use Rattle.peg_world.specs.Sound.{packet_in}
use Rattle.peg_world.specs.Telling.{did_told, without}
use Rattle.peg_world.proofs.Answering.{answer_opens, answer_kept, answer_came}
use Rattle.peg_world.proofs.Delivering.{announced_at, read_at}
use Rattle.peg_world.proofs.Taking.{restored}
use Rattle.peg_world.proofs.machine.Machine.to_client.Goals as goal

pub take_answer-requires-clause-opens : goal.take_answer-requires-clause-opens
take_answer-requires-clause-opens c =
    let inside = c.self.inside in
    let item : Node × List ℕ = (c.get-to.result.0, c.get-to.result.1.now) in
    answer_opens inside.nodes inside.place c.args.place (map packet_in inside.soup.items)
    inside.operations.operations inside.fences.fences inside.promotions.promotions c.args.id
    (packet_read item.1) c.reserve.new.self.operations inside.soup c.client-did.result
    c.self.invariant c.client-did.ensures.held
    (announced_at inside.nodes.rack inside.soup.items c.args.number item c.self.invariant.flown
    (sym c.get-to.ensures.item))
    (omega (arith, c.requires.later, ap (λ (m : Midway). m.world.place) c.self.view_is))
    c.reserve.ensures.same c.client-did.ensures.answer

pub invariant_of-self-2 : goal.invariant_of-self-2
invariant_of-self-2 c =
    let inside = c.self.inside in
    let item : Node × List ℕ = (c.get-to.result.0, c.get-to.result.1.now) in
    answer_kept inside.nodes inside.place c.args.place (map packet_in inside.soup.items)
    inside.operations.operations inside.fences.fences inside.promotions.promotions c.args.id
    (packet_read item.1) c.client-did.new.self inside.soup c.take_answer.new.self.operations
    c.client-did.result c.self.invariant c.client-did.ensures.held c.client-did.ensures.named
    (announced_at inside.nodes.rack inside.soup.items c.args.number item c.self.invariant.flown
    (sym c.get-to.ensures.item))
    (omega (arith, c.requires.later, ap (λ (m : Midway). m.world.place) c.self.view_is))
    c.client-did.ensures.after c.client-did.ensures.answer
    (c.take_answer.ensures
    ∙ ap (answered_after inside.fences.fences c.args.place c.args.id c.client-did.result)
    c.reserve.ensures.same)

pub returns : goal.returns
returns c =
    let inside = c.self.inside in
    let item : Node × List ℕ = (c.get-to.result.0, c.get-to.result.1.now) in
    let old : Midway = c.args.self.now in
    let id = c.args.id in
    let number = c.args.number in
    let p : Packet = packet_at old.world number in
    let step = client_step (client_at inside.nodes id) (packet_read item.1) in
    let read : packet_read item.1 ≡ p =
    read_at inside.soup.items number item (node.Client id) p (sym c.get-to.ensures.item)
    (ap (λ (m : Midway). slice_get m.world.packets number) c.self.view_is ∙ c.requires.to) in
    let given : did_told (Some number) old.world c.without.result ≡ c.client-did.result =
    ap (did_told (Some number) old.world)
    (c.without.ensures ∙ ap without c.client-did.ensures.answer)
    ∙ restored number old.world (client_at inside.nodes id) (packet_read item.1) (sym read)
    ∙ sym c.client-did.ensures.answer in
    answer_came inside.nodes inside.place c.args.place (map packet_in inside.soup.items)
    inside.operations.operations inside.fences.fences inside.promotions.promotions id
    (packet_read item.1) old _ c.client-did.new.self c.take_answer.new.self.operations
    c.client-did.result (said.Client id (did_told (Some number) old.world c.without.result)) p read
    (ap (λ (m : Midway). m.world) c.self.view_is) c.client-did.ensures.after refl refl
    (c.take_answer.ensures
    ∙ ap (answered_after inside.fences.fences c.args.place id c.client-did.result)
    c.reserve.ensures.same)
    c.client-did.ensures.answer (ap (said.Client id) given)
    (grind (
      arith,
      nat_tests,
      c.is_full.ensures,
      c.if-is_full.false,
      ap (λ (m : Midway). length m.world.packets) c.self.view_is,
    ))
    c.client-did.ensures.few
