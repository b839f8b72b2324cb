use Rattle.std.proofs.Common.{◌≡◌, ◌+◌, ◌∙◌, true, Option, Some, ap, sym, subst, arith}
use Rattle.std.specs.Prelude.{slice_get}
use Rattle.peg_name.specs.Name.{Rack}
use Rattle.peg_packet.specs.Nodes.{is_in_rack}
use Rattle.peg_rack.specs.declared.rig.Rig.{Rig}
use Rattle.peg_rack.specs.Racking.{AreTied, letters_in}
use Rattle.peg_rack.proofs.InOrder.{all_at}
use Rattle.peg_rack.proofs.Stepping.{letter_is}
use Rattle.peg_rack.proofs.serving.ServingSession.letter_at.Goals as goal

pub port-requires-clause-within : goal.port-requires-clause-within
port-requires-clause-within c =
    let g = c.in-Some.rig in
    let tied = subst (AreTied c.args.self.now.base) c.in-Some.is c.requires in
    subst (λ (rack : Rack). is_in_rack rack c.get-to.result.0 ≡ true) tied.is_rack
    (all_at (λ item. is_in_rack g.world.world.rack item.0 ≡ true) c.soup.result.now.items
    (g.sent_from + c.args.i) (c.get-to.result.0, c.get-to.result.1.now) c.soup.ensures.nodes
    (sym c.get-to.ensures.item))

pub returns-clause-letter : goal.returns-clause-letter
returns-clause-letter c =
    λ within.
    let g = c.in-Some.rig in
    let tied = subst (AreTied c.args.self.now.base) c.in-Some.is c.requires in
    ap (λ (r : Option Rig). slice_get (letters_in r) c.args.i) c.in-Some.is
    ∙ letter_is g.config g.world.world.rack g.world.world.packets c.soup.result.now.items g.base
    c.slot_of.result c.port.result g.sent_from c.args.i g.actor c.get-to.result.0
    c.get-to.result.1.now tied.is_rack c.soup.ensures.items c.get-to.ensures.item
    c.slot_of.ensures.slot c.port.ensures
