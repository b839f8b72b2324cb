use Rattle.std.proofs.Common.{min, ◌≡◌, ◌<◌, ◌*◌, ◌-◌, take, drop, slice_index_or, sym, ◌∙◌, ap, subst, arith, length, ℕ, [], List, true}
use Rattle.peg_model.specs.Packet.{Part, in_range}
use Rattle.peg_model.specs.Handover.{parts}
use Rattle.peg_grammar.proofs.Cut.{length_parts}
use Rattle.peg_parts.specs.Sealed.{Sealed}
use Rattle.peg_parts.proofs.Sealing.{cut_part}
use Rattle.peg_parts.proofs.parts.Parts.part.Goals as goal

within : (c : goal.After-from) → c.args.i < length (parts c.self.inside.bytes.items)
within c =
    subst (λ (s : Sealed). c.args.i < length (parts s.bytes)) (sym c.self.view_is) c.requires

pub slice_bounds-rest-count : goal.slice_bounds-rest-count
slice_bounds-rest-count c =
    omega (arith, within c, length_parts c.self.inside.bytes.items, c.from.ensures, ap length c.deref.ensures.value)

pub slice_bounds-rest-start : goal.slice_bounds-rest-start
slice_bounds-rest-start c =
    omega (arith, within c, length_parts c.self.inside.bytes.items, c.from.ensures, ap length c.deref.ensures.value)

at : (c : goal.After-min) → c.args.i < length (parts c.self.inside.bytes.items)
at c =
    subst (λ (s : Sealed). c.args.i < length (parts s.bytes)) (sym c.self.view_is) c.requires

cut :
    (c : goal.After-min)
    → take c.min.result
    (take (length c.deref.result.now - 512 * c.from.result)
    (drop (512 * c.from.result) c.deref.result.now))
    ≡ slice_index_or (parts c.args.self.now.bytes) c.args.i []
cut c =
    let bytes : List ℕ = c.self.inside.bytes.items in
    let rest :
    take (length c.deref.result.now - 512 * c.from.result)
    (drop (512 * c.from.result) c.deref.result.now)
    ≡ take (length bytes - 512 * c.args.i) (drop (512 * c.args.i) bytes) =
    λ j. take (length (c.deref.ensures.value j) - 512 * c.from.ensures j)
    (drop (512 * c.from.ensures j) (c.deref.ensures.value j))
    in
    ap (take c.min.result) rest
    ∙ cut_part bytes c.args.i c.min.result (at c)
    (c.min.ensures ∙ ap (λ t. min (length t) 512) rest)
    ∙ ap (λ (s : Sealed). slice_index_or (parts s.bytes) c.args.i []) c.self.view_is

pub returns-clause-part : goal.returns-clause-part
returns-clause-part c = cut c

pub returns-clause-packet : goal.returns-clause-packet
returns-clause-packet c =
    λ epoch second small.
    subst (λ (part : List ℕ). in_range c.args.self.now.rack.format
    (Part epoch c.args.i (length (parts c.args.self.now.bytes)) part) ≡ true) (sym (cut c))
    (subst (λ (s : Sealed). in_range s.rack.format
    (Part epoch c.args.i (length (parts s.bytes)) (slice_index_or (parts s.bytes) c.args.i [])) ≡ true)
    c.self.view_is
    (c.self.invariant.0.packets epoch c.args.i second small (at c)))
