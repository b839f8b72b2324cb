use Rattle.std.proofs.Common.{◌≡◌, ◌≤◌, ◌∙◌, ap, subst, arith, length}
use Rattle.peg_name.specs.Name.{parts_most}
use Rattle.peg_model.specs.Handover.{parts}
use Rattle.peg_grammar.proofs.Cut.{length_parts}
use Rattle.peg_parts.specs.Sealed.{Sealed}
use Rattle.peg_parts.proofs.Sealing.{most_parts}
use Rattle.peg_parts.proofs.parts.Parts.count.Goals as goal

counted : (c : goal.After-div_ceil) → c.div_ceil.result ≡ length (parts c.self.inside.bytes.items)
counted c = omega (arith, length_parts c.self.inside.bytes.items, c.div_ceil.ensures, c.len.ensures)

pub overflow_cast-result : goal.overflow_cast-result
overflow_cast-result c =
    omega (arith, counted c, c.self.invariant.0.few, most_parts c.self.inside.config.format)

pub returns-clause-count : goal.returns-clause-count
returns-clause-count c =
    counted c ∙ ap (λ (s : Sealed). length (parts s.bytes)) c.self.view_is

pub returns-clause-most : goal.returns-clause-most
returns-clause-most c =
    subst (λ (s : Sealed). c.div_ceil.result ≤ parts_most s.rack.format) c.self.view_is
    (omega (arith, counted c, c.self.invariant.0.few))
