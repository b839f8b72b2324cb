use Rattle.std.proofs.Common.{◌≡◌, sym, ◌∙◌, ap, subst, arith}
use Rattle.peg_name.specs.Name.{Rack, InLimits}
use Rattle.peg_grammar.specs.State.{SpellsState}
use Rattle.peg_grammar.proofs.StateSize.{few_parts}
use Rattle.peg_parts.specs.Sealed.{Sealed, state_with}
use Rattle.peg_parts.proofs.Sealing.{sealed}
use Rattle.peg_parts.proofs.parts.Parts.seal.Goals as goal

pub invariant_of-self : goal.invariant_of-self
invariant_of-self c =
    let same : c.args.directory.now.rack ≡ c.self.inside.config =
    c.requires.rack ∙ ap (λ (s : Sealed). s.rack) (sym c.self.view_is)
    in
    let limits = subst InLimits same c.spell.ensures.limits in
    let spells =
    subst
    (λ (rack : Rack). SpellsState rack c.spell.new.out.items
    (state_with c.args.stamper.now c.args.last c.args.directory.now.entries))
    same c.spell.ensures.spelled
    in (
      sealed c.self.inside.config c.spell.new.out.items _ limits spells,
      omega (arith, c.self.invariant.1, c.spell.ensures.room),
    )

pub returns-clause-some : goal.returns-clause-some
returns-clause-some c = (few_parts _ _ _ c.spell.ensures.limits c.spell.ensures.spelled).0
