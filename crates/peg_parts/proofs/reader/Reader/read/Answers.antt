use Rattle.std.proofs.Common.{◌≡◌, true, false, ap, sym, ◌∙◌, subst}
use Rattle.std.specs.Str.{bytes_eq}
use Rattle.peg_name.specs.Name.{Rack}
use Rattle.peg_model.specs.Handover.{state_of}
use Rattle.peg_grammar.specs.State.{SpellsState}
use Rattle.peg_parts.specs.Sealed.{state_with}
use Rattle.peg_parts.specs.Reading.{Read}
use Rattle.peg_parts.proofs.Lists.{not_back}
use Rattle.peg_parts.proofs.Reading.{none_read, state_read, other_read}
use Rattle.peg_parts.proofs.reader.Reader.read.Goals as goal

pub returns-in_default-clause-none : goal.returns-in_default-clause-none
returns-in_default-clause-none c =
    ap (λ (r : Read). state_of r.rack c.args.bytes.now) (sym c.self.view_is)
    ∙ none_read c.self.inside.config c.args.bytes.now c.in_default.ensures.none

pub returns-then-ne-clause-none : goal.returns-then-ne-clause-none
returns-then-ne-clause-none c =
    let read = state_with c.read_state.new.stamper c.in-Some.last c.read_state.new.directory.entries in
    let spells : SpellsState c.self.inside.config c.spell.new.out.items read =
    subst (λ (rack : Rack). SpellsState rack c.spell.new.out.items read) c.read_state.ensures.rack
    c.spell.ensures.spelled
    in
    let differ : bytes_eq c.args.bytes.now c.spell.new.out.items ≡ false =
    ap (bytes_eq c.args.bytes.now) (sym c.as_slice.ensures.value)
    ∙ not_back (bytes_eq c.args.bytes.now c.as_slice.result.now) false
    (sym c.ne.ensures ∙ c.if-ne.true)
    in
    ap (λ (r : Read). state_of r.rack c.args.bytes.now) (sym c.self.view_is)
    ∙ other_read c.self.inside.config c.args.bytes.now c.spell.new.out.items read
    c.in-Some.ensures.state spells differ

pub returns-clause-state : goal.returns-clause-state
returns-clause-state c =
    let read = state_with c.read_state.new.stamper c.in-Some.last c.read_state.new.directory.entries in
    let spells : SpellsState c.self.inside.config c.spell.new.out.items read =
    subst (λ (rack : Rack). SpellsState rack c.spell.new.out.items read) c.read_state.ensures.rack
    c.spell.ensures.spelled
    in
    let same : bytes_eq c.args.bytes.now c.spell.new.out.items ≡ true =
    ap (bytes_eq c.args.bytes.now) (sym c.as_slice.ensures.value)
    ∙ not_back (bytes_eq c.args.bytes.now c.as_slice.result.now) true
    (sym c.ne.ensures ∙ c.if-ne.false)
    in
    ap (λ (r : Read). state_of r.rack c.args.bytes.now) (sym c.self.view_is)
    ∙ state_read c.self.inside.config c.args.bytes.now c.spell.new.out.items read
    c.in-Some.ensures.state spells same
