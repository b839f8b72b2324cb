use Rattle.std.proofs.Common.{◌∙◌, ap, sym, subst, List, ℕ}
use Rattle.std.proofs.lemmas.List.{drop_all}
use Rattle.peg_model.specs.Counts.{Counts}
use Rattle.peg_hot.specs.Table.{counted}
use Rattle.peg_hot.specs.Laws.{CountsWell}
use Rattle.peg_hot.proofs.Counting.{counts_well}
use Rattle.peg_hot.proofs.Counts.of.Goals as goal

pub returns-clause-laws : goal.returns-clause-laws
returns-clause-laws c =
    let none = drop_all c.loop-key.key-index c.args.keys.now c.loop-key-test.false in
    let all = sym (ap (λ (keys : List (List ℕ)). counted c.args.m c.loop-key.counts.counts keys) none) ∙ c.loop-key.invariant.counts in
    subst (λ (d : Counts). CountsWell c.args.m c.args.keys.now d) (sym all) (counts_well c.args.m c.args.keys.now c.requires.least)
