use Rattle.std.proofs.Common.{ap, sym, ◌∙◌, List, ℕ}
use Rattle.std.proofs.lemmas.List.{drop_all}
use Rattle.peg_model.specs.Rules.{Directory}
use Rattle.peg_rules.proofs.Starting.{listed_each, lists_each}
use Rattle.peg_rules.proofs.list_at_start.Goals as goal

pub returns : goal.returns
returns c =
    let rack = c.args.directory.now.rack in
    let keys = c.args.keys.now in
    let none = drop_all c.loop-key.key-index keys c.loop-key-test.false in
    let entries =
    sym (ap (λ (rest : List (List ℕ)). listed_each rack c.loop-key.directory.entries rest) none)
    ∙ c.loop-key.invariant.entries
    ∙ ap (λ (es : Directory). listed_each rack es keys) c.requires.empty
    ∙ lists_each rack keys c.requires.distinct c.requires.few in
    ap (λ r. record { rack = r; entries = c.loop-key.directory.entries }) c.loop-key.invariant.rack
    ∙ ap (λ es. record { rack = rack; entries = es }) entries
