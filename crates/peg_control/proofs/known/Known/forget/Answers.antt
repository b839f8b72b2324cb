use Rattle.std.proofs.Common.{rules, ℕ, List, not, filter, ap, ◌∙◌}
use Rattle.std.specs.Str.{bytes_eq}
use Rattle.std.proofs.lemmas.Fn.{filter_same}
use Rattle.peg_control.proofs.known.Known.forget.Goals as goal

pub returns : goal.returns
returns c =
    let kept = λ (other : List ℕ). not (bytes_eq other c.args.key.now) in
    filter_same _ kept _ (λ x b f k. search rules) _ _ c.retain.ensures.filtered
    ∙ ap (filter kept) c.self.view_is
