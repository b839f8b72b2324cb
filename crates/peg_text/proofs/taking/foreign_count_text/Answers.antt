use Rattle.std.proofs.Common.{◌++◌, codes, decimal, ap, ◌∙◌}
use Rattle.peg_text.proofs.taking.foreign_count_text.Goals as goal

pub returns : goal.returns
returns c =
    c.push_numbers.ensures.text
    ∙ ap (λ t. t ++ (decimal c.args.place ++ codes " end foreign " ++ decimal c.args.count))
    c.clear.ensures
