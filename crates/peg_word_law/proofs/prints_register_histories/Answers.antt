use Rattle.std.proofs.Common.{sym, subst}
use Rattle.peg_model.specs.Headline.{OrdersAreHistories}
use Rattle.peg_word_law.proofs.prints_register_histories.Goals as goal

pub returns : goal.returns
returns c = λ rack keys w of.
    subst OrdersAreHistories (sym of.is_end.world)
    (c.prints_register_histories.ensures rack keys of.is_end.events of.is_start of.is_end.of_lines)
