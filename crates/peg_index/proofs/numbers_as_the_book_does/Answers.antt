use Rattle.peg_index.proofs.Mapped.{numbered}
use Rattle.peg_index.proofs.numbers_as_the_book_does.Goals as goal

pub returns : goal.returns
returns c = numbered
