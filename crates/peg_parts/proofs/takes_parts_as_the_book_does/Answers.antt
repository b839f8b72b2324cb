use Rattle.peg_parts.proofs.Switching.{misplaced, steps, state_taken}
use Rattle.peg_parts.proofs.takes_parts_as_the_book_does.Goals as goal

pub returns : goal.returns
returns c = record { misplaced = misplaced; step = steps; state = state_taken }
