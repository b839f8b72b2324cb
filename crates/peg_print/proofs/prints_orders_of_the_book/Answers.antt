use Rattle.peg_print.proofs.Orders.{orders_as}
use Rattle.peg_print.proofs.prints_orders_of_the_book.Goals as goal

pub returns : goal.returns
returns c = orders_as
