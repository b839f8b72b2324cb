-- What the code calls by names of its own, as the book has it.
--     mode_seen      whether a switch forwards
use Rattle.peg_model.specs.Switch as book
use Rattle.peg_switch.specs.declared.Mode.{Mode}
use Rattle.peg_switch.specs.declared.Mode.TheVariants.{Idle, Active, Sealed}

abbrev pub mode_seen : Mode → book.Mode
mode_seen Idle = book.Idle
mode_seen Active = book.Active
mode_seen (Sealed target) = book.Sealed target
