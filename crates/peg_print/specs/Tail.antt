-- The text behind the lines of a run: the history, the orders and done.
--     key_order o      an order of a key as the pair of these
--     history_lines ops      the line history and those of the operations
use Rattle.std.specs.Prelude.{ℕ, List, ◌++◌, length, codes, decimal}
use Rattle.peg_event.specs.declared.history.Op.{Op}
use Rattle.peg_model.specs.Schedule.{fed}
use Rattle.peg_model.specs.Trace.{ops_text}
use Rattle.peg_history.specs.declared.KeyOrder.{KeyOrder}

abbrev pub key_order : KeyOrder → List ℕ × List ℕ
key_order o = (o.key, o.ops)

abbrev pub history_lines : List Op → List ℕ
history_lines ops = fed (codes "history " ++ decimal (length ops)) ++ ops_text 0 ops
