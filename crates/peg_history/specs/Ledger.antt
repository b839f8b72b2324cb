-- A history as a contract sees it.
--     Ledger      its operations, how many more there is memory for, and for how many more bytes of
--         contents
use Rattle.std.specs.Prelude.{ℕ, List}
use Rattle.peg_event.specs.declared.history.Op.{Op}

pub record Ledger : Type 0 where
  pub ops : List Op
  pub spare : ℕ
  pub room : ℕ
