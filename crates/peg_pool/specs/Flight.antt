-- The packets in flight as a contract sees them.
--     Flight      the format, each packet as its node and its bytes, in the order of sending, and how
--         many more there is memory for
use Rattle.std.specs.Prelude.{ℕ, List}
use Rattle.peg_name.specs.declared.Format.{Format}
use Rattle.peg_name.specs.declared.Node.{Node}

pub record Flight : Type 0 where
  pub format : Format
  pub items : List (Node × List ℕ)
  pub spare : ℕ
