-- What stands behind the line end, rack by rack.
--     tail_of rack w, tail_in w rack      the history and the orders of a rack
--     AreOrders rs all      the printed orders of each rack
use Rattle.std.specs.Prelude.{◌≡◌, ℕ, Option, Some, None, List, [], ◌++◌, length, slice_get, codes}
use Rattle.std.specs.Prelude.{decimal}
use Rattle.peg_model.specs.World.{World, history}
use Rattle.peg_model.specs.Order.{orders}
use Rattle.peg_model.specs.Schedule.{fed}
use Rattle.peg_model.specs.Trace.{tail_text}
use Rattle.peg_history.specs.declared.KeyOrder.{KeyOrder}
use Rattle.peg_world.specs.Running.{Running}
use Rattle.peg_racks.specs.Worlds.{AreOrdersOf}

abbrev pub tail_of : ℕ → World → List ℕ
tail_of rack w = fed (codes "rack " ++ decimal rack) ++ tail_text (history w) (orders w)

abbrev pub tail_in : Option World → ℕ → List ℕ
tail_in None rack = []
tail_in (Some w) rack = tail_of rack w

pub record AreOrders (rs : List Running) (all : List (List KeyOrder)) : Type 0 where
  pub count : length all ≡ length rs
  pub each :
      (i : ℕ) (orders_at : List KeyOrder) → slice_get all i ≡ Some orders_at
      → AreOrdersOf (slice_get rs i) orders_at
