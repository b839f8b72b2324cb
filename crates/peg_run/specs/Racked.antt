-- What `rack` has written, where it is done.
--     PrintsHistories text      it ends with the operations and orders of the end of a run, each of
--         which is a register history of its key
--     ShowsHistories      so does what was appended
use Rattle.std.specs.Prelude.{◌≡◌, ℕ, List, ◌++◌}
use Rattle.peg_name.specs.Name.{Rack}
use Rattle.peg_model.specs.World.{World, history}
use Rattle.peg_model.specs.Order.{orders}
use Rattle.peg_model.specs.Trace.{tail_text}
use Rattle.peg_model.specs.Headline.{OrdersAreHistories}
use Rattle.peg_word_law.specs.Runs.{IsRunOf}

pub record PrintsHistories (text : List ℕ) : Type 0 where
  pub rack : Rack
  pub keys : List (List ℕ)
  pub world : World
  pub run : IsRunOf rack keys world
  pub trace : List ℕ
  pub is : text ≡ trace ++ tail_text (history world) (orders world)
  pub histories : OrdersAreHistories world

abbrev pub ShowsHistories : List ℕ → List ℕ → Type 0
ShowsHistories before now =
    (output : List ℕ) × (now ≡ before ++ output) × PrintsHistories output
