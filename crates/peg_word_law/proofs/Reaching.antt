-- What the law of reached worlds gives.
use Rattle.std.proofs.Common.{◌≡◌, ◌≤◌, ◌<◌, ℕ, List}
use Rattle.peg_name.specs.Name.{Rack}
use Rattle.peg_event.specs.declared.Event.{Event}
use Rattle.peg_model.specs.World.{World, start, step}
use Rattle.peg_law.specs.Lines.{IsLine}
use Rattle.peg_law.specs.Places.{IsReached, IsEndOfRun}

pub record Reaching : Type 0 where
  pub begins : (rack : Rack) (keys : List (List ℕ)) → IsReached rack keys 1 (start rack keys)
  pub steps :
      (rack : Rack) (keys : List (List ℕ)) (place at : ℕ) (w : World) (e : Event)
      → IsReached rack keys place w → 2 ≤ at → place < at → IsLine rack e
      → IsReached rack keys at (step w at e).0
  pub waits :
      (rack : Rack) (keys : List (List ℕ)) (place more : ℕ) (w : World) → place ≤ more
      → IsReached rack keys place w → IsReached rack keys more w
  pub of_rack :
      (rack : Rack) (keys : List (List ℕ)) (place : ℕ) (w : World) → IsReached rack keys place w
      → w.rack ≡ rack
  pub ends :
      (rack : Rack) (keys : List (List ℕ)) (place : ℕ) (w : World) → IsReached rack keys place w
      → IsEndOfRun rack keys w
