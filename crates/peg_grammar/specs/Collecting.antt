-- The parts of one state's bytes as they come in, in whatever order and however often.
--     after_part epoch bytes c index      what is collected once that part of the bytes has come
--     after_parts epoch bytes c order      the same once these have come, one after the other
--     HoldsParts bytes c      what is collected are parts of these bytes, each at its index
--     switch_after epoch bytes s order      a switch once these have come to it
use Rattle.std.specs.Prelude.{◌≡◌, ℕ, Some, None, IsTrue, List, [], ◌∷◌, length}
use Rattle.std.specs.Prelude.{slice_index_or, if◌then◌else◌}
use Rattle.peg_model.specs.Packet.{Part}
use Rattle.peg_model.specs.Handover.{Collected, begun, has_part, with_part, part_of, parts}
use Rattle.peg_model.specs.Switch.{Switch, switch_step}

-- a part that is held changes nothing
abbrev pub after_part : ℕ → List ℕ → Collected → ℕ → Collected
after_part epoch bytes c index =
    let now = begun c epoch (length (parts bytes)) in
    if has_part now index then c else with_part now index (part_of bytes index)

abbrev pub after_parts : ℕ → List ℕ → Collected → List ℕ → Collected
after_parts epoch bytes c [] = c
after_parts epoch bytes c (index ∷ order) =
    after_parts epoch bytes (after_part epoch bytes c index) order

pub record HoldsParts (bytes : List ℕ) (c : Collected) : Type 0 where
  pub places : length c.parts ≡ length (parts bytes)
  pub held :
      (index : ℕ) → IsTrue (has_part c index)
      → slice_index_or c.parts index None ≡ Some (part_of bytes index)

-- with the pick 0, since a part asks for none
abbrev pub switch_after : ℕ → List ℕ → Switch → List ℕ → Switch
switch_after epoch bytes s [] = s
switch_after epoch bytes s (index ∷ order) =
    let part = Part epoch index (length (parts bytes)) (part_of bytes index) in
    switch_after epoch bytes (switch_step s part 0).state order
