-- Racks among which the keys are divided.
--     KeepOwnKeys worlds      each operation of a rack is on a key that goes to that rack
--     HaveOwnKeys s      so it is of the worlds of the word `racks` in this state
use Rattle.std.specs.Prelude.{◌≡◌, ℕ, Some, List, length, slice_get}
use Rattle.std.specs.List.{AllByRecursion}
use Rattle.peg_model.specs.World.{World, history}
use Rattle.peg_meaning.specs.Racks.{RacksWord, Starting, Running, Finished, rack_for}

abbrev pub KeepOwnKeys : List World → Type 0
KeepOwnKeys worlds =
    (rack : ℕ) (w : World) → slice_get worlds rack ≡ Some w
    → AllByRecursion (λ op. rack_for op.key (length worlds) ≡ rack) (history w)

abbrev pub HaveOwnKeys : RacksWord → Type 0
HaveOwnKeys Starting = Unit {0}
HaveOwnKeys (Running d) = KeepOwnKeys d.worlds
HaveOwnKeys (Finished d) = KeepOwnKeys d.worlds
