-- Where requests go, copies come from and fences go to: to servers of the rack.
--     Carries write version, GoesTo rack write forward      a version that a request may carry,
--         and a request that is forwarded
--     ComesFrom rack source, FencesAt rack fence      the same of a copy and of a fence
--     OfLast promoted      no version is left only where the next one is the last number
use Rattle.std.specs.Prelude.{ℕ, ◌≡◌, ◌<◌, ◌≤◌, Bool, true, false}
use Rattle.peg_name.specs.Name.{Rack}
use Rattle.peg_event.specs.declared.answers.Forward.{Forward}
use Rattle.peg_event.specs.declared.answers.Forward.TheVariants.{To, Stale, Exhausted}
use Rattle.peg_event.specs.declared.answers.Promoted.{Promoted}
use Rattle.peg_event.specs.declared.answers.Promoted.TheVariants as promoted
use Rattle.peg_event.specs.declared.answers.CopyFrom.{CopyFrom}
use Rattle.peg_event.specs.declared.answers.CopyFrom.TheVariants as copy_from
use Rattle.peg_event.specs.declared.answers.FenceOf.{FenceOf}
use Rattle.peg_event.specs.declared.answers.FenceOf.TheVariants as fence_at
use Rattle.peg_model.specs.Words.{last_number}

-- a stamped write has a version of at least 1
abbrev pub Carries : Bool → ℕ → Type 0
Carries true version = 1 ≤ version
Carries false version = Unit {0}

abbrev pub GoesTo : Rack → Bool → Forward → Type 0
GoesTo rack write (To server version) = (server < rack.servers) × Carries write version
GoesTo rack write (Stale last) = Unit {0}
GoesTo rack write (Exhausted next) = Unit {0}

abbrev pub ComesFrom : Rack → CopyFrom → Type 0
ComesFrom rack copy_from.NotListed = Unit {0}
ComesFrom rack copy_from.Holds = Unit {0}
ComesFrom rack (copy_from.From source) = source < rack.servers

abbrev pub FencesAt : Rack → FenceOf → Type 0
FencesAt rack fence_at.NotListed = Unit {0}
FencesAt rack fence_at.NoBase = Unit {0}
FencesAt rack (fence_at.At home base) = (home < rack.servers) × (1 ≤ base)

abbrev pub OfLast : Promoted → Type 0
OfLast promoted.Listed = Unit {0}
OfLast (promoted.Already listing) = Unit {0}
OfLast (promoted.Full count) = Unit {0}
OfLast (promoted.NoVersion next) = next ≡ last_number
