-- Worlds that are ends of schedules, so that the laws of runs speak of them.
--     IsRunOf rack keys w      the end of a schedule of the rack, which began with the keys
--     HasRun entries s      so is the world of the word `rack`, for the rack line that came first
--     AuditsRun entries s      the same of the world of an audit
--     AreRunsOf racks worlds, HaveRuns entries s      the same of each world of the word `racks`,
--         for the rack lines in their order
use Rattle.std.specs.Prelude.{◌≡◌, ℕ, List, [], ◌∷◌}
use Rattle.peg_name.specs.Name.{Rack}
use Rattle.peg_model.specs.World.{World}
use Rattle.peg_model.specs.Schedule.{IsStart}
use Rattle.peg_law.specs.Places.{IsEndOfRun}
use Rattle.peg_meaning.specs.RackWord as rack_word
use Rattle.peg_meaning.specs.RackWord.{RackEntry, RackWord}
use Rattle.peg_meaning.specs.Racks as racks_word
use Rattle.peg_meaning.specs.Racks.{RacksEntry, RacksWord}
use Rattle.peg_meaning.specs.Records as audit_word
use Rattle.peg_meaning.specs.Records.{AuditEntry, Auditor, Opening, Judging, Closed}

pub record IsRunOf (rack : Rack) (keys : List (List ℕ)) (w : World) : Type 0 where
  pub is_start : IsStart rack keys
  pub is_end : IsEndOfRun rack keys w

-- ---- the word `rack`

-- of the rack and the keys of the first line
pub record IsServed (entries : List RackEntry) (w : World) : Type 0 where
  pub rack : Rack
  pub keys : List (List ℕ)
  pub rest : List RackEntry
  pub named : entries ≡ rack_word.Named rack keys ∷ rest
  pub run : IsRunOf rack keys w

-- at first there is no line and no world
abbrev pub HasRun : List RackEntry → RackWord → Type 0
HasRun entries (rack_word.Starting base) = entries ≡ []
HasRun entries (rack_word.Running r) = IsServed entries r.world
HasRun entries (rack_word.Finished r) = IsServed entries r.world

-- ---- an audit, whose rack lists no keys from the start on

pub record IsAudited (entries : List AuditEntry) (w : World) : Type 0 where
  pub rack : Rack
  pub rest : List AuditEntry
  pub named : entries ≡ audit_word.Named rack ∷ rest
  pub run : IsRunOf rack [] w

abbrev pub AuditsRun : List AuditEntry → Auditor → Type 0
AuditsRun entries Opening = entries ≡ []
AuditsRun entries (Judging a) = IsAudited entries a.world
AuditsRun entries (Closed a) = IsAudited entries a.world

-- ---- the word `racks`

-- the racks that the lines name, with their keys
abbrev pub racks_of : List RacksEntry → List (Rack × List (List ℕ))
racks_of [] = []
racks_of (racks_word.Named rack keys ∷ entries) = (rack, keys) ∷ racks_of entries
racks_of (_ ∷ entries) = racks_of entries

abbrev pub AreRunsOf : List (Rack × List (List ℕ)) → List World → Type 0
AreRunsOf [] [] = Unit {0}
AreRunsOf (r ∷ racks) (w ∷ worlds) = IsRunOf r.0 r.1 w × AreRunsOf racks worlds
AreRunsOf _ _ = ⊥

abbrev pub HaveRuns : List RacksEntry → RacksWord → Type 0
HaveRuns entries racks_word.Starting = entries ≡ []
HaveRuns entries (racks_word.Running d) = AreRunsOf (racks_of entries) d.worlds
HaveRuns entries (racks_word.Finished d) = AreRunsOf (racks_of entries) d.worlds
