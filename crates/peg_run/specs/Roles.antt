-- What holds where a word that runs one node of a rack ends.
--     TakesTurns role      the node takes so many turns, and reads no line
--     ReadsLines role      the node carries out the lines that are read
--     ServesAs m start turns end before now      all that holds at the end of such a node
--     RunsNode base rack role end before now      all that holds at the end of a node
--     EndsNode base rack role status before now      the node ended as the status says
--     IsOffline job      the words call for no node and no rack of nodes, and so for no wire
use Rattle.std.specs.Prelude.{◌≡◌, ℕ, Option, Some, []}
use Rattle.peg_name.specs.Name.{Rack}
use Rattle.peg_meaning.specs.Session.{Meaning, Came}
use Rattle.peg_meaning.specs.Roles.{Serving, switch_word, switch_start, server_word, server_start}
use Rattle.peg_meaning.specs.Roles.{controls, control_start, asks, ask_start}
use Rattle.peg_meaning.specs.Balance.{balanced_word, balanced_start}
use Rattle.peg_session.specs.Ends.{Told, Ended}
use Rattle.peg_session.specs.declared.End.{End}
use Rattle.peg_session.specs.declared.End.TheVariants as end
use Rattle.peg_node.specs.Served.{IsServed, IsServeEnd}
use Rattle.peg_words.specs.declared.Job.{Job}
use Rattle.peg_words.specs.declared.Job.TheVariants as job
use Rattle.peg_words.specs.declared.role.Role.{Role}
use Rattle.peg_words.specs.declared.role.Role.TheVariants as role
use Rattle.peg_run.specs.Status.{status_of}
use Rattle.peg_run.specs.declared.Status.{Status}

abbrev pub TakesTurns : Role → Type 0
TakesTurns (role.Switch switch turns) = Unit {0}
TakesTurns (role.Balanced switch turns weights) = Unit {0}
TakesTurns (role.Server server turns) = Unit {0}
TakesTurns _ = ⊥

abbrev pub ReadsLines : Role → Type 0
ReadsLines (role.Control tries waits) = Unit {0}
ReadsLines (role.Ask client first tries waits) = Unit {0}
ReadsLines _ = ⊥

-- done, it took exactly so many turns
pub record ServesAs {N : Type 0} (m : Meaning (Serving N) ⊥) (start : Came (Serving N)) (turns : ℕ)
    (e : End) (before now : Told) : Type 0 where
  pub ended : Ended m start before now e
  pub ends : IsServeEnd e
  pub done : e ≡ end.Done → IsServed m start turns before now

-- no line is asked of the source
abbrev pub unread : Told → Told
unread t = record t { left = Some [] }

abbrev pub RunsNode : ℕ → Rack → Role → End → Told → Told → Type 0
RunsNode base rack (role.Switch switch turns) e before now =
    ServesAs switch_word (switch_start base rack switch turns) turns e (unread before) (unread now)
RunsNode base rack (role.Balanced switch turns weights) e before now =
    ServesAs balanced_word (balanced_start base rack switch turns weights.items) turns e
    (unread before) (unread now)
RunsNode base rack (role.Server server turns) e before now =
    ServesAs server_word (server_start base rack server turns) turns e (unread before) (unread now)
RunsNode base rack (role.Control tries waits) e before now =
    Ended controls (control_start base rack tries waits) before now e
RunsNode base rack (role.Ask client first tries waits) e before now =
    Ended asks (ask_start base rack.format client first tries waits) before now e

abbrev pub EndsNode : ℕ → Rack → Role → Status → Told → Told → Type 0
EndsNode base rack r status before now =
    (e : End) × (status ≡ status_of e) × RunsNode base rack r e before now

abbrev pub IsOffline : Option Job → Type 0
IsOffline (Some (job.Node base rack r)) = ⊥
IsOffline (Some (job.Rack base)) = ⊥
IsOffline _ = Unit {0}
