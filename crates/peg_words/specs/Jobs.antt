-- Which job the words after the program's name call for: that of the book, where the command is one
-- of those that there are so far.
--     given job      the book's job as a job
--     count_of name      how many arguments the command has
--     job_of words      the job, where the words are a command
--     if_none job words      the job of a command without arguments
--     IsWeight n      a server may have this weight
--     IsRoleOf rack role      the node is one of the rack, and its numbers are in their ranges
--     IsInRange job      its numbers are in their ranges
use Rattle.std.specs.Prelude.{◌≡◌, ◌≤◌, ◌<◌, ℕ, List, [], ◌∷◌, Option, Some, None, codes, Bool}
use Rattle.std.specs.Prelude.{false, length, option_and_then, is_some, if◌then◌else◌}
use Rattle.std.specs.List.{AllByRecursion}
use Rattle.std.specs.Map.{lookup}
use Rattle.std.specs.Str.{bytes_eq}
use Rattle.peg_name.specs.Name.{Rack}
use Rattle.peg_meaning.specs.Commands as book
use Rattle.peg_words.specs.declared.Job.{Job}
use Rattle.peg_words.specs.declared.Job.TheVariants as job
use Rattle.peg_words.specs.declared.role.Role.{Role}
use Rattle.peg_words.specs.declared.role.Role.TheVariants as role

abbrev pub counts : List (List ℕ × ℕ)
counts =
    (codes "replay", 0)
    ∷ (codes "check", 0)
    ∷ (codes "soak", 2)
    ∷ (codes "switch", 4)
    ∷ (codes "server", 4)
    ∷ (codes "control", 4)
    ∷ (codes "ask", 6)
    ∷ (codes "rack", 1)
    ∷ (codes "racks", 0)
    ∷ (codes "balanced", 5)
    ∷ []

abbrev pub count_of : List ℕ → Option ℕ
count_of name = lookup (bytes_eq name) counts

abbrev pub is_here : List (List ℕ) → Bool
is_here [] = false
is_here (name ∷ arguments) = is_some (count_of name)

abbrev pub given : book.Job → Option Job
given book.Replay = Some job.Replay
given book.Check = Some job.Check
given (book.Soak events start) = Some (job.Soak events start)
given (book.Switch base rack switch turns) =
    Some (job.Node base rack (role.Switch switch turns))
given (book.Server base rack server turns) =
    Some (job.Node base rack (role.Server server turns))
given (book.Control base rack tries waits) =
    Some (job.Node base rack (role.Control tries waits))
given (book.Ask base rack client first tries waits) =
    Some (job.Node base rack (role.Ask client first tries waits))
given (book.WholeRack base) = Some (job.Rack base)
given book.Racks = Some job.Racks
given (book.Balanced base rack switch turns weights) =
    Some (job.Node base rack (role.Balanced switch turns (record { items = weights })))
given _ = None

abbrev pub job_of : List (List ℕ) → Option Job
job_of words = if is_here words then option_and_then given (book.job_of words) else None

abbrev pub if_none : Job → List (List ℕ) → Option Job
if_none j [] = Some j
if_none j (word ∷ words) = None

abbrev pub IsWeight : ℕ → Type 0
IsWeight n = (1 ≤ n) × (n ≤ 1000)

abbrev pub IsRoleOf : Rack → Role → Type 0
IsRoleOf rack (role.Switch switch turns) = switch < rack.switches
IsRoleOf rack (role.Balanced switch turns weights) =
    (switch < rack.switches) × (length weights.items ≡ rack.servers)
    × AllByRecursion IsWeight weights.items
IsRoleOf rack (role.Server server turns) = server < rack.servers
IsRoleOf rack (role.Control tries waits) = (1 ≤ tries) × (tries ≤ 100) × (waits ≤ 1000)
IsRoleOf rack (role.Ask client first tries waits) =
    (client < rack.clients) × (1 ≤ first) × (1 ≤ tries) × (tries ≤ 100) × (waits ≤ 1000)

abbrev pub IsInRange : Job → Type 0
IsInRange (job.Soak events start) = (1 ≤ events) × (events ≤ 20000)
IsInRange (job.Node base rack r) = (base ≤ 60000) × IsRoleOf rack r
IsInRange (job.Rack base) = base ≤ 60000
IsInRange _ = Unit {0}
