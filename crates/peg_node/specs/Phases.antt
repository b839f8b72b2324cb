-- Where a word stands that reads lines, and for each sends until something comes of it.
--     phase_as phase      the same in the book's words
--     IsPhase phase      fewer than 100 further sends and at most 1,000 turns are left
--     IsEither phase sends turns      so many sends and turns are left, unless it reads
--     rank_in lines phase      how many steps are left at most
use Rattle.std.specs.Prelude.{◌≡◌, ◌≤◌, ◌<◌, ◌+◌, ◌-◌, ◌*◌, ℕ}
use Rattle.peg_meaning.specs.Roles as roles
use Rattle.peg_node.specs.declared.phase.Phase.{Phase}
use Rattle.peg_node.specs.declared.phase.Phase.TheVariants as phase

abbrev pub phase_as : Phase → roles.Phase
phase_as phase.Reading = roles.Reading
phase_as (phase.Awaiting sends turns) = roles.Awaiting sends turns

abbrev pub IsPhase : Phase → Type 0
IsPhase phase.Reading = Unit {0}
IsPhase (phase.Awaiting sends turns) = (sends < 100) × (turns ≤ 1000)

abbrev pub IsEither : Phase → ℕ → ℕ → Type 0
IsEither phase.Reading sends turns = Unit {0}
IsEither (phase.Awaiting s t) sends turns = (s ≡ sends) × (t ≡ turns)

-- a send takes at most 1,000 turns and one step more
abbrev pub rank_at : Phase → ℕ
rank_at phase.Reading = 0
rank_at (phase.Awaiting sends turns) = sends * 1001 + turns + 1

abbrev pub rank_in : ℕ → Phase → ℕ
rank_in lines p = (1000000 - lines) * 200000 + rank_at p
