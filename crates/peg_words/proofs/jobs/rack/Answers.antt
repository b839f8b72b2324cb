use Rattle.std.proofs.Common.{rules, ◌<◌, ◌≤◌, map, length, arith}
use Rattle.std.specs.String.{string_bytes}
use Rattle.std.proofs.lemmas.List.{length-map}
use Rattle.peg_words.proofs.Counts.{rack_unread}
use Rattle.peg_words.proofs.jobs.rack.Goals as goal
use Rattle.peg_words.proofs.jobs.rack.Goals.{in_default-via-then-words-lt1}
use Rattle.peg_words.proofs.jobs.rack.Goals.{in_default-via-else-words-lt1+else-words-lt2}

pub returns-in_default-clause-job : goal.returns-in_default-clause-job
returns-in_default-clause-job c =
    rack_unread (map string_bytes c.args.words.now)
    (λ count. elim c.in_default.branch [
      | in_default-via-then-words-lt1 w ↦
          let few : length c.args.words.now < 1 = search rules in
          absurd (omega (arith, few, length-map c.args.words.now string_bytes, count))
      | in_default-via-else-words-lt1+else-words-lt2 w ↦
          let many : 2 ≤ length c.args.words.now = search rules in
          absurd (omega (arith, many, length-map c.args.words.now string_bytes, count))
    ])
