use Rattle.std.proofs.Common.{rules, ◌<◌, ◌≤◌, map, length, arith}
use Rattle.std.specs.String.{string_bytes}
use Rattle.std.proofs.lemmas.List.{length-map}
use Rattle.peg_words.proofs.Counts.{balanced_unread}
use Rattle.peg_words.proofs.jobs.balanced.Goals as goal
use Rattle.peg_words.proofs.jobs.balanced.Goals.{in_default-via-then-words-lt5}
use Rattle.peg_words.proofs.jobs.balanced.Goals.{in_default-via-else-words-lt5+else-words-lt6}

pub returns-in_default-clause-job : goal.returns-in_default-clause-job
returns-in_default-clause-job c =
    balanced_unread (map string_bytes c.args.words.now)
    (λ count. elim c.in_default.branch [
      | in_default-via-then-words-lt5 w ↦
          let few : length c.args.words.now < 5 = search rules in
          absurd (omega (arith, few, length-map c.args.words.now string_bytes, count))
      | in_default-via-else-words-lt5+else-words-lt6 w ↦
          let many : 6 ≤ length c.args.words.now = search rules in
          absurd (omega (arith, many, length-map c.args.words.now string_bytes, count))
    ])
