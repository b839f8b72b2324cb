use Rattle.std.proofs.Common.{rules, ◌≡◌, ◌∙◌, ◌<◌, ◌^◌, true, false, None, sym, arith}
use Rattle.std.proofs.lemmas.Slice.Eq.{bytes_eq-Decides}
use Rattle.peg_words.proofs.Decimals.{found, none_parsed, other}
use Rattle.peg_words.proofs.numbers.number_within.Goals as goal
use Rattle.peg_words.proofs.numbers.number_within.Goals.{else-low-number-via-then-low-number+then-number-high+else-eq}
use Rattle.peg_words.proofs.numbers.number_within.Goals.{else-low-number-via-then-low-number+else-number-high}
use Rattle.peg_words.proofs.numbers.number_within.Goals.{else-low-number-via-else-low-number}

pub returns-in_err-number-clause-number : goal.returns-in_err-number-clause-number
returns-in_err-number-clause-number c =
    let top : c.args.high < 2 ^ 64 = search rules in
    let gone : c.from_residual.result ≡ None = search rules in
    gone
    ∙ none_parsed c.args.low c.args.high c.args.word.now top c.parse.result c.parse.ensures.value.0
    c.in_err-number.ensures.variant

pub returns-then-eq-clause-number : goal.returns-then-eq-clause-number
returns-then-eq-clause-number c =
    let top : c.args.high < 2 ^ 64 = search rules in
    let same = (bytes_eq-Decides c.format.result.now c.args.word.now).0 (sym c.if-eq.ensures) in
    found c.args.low c.args.high c.args.word.now top c.in_ok-number.number c.if-low-number.true
    c.if-number-high.true (sym c.format.ensures.text ∙ same)

pub returns-else-low-number-clause-number : goal.returns-else-low-number-clause-number
returns-else-low-number-clause-number c =
    let top : c.args.high < 2 ^ 64 = search rules in
    other c.args.low c.args.high c.args.word.now top c.parse.result c.in_ok-number.number
    c.parse.ensures.value.0 c.in_ok-number.ensures.value
    (λ above below text.
    elim c.else-low-number.branch [
      | else-low-number-via-then-low-number+then-number-high+else-eq w ↦
          let yes =
          (bytes_eq-Decides w.format.result.now c.args.word.now).1 (w.format.ensures.text ∙ text) in
          let bad : false ≡ true = w.if-eq.ensures ∙ yes in
          absurd (cc)
      | else-low-number-via-then-low-number+else-number-high w ↦ absurd (omega arith)
      | else-low-number-via-else-low-number w ↦ absurd (omega arith)
    ])
