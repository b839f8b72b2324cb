use Rattle.std.proofs.Common.{rules, ◌≡◌, ◌∙◌, ◌∷◌, map, sym, ap, Some, Err}
use Rattle.std.proofs.lemmas.List.{length-map}
use Rattle.peg_words.specs.declared.WordFault.TheVariants.{Usage}
use Rattle.peg_words.specs.Jobs.{job_of, count_of}
use Rattle.peg_words.proofs.Counts.{counted}
use Rattle.std.specs.String.{string_bytes}
use Rattle.peg_words.proofs.Parsed.{as_texts}
use Rattle.peg_words.proofs.Hyphens.{dashed}
use Rattle.peg_words.proofs.read_words.Goals as goal

pub returns-then-has_option-clause-usage : goal.returns-then-has_option-clause-usage
returns-then-has_option-clause-usage c =
    λ is.
    dashed (map string_bytes c.args.words.now)
    (as_texts string_bytes c.args.words.now c.has_option.ensures c.if-has_option.true)

pub returns-in_err-exactly-clause-usage : goal.returns-in_err-exactly-clause-usage
returns-in_err-exactly-clause-usage c =
    λ is.
    let failed : c.exactly.result ≡ Err Usage = search rules in
    let named : count_of c.as_str.result.now ≡ Some c.in-Some-count_of.count = search rules in
    let words : map string_bytes c.args.words.now
    ≡ c.as_str.result.now ∷ map string_bytes c.in-Some.arguments.now =
    search rules in
    ap job_of words
    ∙ counted c.as_str.result.now (map string_bytes c.in-Some.arguments.now)
    c.in-Some-count_of.count named
    (λ count. c.exactly.ensures.others failed
    (sym (length-map c.in-Some.arguments.now string_bytes) ∙ count))
