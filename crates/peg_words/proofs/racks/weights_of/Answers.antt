use Rattle.std.proofs.Common.{rules, ◌≡◌, ◌<◌, ◌≤◌, ◌∙◌, ◌^◌, None, Some, List, ℕ, sym, ap, subst, arith}
use Rattle.std.proofs.Common.{length, take, slice_index_or}
use Rattle.std.specs.List.{AllByRecursion}
use Rattle.std.proofs.lemmas.List.{take_all}
use Rattle.peg_meaning.specs.Commands.{numbers_within, between_colons}
use Rattle.peg_words.specs.Jobs.{IsWeight}
use Rattle.peg_words.proofs.RackNumbers.{no_weights, are_weights, weight_at}
use Rattle.peg_words.proofs.racks.weights_of.Goals as goal

pub returns-in_err-numbers-clause-none : goal.returns-in_err-numbers-clause-none
returns-in_err-numbers-clause-none c =
    λ is.
    let none : c.numbers_of.result ≡ None = search rules in
    let most : c.args.config.now.servers ≤ 64 = search rules in
    no_weights c.args.config.now c.args.word.now
    (λ numbers whole count.
    omega (arith, c.numbers_of.ensures.none none numbers whole, count, most))

pub overflow_cast-number : goal.overflow_cast-number
overflow_cast-number c =
    let whole : numbers_within 1 1000 (between_colons c.args.word.now)
    ≡ Some c.in_ok-numbers.numbers.items =
    search rules in
    let same : c.as_slice-number-items.result.now ≡ c.in_ok-numbers.numbers.items = search rules in
    let all : AllByRecursion IsWeight c.as_slice-number-items.result.now =
    subst (λ (ns : List ℕ). AllByRecursion IsWeight ns) (sym same)
    (are_weights (between_colons c.args.word.now) c.in_ok-numbers.numbers.items whole) in
    let inside : c.loop-number.number-index < length c.as_slice-number-items.result.now =
    search rules in
    let weight = weight_at c.as_slice-number-items.result.now c.loop-number.number-index 0 all inside in
    let most : slice_index_or c.as_slice-number-items.result.now c.loop-number.number-index 0 ≤ 1000 =
    weight.1 in
    search (rules, most)

pub returns-clause-each : goal.returns-clause-each
returns-clause-each c =
    let whole : numbers_within 1 1000 (between_colons c.args.word.now)
    ≡ Some c.in_ok-numbers.numbers.items =
    search rules in
    let items : c.as_slice-number-items.result.now ≡ c.in_ok-numbers.numbers.items = search rules in
    let past : length c.as_slice-number-items.result.now ≤ c.loop-number.number-index =
    search rules in
    let same : c.loop-number.weights.items ≡ c.in_ok-numbers.numbers.items =
    c.loop-number.invariant
    ∙ take_all c.loop-number.number-index c.as_slice-number-items.result.now past ∙ items in
    subst (λ (ns : List ℕ). AllByRecursion IsWeight ns) (sym same)
    (are_weights (between_colons c.args.word.now) c.in_ok-numbers.numbers.items whole)
