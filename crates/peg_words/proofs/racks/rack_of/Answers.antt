use Rattle.std.proofs.Common.{rules, ◌≡◌, ◌∙◌, None, sym}
use Rattle.peg_words.proofs.RackNumbers.{no_rack}
use Rattle.peg_words.proofs.racks.rack_of.Goals as goal

pub returns-in_err-numbers : goal.returns-in_err-numbers
returns-in_err-numbers c =
    let gone : c.from_residual.result ≡ None = search rules in
    let none : c.numbers_of.result ≡ None = search rules in
    gone ∙ sym (no_rack c.args.word.now (c.numbers_of.ensures.none none))
