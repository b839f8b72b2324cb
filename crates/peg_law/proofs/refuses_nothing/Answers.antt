use Rattle.std.proofs.Common.{[], refl, arith}
use Rattle.std.proofs.lemmas.List.{length-map}
use Rattle.std.proofs.lemmas.Map.Made.{IsDistinct-from_AllPairs}
use Rattle.std.proofs.lemmas.Slice.Eq.{bytes_eq-Decides}
use Rattle.peg_law.specs.Codes.{number_of}
use Rattle.peg_law.specs.Mirrors.{rack_code}
use Rattle.peg_law.proofs.Lines.{lines_in_place, no_repeats}
use Rattle.peg_law.proofs.Start.{start_mirrors}
use Rattle.peg_model.specs.World.{start}
use Rattle.peg_law.proofs.refuses_nothing.Goals as goal

pub returns : goal.returns
returns c = λ rack keys events is lines m has.
    let coded = rack_code rack keys in
    let first = is.limits.first.0 in
    let most = is.named.2 in
    let count = length-map keys number_of in
    lines_in_place rack keys (λ past. c.tells_what_was_asked.ensures coded past first)
    c.reads_back_what_is_spelled.ensures.state
    (λ past.
    c.refuses_nothing.ensures coded past first
    (no_repeats keys (IsDistinct-from_AllPairs bytes_eq-Decides keys is.named.1))
    (omega (arith, most, count)))
    (start rack keys) 2 events [] (start_mirrors rack keys is) refl refl lines m has
