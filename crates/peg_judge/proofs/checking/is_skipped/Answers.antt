use Rattle.std.proofs.Common.{◌-◌, length, drop, arith}
use Rattle.std.proofs.lemmas.List.{take_all, length-drop}
use Rattle.peg_judge.proofs.Lines.{not_trace}
use Rattle.peg_judge.proofs.checking.is_skipped.Goals as goal

pub returns-then-rest-lt4096-clause-no : goal.returns-then-rest-lt4096-clause-no
returns-then-rest-lt4096-clause-no c =
    let line = c.args.line.now in
    not_trace line _ c.contains.result c.contains.ensures.value
    (take_all (length line - 1) (drop 1 line) (omega (arith, length-drop 1 line)))
