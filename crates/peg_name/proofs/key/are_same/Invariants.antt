use Rattle.std.proofs.Common.{◌≡◌, ◌&&◌, nat_eq, drop}
use Rattle.std.specs.Cmp.Lexicographic.{pointwise}
use Rattle.peg_name.proofs.key.are_same.Given as goal

abbrev pub invariant-loop-i : goal.invariant-loop-i
invariant-loop-i l =
    (l.same && pointwise nat_eq (drop l.i l.one) (drop l.i l.other)) ≡ pointwise nat_eq l.one l.other
