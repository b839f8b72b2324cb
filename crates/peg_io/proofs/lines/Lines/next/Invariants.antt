use Rattle.std.proofs.Common.{◌≡◌, ◌-◌, ◌≤◌, true, [], length}
use Rattle.peg_io.specs.Lines.{has_feed}
use Rattle.peg_io.proofs.Reading.{IsUnder}
use Rattle.peg_io.proofs.lines.Lines.next.Given as goal

abbrev pub invariant-loop-self : goal.invariant-loop-self
invariant-loop-self g l = record {
  under : IsUnder l.limit l.fn.self.held l.self (g.S.Source.left l.fn.source) (g.S.Source.left l.source);
  later : g.S.Source.faults l.fn.source ≤ g.S.Source.faults l.source;
  ahead : has_feed l.fn.self.held ≡ true → (l.self.held ≡ l.fn.self.held) × (l.source ≡ l.fn.source);
  ended : l.self.ended ≡ l.fn.self.ended;
  over : l.fn.self.ended ≡ true → (l.self.line ≡ []) × (l.source ≡ l.fn.source);
}

abbrev pub decreases-loop-self : goal.decreases-loop-self
decreases-loop-self g l = l.limit - length l.self.line
