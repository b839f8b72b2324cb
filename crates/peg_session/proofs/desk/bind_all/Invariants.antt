use Rattle.std.proofs.Common.{◌≡◌, ◌≤◌, ◌+◌, take}
use Rattle.peg_io.specs.Outside.{Tells}
use Rattle.peg_meaning.specs.Session.{bound_more}
use Rattle.peg_session.specs.Standing.{IsMoored}
use Rattle.peg_session.proofs.desk.bind_all.Given as goal

abbrev pub invariant-loop-i : goal.invariant-loop-i
invariant-loop-i g l = record {
  bound : l.desk.bound ≡ l.fn.desk.bound + l.i;
  slots : g.W.Wire.slots l.wire + l.fn.desk.bound ≡ g.W.Wire.slots l.fn.wire + l.desk.bound;
  moored : IsMoored l.desk.base l.desk.bound (g.W.Wire.slots l.wire);
  same : l.desk ≡ record l.fn.desk { base = l.desk.base; bound = l.desk.bound };
  carried : Tells (g.W.Wire.carried l.fn.wire) (g.W.Wire.carried l.wire)
      (λ c n. n ≡ bound_more (take l.i (g.T.Session.binds l.session)) c);
  later : g.W.Wire.faults l.fn.wire ≤ g.W.Wire.faults l.wire;
}
