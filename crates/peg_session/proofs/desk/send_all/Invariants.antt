use Rattle.std.proofs.Common.{◌≡◌, ◌≤◌, ◌<◌, ℕ, take}
use Rattle.peg_io.specs.Outside.{Tells}
use Rattle.peg_meaning.specs.Session.{sent_more}
use Rattle.peg_session.proofs.desk.send_all.Given as goal

abbrev pub invariant-loop-i : goal.invariant-loop-i
invariant-loop-i g l = record {
  slots : g.W.Wire.slots l.wire ≡ g.W.Wire.slots l.fn.wire;
  carried : (from : ℕ) → (0 < g.T.Session.ports l.session → l.base ≡ from)
      → Tells (g.W.Wire.carried l.fn.wire) (g.W.Wire.carried l.wire)
      (λ c n. n ≡ sent_more from (take l.i (g.T.Session.letters l.session)) c);
  later : g.W.Wire.faults l.fn.wire ≤ g.W.Wire.faults l.wire;
}
