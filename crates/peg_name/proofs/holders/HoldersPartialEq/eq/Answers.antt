use Rattle.std.proofs.Common.{arith, rules}
use Rattle.peg_name.proofs.SameServers.{sets_same}
use Rattle.peg_name.proofs.holders.HoldersPartialEq.eq.Goals as goal

pub returns : goal.returns
returns c = rw (← c.self.view_is, ← c.other.view_is)
    (sets_same c.self.inside.0 c.other.inside.0 c.self.invariant c.other.invariant)
