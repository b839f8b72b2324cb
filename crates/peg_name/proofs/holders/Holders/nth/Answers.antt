use Rattle.std.proofs.Common.{ℕ, ◌+◌, ◌/◌, List, arith, sym, subst}
use Rattle.peg_name.proofs.Servers.{Walks, walk_starts, walk_finds, walk_passes, walk_skips}
use Rattle.peg_name.proofs.Servers.{walk_ends}
use Rattle.peg_name.proofs.holders.Holders.nth.Goals as goal
use Rattle.peg_name.proofs.holders.Holders.nth.Goals.{then-bits-eq1+else-before-eq0, else-bits-eq1}

pub loop-server-init : goal.loop-server-init
loop-server-init c =
    let P : List ℕ → Type 0 =
    λ servers. Walks servers c.args.place 0 c.self.inside.0 c.args.place in
    subst P c.self.view_is (walk_starts c.self.inside.0 c.args.place)

pub returns-then-before-eq0 : goal.returns-then-before-eq0
returns-then-before-eq0 c =
    walk_finds c.args.self.now c.args.place c.loop-server.server c.loop-server.bits
    c.loop-server.before c.loop-server.invariant c.loop-server-test.true c.if-bits-eq1.true
    c.if-before-eq0.true

pub loop-server-preserved : goal.loop-server-preserved
loop-server-preserved c =
    let P : ℕ → Type 0 =
    λ before. Walks c.args.self.now c.args.place (c.loop-server.server + 1)
    (c.loop-server.bits / 2) before in
    elim c.if-bits-eq1.branch [
      | then-bits-eq1+else-before-eq0 w ↦ subst P (sym w.before-is)
          (walk_passes c.args.self.now c.args.place c.loop-server.server c.loop-server.bits
          c.loop-server.before c.loop-server.invariant c.loop-server-test.true
          w.if-bits-eq1.true w.if-before-eq0.false)
      | else-bits-eq1 w ↦ subst P (sym w.before-is)
          (walk_skips c.args.self.now c.args.place c.loop-server.server c.loop-server.bits
          c.loop-server.before c.loop-server.invariant c.loop-server-test.true
          w.if-bits-eq1.false)
    ]

pub returns : goal.returns
returns c =
    absurd (walk_ends c.args.self.now c.args.place c.loop-server.server c.loop-server.bits
    c.loop-server.before c.loop-server.invariant c.requires (omega arith))
