use Rattle.std.proofs.Common.{◌≡◌, ◌≤◌, ap, sym, subst, arith, length}
use Rattle.peg_name.specs.Name.{Rack}
use Rattle.peg_rack.specs.declared.rig.Rig.{Rig}
use Rattle.peg_rack.specs.Racking.{AreIn, takes_of}
use Rattle.peg_rack.proofs.rig.Rig.begin.Goals as goal

pub returns-clause-tied : goal.returns-clause-tied
returns-clause-tied c =
    λ goes.
    let t = c.counts.ensures.tied in
    let now = c.counts.ensures.lines c.if-not-counts.false in
    let room = c.counts.ensures.room c.if-not-counts.false in
    let config = sym (ap (λ (g : Rig). g.config) now) in
    let few = subst (λ (rack : Rack). length (takes_of rack c.args.takes) ≤ 1093) config
    c.requires.few in
    record {
      low = t.low;
      is_rack = t.is_rack;
      goes_on = t.goes_on;
      behind = t.behind;
      few = t.few;
      bounded = omega (arith, room, few);
      counted = t.counted;
      index = t.index;
      known = t.known;
      actor = t.actor;
      sent = t.sent;
      in_rack = subst (λ (rack : Rack). AreIn rack c.args.takes) config c.requires.in_rack;
    }
