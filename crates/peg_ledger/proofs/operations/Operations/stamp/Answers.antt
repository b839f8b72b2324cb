use Rattle.std.proofs.Common.{◌∙◌, sym, ap}
use Rattle.peg_model.specs.World.{changed_at, stamped_as}
use Rattle.peg_ledger.specs.Kept.{Kept}
use Rattle.peg_ledger.proofs.Keeping.{answered_stays}
use Rattle.peg_ledger.proofs.operations.Operations.stamp.Goals as goal

-- src/operations.rt:124:5
pub returns-else-is_none : goal.returns-else-is_none
returns-else-is_none c =
    let inside = c.self.inside in
    let seen = ap (λ (k : Kept). k.operations) c.self.view_is in
    let stays = answered_stays inside.history.ops inside.names.keys inside.tags.items
    c.in-Some.index c.args.client c.args.seq c.op.result c.args.version c.self.invariant
    (sym c.in-Some.ensures.index) c.op.ensures c.if-is_none.ensures in
    sym seen ∙ stays
    ∙ ap (changed_at c.args.client c.args.seq (stamped_as c.args.version)) seen
