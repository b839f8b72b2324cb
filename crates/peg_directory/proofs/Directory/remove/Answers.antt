use Rattle.std.proofs.Common.{length, ap, ◌∙◌, arith}
use Rattle.indexmap.specs.IndexMap.{spare}
use Rattle.peg_directory.proofs.Kept.{after_remove}
use Rattle.peg_directory.proofs.Directory.remove.Goals as goal

pub invariant_of-self : goal.invariant_of-self
invariant_of-self c =
    let inv = c.self.invariant in
    let m = c.move_others.ensures in
    let x = c.swap.ensures.x_after in
    let y = c.swap.ensures.y_after in (
      after_remove c.self.inside.config c.args.key.now c.self.inside.entries.entries
          _ inv.0 (ap (λ t. t.entries) x ∙ m.moved),
      omega (arith, ap spare x, ap (λ t. length t.entries) x, m.room, inv.3),
      ap (λ t. t.entries) y ∙ m.emptied,
      omega (arith, ap spare y, m.room_from, inv.1),
    )
