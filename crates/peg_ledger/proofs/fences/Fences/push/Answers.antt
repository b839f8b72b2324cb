use Rattle.std.proofs.Common.{ap, sym, ◌∙◌, refl, subst, map, List, ◌∷◌, []}
use Rattle.std.proofs.lemmas.List.{map-append}
use Rattle.peg_model.specs.World.{AppliedFence}
use Rattle.peg_ledger.specs.declared.fences.Fence.{Fence}
use Rattle.peg_ledger.specs.Fenced.{AreIndexed, fence_seen}
use Rattle.peg_ledger.proofs.Origins.{indexed_more}
use Rattle.peg_ledger.proofs.fences.Fences.push.Goals as goal

pub invariant_of-self-2 : goal.invariant_of-self-2
invariant_of-self-2 c =
    let fences : List AppliedFence = map fence_seen c.self.inside.fences.items in
    let f : Fence = record {
      key = c.args.key.now;
      version = c.args.version;
      held = c.args.held;
      origin = c.origin_of-origin.result;
    } in
    subst (λ fs. AreIndexed fs c.remember.new.origins.entries)
    (sym (ap (map fence_seen) c.in_ok-extend_from_slice.ensures.items
    ∙ map-append fence_seen c.self.inside.fences.items (f ∷ [])))
    (indexed_more fences c.self.inside.origins.entries c.remember.new.origins.entries (fence_seen f)
    (record { key = c.args.key.now; version = c.args.version }) c.self.invariant
    c.in_ok-remember.ensures.ok refl refl)
