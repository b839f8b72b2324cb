use Rattle.std.proofs.Common.{ap, sym, ◌∙◌, map, List}
use Rattle.std.specs.Prelude.{unwrap_or}
use Rattle.peg_model.specs.World.{AppliedFence, origin_of}
use Rattle.peg_ledger.specs.Fenced.{Fenced, fence_seen}
use Rattle.peg_ledger.proofs.Origins.{origin_found}
use Rattle.peg_ledger.proofs.fences.Fences.origin_of.Goals as goal

pub returns-in-Some : goal.returns-in-Some
returns-in-Some c =
    let fences : List AppliedFence = map fence_seen c.self.inside.fences.items in
    let key = c.args.key.now in
    let version = c.args.version in
    ap (λ o. unwrap_or o version)
    (c.in-Some.ensures.value ∙ c.self.invariant key version)
    ∙ sym (origin_found fences key version)
    ∙ ap (λ (f : Fenced). origin_of f.fences key version) c.self.view_is

pub returns-in-None : goal.returns-in-None
returns-in-None c =
    let fences : List AppliedFence = map fence_seen c.self.inside.fences.items in
    let key = c.args.key.now in
    let version = c.args.version in
    ap (λ o. unwrap_or o version)
    (c.in-None.ensures.value ∙ c.self.invariant key version)
    ∙ sym (origin_found fences key version)
    ∙ ap (λ (f : Fenced). origin_of f.fences key version) c.self.view_is
