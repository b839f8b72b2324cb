use Rattle.std.proofs.Common.{◌+◌, ap, sym, ◌∙◌, arith, map, take, Some}
use Rattle.std.specs.Prelude.{slice_set, slice_index}
use Rattle.std.proofs.lemmas.List.{length-map, length-take-le, map_more}
use Rattle.peg_pool.specs.Block.{patched}
use Rattle.peg_pool.proofs.Patches.{patched-more}
use Rattle.peg_pool.proofs.block.fill.Goals as goal

pub loop-i-preserved : goal.loop-i-preserved
loop-i-preserved c =
    let places = c.args.cells.now.places in
    let bytes = c.args.bytes.now in
    let i = c.loop-i.i in
    let long =
    length-map (take i bytes) Some
    ∙ length-take-le i bytes (omega (arith, c.loop-i-test.true)) in (
      c.put.ensures.0 ∙ c.loop-i.invariant.0,
      c.put.ensures.1
          ∙ ap (λ s. slice_set s (c.args.from + i) (Some (slice_index bytes i))) c.loop-i.invariant.1
          ∙ patched-more places c.args.from (c.args.from + i) (map Some (take i bytes))
          (Some (slice_index bytes i)) (omega (arith, long))
          (omega (arith, c.requires.room, c.loop-i-test.true))
          ∙ ap (patched places c.args.from) (sym (map_more Some bytes i 0 c.loop-i-test.true)),
    )
