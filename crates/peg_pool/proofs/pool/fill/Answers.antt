use Rattle.std.proofs.Common.{◌*◌, ◌/◌, ◌%◌, ap, ◌∙◌, arith, length, map, Some}
use Rattle.std.specs.Prelude.{slice_set}
use Rattle.peg_pool.specs.Held.{joined}
use Rattle.peg_pool.proofs.Patches.{joined-patched, place-of, length-patched, whole-set, whole-at}
use Rattle.std.proofs.lemmas.List.{length-map}
use Rattle.peg_pool.proofs.Pools.{block-of, fits-block}
use Rattle.peg_pool.proofs.pool.fill.Goals as goal

pub returns-clause-written : goal.returns-clause-written
returns-clause-written c =
    ap (λ b. joined (slice_set c.args.blocks.now.items (c.args.slot / 64) b)) c.write.ensures
    ∙ joined-patched (64 * c.args.size) c.args.blocks.now.items (c.args.slot / 64)
    (c.args.slot % 64 * c.args.size) (c.args.slot * c.args.size) c.index_mut-block.result.now
    (map Some c.args.bytes.now) c.requires.whole
    (block-of c.args.blocks.now c.args.slot c.requires.slot) c.index_mut-block.ensures.value
    (omega (
      arith,
      length-map c.args.bytes.now Some,
      fits-block c.args.slot c.args.size (length c.args.bytes.now) c.requires.fits,
    ))
    (place-of c.args.slot c.args.size)

pub returns-clause-whole : goal.returns-clause-whole
returns-clause-whole c =
    let long = whole-at (64 * c.args.size) c.args.blocks.now.items (c.args.slot / 64)
    c.index_mut-block.result.now c.requires.whole
    (block-of c.args.blocks.now c.args.slot c.requires.slot) c.index_mut-block.ensures.value in
    whole-set (64 * c.args.size) c.args.blocks.now.items (c.args.slot / 64) c.write.new.self
    c.requires.whole
    (ap length c.write.ensures
    ∙ length-patched c.index_mut-block.result.now (c.args.slot % 64 * c.args.size)
    (map Some c.args.bytes.now)
    (omega (arith, long, length-map c.args.bytes.now Some, fits-block c.args.slot c.args.size (length c.args.bytes.now) c.requires.fits))
    ∙ long)
