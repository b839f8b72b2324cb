-- A block of places.
--     patched xs from ys      the list with ys in place of as many items from a place on
--     IsBlock block      it owns the memory that it points to, and the right to give it back
use Rattle.std.specs.Prelude.{ℕ, ◌≡◌, List, ◌++◌, length, take, drop}
use Rattle.peg_pool.specs.declared.block.Block.TheInside.{Inside}

abbrev pub patched : {X : Type 0} → List X → ℕ → List X → List X
patched xs from ys = take from xs ++ (ys ++ drop (length ys) (drop from xs))

pub record IsBlock (block : Inside) : Type 0 where
  pub owned : block.cells.at ≡ block.base.ptr
  pub size : length block.cells.places ≡ block.size
  pub returned : block.deed.at ≡ block.base.ptr
  pub whole : block.deed.len ≡ block.size
  pub lender : block.deed.alloc ≡ block.alloc
