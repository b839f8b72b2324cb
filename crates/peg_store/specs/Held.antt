-- The keys of a store.
--     IsHeld store key      something is kept of the key
use Rattle.std.specs.Prelude.{ℕ, List, IsSome}
use Rattle.std.specs.Map.{lookup}
use Rattle.std.specs.BTreeMap.{is_at}
use Rattle.peg_name.specs.Name.{key_cmp}
use Rattle.peg_model.specs.Server.{Store}

abbrev pub IsHeld : Store → List ℕ → Type 0
IsHeld store key = IsSome (lookup (is_at (key_cmp key)) store)
