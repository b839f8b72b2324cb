-- The fences and promotions of a run as they are kept.
--     Fenced, Promoted      the fences or promotions, and for how many more there is memory
--     fence_seen, promotion_seen      one of them, as the book has it
--     found_origin fences key version      the origin of the first fence of that version
--     AreIndexed fences origins      each fence's origin is found by its key and its version
--     Remembers old new name origin      the origin is found by the name, unless it had one before
use Rattle.std.specs.Prelude.{◌≡◌, ℕ, Bool, ◌&&◌, ◌==◌, Option, Some, None, List, [], ◌∷◌}
use Rattle.std.specs.Prelude.{if◌then◌else◌}
use Rattle.std.specs.Map.{lookup}
use Rattle.std.specs.Str.{bytes_eq}
use Rattle.peg_model.specs.World.{AppliedFence, Promotion}
use Rattle.peg_ledger.specs.declared.fences.Fence.{Fence}
use Rattle.peg_ledger.specs.declared.fences.FenceName.{FenceName}
use Rattle.peg_ledger.specs.declared.promotions.Given.{Given}

pub record Fenced : Type 0 where
  pub fences : List AppliedFence
  pub spare : ℕ

pub record Promoted : Type 0 where
  pub promotions : List Promotion
  pub spare : ℕ

abbrev pub fence_seen : Fence → AppliedFence
fence_seen f =
    record { key = f.key; version = f.version; held = f.held; origin = f.origin }

abbrev pub promotion_seen : Given → Promotion
promotion_seen g = record { key = g.key; version = g.version }

abbrev pub found_origin : List AppliedFence → List ℕ → ℕ → Option ℕ
found_origin [] key version = None
found_origin (f ∷ fences) key version =
    if bytes_eq f.key key && f.version == version then Some f.origin
    else found_origin fences key version

-- whether a name is of this fence
abbrev pub is_fence : List ℕ → ℕ → FenceName → Bool
is_fence key version name = bytes_eq key name.key && version == name.version

abbrev pub AreIndexed : List AppliedFence → List (FenceName × ℕ) → Type 0
AreIndexed fences origins =
    (key : List ℕ) (version : ℕ)
    → lookup (is_fence key version) origins ≡ found_origin fences key version

abbrev pub first_of : Option ℕ → Option ℕ → Option ℕ
first_of None other = other
first_of (Some x) other = Some x

abbrev pub Remembers :
    List (FenceName × ℕ) → List (FenceName × ℕ) → FenceName → ℕ → Type 0
Remembers old new name origin =
    (key : List ℕ) (version : ℕ)
    → lookup (is_fence key version) new
    ≡ first_of (lookup (is_fence key version) old)
    (if is_fence key version name then Some origin else None)
