-- What the home of a key keeps of its fences, in a world.
--     fences_of key fences      the applied fences of the key, the newest first
--     KeepsLast fences was      what is kept is of the last two of them
--     KeysAreGuarded w      the same at the home of each key, and where its sent fences lie
use Rattle.std.specs.Prelude.{◌≡◌, ℕ, List, [], ◌∷◌, filter, reverse, Contains}
use Rattle.std.specs.Str.{bytes_eq}
use Rattle.peg_name.specs.declared.Node.{Node}
use Rattle.peg_event.specs.declared.answers.Stored.{Stored}
use Rattle.peg_model.specs.Packet.{Fence}
use Rattle.peg_model.specs.World.{World, AppliedFence}
use Rattle.peg_law.specs.Covered.{home_at}
use Rattle.peg_law.specs.Fenced.{stored_at, Between}

abbrev pub fences_of : List ℕ → List AppliedFence → List AppliedFence
fences_of key fences = filter (λ f. bytes_eq f.key key) (reverse fences)

abbrev pub last_version : List AppliedFence → ℕ
last_version [] = 0
last_version (f ∷ fences) = f.version

-- the floor is the last one's version, low is what was held before it, and old is the version of
-- the one before, each 0 where there was none
abbrev pub KeepsLast : List AppliedFence → Stored → Type 0
KeepsLast [] was = (was.floor ≡ 0) × (was.low ≡ 0) × (was.old ≡ 0)
KeepsLast (f ∷ fences) was =
    (was.floor ≡ f.version) × (was.low ≡ f.held) × (was.old ≡ last_version fences)

pub record KeyIsGuarded (w : World) (key : List ℕ) : Type 0 where
  pub kept : KeepsLast (fences_of key w.fences) (stored_at w (home_at w key) key)
  -- no fence that was sent has a version that an applied one passed over
  pub sent :
      (to : Node) (switch server version : ℕ)
      → Contains w.packets (to, Fence switch server version key)
      → (f : AppliedFence) → Contains w.fences f → f.key ≡ key → Between f version → ⊥

abbrev pub KeysAreGuarded : World → Type 0
KeysAreGuarded w = (key : List ℕ) → KeyIsGuarded w key
