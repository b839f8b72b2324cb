-- What the fences of a key leave, in a world.
--     Between f u      a version that the fence passed over
--     KeyIsFenced w key entry      what holds of the fences of a key, listed or not
--     KeysAreFenced w      the same of each key, of the current directory
use Rattle.std.specs.Prelude.{◌≡◌, ◌≢◌, ◌≤◌, ◌<◌, ◌⊎◌, ℕ, List, Option, Some, None, Contains}
use Rattle.peg_name.specs.declared.value.Content.{Content}
use Rattle.peg_name.specs.declared.Node.{Node}
use Rattle.peg_name.specs.declared.Node.TheVariants as node
use Rattle.peg_event.specs.declared.answers.Listing.{Listing}
use Rattle.peg_event.specs.declared.answers.Stored.{Stored}
use Rattle.peg_model.specs.Packet.{Packet, ToServerWrite, CopyData, Fence, Void}
use Rattle.peg_model.specs.Rules.{entry_of}
use Rattle.peg_model.specs.Server.{held}
use Rattle.peg_model.specs.World.{World, AppliedFence, server_of, switch_of}
use Rattle.peg_law.specs.Covered.{version_at, home_at, Report, report_in, IsCurrent}

abbrev pub stored_at : World → ℕ → List ℕ → Stored
stored_at w server key = held (server_of w server).store key

abbrev pub Between : AppliedFence → ℕ → Type 0
Between f u = (f.held < u) × (u < f.version)

-- no version that the fence passed over is held, written elsewhere, copied or reported
pub record NothingBetween (w : World) (key : List ℕ) (f : AppliedFence) : Type 0 where
  pub held : (s : ℕ) → Between f (version_at w s key) → ⊥
  pub write :
      (s client seq u named switch : ℕ) (content : Content) → s ≢ home_at w key
      → Contains w.packets (node.Server s, ToServerWrite client seq u named switch key content)
      → Between f u → ⊥
  pub copy :
      (to : Node) (switch server u : ℕ) (content : Content)
      → Contains w.packets (to, CopyData switch server u key content) → Between f u → ⊥
  pub reported :
      (r : Report) (item : Node × Packet) → Contains w.packets item → report_in item ≡ Some r
      → r.key ≡ key → Between f r.version → ⊥

abbrev pub HasBase : Option Listing → ℕ → Type 0
HasBase None f = ⊥
HasBase (Some entry) f = entry.base ≡ f

abbrev pub AtMostBase : Option Listing → ℕ → Type 0
AtMostBase None f = Unit {0}
AtMostBase (Some entry) f = f ≤ entry.base

pub record KeyIsFenced (w : World) (key : List ℕ) (entry : Option Listing) : Type 0 where
  -- the home has the version of each fence that was sent, or it is the base of the listed key
  pub sent :
      (to : Node) (switch server f : ℕ) → Contains w.packets (to, Fence switch server f key)
      → (f ≤ version_at w (home_at w key) key) ⊎ HasBase entry f
  pub most :
      (to : Node) (switch server f : ℕ) → Contains w.packets (to, Fence switch server f key)
      → AtMostBase entry f
  pub ordered : (stored_at w (home_at w key) key).old ≤ (stored_at w (home_at w key) key).low
  pub floor : (stored_at w (home_at w key) key).floor ≤ version_at w (home_at w key) key
  -- no other server keeps anything of a fence
  pub others :
      (s : ℕ) → s ≢ home_at w key
      → ((stored_at w s key).low ≡ 0) × ((stored_at w s key).floor ≡ 0)
      × ((stored_at w s key).old ≡ 0)
  pub applied :
      (f : AppliedFence) → Contains w.fences f → f.key ≡ key → NothingBetween w key f
  -- a version that was voided is one that a fence passed over
  pub voided :
      (to : Node) (client seq u server switch : ℕ)
      → Contains w.packets (to, Void client seq u server switch key)
      → (f : AppliedFence) × Contains w.fences f × (f.key ≡ key) × Between f u

pub record KeysAreFenced (w : World) : Type 0 where
  pub holder : ℕ
  pub current : IsCurrent w holder
  pub keys : (key : List ℕ) → KeyIsFenced w key (entry_of (switch_of w holder).entries key)
  -- a version that was voided is held nowhere
  pub voided :
      (to : Node) (client seq u server switch : ℕ) (key : List ℕ)
      → Contains w.packets (to, Void client seq u server switch key)
      → (s : ℕ) (other : List ℕ) → version_at w s other ≢ u
