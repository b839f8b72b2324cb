-- Where the versions of a key may be, and what the current directory covers.
--     ReportsAreHeld w      a server has each version that it reported
--     IsCurrent w holder      the switch that holds the current state
--     KeyIsCovered w key entry      what holds of a key, listed or not
--     KeysAreCovered w      the same of each key, of the current directory
use Rattle.std.specs.Prelude.{◌≡◌, ◌≢◌, ◌≤◌, ◌<◌, ◌⊎◌, ℕ, List, [], ◌∷◌, Option, Some, None}
use Rattle.std.specs.Prelude.{max, if◌then◌else◌, Contains}
use Rattle.std.specs.Str.{bytes_eq}
use Rattle.peg_name.specs.Name.{home_of}
use Rattle.peg_name.specs.declared.value.Content.{Content}
use Rattle.peg_name.specs.declared.Node.{Node}
use Rattle.peg_name.specs.declared.Node.TheVariants as node
use Rattle.peg_event.specs.declared.answers.Listing.{Listing}
use Rattle.peg_model.specs.Packet.{Packet, ToServerWrite, ReadReply, WriteReply, CopyData, Held}
use Rattle.peg_model.specs.Rules.{entry_of}
use Rattle.peg_model.specs.Server.{held}
use Rattle.peg_model.specs.Switch.{Mode, Idle, Active, Sealed}
use Rattle.peg_model.specs.World.{World, server_of, switch_of}

abbrev pub version_at : World → ℕ → List ℕ → ℕ
version_at w server key = (held (server_of w server).store key).version

abbrev pub home_at : World → List ℕ → ℕ
home_at w key = home_of w.rack.servers key

-- ---- reports

pub record Report : Type 0 where
  pub server : ℕ
  pub key : List ℕ
  pub version : ℕ

-- that the server has the version of the key
abbrev pub report_in : Node × Packet → Option Report
report_in (to, ReadReply client seq version server switch key content) =
    Some (record { server = server; key = key; version = version })
report_in (to, WriteReply client seq version server switch key) =
    Some (record { server = server; key = key; version = version })
report_in (to, Held server version key) =
    Some (record { server = server; key = key; version = version })
report_in _ = None

abbrev pub ReportsAreHeld : World → Type 0
ReportsAreHeld w =
    (r : Report) (item : Node × Packet) → Contains w.packets item → report_in item ≡ Some r
    → r.version ≤ version_at w r.server r.key

-- ---- what was answered, and what is elsewhere than at home

-- the version of the key in an answer to a client
abbrev pub answer_in : List ℕ → Node × Packet → ℕ
answer_in key (node.Client c, ReadReply client seq version server switch other content) =
    if bytes_eq other key then version else 0
answer_in key (node.Client c, WriteReply client seq version server switch other) =
    if bytes_eq other key then version else 0
answer_in key _ = 0

-- the greatest one
abbrev pub answered : List ℕ → List (Node × Packet) → ℕ
answered key [] = 0
answered key (item ∷ packets) = max (answer_in key item) (answered key packets)

-- a version that the home of the key may lack
pub data Elsewhere (w : World) (key : List ℕ) (version : ℕ) : Type 0 where
  IsHeld :
      (server : ℕ) → server ≢ home_at w key → version_at w server key ≡ version
      → Elsewhere w key version
  IsSent :
      (server client seq named switch : ℕ) (content : Content) → server ≢ home_at w key
      → Contains w.packets
      (node.Server server, ToServerWrite client seq version named switch key content)
      → Elsewhere w key version
  IsCopied :
      (to : Node) (switch server : ℕ) (content : Content)
      → Contains w.packets (to, CopyData switch server version key content)
      → Elsewhere w key version

-- ---- keys

-- nothing of an unlisted key is newer than what its home has
pub record UnlistedKey (w : World) (key : List ℕ) : Type 0 where
  pub elsewhere : (u : ℕ) → Elsewhere w key u → u ≤ version_at w (home_at w key) key
  pub answered : answered key w.packets ≤ version_at w (home_at w key) key

-- nothing was reported since the key was listed
pub record AtHome (w : World) (key : List ℕ) (entry : Listing) : Type 0 where
  pub completed : entry.completed ≡ entry.base
  pub holders : entry.holders ≡ home_at w key ∷ []
  pub answered : answered key w.packets ≤ version_at w (home_at w key) key

-- what is newer than what its home has is below the mark
pub record IsMarked (w : World) (key : List ℕ) (base mark : ℕ) : Type 0 where
  pub above : base < mark
  pub elsewhere :
      (u : ℕ) → Elsewhere w key u → (u < mark) ⊎ (u ≤ version_at w (home_at w key) key)
  pub answered :
      (answered key w.packets < mark)
      ⊎ (answered key w.packets ≤ version_at w (home_at w key) key)
  -- and no other server was sent a write that isn't
  pub written :
      (server client seq version named switch : ℕ) (content : Content) → server ≢ home_at w key
      → Contains w.packets
      (node.Server server, ToServerWrite client seq version named switch key content)
      → version < mark

abbrev pub HasMark : World → List ℕ → ℕ → Option ℕ → Type 0
HasMark w key base None = Unit {0}
HasMark w key base (Some mark) = IsMarked w key base mark

-- each answer is completed, each holder has what is completed, and what is newer than what its home
-- has is above the base
pub record ListedKey (w : World) (key : List ℕ) (entry : Listing) : Type 0 where
  pub base : entry.base ≤ entry.completed
  pub answered : answered key w.packets ≤ entry.completed
  pub elsewhere :
      (u : ℕ) → Elsewhere w key u
      → (entry.base < u) ⊎ (u ≤ version_at w (home_at w key) key)
  -- so is what another server reported
  pub reported :
      (r : Report) (item : Node × Packet) → Contains w.packets item → report_in item ≡ Some r
      → r.key ≡ key → r.server ≢ home_at w key
      → (entry.base < r.version) ⊎ (r.version ≤ version_at w (home_at w key) key)
  pub holders :
      ((s : ℕ) → Contains entry.holders s → entry.completed ≤ version_at w s key)
      ⊎ AtHome w key entry
  pub mark : HasMark w key entry.base entry.mark

abbrev pub KeyIsCovered : World → List ℕ → Option Listing → Type 0
KeyIsCovered w key None = UnlistedKey w key
KeyIsCovered w key (Some entry) = ListedKey w key entry

-- ---- the current state

abbrev pub IsHolding : Mode → Type 0
IsHolding Idle = ⊥
IsHolding Active = Unit {0}
IsHolding (Sealed target) = Unit {0}

-- the active switch, or where none is active the last one that was sealed
pub record IsCurrent (w : World) (holder : ℕ) : Type 0 where
  pub holds : IsHolding (switch_of w holder).mode
  pub active : (b : ℕ) → (switch_of w b).mode ≡ Active → b ≡ holder
  pub others : (b : ℕ) → b ≢ holder → (switch_of w b).epoch < (switch_of w holder).epoch

pub record KeysAreCovered (w : World) : Type 0 where
  pub holder : ℕ
  pub current : IsCurrent w holder
  pub keys : (key : List ℕ) → KeyIsCovered w key (entry_of (switch_of w holder).entries key)
