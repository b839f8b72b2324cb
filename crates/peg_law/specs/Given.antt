-- What each version was given to, and which write each pair and each row is of, in a world.
--     WasStamped w client seq version      the operation's write was sent with the version
--     PairIs w key version content      a pair is of the write that its version goes back to
--     IsGiven w version      the version was given to one write or to one promotion
--     RowIs w client row      the row is that of the client's last stamp
--     VersionsAreGiven w      the same of each pair, each version and each row
use Rattle.std.specs.Prelude.{◌≡◌, ◌≤◌, ◌<◌, ◌+◌, ◌==◌, ◌⊎◌, ℕ, List, [], ◌∷◌, Contains}
use Rattle.std.specs.Prelude.{if◌then◌else◌}
use Rattle.peg_name.specs.declared.value.Content.{Content}
use Rattle.peg_name.specs.declared.value.Content.TheVariants.{Absent}
use Rattle.peg_name.specs.declared.Node.{Node}
use Rattle.peg_event.specs.declared.history.Act.TheVariants as act
use Rattle.peg_model.specs.Once.{IsVoidOf}
use Rattle.peg_model.specs.Packet.{Packet, ToServerWrite, ReadReply, CopyData}
use Rattle.peg_model.specs.Rules.{row_of}
use Rattle.peg_model.specs.World.{World, Operation, Promotion, origin_of, switch_of}
use Rattle.peg_law.specs.Below.{next_at}
use Rattle.peg_law.specs.Covered.{version_at, IsCurrent}
use Rattle.peg_law.specs.Fenced.{stored_at}

pub record WasStamped (w : World) (client seq version : ℕ) : Type 0 where
  pub to : Node
  pub server : ℕ
  pub switch : ℕ
  pub key : List ℕ
  pub content : Content
  pub sent :
      Contains w.packets (to, ToServerWrite client seq version server switch key content)

abbrev pub WasVoided : World → ℕ → ℕ → ℕ → Type 0
WasVoided w client seq version =
    (item : Node × Packet) × Contains w.packets item × IsVoidOf client seq version item

-- ---- pairs

-- an operation of the history writes the content to the key, and was stamped with the version
pub record IsWrite (w : World) (version : ℕ) (key : List ℕ) (content : Content) : Type 0 where
  pub operation : Operation
  pub begun : Contains w.operations operation
  pub writes : operation.op.act ≡ act.Write
  pub of_key : operation.op.key ≡ key
  pub of_content : operation.op.content ≡ content
  pub stamped : WasStamped w operation.op.client operation.seq version

-- absent where the version goes back to no write
abbrev pub PairIs : World → List ℕ → ℕ → Content → Type 0
PairIs w key version content =
    ((origin_of w.fences key version ≡ 0) × (content ≡ Absent))
    ⊎ ((1 ≤ origin_of w.fences key version)
    × IsWrite w (origin_of w.fences key version) key content)

-- ---- versions

abbrev pub times_given : ℕ → List Promotion → ℕ
times_given version [] = 0
times_given version (p ∷ promotions) =
    (if p.version == version then 1 else 0) + times_given version promotions

pub record OneWrite (w : World) (version : ℕ) : Type 0 where
  pub client : ℕ
  pub seq : ℕ
  pub was : WasStamped w client seq version
  pub one : (c q : ℕ) → WasStamped w c q version → (c ≡ client) × (q ≡ seq)

-- to one write and no promotion, or to one promotion and no write
abbrev pub IsGiven : World → ℕ → Type 0
IsGiven w version =
    (OneWrite w version × (times_given version w.promotions ≡ 0))
    ⊎ ((times_given version w.promotions ≡ 1)
    × ((client seq : ℕ) → WasStamped w client seq version → ⊥))

-- ---- rows

-- the greatest number that was stamped with its last version, or with 0 where that was voided
pub record LastStamp (w : World) (client : ℕ) (row : ℕ × ℕ) : Type 0 where
  pub last : ℕ
  pub was : WasStamped w client row.0 last
  pub newest : (version : ℕ) → WasStamped w client row.0 version → version ≤ last
  pub greatest : (seq version : ℕ) → WasStamped w client seq version → seq ≤ row.0
  pub version : (row.1 ≡ last) ⊎ ((row.1 ≡ 0) × WasVoided w client row.0 last)

-- (0, 0) where no write of the client was stamped
abbrev pub RowIs : World → ℕ → ℕ × ℕ → Type 0
RowIs w client row =
    ((row.0 ≡ 0) × (row.1 ≡ 0) × ((seq version : ℕ) → WasStamped w client seq version → ⊥))
    ⊎ LastStamp w client row

pub record VersionsAreGiven (w : World) : Type 0 where
  pub holder : ℕ
  pub current : IsCurrent w holder
  pub given :
      (version : ℕ) → w.rack.first ≤ version → version < next_at w holder → IsGiven w version
  pub held :
      (server : ℕ) (key : List ℕ)
      → PairIs w key (version_at w server key) (stored_at w server key).content
  pub answered :
      (to : Node) (client seq version server switch : ℕ) (key : List ℕ) (content : Content)
      → Contains w.packets (to, ReadReply client seq version server switch key content)
      → PairIs w key version content
  pub written :
      (to : Node) (client seq version server switch : ℕ) (key : List ℕ) (content : Content)
      → Contains w.packets (to, ToServerWrite client seq version server switch key content)
      → PairIs w key version content
  pub copied :
      (to : Node) (switch server version : ℕ) (key : List ℕ) (content : Content)
      → Contains w.packets (to, CopyData switch server version key content)
      → PairIs w key version content
  pub rows : (client : ℕ) → RowIs w client (row_of (switch_of w holder).stamps client)
