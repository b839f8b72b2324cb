-- That a request acts once, in terms of the packets that were sent.
--     Stamped, writes_in packets      a write as it was stamped, and those that were sent to
--         servers
--     ActsOnce packets      a version is of one write, and a request has a further version only
--         after a void of the one before
use Rattle.std.specs.Prelude.{◌≡◌, ◌≢◌, ◌<◌, ℕ, Option, Some, None, List, filter_map, slice_get}
use Rattle.std.specs.Prelude.{IsSomeAnd, Contains}
use Rattle.peg_name.specs.declared.value.Content.{Content}
use Rattle.peg_name.specs.declared.Node.{Node}
use Rattle.peg_model.specs.Packet.{Packet, ToServerWrite, ReadReply, WriteReply, CopyData, Held}
use Rattle.peg_model.specs.Packet.{Void}

-- a write as it was stamped
pub record Stamped : Type 0 where
  pub client : ℕ
  pub seq : ℕ
  pub version : ℕ
  pub key : List ℕ
  pub content : Content

abbrev pub stamped_write : Node × Packet → Option Stamped
stamped_write (to, ToServerWrite client seq version server switch key content) =
    Some (record { client = client; seq = seq; version = version; key = key; content = content })
stamped_write _ = None

-- the writes that were sent to servers
abbrev pub writes_in : List (Node × Packet) → List Stamped
writes_in packets = filter_map stamped_write packets

abbrev pub IsVoidOf : ℕ → ℕ → ℕ → Node × Packet → Type 0
IsVoidOf client seq version (to, Void c q v server switch key) =
    (c ≡ client) × (q ≡ seq) × (v ≡ version)
IsVoidOf client seq version _ = ⊥

-- the version that an answer or a copy carries
abbrev pub carried_version : Node × Packet → Option ℕ
carried_version (to, ReadReply client seq version server switch key content) = Some version
carried_version (to, WriteReply client seq version server switch key) = Some version
carried_version (to, Held server version key) = Some version
carried_version (to, CopyData switch server version key content) = Some version
carried_version _ = None

pub record ActsOnce (packets : List (Node × Packet)) : Type 0 where
  -- two writes of one version are one
  pub one_write :
      (a b : Stamped) → Contains (writes_in packets) a → Contains (writes_in packets) b
      → a.version ≡ b.version → a ≡ b
  -- before a write of one operation with a greater version, a void of the lesser one was sent
  pub voided_first :
      (i j : ℕ) (a b : Stamped)
      → IsSomeAnd (slice_get packets i) (λ item. stamped_write item ≡ Some a)
      → IsSomeAnd (slice_get packets j) (λ item. stamped_write item ≡ Some b) → a.client ≡ b.client
      → a.seq ≡ b.seq → a.version < b.version
      → (k : ℕ) × (k < j) × IsSomeAnd (slice_get packets k) (IsVoidOf a.client a.seq a.version)
  -- and no answer and no copy carries a version of which a void was sent
  pub void_is_dead :
      (client seq version : ℕ) (void item : Node × Packet) → Contains packets void
      → IsVoidOf client seq version void → Contains packets item
      → carried_version item ≢ Some version
