-- What the parts of the reader and of the writer promise one another.
--     Reads bytes format p result      the result is the packet p where the bytes spell it, and
--         none where they do not
--     LastKey, KeyFrom, ContentFrom      a key or a content that stands at a place
--     HeaderAt bytes header version      a header at its places, around a version
use Rattle.std.specs.Prelude.{◌≡◌, ◌≤◌, ◌<◌, ◌+◌, ℕ, true, List, ◌∷◌, ◌++◌, length, take, drop}
use Rattle.std.specs.Prelude.{Option, Some, MatchOption, option_and_then}
use Rattle.std.specs.Borrow.{Bor}
use Rattle.peg_name.specs.declared.Format.{Format}
use Rattle.peg_name.specs.declared.value.Content.{Content}
use Rattle.peg_packet.specs.declared.Packet.{Packet}
use Rattle.peg_packet.specs.declared.What.{What}
use Rattle.peg_packet.specs.declared.Header.{Header}
use Rattle.peg_packet.specs.Seen.{seen, content_seen, what_seen}
use Rattle.peg_model.specs.Packet as model
use Rattle.peg_model.specs.Packet.{in_range, spelling, begin, two, eight, key_bytes, content_bytes}
use Rattle.peg_model.specs.Packet.{what_bytes}
use Rattle.peg_model.specs.Reading.{one_at, two_at, eight_at, key_at, past_key, content_at}
use Rattle.peg_model.specs.Reading.{what_at, outcome_with}

abbrev pub Reads : List ℕ → Format → model.Packet → Option Packet → Type 0
Reads bytes format p result =
    MatchOption result
    (in_range format p ≡ true → bytes ≡ spelling format p → ⊥)
    (λ q. (seen q ≡ p) × (bytes ≡ spelling format p))

-- what a kind's reader promises, in whatever format the bytes begin
abbrev pub ReadsKind : List ℕ → ℕ → model.Packet → Option Packet → Type 0
ReadsKind bytes kind p result =
    (format : Format) → bytes ≡ begin format kind ++ drop 4 bytes → Reads bytes format p result

-- the same for a kind that may be read as nothing
abbrev pub ReadsAny : List ℕ → ℕ → Option model.Packet → Option Packet → Type 0
ReadsAny bytes kind o result =
    (format : Format) → bytes ≡ begin format kind ++ drop 4 bytes
    → MatchOption result
    ((p : model.Packet) → o ≡ Some p → in_range format p ≡ true → bytes ≡ spelling format p → ⊥)
    (λ q. (o ≡ Some (seen q)) × (bytes ≡ spelling format (seen q)))

-- a key at a place, and the place behind it
pub record IsKeyFrom (bytes : List ℕ) (at : ℕ) (key : List ℕ) (next : ℕ) : Type 0 where
  pub key_is : key ≡ key_at bytes at
  pub next_is : next ≡ past_key bytes at
  pub fits : next ≤ length bytes
  pub whole : drop at bytes ≡ key_bytes (key_at bytes at) ++ drop next bytes

abbrev pub KeyFrom : List ℕ → ℕ → Option (Bor (List ℕ) × ℕ) → Type 0
KeyFrom bytes at result =
    MatchOption result
    ((tail : List ℕ) → drop at bytes ≡ key_bytes (key_at bytes at) ++ tail → ⊥)
    (λ r. IsKeyFrom bytes at r.0.now r.1)

-- a key at a place, and nothing behind it
pub record IsLastKey (bytes : List ℕ) (at : ℕ) (key : List ℕ) : Type 0 where
  pub key_is : key ≡ key_at bytes at
  pub fits : at < length bytes
  pub whole : drop at bytes ≡ key_bytes (key_at bytes at)

abbrev pub LastKey : List ℕ → ℕ → Option (Bor (List ℕ)) → Type 0
LastKey bytes at result =
    MatchOption result
    (drop at bytes ≡ key_bytes (key_at bytes at) → ⊥)
    (λ key. IsLastKey bytes at key.now)

-- bytes behind their length
abbrev pub value_at : List ℕ → ℕ → List ℕ
value_at bytes at = take (two_at bytes at) (drop (at + 2) bytes)

pub record IsLastValue (bytes : List ℕ) (at : ℕ) (value : List ℕ) : Type 0 where
  pub value_is : value ≡ value_at bytes at
  pub fits : at + 2 ≤ length bytes
  pub whole : drop at bytes ≡ two (length (value_at bytes at)) ++ value_at bytes at

abbrev pub LastValue : List ℕ → ℕ → Option (Bor (List ℕ)) → Type 0
LastValue bytes at result =
    MatchOption result
    (drop at bytes ≡ two (length (value_at bytes at)) ++ value_at bytes at → ⊥)
    (λ value. IsLastValue bytes at value.now)

pub record IsLastContent (bytes : List ℕ) (at : ℕ) (content : Content) : Type 0 where
  pub content_is : content ≡ content_at bytes at
  pub whole : drop at bytes ≡ content_bytes (content_at bytes at)

abbrev pub LastContent : List ℕ → ℕ → Option (Option (Bor (List ℕ))) → Type 0
LastContent bytes at result =
    MatchOption result
    (drop at bytes ≡ content_bytes (content_at bytes at) → ⊥)
    (λ content. IsLastContent bytes at (content_seen content))

-- a key and then a content, and nothing behind them
pub record IsLastPair (bytes : List ℕ) (at : ℕ) (key : List ℕ) (content : Content) : Type 0 where
  pub key_is : key ≡ key_at bytes at
  pub content_is : content ≡ content_at bytes (past_key bytes at)
  pub fits : at < length bytes
  pub whole :
      drop at bytes
      ≡ key_bytes (key_at bytes at) ++ content_bytes (content_at bytes (past_key bytes at))

abbrev pub LastPair : List ℕ → ℕ → Option (Bor (List ℕ) × Option (Bor (List ℕ))) → Type 0
LastPair bytes at result =
    MatchOption result
    (drop at bytes
    ≡ key_bytes (key_at bytes at) ++ content_bytes (content_at bytes (past_key bytes at))
    → ⊥)
    (λ r. IsLastPair bytes at r.0.now (content_seen r.1))

pub record HeaderAt (bytes : List ℕ) (header : Header) (version : ℕ) : Type 0 where
  pub client : header.client ≡ two_at bytes 4
  pub seq : header.seq ≡ eight_at bytes 6
  pub version_is : version ≡ eight_at bytes 14
  pub server : header.server ≡ one_at bytes 22
  pub switch : header.switch ≡ one_at bytes 23
  pub whole :
      drop 4 bytes
      ≡ two (two_at bytes 4)
      ++ (eight (eight_at bytes 6)
      ++ (eight (eight_at bytes 14)
      ++ (one_at bytes 22 ∷ one_at bytes 23 ∷ drop 24 bytes)))

-- ---- the kinds that may be read as nothing

abbrev pub command_at : List ℕ → Option model.Packet
command_at bytes =
    option_and_then (λ what. Some (model.Command (eight_at bytes 4) what)) (what_at bytes 12)

abbrev pub acknowledged_at : List ℕ → Option model.Packet
acknowledged_at bytes =
    option_and_then (λ outcome. Some (model.CommandAck (eight_at bytes 4) outcome))
    (outcome_with (one_at bytes 12) (eight_at bytes 13))

pub record IsWhatFrom (bytes : List ℕ) (w : model.What) : Type 0 where
  pub read : what_at bytes 12 ≡ Some w
  pub fits : 13 ≤ length bytes
  pub whole : drop 12 bytes ≡ what_bytes w

abbrev pub WhatFrom : List ℕ → Option What → Type 0
WhatFrom bytes result =
    MatchOption result
    ((w : model.What) → what_at bytes 12 ≡ Some w → drop 12 bytes ≡ what_bytes w → ⊥)
    (λ w. IsWhatFrom bytes (what_seen w))
