-- The packet that bytes spell, as a function. Each kind is read at its places, and what is read is
-- the packet where it is spelled back.
--     packet_of bytes      Some (format, p) exactly where Spells bytes format p
--     is_format a b      whether two formats are one
--     outcome_with number value      the outcome of this number with its value
use Rattle.std.specs.Prelude.{◌+◌, ◌-◌, ℕ, zero, suc, Bool, true, false, ◌&&◌, ◌==◌, Option, Some}
use Rattle.std.specs.Prelude.{None, List, [], ◌∷◌, take, drop, slice_index, slice_get}
use Rattle.std.specs.Prelude.{option_and_then, if◌then◌else◌}
use Rattle.std.specs.Str.{bytes_eq}
use Rattle.std.specs.Int.{w16, w64, from_be_bytes}
use Rattle.peg_name.specs.Limits.{format_of}
use Rattle.peg_name.specs.declared.Format.{Format}
use Rattle.peg_name.specs.declared.Format.TheVariants.{One, Two}
use Rattle.peg_name.specs.declared.value.Content.{Content}
use Rattle.peg_name.specs.declared.value.Content.TheVariants.{Absent, Present}
use Rattle.peg_name.specs.declared.Row.{Row}
use Rattle.peg_event.specs.declared.Outcome.{Outcome}
use Rattle.peg_event.specs.declared.Outcome.TheVariants as outcome
use Rattle.peg_model.specs.Packet.{What, Promote, Demote, Copy, Seal, Clear, FenceKey, Packet}
use Rattle.peg_model.specs.Packet.{Read, Write, ToServerRead, ToServerWrite, ReadReply, WriteReply}
use Rattle.peg_model.specs.Packet.{Command, CommandAck, CopyOrder, CopyData, Held, Part, Announce}
use Rattle.peg_model.specs.Packet.{Survey, Report, Fence, Void, in_range, spelling}

abbrev pub is_format : Format → Format → Bool
is_format One One = true
is_format Two Two = true
is_format _ _ = false

-- the outcome of this number with its value
abbrev pub outcome_with : ℕ → ℕ → Option Outcome
outcome_with number value =
    slice_get (
    outcome.Listed value
    ∷ outcome.Already value
    ∷ outcome.Full value
    ∷ outcome.Marked value
    ∷ outcome.NotListed
    ∷ outcome.AlreadyMarked value
    ∷ outcome.Ordered value
    ∷ outcome.Holds
    ∷ outcome.Activated value
    ∷ outcome.Cleared
    ∷ outcome.Fenced value
    ∷ outcome.NoBase
    ∷ outcome.NoVersion value
    ∷ []
    ) (number - 1)

-- ---- what stands at a place

module _ (bytes : List ℕ) where
  abbrev pub one_at : ℕ → ℕ
  one_at i = slice_index bytes i

  abbrev pub two_at : ℕ → ℕ
  two_at i = from_be_bytes w16 (drop i bytes)

  abbrev pub eight_at : ℕ → ℕ
  eight_at i = from_be_bytes w64 (drop i bytes)

  abbrev pub key_at : ℕ → List ℕ
  key_at i = take (one_at i) (drop (i + 1) bytes)

  -- the place after the key at i
  abbrev pub past_key : ℕ → ℕ
  past_key i = i + 1 + one_at i

  abbrev pub content_at : ℕ → Content
  content_at i =
      if one_at i == 0 then Absent else Present (take (two_at (i + 1)) (drop (i + 3) bytes))

  abbrev pub rows_at : ℕ → ℕ → List Row
  rows_at zero i = []
  rows_at (suc n) i =
      record {
        key = key_at i;
        count = eight_at (past_key i);
        error = eight_at (past_key i + 8);
      } ∷ rows_at n (past_key i + 16)

  abbrev pub what_at : ℕ → Option What
  what_at i =
      slice_get (
      Promote (key_at (i + 1))
      ∷ Demote (key_at (i + 1))
      ∷ Copy (one_at (i + 1)) (key_at (i + 2))
      ∷ Seal (one_at (i + 1)) (eight_at (i + 2))
      ∷ Clear
      ∷ FenceKey (key_at (i + 1))
      ∷ []
      ) (one_at i - 1)

  -- what each kind would be
  abbrev pub candidates : List (Option Packet)
  candidates =
      Some (Read (two_at 4) (eight_at 6) (key_at 24))
      ∷ Some (Write (two_at 4) (eight_at 6) (key_at 24) (content_at (past_key 24)))
      ∷ Some (ToServerRead (two_at 4) (eight_at 6) (one_at 22) (one_at 23) (key_at 24))
      ∷ Some (ToServerWrite (two_at 4) (eight_at 6) (eight_at 14) (one_at 22) (one_at 23)
      (key_at 24) (content_at (past_key 24)))
      ∷ Some (ReadReply (two_at 4) (eight_at 6) (eight_at 14) (one_at 22) (one_at 23)
      (key_at 24) (content_at (past_key 24)))
      ∷ Some (WriteReply (two_at 4) (eight_at 6) (eight_at 14) (one_at 22) (one_at 23) (key_at 24))
      ∷ option_and_then (λ what. Some (Command (eight_at 4) what)) (what_at 12)
      ∷ option_and_then (λ outcome. Some (CommandAck (eight_at 4) outcome))
      (outcome_with (one_at 12) (eight_at 13))
      ∷ Some (CopyOrder (one_at 4) (one_at 5) (one_at 6) (key_at 7))
      ∷ Some (CopyData (one_at 4) (one_at 5) (eight_at 6) (key_at 14) (content_at (past_key 14)))
      ∷ Some (Held (one_at 4) (eight_at 5) (key_at 13))
      ∷ Some (Part (eight_at 4) (one_at 12) (one_at 13) (take (two_at 14) (drop 16 bytes)))
      ∷ Some (Announce (eight_at 4) (one_at 12))
      ∷ Some Survey
      ∷ Some (Report (eight_at 4) (eight_at 12) (rows_at (one_at 20) 21))
      ∷ Some (Fence (one_at 4) (one_at 5) (eight_at 6) (key_at 14))
      ∷ Some (Void (two_at 4) (eight_at 6) (eight_at 14) (one_at 22) (one_at 23) (key_at 24))
      ∷ []

  abbrev pub candidate : Option Packet
  candidate = option_and_then (λ packet. packet) (slice_get candidates (one_at 3 - 1))

  abbrev pub if_spelled : Option Format → Option Packet → Option (Format × Packet)
  if_spelled (Some format) (Some packet) =
      if in_range format packet && bytes_eq bytes (spelling format packet)
      then Some (format, packet) else None
  if_spelled _ _ = None

  -- the format and the packet that the whole bytes spell
  unfoldable pub packet_of : Option (Format × Packet)
  packet_of = if_spelled (format_of (one_at 2)) candidate
