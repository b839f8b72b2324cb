-- Packets, the numbers that they may have, and the one spelling of each.
--     Packet      a packet with its key, content and rows, and no bytes
--     What      what a command says
--     in_range format p      whether its numbers and lengths are those that a packet of the format
--         may have
--     spelling format p      its bytes
--     Spells bytes format p      the whole bytes are the packet: the grammar
use Rattle.std.specs.Prelude.{◌≡◌, ◌^◌, ◌+◌, ℕ, Bool, true, false, not, ◌&&◌, ◌==◌, nat_lt, nat_le}
use Rattle.std.specs.Prelude.{IsTrue, List, [], ◌∷◌, ◌++◌, length, map, flat_map, if◌then◌else◌}
use Rattle.std.specs.List.{list_all}
use Rattle.std.specs.Int.{w16, w64, to_be_bytes}
use Rattle.peg_name.specs.Name.{servers_most, clients_most, value_most, parts_most}
use Rattle.peg_name.specs.Limits.{is_between}
use Rattle.peg_name.specs.declared.Format.{Format}
use Rattle.peg_name.specs.declared.Format.TheVariants.{One, Two}
use Rattle.peg_name.specs.declared.value.Content.{Content}
use Rattle.peg_name.specs.declared.value.Content.TheVariants.{Absent, Present}
use Rattle.peg_name.specs.declared.Row.{Row}
use Rattle.peg_event.specs.declared.Outcome.{Outcome}
use Rattle.peg_event.specs.declared.Outcome.TheVariants as outcome
use Rattle.peg_model.specs.Words.{last_number, is_in}

pub data What : Type 0 where
  Promote : (key : List ℕ) → What
  Demote : (key : List ℕ) → What
  Copy : (target : ℕ) (key : List ℕ) → What
  Seal : (target epoch : ℕ) → What
  Clear : What
  FenceKey : (key : List ℕ) → What

pub data Packet : Type 0 where
  Read : (client seq : ℕ) (key : List ℕ) → Packet
  Write : (client seq : ℕ) (key : List ℕ) (content : Content) → Packet
  ToServerRead : (client seq server switch : ℕ) (key : List ℕ) → Packet
  ToServerWrite :
      (client seq version server switch : ℕ) (key : List ℕ) (content : Content) → Packet
  ReadReply : (client seq version server switch : ℕ) (key : List ℕ) (content : Content) → Packet
  WriteReply : (client seq version server switch : ℕ) (key : List ℕ) → Packet
  Command : (number : ℕ) (what : What) → Packet
  CommandAck : (number : ℕ) (outcome : Outcome) → Packet
  CopyOrder : (switch server target : ℕ) (key : List ℕ) → Packet
  CopyData : (switch server version : ℕ) (key : List ℕ) (content : Content) → Packet
  Held : (server version : ℕ) (key : List ℕ) → Packet
  Part : (epoch index count : ℕ) (bytes : List ℕ) → Packet
  Announce : (epoch switch : ℕ) → Packet
  Survey : Packet
  Report : (epoch total : ℕ) (rows : List Row) → Packet
  Fence : (switch server version : ℕ) (key : List ℕ) → Packet
  Void : (client seq version server switch : ℕ) (key : List ℕ) → Packet

-- ---- the spelling

abbrev pub two : ℕ → List ℕ
two n = to_be_bytes w16 n

abbrev pub eight : ℕ → List ℕ
eight n = to_be_bytes w64 n

abbrev pub key_bytes : List ℕ → List ℕ
key_bytes key = length key ∷ key

abbrev pub content_bytes : Content → List ℕ
content_bytes Absent = 0 ∷ []
content_bytes (Present value) = 1 ∷ two (length value) ++ value

abbrev pub format_byte : Format → ℕ
format_byte One = 1
format_byte Two = 2

-- two bytes that begin every packet, the format and the kind
abbrev pub begin : Format → ℕ → List ℕ
begin format kind = 0x50 ∷ 0x47 ∷ format_byte format ∷ kind ∷ []

abbrev pub family : Format → ℕ → ℕ → ℕ → ℕ → ℕ → ℕ → List ℕ → List ℕ
family format kind client seq version server switch key =
    begin format kind ++ two client ++ eight seq ++ eight version
    ++ server ∷ switch ∷ key_bytes key

abbrev pub what_bytes : What → List ℕ
what_bytes (Promote key) = 1 ∷ key_bytes key
what_bytes (Demote key) = 2 ∷ key_bytes key
what_bytes (Copy target key) = 3 ∷ target ∷ key_bytes key
what_bytes (Seal target epoch) = 4 ∷ target ∷ eight epoch
what_bytes Clear = 5 ∷ []
what_bytes (FenceKey key) = 6 ∷ key_bytes key

abbrev pub outcome_bytes : Outcome → List ℕ
outcome_bytes (outcome.Listed listing) = 1 ∷ eight listing
outcome_bytes (outcome.Already listing) = 2 ∷ eight listing
outcome_bytes (outcome.Full count) = 3 ∷ eight count
outcome_bytes (outcome.Marked mark) = 4 ∷ eight mark
outcome_bytes outcome.NotListed = 5 ∷ eight 0
outcome_bytes (outcome.AlreadyMarked mark) = 6 ∷ eight mark
outcome_bytes (outcome.Ordered server) = 7 ∷ eight server
outcome_bytes outcome.Holds = 8 ∷ eight 0
outcome_bytes (outcome.Activated epoch) = 9 ∷ eight epoch
outcome_bytes outcome.Cleared = 10 ∷ eight 0
outcome_bytes (outcome.Fenced base) = 11 ∷ eight base
outcome_bytes outcome.NoBase = 12 ∷ eight 0
outcome_bytes (outcome.NoVersion next) = 13 ∷ eight next

abbrev pub row_bytes : Row → List ℕ
row_bytes row = key_bytes row.key ++ eight row.count ++ eight row.error

unfoldable pub spelling : Format → Packet → List ℕ
spelling format (Read client seq key) = family format 1 client seq 0 0 0 key
spelling format (Write client seq key content) =
    family format 2 client seq 0 0 0 key ++ content_bytes content
spelling format (ToServerRead client seq server switch key) =
    family format 3 client seq 0 server switch key
spelling format (ToServerWrite client seq version server switch key content) =
    family format 4 client seq version server switch key ++ content_bytes content
spelling format (ReadReply client seq version server switch key content) =
    family format 5 client seq version server switch key ++ content_bytes content
spelling format (WriteReply client seq version server switch key) =
    family format 6 client seq version server switch key
spelling format (Command number what) = begin format 7 ++ eight number ++ what_bytes what
spelling format (CommandAck number outcome) =
    begin format 8 ++ eight number ++ outcome_bytes outcome
spelling format (CopyOrder switch server target key) =
    begin format 9 ++ switch ∷ server ∷ target ∷ key_bytes key
spelling format (CopyData switch server version key content) =
    begin format 10 ++ switch ∷ server ∷ eight version ++ key_bytes key ++ content_bytes content
spelling format (Held server version key) =
    begin format 11 ++ server ∷ eight version ++ key_bytes key
spelling format (Part epoch index count bytes) =
    begin format 12 ++ eight epoch ++ index ∷ count ∷ two (length bytes) ++ bytes
spelling format (Announce epoch switch) = begin format 13 ++ eight epoch ++ switch ∷ []
spelling format Survey = begin format 14
spelling format (Report epoch total rows) =
    begin format 15 ++ eight epoch ++ eight total ++ length rows ∷ flat_map row_bytes rows
spelling format (Fence switch server version key) =
    begin format 16 ++ switch ∷ server ∷ eight version ++ key_bytes key
spelling format (Void client seq version server switch key) =
    family format 17 client seq version server switch key

-- ---- the ranges

abbrev pub is_number : ℕ → Bool
is_number n = nat_lt n (2 ^ 64)

abbrev pub is_positive : ℕ → Bool
is_positive n = nat_lt 0 n && nat_lt n (2 ^ 64)

abbrev pub is_client : Format → ℕ → Bool
is_client format client = nat_lt client (clients_most format)

abbrev pub is_server : Format → ℕ → Bool
is_server format server = nat_lt server (servers_most format)

abbrev pub is_switch : ℕ → Bool
is_switch switch = nat_lt switch 4

abbrev pub is_key : List ℕ → Bool
is_key key = is_between 1 32 (length key)

abbrev pub is_value : Format → List ℕ → Bool
is_value format value = nat_le (length value) (value_most format)

abbrev pub is_content : Format → Content → Bool
is_content format Absent = true
is_content format (Present value) = is_value format value

-- what a write carries: a delete is of the second format alone
abbrev pub is_written : Format → Content → Bool
is_written One Absent = false
is_written Two Absent = true
is_written format (Present value) = is_value format value

-- a version with a reply to a read: without one there is no content
abbrev pub is_read_content : Format → ℕ → Content → Bool
is_read_content format version Absent = true
is_read_content format version (Present value) = nat_lt 0 version && is_value format value

abbrev pub what_in_range : Format → What → Bool
what_in_range format (Promote key) = is_key key
what_in_range format (Demote key) = is_key key
what_in_range format (Copy target key) = is_server format target && is_key key
what_in_range format (Seal target epoch) = is_switch target && nat_le 2 epoch && is_number epoch
what_in_range format Clear = true
what_in_range format (FenceKey key) = is_key key

abbrev pub outcome_in_range : Format → Outcome → Bool
outcome_in_range format (outcome.Listed listing) = is_number listing
outcome_in_range format (outcome.Already listing) = is_number listing
outcome_in_range format (outcome.Full count) = is_number count
outcome_in_range format (outcome.Marked mark) = is_number mark
outcome_in_range format outcome.NotListed = true
outcome_in_range format (outcome.AlreadyMarked mark) = is_number mark
outcome_in_range format (outcome.Ordered server) = is_server format server
outcome_in_range format outcome.Holds = true
outcome_in_range format (outcome.Activated epoch) = nat_le 2 epoch && is_number epoch
outcome_in_range format outcome.Cleared = true
outcome_in_range format (outcome.Fenced base) = is_positive base
outcome_in_range format outcome.NoBase = true
outcome_in_range format (outcome.NoVersion next) = next == last_number

abbrev pub row_in_range : Row → Bool
row_in_range row = is_key row.key && is_positive row.count && nat_le row.error row.count

abbrev pub are_distinct : List (List ℕ) → Bool
are_distinct [] = true
are_distinct (key ∷ keys) = not (is_in key keys) && are_distinct keys

abbrev pub keys_of_rows : List Row → List (List ℕ)
keys_of_rows rows = map (λ row. row.key) rows

-- a part that is not the last has 512 bytes
abbrev pub part_in_range : Format → ℕ → ℕ → List ℕ → Bool
part_in_range format index count bytes =
    nat_lt index count && nat_le count (parts_most format) && is_between 1 512 (length bytes)
    && (if nat_lt (index + 1) count then length bytes == 512 else true)

abbrev pub family_in_range : Format → ℕ → ℕ → ℕ → ℕ → ℕ → List ℕ → Bool
family_in_range format client seq version server switch key =
    is_client format client && is_positive seq && is_number version && is_server format server
    && is_switch switch && is_key key

unfoldable pub in_range : Format → Packet → Bool
in_range format (Read client seq key) = family_in_range format client seq 0 0 0 key
in_range format (Write client seq key content) =
    family_in_range format client seq 0 0 0 key && is_written format content
in_range format (ToServerRead client seq server switch key) =
    family_in_range format client seq 0 server switch key
in_range format (ToServerWrite client seq version server switch key content) =
    family_in_range format client seq version server switch key && nat_lt 0 version
    && is_written format content
in_range format (ReadReply client seq version server switch key content) =
    family_in_range format client seq version server switch key
    && is_read_content format version content
in_range format (WriteReply client seq version server switch key) =
    family_in_range format client seq version server switch key && nat_lt 0 version
in_range format (Command number what) = is_positive number && what_in_range format what
in_range format (CommandAck number outcome) = is_positive number && outcome_in_range format outcome
in_range format (CopyOrder switch server target key) =
    is_switch switch && is_server format server && is_server format target && is_key key
in_range format (CopyData switch server version key content) =
    is_switch switch && is_server format server && is_positive version && is_key key
    && is_content format content
in_range format (Held server version key) =
    is_server format server && is_positive version && is_key key
in_range format (Part epoch index count bytes) =
    nat_le 2 epoch && is_number epoch && part_in_range format index count bytes
in_range format (Announce epoch switch) = is_positive epoch && is_switch switch
in_range format Survey = true
in_range format (Report epoch total rows) =
    is_number epoch && is_number total && nat_le (length rows) 12 && list_all row_in_range rows
    && are_distinct (keys_of_rows rows)
in_range format (Fence switch server version key) =
    is_switch switch && is_server format server && is_positive version && is_key key
in_range format (Void client seq version server switch key) =
    family_in_range format client seq version server switch key && nat_lt 0 version

-- the grammar: the whole bytes are the one spelling of a packet in its ranges
pub record Spells (bytes : List ℕ) (format : Format) (packet : Packet) : Type 0 where
  pub in_range : IsTrue (in_range format packet)
  pub spelled : bytes ≡ spelling format packet
