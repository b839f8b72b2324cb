-- The state that one switch hands to the next, its bytes, and how they are collected.
--     State      what is handed over: stamps, the number of the Seal, the directory
--     state_bytes format state, parts      its bytes, and these in parts of 512
--     state_of rack bytes      the state that the whole bytes spell, for this rack
--     Collected      the parts of one epoch so far
--     collect      what a further part makes of them
use Rattle.std.specs.Prelude.{◌+◌, ◌*◌, ◌/◌, ℕ, zero, suc, Bool, true, not, ◌&&◌, ◌||◌, ◌==◌}
use Rattle.std.specs.Prelude.{nat_lt, nat_le, Option, Some, None, is_some, List, [], ◌∷◌, ◌++◌}
use Rattle.std.specs.Prelude.{length, map, flat_map, take, drop, replicate, slice_index_or}
use Rattle.std.specs.Prelude.{slice_set, if◌then◌else◌, unwrap_or, count_by}
use Rattle.std.specs.List.{list_all}
use Rattle.std.specs.Str.{bytes_eq}
use Rattle.peg_name.specs.Name.{Rack}
use Rattle.peg_name.specs.Holders.{servers_of, bits_of}
use Rattle.peg_name.specs.declared.Format.{Format}
use Rattle.peg_name.specs.declared.Format.TheVariants.{One, Two}
use Rattle.std.specs.Map.{keys_of}
use Rattle.peg_model.specs.Words.{below}
use Rattle.peg_model.specs.Packet.{two, eight, key_bytes, is_number, is_positive, is_key}
use Rattle.peg_model.specs.Packet.{are_distinct}
use Rattle.peg_model.specs.Reading.{one_at, two_at, eight_at, key_at, past_key}
use Rattle.peg_event.specs.declared.answers.Listing.{Listing}
use Rattle.peg_model.specs.Rules.{Stamps, Directory}

pub record State : Type 0 where
  pub stamps : Stamps
  pub last : ℕ
  pub entries : Directory

-- ---- its bytes

abbrev pub stamp_bytes : ℕ × ℕ → List ℕ
stamp_bytes row = eight row.0 ++ eight row.1

-- a bit for each server
abbrev pub holder_bytes : Format → ℕ → List ℕ
holder_bytes One bits = two bits
holder_bytes Two bits = eight bits

abbrev pub entry_bytes : Format → List ℕ × Listing → List ℕ
entry_bytes format (key, entry) =
    key_bytes key ++ eight entry.listing ++ eight entry.base ++ eight entry.completed
    ++ holder_bytes format (bits_of entry.holders) ++ eight (unwrap_or entry.mark 0)

unfoldable pub state_bytes : Format → State → List ℕ
state_bytes format s =
    eight s.stamps.next ++ eight s.last ++ two (length s.stamps.rows)
    ++ flat_map stamp_bytes s.stamps.rows
    ++ length s.entries ∷ flat_map (entry_bytes format) s.entries

abbrev pub part_of : List ℕ → ℕ → List ℕ
part_of bytes i = take 512 (drop (512 * i) bytes)

abbrev pub parts : List ℕ → List (List ℕ)
parts bytes = map (part_of bytes) (below ((length bytes + 511) / 512))

-- ---- the state that bytes spell

abbrev pub is_stamp_row : ℕ × ℕ → Bool
is_stamp_row row = is_number row.0 && is_number row.1

abbrev pub is_mark : Option ℕ → Bool
is_mark None = true
is_mark (Some mark) = is_positive mark

abbrev pub is_entry : Rack → List ℕ × Listing → Bool
is_entry rack (key, entry) =
    is_key key && is_number entry.listing && is_number entry.base && is_number entry.completed
    && nat_lt 0 (length entry.holders)
    && list_all (λ server. nat_lt server rack.servers) entry.holders && is_mark entry.mark

abbrev pub is_state : Rack → State → Bool
is_state rack s =
    is_positive s.stamps.next && is_positive s.last
    && length s.stamps.rows == rack.clients && list_all is_stamp_row s.stamps.rows
    && nat_le (length s.entries) rack.listed && list_all (is_entry rack) s.entries
    && are_distinct (keys_of s.entries)

abbrev pub mark_of : ℕ → Option ℕ
mark_of n = if n == 0 then None else Some n

abbrev pub holder_width : Format → ℕ
holder_width One = 2
holder_width Two = 8

module _ (bytes : List ℕ) where
  abbrev pub stamps_at : ℕ → ℕ → List (ℕ × ℕ)
  stamps_at zero i = []
  stamps_at (suc n) i = (eight_at bytes i, eight_at bytes (i + 8)) ∷ stamps_at n (i + 16)

  abbrev pub holders_at : Format → ℕ → ℕ
  holders_at One i = two_at bytes i
  holders_at Two i = eight_at bytes i

  abbrev pub entry_at : Format → ℕ → List ℕ × Listing
  entry_at format i =
      let past = past_key bytes i in (
        key_at bytes i,
        record {
          listing = eight_at bytes past;
          base = eight_at bytes (past + 8);
          completed = eight_at bytes (past + 16);
          holders = servers_of (holders_at format (past + 24));
          mark = mark_of (eight_at bytes (past + 24 + holder_width format));
        },
      )

  abbrev pub entries_at : Format → ℕ → ℕ → Directory
  entries_at format zero i = []
  entries_at format (suc n) i =
      entry_at format i ∷ entries_at format n (past_key bytes i + 32 + holder_width format)

  abbrev pub state_at : Format → State
  state_at format =
      let past = 18 + 16 * two_at bytes 16 in
      record {
        stamps = record { next = eight_at bytes 0; rows = stamps_at (two_at bytes 16) 18 };
        last = eight_at bytes 8;
        entries = entries_at format (one_at bytes past) (past + 1);
      }

unfoldable pub state_of : Rack → List ℕ → Option State
state_of rack bytes =
    let s = state_at bytes rack.format in
    if is_state rack s && bytes_eq bytes (state_bytes rack.format s) then Some s else None

-- ---- collecting

-- The parts of an epoch by their index; epoch 0 and no place before the first.
pub record Collected : Type 0 where
  pub epoch : ℕ
  pub parts : List (Option (List ℕ))

abbrev pub none_collected : Collected
none_collected = record { epoch = 0; parts = [] }

abbrev pub held_count : Collected → ℕ
held_count c = count_by is_some c.parts

abbrev pub is_whole : Collected → Bool
is_whole c = held_count c == length c.parts

abbrev pub bytes_of : Collected → List ℕ
bytes_of c = flat_map (λ part. unwrap_or part []) c.parts

-- a part of a greater epoch begins anew
abbrev pub begun : Collected → ℕ → ℕ → Collected
begun c epoch count =
    if nat_lt c.epoch epoch then record { epoch = epoch; parts = replicate count None } else c

abbrev pub with_part : Collected → ℕ → List ℕ → Collected
with_part c index bytes = record { epoch = c.epoch; parts = slice_set c.parts index (Some bytes) }

abbrev pub has_part : Collected → ℕ → Bool
has_part c index = is_some (slice_index_or c.parts index None)

-- whether the part fits those that are held, and completes no bytes that are no state
abbrev pub fits : Rack → Collected → ℕ → ℕ → List ℕ → Bool
fits rack c index count bytes =
    let now = with_part c index bytes in
    length c.parts == count
    && (has_part c index || not (is_whole now) || is_some (state_of rack (bytes_of now)))
